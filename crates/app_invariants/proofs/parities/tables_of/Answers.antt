use Rattle.std.proofs.Common.{◌≡◌, ◌<◌, [], ◌∷◌, ◌++◌, ◌+◌, length, get_or, ap, ◌∙◌, subst, sym, arith, ⊎_elim}
use Rattle.std.proofs.lemmas.Bool.{cases_eq}
use Rattle.std.proofs.lemmas.List.{get_or_append_left, get_or_push, length_push, map_push}
use Rattle.topology.specs.Rows.{row_at}
use Rattle.topology.proofs.Inserting.{rows_of}
use Rattle.app_invariants.specs.Parities.{TellsWalks}
use Rattle.app_invariants.proofs.parities.tables_of.Goals as goal

pub loop-index-preserved : goal.loop-index-preserved
loop-index-preserved c =
    let g = c.args.topology.now in
    let i = c.loop-index.index-index in
    let now = rows_of c.loop-index.tables.items in
    let new = rows_of c.push.new.self.items in
    let table = c.in_ok-table_of.field-0.items in
    let pushed : new ≡ now ++ table ∷ [] =
    ap rows_of c.in_ok-push.ensures.items ∙ map_push (λ row. row.items) c.loop-index.tables.items c.in_ok-table_of.field-0 in
    let count : length now ≡ i = c.loop-index.invariant.count in
    record {
      count = ap length pushed ∙ length_push now table ∙ ap (λ n. n + 1) count;
      each = λ p lt.
          ⊎_elim
          (λ same.
          let here : row_at new p ≡ table = ap (λ rows. row_at rows p) pushed ∙ get_or_push now table [] p (count ∙ sym same) in
          subst (TellsWalks g (get_or g.ids (get_or c.args.members.now p 0) 0)) (sym here)
          (subst (λ q. TellsWalks g (get_or g.ids (get_or c.args.members.now q 0) 0) table) (sym same)
          c.in_ok-table_of.ensures))
          (λ other.
          let low : p < i = omega (arith, lt, other) in
          let here : row_at new p ≡ row_at now p =
          ap (λ rows. row_at rows p) pushed ∙ get_or_append_left now (table ∷ []) [] p (omega (arith, low, count)) in
          subst (TellsWalks g (get_or g.ids (get_or c.args.members.now p 0) 0)) (sym here) (c.loop-index.invariant.each p low))
          (cases_eq p i);
    }
