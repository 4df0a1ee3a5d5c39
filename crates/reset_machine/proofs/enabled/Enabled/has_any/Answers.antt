use Rattle.std.proofs.Common.{◌≡◌, ◌||◌, ◌∙◌, sym, ap, nat_lt, cond, length, arith}
use Rattle.std.proofs.lemmas.Bool.{lt-ltb, le-ltb}
use Rattle.action_tables.specs.Numbers.{is_among}
use Rattle.reset_machine.proofs.CaseArguments.{or_left, or_right}
use Rattle.reset_machine.proofs.Readiness.{work_counted, or_true, or_false}
use Rattle.reset_machine.proofs.enabled.Enabled.has_any.Goals.{then-count-gt0, else-count-gt0}
use Rattle.reset_machine.proofs.enabled.Enabled.has_any.Goals as goal

pub returns-then-count-count_of : goal.returns-then-count-count_of
returns-then-count-count_of c =
    let rows = c.args.self in
    let trees = nat_lt 0 (length rows.tree) in
    let waves = nat_lt (cond (is_among 1 rows.wave) 1 0) (length rows.wave) in
    let counted : c.if-count-gt0.value ≡ (trees || waves) = elim c.if-count-gt0.branch [
      | then-count-gt0 v ↦
          let some = lt-ltb 0 (length rows.tree) (omega (arith, v.if-count-gt0.true, c.count.ensures)) in
          v.value-is ∙ ap (nat_lt 0) c.count.ensures ∙ or_true trees waves some
      | else-count-gt0 v ↦
          let none = le-ltb 0 (length rows.tree) (omega (arith, v.if-count-gt0.false, c.count.ensures)) in
          v.value-is ∙ ap (λ r. nat_lt r v.count-else-count-gt0.result) v.count_of.ensures
          ∙ ap (λ n. nat_lt (cond (is_among 1 rows.wave) 1 0) n) v.count-else-count-gt0.ensures
          ∙ or_false trees waves none
    ] in
    or_left c.if-count-gt0.value trees waves (nat_lt 0 (length rows.act)) counted c.if-count-count_of.true
    ∙ sym (work_counted rows.tree rows.wave rows.act (λ n. is_among n rows.wave) c.lemma_is_listed.ensures)

pub returns-else-count-count_of : goal.returns-else-count-count_of
returns-else-count-count_of c =
    let rows = c.args.self in
    let trees = nat_lt 0 (length rows.tree) in
    let waves = nat_lt (cond (is_among 1 rows.wave) 1 0) (length rows.wave) in
    let counted : c.if-count-gt0.value ≡ (trees || waves) = elim c.if-count-gt0.branch [
      | then-count-gt0 v ↦
          let some = lt-ltb 0 (length rows.tree) (omega (arith, v.if-count-gt0.true, c.count.ensures)) in
          v.value-is ∙ ap (nat_lt 0) c.count.ensures ∙ or_true trees waves some
      | else-count-gt0 v ↦
          let none = le-ltb 0 (length rows.tree) (omega (arith, v.if-count-gt0.false, c.count.ensures)) in
          v.value-is ∙ ap (λ r. nat_lt r v.count-else-count-gt0.result) v.count_of.ensures
          ∙ ap (λ n. nat_lt (cond (is_among 1 rows.wave) 1 0) n) v.count-else-count-gt0.ensures
          ∙ or_false trees waves none
    ] in
    ap (nat_lt 0) c.count-else-count-count_of.ensures
    ∙ or_right c.if-count-gt0.value trees waves (nat_lt 0 (length rows.act)) counted c.if-count-count_of.false
    ∙ sym (work_counted rows.tree rows.wave rows.act (λ n. is_among n rows.wave) c.lemma_is_listed.ensures)
