use Rattle.std.proofs.Common.{◌≡◌, ◌<◌, ◌≤◌, ◌∙◌, ap, arith, All, Contains, Err, Some, filter, length, refl, rules}
use Rattle.std.proofs.Common.{subst}
use Rattle.topology.specs.Faults.{IsFirst}
use Rattle.topology.specs.Graph.{has}
use Rattle.applications.specs.Meaning.{meaning_of}
use Rattle.script_replay.specs.declared.status.RunStop.TheVariants.{NoMemory}
use Rattle.script_replay.specs.declared.status.Status.TheVariants.{BadInput}
use Rattle.reset_service.specs.Chosen.{lanes_of}
use Rattle.reset_service.specs.Parted.{IsHistoryDrawn, IsSelectionDrawn, strange_text, too_many_text}
use Rattle.reset_service.specs.Parted.IsSelectionDrawn.{drawn, strange_node, too_many_nodes}
use Rattle.reset_service.proofs.Verifying.{read_anyway, read_unread, read_weaker}
use Rattle.reset_service.proofs.parted.draw_named.Goals as goal

pub returns-in-Some : goal.returns-in-Some
returns-in-Some g c =
    let m =
    meaning_of g.P.Application.app g.P.Application.text g.P.Application.from_text g.P.Application.names
    g.P.Invariant.counts in
    let opening = c.args.opening.now in
    let ids = c.args.ids.now in
    let id = c.in-Some.id in
    let all : c.ids-all.result.now ≡ opening.graph.ids = search rules in
    let first : IsFirst (λ i. Contains opening.graph.ids i → ⊥) ids id =
    subst (λ known. IsFirst (λ i. Contains known i → ⊥) ids id) all c.in-Some.ensures in
    record {
      leaves = read_anyway (g.R.Read.remaining c.args.history.now) (IsSelectionDrawn m c.args.rows (Some ids) opening)
          (λ o. o ≡ (strange_text id, BadInput)) _ _ c.refuse_strange.result
          (λ text o is. strange_node ids id refl first is)
          c.refuse_strange.ensures.leaves;
    }

pub returns-in_err-nodes : goal.returns-in_err-nodes
returns-in_err-nodes g c =
    let m =
    meaning_of g.P.Application.app g.P.Application.text g.P.Application.from_text g.P.Application.names
    g.P.Invariant.counts in
    let residual = c.from_residual in
    let failed : residual.result ≡ Err NoMemory = search (rules, residual.ensures) in
    record {
      leaves = rw failed (read_unread (g.R.Read.remaining c.args.history.now)
          (IsSelectionDrawn m c.args.rows (Some c.args.ids.now) c.args.opening.now)
          (g.W.Write.contents c.args.out.now) NoMemory tt);
    }

pub returns-then-len-gt-MAX_LANES : goal.returns-then-len-gt-MAX_LANES
returns-then-len-gt-MAX_LANES g c =
    let m =
    meaning_of g.P.Application.app g.P.Application.text g.P.Application.from_text g.P.Application.names
    g.P.Invariant.counts in
    let opening = c.args.opening.now in
    let ids = c.args.ids.now in
    let all : c.ids-all.result.now ≡ opening.graph.ids = search rules in
    let there : All (λ i. Contains opening.graph.ids i) ids =
    subst (λ known. All (λ i. Contains known i) ids) all c.in_default.ensures in
    let lanes : c.in_ok-nodes.nodes.items ≡ lanes_of opening.graph (Some ids) =
    c.in_ok-nodes.ensures ∙ ap (filter (λ i. has ids i)) all in
    let counted : c.len.result ≡ length c.in_ok-nodes.nodes.items = search rules in
    let many : 64 < length (lanes_of opening.graph (Some ids)) =
    omega (arith, c.if-len-gt-MAX_LANES.true, counted, ap length lanes) in
    record {
      leaves = read_anyway (g.R.Read.remaining c.args.history.now) (IsSelectionDrawn m c.args.rows (Some ids) opening)
          (λ o. o ≡ (too_many_text (Some ids), BadInput)) _ _ c.refuse_input.result
          (λ text o is. too_many_nodes there many is)
          c.refuse_input.ensures.leaves;
    }

pub returns : goal.returns
returns g c =
    let m =
    meaning_of g.P.Application.app g.P.Application.text g.P.Application.from_text g.P.Application.names
    g.P.Invariant.counts in
    let opening = c.args.opening.now in
    let ids = c.args.ids.now in
    let all : c.ids-all.result.now ≡ opening.graph.ids = search rules in
    let there : All (λ i. Contains opening.graph.ids i) ids =
    subst (λ known. All (λ i. Contains known i) ids) all c.in_default.ensures in
    let lanes : c.in_ok-nodes.nodes.items ≡ lanes_of opening.graph (Some ids) =
    c.in_ok-nodes.ensures ∙ ap (filter (λ i. has ids i)) all in
    let counted : c.len.result ≡ length c.in_ok-nodes.nodes.items = search rules in
    let few : length (lanes_of opening.graph (Some ids)) ≤ 64 =
    omega (arith, c.if-len-gt-MAX_LANES.false, counted, ap length lanes) in
    let drawn_are : c.deref.result.now ≡ lanes_of opening.graph (Some ids) = c.deref.ensures.value ∙ lanes in
    record {
      leaves = read_weaker (g.R.Read.remaining c.args.history.now) (IsSelectionDrawn m c.args.rows (Some ids) opening)
          (IsHistoryDrawn m c.args.rows c.deref.result.now opening) _ _ c.draw_history.result
          (λ text o is. drawn there few
          (subst (λ nodes. IsHistoryDrawn m c.args.rows nodes opening text o) drawn_are is))
          c.draw_history.ensures.leaves;
    }
