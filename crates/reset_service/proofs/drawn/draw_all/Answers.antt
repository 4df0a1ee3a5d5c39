use Rattle.std.proofs.Common.{◌≡◌, ◌<◌, ◌≤◌, length, rules, subst, None}
use Rattle.applications.specs.Meaning.{meaning_of}
use Rattle.script_replay.specs.declared.status.Status.TheVariants.{BadInput}
use Rattle.reset_service.specs.Parted.{IsHistoryDrawn, IsSelectionDrawn}
use Rattle.reset_service.specs.Parted.IsSelectionDrawn.{drawn, too_many_nodes}
use Rattle.reset_service.specs.Pictured.{too_many_lanes_text}
use Rattle.reset_service.proofs.Verifying.{read_anyway, read_weaker}
use Rattle.reset_service.proofs.drawn.draw_all.Goals as goal

pub returns-then-len-gt-MAX_LANES : goal.returns-then-len-gt-MAX_LANES
returns-then-len-gt-MAX_LANES g c =
    let m =
    meaning_of g.P.Application.app g.P.Application.text g.P.Application.from_text g.P.Application.names
    g.P.Invariant.counts in
    let opening = c.args.opening.now in
    let many : 64 < length opening.graph.ids = search rules in
    record {
      leaves = read_anyway (g.R.Read.remaining c.args.history.now) (IsSelectionDrawn m c.args.rows None opening)
          (λ o. o ≡ (too_many_lanes_text, BadInput)) _ _ c.refuse_input.result (λ text o is. too_many_nodes tt many is)
          c.refuse_input.ensures.leaves;
    }

pub returns : goal.returns
returns g c =
    let m =
    meaning_of g.P.Application.app g.P.Application.text g.P.Application.from_text g.P.Application.names
    g.P.Invariant.counts in
    let opening = c.args.opening.now in
    let few : length opening.graph.ids ≤ 64 = search rules in
    let all : c.ids.result.now ≡ opening.graph.ids = search rules in
    record {
      leaves = read_weaker (g.R.Read.remaining c.args.history.now) (IsSelectionDrawn m c.args.rows None opening)
          (IsHistoryDrawn m c.args.rows c.ids.result.now opening) _ _ c.draw_history.result
          (λ text o is. drawn tt few (subst (λ nodes. IsHistoryDrawn m c.args.rows nodes opening text o) all is))
          c.draw_history.ensures.leaves;
    }
