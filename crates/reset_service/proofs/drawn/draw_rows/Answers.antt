use Rattle.std.proofs.Common.{◌≡◌, ◌≤◌, ◌<◌, ◌-◌, ◌∙◌, Some, ap, arith, drop, length, min, refl, rules}
use Rattle.std.proofs.Common.{take}
use Rattle.applications.specs.Meaning.{meaning_of}
use Rattle.history.proofs.Replays.{allowed_between}
use Rattle.script_replay.proofs.Runs.{leaves_weaker}
use Rattle.script_replay.specs.declared.status.Status.TheVariants.{BadInput}
use Rattle.reset_service.specs.Asked.{ends_after_text}
use Rattle.reset_service.specs.Parted.{IsRunDrawn}
use Rattle.reset_service.specs.Parted.IsRunDrawn.{part, too_few}
use Rattle.reset_service.specs.Pictured.{drawing_of}
use Rattle.reset_service.proofs.Parting.{first_allowed, rows_between}
use Rattle.reset_service.proofs.drawn.draw_rows.Goals as goal

pub returns-then-entries-first-clause-leaves : goal.returns-then-entries-first-clause-leaves
returns-then-entries-first-clause-leaves g c =
    let m =
    meaning_of g.P.Application.app g.P.Application.text g.P.Application.from_text g.P.Application.names
    g.P.Invariant.counts in
    let es = c.args.entries.now in
    let few : length es < c.args.first = search rules in
    leaves_weaker (λ o. o ≡ (ends_after_text (length es), BadInput))
    (IsRunDrawn m (Some (c.args.first, c.args.last)) c.args.nodes.now c.args.opening.now es) _ _ c.refuse_fewer.result
    (λ o is. too_few c.args.first c.args.last refl few is) c.refuse_fewer.ensures.leaves

pub left_by-requires-after_bounds : goal.left_by-requires-after_bounds
left_by-requires-after_bounds g c κs within =
    first_allowed g.P.Application.app g.P.Application.from_text c.args.opening.now c.args.entries.now c.requires.run
    (c.args.first - 1)

pub draw_left-drawn-requires-clause-run : goal.draw_left-drawn-requires-clause-run
draw_left-drawn-requires-clause-run g c κs within =
    allowed_between g.P.Application.app g.P.Application.from_text c.args.opening.now c.in_ok-left.left
    c.args.entries.now (c.args.first - 1) (c.min-end.result - (c.args.first - 1)) c.requires.run c.in_ok-left.ensures

pub returns-clause-leaves : goal.returns-clause-leaves
returns-clause-leaves g c =
    let m =
    meaning_of g.P.Application.app g.P.Application.text g.P.Application.from_text g.P.Application.names
    g.P.Invariant.counts in
    let es = c.args.entries.now in
    let first = c.args.first in
    let last = c.args.last in
    let nodes = c.args.nodes.now in
    let left = c.in_ok-left.left in
    let enough : first ≤ length es = search rules in
    let end : c.min-end.result ≡ min (length es) last = search rules in
    let in_turn : first - 1 ≤ last = omega (arith, c.requires.rows.in_turn) in
    let shown = take (c.min-end.result - (first - 1)) (drop (first - 1) es) in
    let shown_is : shown ≡ drop (first - 1) (take last es) =
    ap (λ n. take (n - (first - 1)) (drop (first - 1) es)) end ∙ rows_between es (first - 1) last in_turn in
    leaves_weaker (λ o. o ≡ drawing_of m nodes (first - 1) left shown)
    (IsRunDrawn m (Some (first, last)) nodes c.args.opening.now es) _ _ c.draw_left-drawn.result
    (λ o is. part first last left refl enough c.in_ok-left.ensures
    (is ∙ ap (drawing_of m nodes (first - 1) left) shown_is)) c.draw_left-drawn.ensures.leaves
