use Rattle.std.proofs.Common.{◌≡◌, ◌+◌, ◌<◌, ◌≤◌, leb, length, get_or, ap, sym, ◌∙◌, subst, arith}
use Rattle.app_invariants.specs.Parities.{place_for}
use Rattle.app_invariants.proofs.ParityWalks.{mark_decides, no_walk, unreached}
use Rattle.app_invariants.proofs.parities.has_walk.Goals as goal

pub returns-then-not-begins : goal.returns-then-not-begins
returns-then-not-begins c =
    λ d tells.
    let g = c.args.topology.now in
    let none = c.begins.ensures.ends c.if-not-begins.true in
    sym (no_walk g c.lemma_is_graph.ensures.graph (get_or g.ids c.args.index 0) d c.args.links none.0 none.1)

pub returns-then-mark-marks : goal.returns-then-mark-marks
returns-then-mark-marks c =
    λ d tells.
    let g = c.args.topology.now in
    let marks = c.args.marks.now in
    let place : c.place_for.result ≡ place_for (length g.ids) c.args.index c.args.links =
    c.place_for.ensures ∙ ap (λ n. place_for n c.args.index c.args.links) c.len.ensures in
    let high : length g.ids + length g.ids ≤ get_or marks (place_for (length g.ids) c.args.index c.args.links) 0 =
    subst (λ p. length g.ids + length g.ids ≤ get_or marks p 0) place (omega (arith, c.if-mark-marks.true, c.requires.marks)) in
    sym (unreached g c.lemma_is_graph.ensures.graph d marks tells c.args.index c.args.links c.requires.index high)

pub returns : goal.returns
returns c =
    λ d tells.
    let g = c.args.topology.now in
    let marks = c.args.marks.now in
    let place : c.place_for.result ≡ place_for (length g.ids) c.args.index c.args.links =
    c.place_for.ensures ∙ ap (λ n. place_for n c.args.index c.args.links) c.len.ensures in
    let low : get_or marks (place_for (length g.ids) c.args.index c.args.links) 0 < length g.ids + length g.ids =
    subst (λ p. get_or marks p 0 < length g.ids + length g.ids) place (omega (arith, c.if-mark-marks.false, c.requires.marks)) in
    ap (λ p. leb (get_or marks p 0) c.args.links) place
    ∙ mark_decides g c.lemma_is_graph.ensures.graph d marks tells c.args.index c.args.links c.requires.index low
    (c.begins.ensures.begins c.if-not-begins.false)
