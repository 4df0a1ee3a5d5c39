use Rattle.std.proofs.Common.{◌≡◌, ◌∙◌, [], ap₂, not, refl, subst, sym}
use Rattle.std.specs.List.{find}
use Rattle.topology.specs.Faults.{ends_of}
use Rattle.applications.specs.Meaning.{meaning_of}
use Rattle.script_replay.specs.Lines.{lines_of}
use Rattle.snapshots.specs.Items.{has_node}
use Rattle.snapshots.specs.Parts.{AreLinks, ArePossible}
use Rattle.snapshots.specs.Reading.{down_end}
use Rattle.snapshots.specs.Reading.IsFirstFault.{of_an_end}
use Rattle.snapshots.proofs.Built.{can_be_links, no_links}
use Rattle.snapshots.proofs.Possible.{possible, possible_none}
use Rattle.snapshots.proofs.snapshot.read_snapshot.Goals as goal

pub returns-in-Some-clause-err : goal.returns-in-Some-clause-err
returns-in-Some-clause-err g c = λ other.
    let (items, kept, said) = c.in-Ok.ensures.ok in
    let down : down_end items ≡ c.first_down.result =
    ap₂ (λ ns ls. find (λ i. not (has_node ns i)) (ends_of ls)) (sym kept.nodes ∙ sym c.deref.ensures.value)
    (sym kept.links ∙ sym c.deref-2.ensures.value)
    ∙ sym c.first_down.ensures in
    of_an_end items c.in-Some.id said (down ∙ c.in-Some.is) refl

pub configured-requires-clause-possible : goal.configured-requires-clause-possible
configured-requires-clause-possible g c κs within =
    let m =
    meaning_of g.P.Application.app g.P.Application.text g.P.Application.from_text g.P.Application.names
    g.P.Invariant.counts in
    let (items, kept, said) = c.in-Ok.ensures.ok in
    let graph = c.args.topology.now in
    subst (ArePossible graph) (sym kept.nodes)
    (possible m graph 1 [] (lines_of c.args.text.now) items (possible_none graph) said)

pub configured-requires-clause-links : goal.configured-requires-clause-links
configured-requires-clause-links g c κs within =
    let m =
    meaning_of g.P.Application.app g.P.Application.text g.P.Application.from_text g.P.Application.names
    g.P.Invariant.counts in
    let (items, kept, said) = c.in-Ok.ensures.ok in
    let graph = c.args.topology.now in
    subst (AreLinks graph) (sym kept.links)
    (can_be_links m graph 1 [] (lines_of c.args.text.now) items (no_links graph) said)

pub returns-clause-ok : goal.returns-clause-ok
returns-clause-ok g c =
    let (items, kept, said) = c.in-Ok.ensures.ok in
    let down : down_end items ≡ c.first_down.result =
    ap₂ (λ ns ls. find (λ i. not (has_node ns i)) (ends_of ls)) (sym kept.nodes ∙ sym c.deref.ensures.value)
    (sym kept.links ∙ sym c.deref-2.ensures.value)
    ∙ sym c.first_down.ensures in
    (items, record { said = said; up = down ∙ c.in_default.is }, c.in_ok-config.ensures items kept)
