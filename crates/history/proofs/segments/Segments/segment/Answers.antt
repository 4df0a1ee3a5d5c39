use Rattle.std.proofs.Common.{◌≤◌, ◌∙◌, length, rules, ◌<◌, refl}
use Rattle.std.proofs.lemmas.Option.{slice_get_read}
use Rattle.history.proofs.Pieces.{full_piece, last_piece}
use Rattle.history.proofs.segments.Segments.segment.Goals as goal

pub returns-in-Some : goal.returns-in-Some
returns-in-Some c =
    let now = c.args.self.now in
    let inside : c.args.index < length now.full.items = search rules in
    let at = slice_get_read now.full.items (length now.full.items) c.args.index c.in-Some.entries.now refl inside
    (rw c.deref.ensures.value at c.in-Some.ensures.lookup.1) in
    c.deref-in-Some.ensures.value
    ∙ full_piece (λ es. es.items) now.full.items now.last.items c.args.index c.in-Some.entries.now
    c.requires.segmented.full at

pub returns-in-None : goal.returns-in-None
returns-in-None c =
    let now = c.args.self.now in
    let past : length now.full.items ≤ c.args.index = search rules in
    c.deref-in-None.ensures.value
    ∙ last_piece (λ es. es.items) now.full.items now.last.items c.args.index c.requires.segmented.full
    c.requires.segmented.short past c.requires.inside
