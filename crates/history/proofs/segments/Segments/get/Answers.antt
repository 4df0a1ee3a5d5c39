use Rattle.std.proofs.Common.{◌≡◌, ◌*◌, ◌/◌, ◌%◌, ◌∙◌, ap, option_map, slice_get, arith}
use Rattle.history.specs.Segments.{entries_of}
use Rattle.history.proofs.Pieces.{got_item, piece_get}
use Rattle.history.proofs.segments.Segments.get.Goals as goal

pub returns : goal.returns
returns c =
    let index = c.args.index in
    let got : option_map (λ entry. entry.now) c.get.result ≡ slice_get c.segment.result.now (index % 1024) =
    got_item (λ entry. entry.now) c.get.result c.segment.result.now (index % 1024) c.get.ensures.lookup.0
    c.get.ensures.lookup.1 in
    got ∙ ap (λ es. slice_get es (index % 1024)) c.segment.ensures
    ∙ piece_get (entries_of c.args.self.now) (index / 1024 * 1024) (index % 1024) index (omega arith) (omega arith)
