use Rattle.std.proofs.Common.{◌*◌, ◌/◌, ◌%◌, ◌∙◌, IsSome, Some, arith, ap, length, subst, sym}
use Rattle.std.proofs.lemmas.List.{length-take-le}
use Rattle.history.specs.Entries.{replayed}
use Rattle.history.specs.Segments.{entries_of}
use Rattle.history.proofs.Checkpoints.{checkpoint_before}
use Rattle.history.proofs.Pieces.{piece_prefix, piece_long}
use Rattle.history.proofs.Replays.{allowed_between, replayed_between}
use Rattle.history.proofs.log.Log.config_before.Goals as goal

pub slice_bounds-entries-end : goal.slice_bounds-entries-end
slice_bounds-entries-end g c =
    let es = entries_of c.args.self.now.segments in
    let long = piece_long es c.args.index c.requires.inside in
    sym (length-take-le (c.args.index % 1024) c.segment.result.now (omega (arith, ap length c.segment.ensures, long)))

pub play_all-requires-after_bounds : goal.play_all-requires-after_bounds
play_all-requires-after_bounds g c κs within =
    let log = c.args.self.now in
    let app = g.P.Application.app in
    let from_text = g.P.Application.from_text in
    let es = entries_of log.segments in
    let index = c.args.index in
    let from = index / 1024 * 1024 in
    let here = c.in_ok-config.config in
    let at = checkpoint_before app from_text log.opening.value c.index.result.now es log.checkpoints.items index
    c.requires.log.checkpoints c.requires.inside c.index.ensures in
    let prefix = piece_prefix es c.segment.result.now index c.segment.ensures in
    subst (λ xs. IsSome (replayed app from_text here xs)) (sym prefix)
    (allowed_between app from_text log.opening.value here es from (index % 1024) c.requires.run
    (at ∙ ap (λ d. Some d) (sym c.in_ok-config.ensures)))

pub returns : goal.returns
returns g c =
    let log = c.args.self.now in
    let app = g.P.Application.app in
    let from_text = g.P.Application.from_text in
    let es = entries_of log.segments in
    let index = c.args.index in
    let from = index / 1024 * 1024 in
    let here = c.in_ok-config.config in
    let at = checkpoint_before app from_text log.opening.value c.index.result.now es log.checkpoints.items index
    c.requires.log.checkpoints c.requires.inside c.index.ensures in
    let prefix = piece_prefix es c.segment.result.now index c.segment.ensures in
    let whole = replayed_between app from_text log.opening.value here es from (index % 1024) index
    (at ∙ ap (λ d. Some d) (sym c.in_ok-config.ensures)) (omega arith) in
    whole ∙ ap (replayed app from_text here) (sym prefix) ∙ c.in_ok-play_all.ensures
