use Rattle.std.proofs.Common.{◌≡◌, ◌++◌, ◌∷◌, [], ◌∙◌, sym, subst, ap, arith}
use Rattle.history.specs.Segments.{AreCheckpoints, entries_of}
use Rattle.history.proofs.Checkpoints.{checkpoints_more}
use Rattle.history.proofs.log.Log.make_checkpoint.Goals as goal

pub returns-clause-log : goal.returns-clause-log
returns-clause-log g c =
    let log = c.args.self.now in
    let before = log.checkpoints.items in
    let app = g.P.Application.app in
    let from_text = g.P.Application.from_text in
    let es = entries_of log.segments in
    let made : c.push_reserved.new.self.items ≡ before ++ c.args.now.now ∷ [] =
    c.push_reserved.ensures.items ∙ ap (λ cs. cs ++ c.in_ok-checkpoint.checkpoint ∷ []) c.reserve.ensures.items
    ∙ ap (λ d. before ++ d ∷ []) c.in_ok-checkpoint.ensures in
    let more = checkpoints_more app from_text log.opening.value c.args.now.now es before c.requires.log.checkpoints
    c.requires.now (omega (arith, c.if-len.false, c.len.ensures, c.len-2.ensures)) in
    record {
      segmented = c.requires.log.segmented;
      checkpoints = subst (λ cs. AreCheckpoints app from_text log.opening.value es cs) (sym made) more;
    }
