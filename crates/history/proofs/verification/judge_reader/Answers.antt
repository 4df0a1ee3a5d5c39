use Rattle.history.proofs.Verified.{of_all}
use Rattle.history.proofs.verification.judge_reader.Goals as goal

pub returns-clause-told : goal.returns-clause-told
returns-clause-told g c =
    let (text, whole, is) = c.judge_first.ensures.told in (
      text,
      whole,
      of_all g.P.Application.app g.P.Application.from_text c.args.opening text c.judge_first.result is,
    )
