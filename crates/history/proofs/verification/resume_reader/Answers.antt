use Rattle.history.proofs.Verified.{resumption}
use Rattle.history.proofs.verification.resume_reader.Goals as goal

pub returns-in-Err-clause-told : goal.returns-in-Err-clause-told
returns-in-Err-clause-told g c =
    let (text, whole, is) = c.in-Err.ensures.told in (
      text,
      whole,
      rw c.reader_fault.ensures (resumption g.P.Application.app g.P.Application.from_text c.args.opening text c.in-Err.fault is),
    )
