use Rattle.reset_service.proofs.session.session_from.Goals as goal

pub returns-in-Unkept : goal.returns-in-Unkept
returns-in-Unkept g c = rw c.in-Unkept.is c.hold.ensures

pub returns-in-New : goal.returns-in-New
returns-in-New g c = rw c.in-New.is c.begin.ensures

pub returns-in-Kept : goal.returns-in-Kept
returns-in-Kept g c = rw c.in-Kept.is c.resume.ensures
