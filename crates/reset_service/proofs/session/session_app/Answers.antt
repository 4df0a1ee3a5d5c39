use Rattle.reset_service.proofs.session.session_app.Goals as goal

pub returns-in-Idle-with_application : goal.returns-in-Idle-with_application
returns-in-Idle-with_application g c = rw c.in-Idle-with_application.is c.with_application-session_on.ensures

pub returns-in-Token-with_application : goal.returns-in-Token-with_application
returns-in-Token-with_application g c = rw c.in-Token-with_application.is c.with_application-session_on-2.ensures

pub returns-in-Mutex-with_application : goal.returns-in-Mutex-with_application
returns-in-Mutex-with_application g c = rw c.in-Mutex-with_application.is c.with_application-session_on-3.ensures

pub returns-in-Routes-with_application : goal.returns-in-Routes-with_application
returns-in-Routes-with_application g c = rw c.in-Routes-with_application.is c.with_application-session_on-4.ensures
