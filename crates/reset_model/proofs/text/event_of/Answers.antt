use Rattle.std.proofs.Common.{ap, refl, rules}
use Rattle.reset_model.specs.EventCommands.{command_of}
use Rattle.reset_model.specs.declared.event_kind.EventKind.{EventKind}
use Rattle.reset_model.proofs.EventLines.{one_found, one_only}
use Rattle.reset_model.proofs.text.event_of.Goals as goal

pub returns-in_err-read_number-in-Claim-clause-only : goal.returns-in_err-read_number-in-Claim-clause-only
returns-in_err-read_number-in-Claim-clause-only c =
    rw c.from_residual.ensures
    (one_only (command_of c.args.kind) c.args.rest.now (command_of EventKind.Claim) refl (ap command_of c.in-Claim.is)
    c.in_err-read_number-in-Claim.ensures.only)

pub returns-in_ok-read_number-in-Claim-clause-found : goal.returns-in_ok-read_number-in-Claim-clause-found
returns-in_ok-read_number-in-Claim-clause-found c =
    one_found (command_of c.args.kind) c.args.rest.now (command_of EventKind.Claim) c.in_ok-read_number-in-Claim.field-0
    (ap command_of c.in-Claim.is) c.in_ok-read_number-in-Claim.ensures.found (search rules)

pub returns-in_err-read_number-in-Follow-clause-only : goal.returns-in_err-read_number-in-Follow-clause-only
returns-in_err-read_number-in-Follow-clause-only c =
    rw c.from_residual-in_err-read_number-in-Follow.ensures
    (one_only (command_of c.args.kind) c.args.rest.now (command_of EventKind.Follow) refl (ap command_of c.in-Follow.is)
    c.in_err-read_number-in-Follow.ensures.only)

pub returns-in_ok-read_number-in-Follow-clause-found : goal.returns-in_ok-read_number-in-Follow-clause-found
returns-in_ok-read_number-in-Follow-clause-found c =
    one_found (command_of c.args.kind) c.args.rest.now (command_of EventKind.Follow)
    c.in_ok-read_number-in-Follow.field-0
    (ap command_of c.in-Follow.is) c.in_ok-read_number-in-Follow.ensures.found (search rules)

pub returns-in_err-read_number-in-Request-clause-only : goal.returns-in_err-read_number-in-Request-clause-only
returns-in_err-read_number-in-Request-clause-only c =
    rw c.from_residual-in_err-read_number-in-Request.ensures
    (one_only (command_of c.args.kind) c.args.rest.now (command_of EventKind.Request) refl
    (ap command_of c.in-Request.is)
    c.in_err-read_number-in-Request.ensures.only)

pub returns-in_ok-read_number-in-Request-clause-found : goal.returns-in_ok-read_number-in-Request-clause-found
returns-in_ok-read_number-in-Request-clause-found c =
    one_found (command_of c.args.kind) c.args.rest.now (command_of EventKind.Request)
    c.in_ok-read_number-in-Request.field-0
    (ap command_of c.in-Request.is) c.in_ok-read_number-in-Request.ensures.found (search rules)

pub returns-in_err-read_number-in-Open-clause-only : goal.returns-in_err-read_number-in-Open-clause-only
returns-in_err-read_number-in-Open-clause-only c =
    rw c.from_residual-in_err-read_number-in-Open.ensures
    (one_only (command_of c.args.kind) c.args.rest.now (command_of EventKind.Open) refl (ap command_of c.in-Open.is)
    c.in_err-read_number-in-Open.ensures.only)

pub returns-in_ok-read_number-in-Open-clause-found : goal.returns-in_ok-read_number-in-Open-clause-found
returns-in_ok-read_number-in-Open-clause-found c =
    one_found (command_of c.args.kind) c.args.rest.now (command_of EventKind.Open) c.in_ok-read_number-in-Open.field-0
    (ap command_of c.in-Open.is) c.in_ok-read_number-in-Open.ensures.found (search rules)

pub returns-in_err-read_number-in-Join-clause-only : goal.returns-in_err-read_number-in-Join-clause-only
returns-in_err-read_number-in-Join-clause-only c =
    rw c.from_residual-in_err-read_number-in-Join.ensures
    (one_only (command_of c.args.kind) c.args.rest.now (command_of EventKind.Join) refl (ap command_of c.in-Join.is)
    c.in_err-read_number-in-Join.ensures.only)

pub returns-in_ok-read_number-in-Join-clause-found : goal.returns-in_ok-read_number-in-Join-clause-found
returns-in_ok-read_number-in-Join-clause-found c =
    one_found (command_of c.args.kind) c.args.rest.now (command_of EventKind.Join) c.in_ok-read_number-in-Join.field-0
    (ap command_of c.in-Join.is) c.in_ok-read_number-in-Join.ensures.found (search rules)

pub returns-in_err-read_number-in-Finish-clause-only : goal.returns-in_err-read_number-in-Finish-clause-only
returns-in_err-read_number-in-Finish-clause-only c =
    rw c.from_residual-in_err-read_number-in-Finish.ensures
    (one_only (command_of c.args.kind) c.args.rest.now (command_of EventKind.Finish) refl (ap command_of c.in-Finish.is)
    c.in_err-read_number-in-Finish.ensures.only)

pub returns-in_ok-read_number-in-Finish-clause-found : goal.returns-in_ok-read_number-in-Finish-clause-found
returns-in_ok-read_number-in-Finish-clause-found c =
    one_found (command_of c.args.kind) c.args.rest.now (command_of EventKind.Finish)
    c.in_ok-read_number-in-Finish.field-0
    (ap command_of c.in-Finish.is) c.in_ok-read_number-in-Finish.ensures.found (search rules)

pub returns-in_err-read_number-in-Mend-clause-only : goal.returns-in_err-read_number-in-Mend-clause-only
returns-in_err-read_number-in-Mend-clause-only c =
    rw c.from_residual-in_err-read_number-in-Mend.ensures
    (one_only (command_of c.args.kind) c.args.rest.now (command_of EventKind.Mend) refl (ap command_of c.in-Mend.is)
    c.in_err-read_number-in-Mend.ensures.only)

pub returns-in_ok-read_number-in-Mend-clause-found : goal.returns-in_ok-read_number-in-Mend-clause-found
returns-in_ok-read_number-in-Mend-clause-found c =
    one_found (command_of c.args.kind) c.args.rest.now (command_of EventKind.Mend) c.in_ok-read_number-in-Mend.field-0
    (ap command_of c.in-Mend.is) c.in_ok-read_number-in-Mend.ensures.found (search rules)
