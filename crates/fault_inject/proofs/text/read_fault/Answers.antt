use Rattle.std.specs.Prelude.{codes}
use Rattle.std.proofs.Common.{◌≡◌, rules}
use Rattle.fault_inject.proofs.FaultLines.{line_found, line_memory, line_only}
use Rattle.fault_inject.proofs.text.read_fault.Goals as goal

pub returns-then-eq-clause-found : goal.returns-then-eq-clause-found
returns-then-eq-clause-found c =
    let named : c.in-Some.command.now ≡ codes "fault" = search rules in
    line_found c.args.line.now c.in-Some.command.now c.in-Some.rest.now c.in-Some.ensures.found named c.fault_of.result
    c.fault_of.ensures.read

pub returns-then-eq-clause-only : goal.returns-then-eq-clause-only
returns-then-eq-clause-only c =
    let named : c.in-Some.command.now ≡ codes "fault" = search rules in
    line_only c.args.line.now c.in-Some.command.now c.in-Some.rest.now c.in-Some.ensures.found named c.fault_of.result
    c.fault_of.ensures.read

pub returns-then-eq-clause-memory : goal.returns-then-eq-clause-memory
returns-then-eq-clause-memory c =
    let named : c.in-Some.command.now ≡ codes "fault" = search rules in
    line_memory c.args.line.now c.in-Some.command.now c.in-Some.rest.now c.in-Some.ensures.found named c.fault_of.result
    c.fault_of.ensures.memory
