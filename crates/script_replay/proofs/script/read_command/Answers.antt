use Rattle.std.proofs.Common.{Some}
use Rattle.script_replay.specs.declared.script.Command.TheVariants.{Step}
use Rattle.script_replay.proofs.CommandLines.{plain_fits}
use Rattle.script_replay.proofs.CommandOf.{command_of-is, fault_read, own_words_found}
use Rattle.script_replay.proofs.script.read_command.Goals as goal

pub returns-in-Some : goal.returns-in-Some
returns-in-Some g c =
    let found =
    own_words_found g.P.Application.names c.args.line.now (Some c.in-Some.command) c.in-Some.ensures.found
    (plain_fits c.in-Some.command c.in-Some.ensures.fits) in
    record {
      function = command_of-is g.P.Application.names c.args.line.now (Some c.in-Some.command) found tt;
      found = found;
      only = tt;
      memory = tt;
    }

pub returns-in-Some-read_named-clause-function : goal.returns-in-Some-read_named-clause-function
returns-in-Some-read_named-clause-function g c =
    command_of-is g.P.Application.names c.args.line.now (Some (Step c.in-Some-read_named.event))
    c.in-Some-read_named.ensures.found tt

pub returns-in-None-clause-function : goal.returns-in-None-clause-function
returns-in-None-clause-function g c =
    fault_read g.P.Application.names c.args.line.now c.read_injected.result c.in-None.ensures.only
    c.in_default.ensures.only
    c.read_injected.ensures.found c.read_injected.ensures.fits c.read_injected.ensures.only
