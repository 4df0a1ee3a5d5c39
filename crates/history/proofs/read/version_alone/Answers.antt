use Rattle.std.proofs.Common.{ap, ◌∙◌, arith}
use Rattle.std.specs.Fmt.{decimal}
use Rattle.history.proofs.FirstLines.{no_number, version_one, wants_modulus}
use Rattle.history.proofs.read.version_alone.Goals as goal

pub returns-in-Some-eq1-clause-ok : goal.returns-in-Some-eq1-clause-ok
returns-in-Some-eq1-clause-ok c =
    version_one c.args.version.now c.requires (c.in-Some-eq1.ensures.found ∙ ap decimal c.in-Some-eq1.field-0-test)

pub returns-in-Some-eq2-clause-err : goal.returns-in-Some-eq2-clause-err
returns-in-Some-eq2-clause-err c =
    wants_modulus c.args.version.now c.requires 2 (omega arith, omega arith)
    (c.in-Some-eq2.ensures.found ∙ ap decimal c.in-Some-eq2.field-0-test)

pub returns-in-Some-eq3-clause-err : goal.returns-in-Some-eq3-clause-err
returns-in-Some-eq3-clause-err c =
    wants_modulus c.args.version.now c.requires 3 (omega arith, omega arith)
    (c.in-Some-eq3.ensures.found ∙ ap decimal c.in-Some-eq3.field-0-test)

pub returns-in-None-clause-err : goal.returns-in-None-clause-err
returns-in-None-clause-err c = no_number c.args.version.now c.requires c.in-None.ensures.only
