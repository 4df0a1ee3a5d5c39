use Rattle.history.proofs.FirstLines.{names_modulus, no_modulus, other_version}
use Rattle.history.proofs.read.with_modulus.Goals as goal

pub returns-in-Some-read_modulus-clause-ok : goal.returns-in-Some-read_modulus-clause-ok
returns-in-Some-read_modulus-clause-ok c =
    let version = c.in-Some.ensures.found in
    let modulus = c.in-Some-read_modulus.ensures.found in
    names_modulus c.args.version.now c.requires c.args.modulus.now c.in-Some.version c.in-Some-read_modulus.modulus
    version.0 modulus.0 version.1 modulus.1

pub returns-in-None-clause-err : goal.returns-in-None-clause-err
returns-in-None-clause-err c = no_modulus c.args.version.now c.requires c.args.modulus.now c.in-None.ensures.only

pub returns-in_default-clause-err : goal.returns-in_default-clause-err
returns-in_default-clause-err c =
    other_version c.args.version.now c.requires c.args.modulus.now c.in_default.ensures.only
