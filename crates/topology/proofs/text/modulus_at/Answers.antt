use Rattle.std.proofs.Common.{codes, refl}
use Rattle.toml.proofs.Views.{table_get}
use Rattle.topology.specs.TopologyText.{modulus_at}
use Rattle.topology.proofs.text.modulus_at.Goals as goal

pub returns-in-Some : goal.returns-in-Some
unfolding modulus_at
returns-in-Some c =
    let found = table_get c.get.result (codes "modulus") c.args.table.now.entries c.get.ensures.value in
    let told = rw c.in-Some.is at found in
    rw (← told, c.ok_or.ensures.value, c.modulus.ensures) refl

pub returns-in-None : goal.returns-in-None
unfolding modulus_at
returns-in-None c =
    let found = table_get c.get.result (codes "modulus") c.args.table.now.entries c.get.ensures.value in
    rw (← (rw c.in-None.is at found)) refl
