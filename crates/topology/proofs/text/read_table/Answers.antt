use Rattle.std.proofs.lemmas.Bool.{false≢true}
use Rattle.topology.proofs.TopologyTexts.{table_read, table_refused}
use Rattle.topology.proofs.text.read_table.Goals as goal

pub returns-in-Ok : goal.returns-in-Ok
returns-in-Ok c = table_read c.args.text.now _ c.requires c.in-Ok.ensures.ok.0 c.in-Ok.ensures.ok.1

pub returns-in-Err-2 : goal.returns-in-Err-2
returns-in-Err-2 c _ =
    table_refused c.args.text.now c.requires
    (c.in-Err.ensures.refused (λ memory. false≢true (c.if-is_memory.ensures.1 memory)))
