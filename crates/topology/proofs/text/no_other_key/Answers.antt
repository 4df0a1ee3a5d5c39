use Rattle.topology.proofs.TopologyTexts.{keys-known}
use Rattle.topology.proofs.text.no_other_key.Goals as goal

pub loop-key-init : goal.loop-key-init
loop-key-init c = (
  tt,
  tt,
  rw (c.into_iter-key-iterator.ensures.into_iter_gives, c.keys-key-items.ensures.rest)
      (keys-known c.args.table.now.entries),
)
