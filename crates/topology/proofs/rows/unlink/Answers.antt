use Rattle.topology.proofs.Removing.{unlinked_rows}
use Rattle.topology.proofs.rows.unlink.Goals as goal

pub returns : goal.returns
returns c =
    unlinked_rows c.args.near.now c.requires.rows c.args.i c.args.j c.requires.i_within c.requires.j_within
    c.index-near-i.result c.remove_index.new.row c.index-near-j.result c.remove_index-2.new.row
    c.remove_index.ensures c.remove_index-2.ensures
