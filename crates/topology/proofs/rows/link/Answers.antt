use Rattle.topology.proofs.Inserting.{row_rises, second_rises, linked_rows}
use Rattle.topology.proofs.rows.link.Goals as goal

pub insert_index-requires : goal.insert_index-requires
insert_index-requires c =
    row_rises c.args.near.now c.args.i c.args.j c.index-near-i.result c.requires.i_within c.requires.rows

pub insert_index-requires-2 : goal.insert_index-requires-2
insert_index-requires-2 c =
    second_rises c.args.near.now c.args.i c.args.j c.index-near-i.result c.requires.i_within c.requires.rows
    c.index-near-j.result c.insert_index.new.row
    c.in_ok-fresh.fresh c.requires.j_within c.requires.different c.in_ok-fresh.ensures

pub returns : goal.returns
returns c =
    linked_rows c.args.near.now c.args.i c.args.j c.index-near-i.result c.requires.i_within c.requires.rows
    c.index-near-j.result c.insert_index.new.row
    c.in_ok-fresh.fresh c.requires.j_within c.requires.different c.in_ok-fresh.ensures c.in_ok-insert_index.field-0
    c.insert_index-2.new.row c.in_ok-insert_index.ensures
