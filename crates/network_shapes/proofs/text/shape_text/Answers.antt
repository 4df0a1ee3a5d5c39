use Rattle.std.proofs.Common.{◌≡◌, refl, subst, sym, true, ◌∙◌, arith}
use Rattle.std.proofs.lemmas.List.FromFn.{length-range_with_len}
use Rattle.toml.specs.Data.{members_have_valid_dates}
use Rattle.toml.specs.View.{table_view}
use Rattle.network_shapes.specs.Shapes.{shape_description}
use Rattle.network_shapes.proofs.Accepted.{accepted}
use Rattle.topology.proofs.Described.{description_members-dates}
use Rattle.network_shapes.proofs.Printed.{printed_described, printed_written, same_table}
use Rattle.network_shapes.proofs.Shaped.{few_links, node_numbers-small, shape_links-small}
use Rattle.network_shapes.proofs.text.shape_text.Goals as goal

pub printed-requires : goal.printed-requires
printed-requires c =
    let d = shape_description c.args.shape c.args.count c.args.seed c.args.app in
    let table =
    same_table (table_view c.in_ok-table.table) d c.deref.result.now c.deref-2.result.now c.in_ok-table.ensures
    (c.deref.ensures.value ∙ c.in_ok-nodes.ensures) (c.deref-2.ensures.value ∙ c.in_ok-links.ensures) in
    subst (λ t. members_have_valid_dates t ≡ true) (sym table) (description_members-dates d)

pub returns : goal.returns
returns c =
    let d = shape_description c.args.shape c.args.count c.args.seed c.args.app in
    let table =
    same_table (table_view c.in_ok-table.table) d c.deref.result.now c.deref-2.result.now c.in_ok-table.ensures
    (c.deref.ensures.value ∙ c.in_ok-nodes.ensures) (c.deref-2.ensures.value ∙ c.in_ok-links.ensures) in
    let described =
    printed_described d (table_view c.in_ok-table.table) table (node_numbers-small c.args.count c.requires.few)
    (shape_links-small c.args.shape c.args.count c.args.seed c.requires.some c.requires.few)
    (omega (arith, length-range_with_len 1 c.args.count))
    (omega (arith, few_links c.args.shape c.args.count c.args.seed c.requires.some)) refl c.printed.result
    c.printed.ensures in
    record {
      text = printed_written d (table_view c.in_ok-table.table) table c.printed.result c.printed.ensures;
      described = described;
      accepted =
          accepted c.args.shape c.args.count c.args.seed c.args.app c.requires.some c.requires.few c.printed.result
          described;
    }
