use Rattle.std.specs.List.{flat_map}
use Rattle.reset_model.specs.Configuration.{local_of, tree_of, wave_of}
use Rattle.history_page.specs.Fields.{field_text}
use Rattle.history_page.proofs.Down.{nothing_down}
use Rattle.history_page.proofs.field.add_fields.Goals as goal

pub returns-in-None : goal.returns-in-None
returns-in-None g c =
    let config = c.args.config.now in
    let id = c.args.id in
    nothing_down config.graph id c.args.line.now.items
    (flat_map (field_text g.P.Application.text (tree_of config id) (wave_of config id)
    (local_of g.P.Application.app config id)) c.args.fields.now)
    c.in-None.ensures.none
