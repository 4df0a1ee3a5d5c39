use Rattle.std.proofs.Common.{◌≡◌, [], ◌∷◌, IfSome, subst, ap, ◌∙◌, Option}
use Rattle.action_tables.specs.Table.{enabled_of}
use Rattle.wave_layer.specs.WaveTable.{LocalView, wave_table}
use Rattle.wave_layer.specs.declared.regs.FatherSeen.TheVariants.{Is}
use Rattle.link_predicates.specs.Faults.{first_enabled}
use Rattle.link_predicates.proofs.rows.mending_row.Goals as goal

pub returns : goal.returns
returns c =
    let view : LocalView = record { own = c.args.own; father = Is c.args.up; children = []; modulus = c.args.modulus } in
    let P : Option LocalView → Type 0 = λ o. IfSome o (λ v. v ≡ view) in
    let is : c.unwrap-view.result ≡ view = subst P c.unwrap-view.ensures c.new.ensures.value in
    c.first_enabled.ensures
    ∙ ap (first_enabled (8 ∷ 9 ∷ 10 ∷ 11 ∷ []))
    (c.wave_enabled.ensures ∙ ap (λ (v : LocalView). enabled_of (wave_table v v.children)) is)
