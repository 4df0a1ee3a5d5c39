use Rattle.std.proofs.Common.{◌≡◌, [], IfSome, Option, subst}
use Rattle.wave_layer.specs.WaveTable.{FatherHolds, LocalView}
use Rattle.wave_layer.specs.declared.regs.FatherSeen.TheVariants.{Is}
use Rattle.link_predicates.specs.Faults.{mending_row}
use Rattle.link_predicates.proofs.LinkRows.{denied_where_right, mending_tells}
use Rattle.link_predicates.proofs.quiet.fits.Goals as goal

pub returns : goal.returns
returns c = λ good.
    let own = c.args.own in
    let up = c.args.up in
    let view : LocalView = record { own = own; father = Is up; children = []; modulus = c.args.modulus } in
    let P : Option LocalView → Type 0 = λ o. IfSome o (λ v. v ≡ view) in
    let is : c.unwrap-view.result ≡ view = subst P c.unwrap-view.ensures c.new.ensures.value in
    let Holds : LocalView → Type 0 = λ v. FatherHolds v.modulus v.own v.father in
    denied_where_right (mending_row c.args.modulus own up) (mending_tells c.args.modulus own up)
    (subst Holds is (c.wave_good.ensures.predicate.0 good))
