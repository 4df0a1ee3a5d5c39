use Rattle.std.proofs.Common.{◌≡◌, ◌<◌, length, ap, sym, ◌∙◌, arith}
use Rattle.reset_model.specs.Topologies.{comes_up}
use Rattle.reset_machine.proofs.Renewing.{all_renewed, none_renewed, one_kept, one_renewed}
use Rattle.reset_machine.proofs.StepClauses.{start_is}
use Rattle.reset_machine.proofs.renewal.renewed_locals.Goals.{then-comes_up+in_ok-after-2, else-comes_up}
use Rattle.reset_machine.proofs.renewal.renewed_locals.Goals as goal

pub loop-index-init : goal.loop-index-init
loop-index-init g c =
    rw c.in_ok-after.ensures
    (none_renewed (comes_up c.args.old.now c.args.new.now) (g.P.Application.app.start c.args.new.now)
    c.args.new.now.ids c.args.locals.now)

pub loop-index-preserved : goal.loop-index-preserved
loop-index-preserved g c =
    let comes = comes_up c.args.old.now c.args.new.now in
    let start = g.P.Application.app.start c.args.new.now in
    let ids = c.args.new.now.ids in
    let at = c.loop-index.index in
    let low : at < length ids = omega (arith, c.loop-index-test.true, c.requires.count) in
    elim c.if-comes_up.branch [
      | then-comes_up+in_ok-after-2 w ↦ one_renewed comes start ids c.args.locals.now at c.loop-index.after.items
          c.loop-index.invariant low c.requires.count (sym c.comes_up.ensures ∙ w.if-comes_up.true)
          w.in_ok-after-2.field-0 c.if-comes_up.after.items
          (start_is start ids at w.in_ok-after-2.field-0 low w.in_ok-after-2.ensures) (ap (λ v. v.items) w.after-is)
      | else-comes_up w ↦ rw w.after-is
          (one_kept comes start ids c.args.locals.now at c.loop-index.after.items c.loop-index.invariant
          (sym c.comes_up.ensures ∙ w.if-comes_up.false))
    ]

pub returns : goal.returns
returns g c =
    let ended : length c.args.new.now.ids ≡ c.loop-index.index =
    omega (arith, c.requires.count, c.loop-index-test.false, c.loop-index.auto.index-end) in
    all_renewed (comes_up c.args.old.now c.args.new.now) (g.P.Application.app.start c.args.new.now) c.args.new.now.ids
    c.args.locals.now c.loop-index.index c.loop-index.after.items c.loop-index.invariant ended c.requires.count
