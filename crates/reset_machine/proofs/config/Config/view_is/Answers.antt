use Rattle.reset_model.specs.View.{IsSeen}
use Rattle.reset_model.proofs.Deciding.{is_some-tells}
use Rattle.reset_machine.proofs.config.Config.view_is.Goals as goal

pub returns : goal.returns
returns g c =
    rw c.is_some.ensures
    (is_some-tells c.index_seeing.result (IsSeen g.P.Application.app c.args.self.now c.args.view.now)
    c.index_seeing.ensures.seen c.index_seeing.ensures.unseen)
