use Rattle.app_routes.proofs.Following.{arrives}
use Rattle.app_routes.proofs.laws.routes_arrive.Goals as goal

pub returns : goal.returns
returns c = arrives
