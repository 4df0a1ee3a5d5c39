use Rattle.app_routes.proofs.PulledRoutes.{route_of-pulled}
use Rattle.app_routes.proofs.laws.pulls_take_better_entries.Goals as goal

pub returns : goal.returns
returns c = λ K j d own theirs are. route_of-pulled K j d own theirs are.ascending
