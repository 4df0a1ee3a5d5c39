use Rattle.std.proofs.Common.{rules}
use Rattle.std.proofs.lemmas.Fn.{always_returns_same}
use Rattle.app_routes.proofs.Places.{placed}
use Rattle.app_routes.proofs.local.place_of.Goals as goal

pub returns : goal.returns
returns c =
    placed c.args.entries.now c.requires c.args.destination c.binary_search_by_key.result
    c.binary_search_by_key.ensures.bound
    (c.binary_search_by_key.ensures.position (λ e. e.destination) (always_returns_same _ _ _ (λ a r f k. search rules)))
