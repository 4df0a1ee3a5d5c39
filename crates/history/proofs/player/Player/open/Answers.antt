use Rattle.std.proofs.Common.{rules, ◌≡◌, ◌==◌, position, Some, if◌then◌else◌, ap, ◌∙◌}
use Rattle.history.specs.Played.{told}
use Rattle.history.proofs.Tables.{same_place}
use Rattle.history.proofs.player.Player.open.Goals as goal

pub returns-in-Some-clause-openings : goal.returns-in-Some-clause-openings
returns-in-Some-clause-openings g c =
    let ids = c.args.self.now.config.graph.ids in
    let there : position (λ j. j == c.args.at) ids ≡ Some c.in-Some.index = search rules in
    λ n i k within less found.
    c.open.ensures.told n k within less
    ∙ ap (λ b. if b then Some c.args.position else told c.args.self.now.openings k) (same_place ids i c.args.at k _
    found there)
