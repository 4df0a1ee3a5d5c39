use Rattle.std.proofs.Common.{◌≡◌, ◌++◌, ℕ, drop}
use Rattle.app_interface.specs.Views.{seen_values}
use Rattle.reset_model.specs.Actions.{reads_near}
use Rattle.reset_model.specs.Configuration.{local_of}
use Rattle.reset_machine.proofs.Children.{among}
use Rattle.reset_machine.proofs.action.seen.Given as goal

-- what is seen so far, and what is read of the neighbours that are left, is what is read of all of them
abbrev pub invariant-loop-near : goal.invariant-loop-near
invariant-loop-near g l =
    let config = l.place.config in
    let f : ℕ → ℕ × g.row.P-Local.Denot = λ j. (j, local_of g.P.Application.app config j) in
    seen_values l.seen.items ++ among config.graph.ids (reads_near l.reads l.with) f (drop l.near-index l.near-items)
    ≡ among config.graph.ids (reads_near l.reads l.with) f l.near-items
