-- The entries before the index were played.
use Rattle.std.proofs.Common.{◌≡◌, ◌+◌, ◌++◌, List, length, take}
use Rattle.reset_model.specs.Configuration.{Configuration}
use Rattle.history.specs.declared.entry.Entry.{Entry}
use Rattle.history.specs.Played.{HasPlayed}
use Rattle.history.proofs.player.Player.play.Given as goal

abbrev pub invariant-loop-entry : goal.invariant-loop-entry
invariant-loop-entry g l =
    let app = g.P.Application.app in
    let from_text = g.P.Application.from_text in
    ((c : Configuration g.row.P-Local.Denot) (es : List Entry) → HasPlayed app from_text c es l.initial.self
    → l.before ≡ length es → HasPlayed app from_text c (es ++ take l.entry-index l.entries) l.self)
    × (l.position ≡ l.before + l.entry-index)
