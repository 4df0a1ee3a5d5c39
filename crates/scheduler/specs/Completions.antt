-- How many completions a reply tells.
use Rattle.std.specs.Prelude.{ℕ}
use Rattle.reset_model.specs.declared.step.Reply.{Reply}
use Rattle.reset_model.specs.declared.step.Reply.TheVariants.{Applied, Complete}

abbrev pub completions : Reply → ℕ
completions Applied = 0
completions (Complete session) = 1
