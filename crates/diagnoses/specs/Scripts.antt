-- Bad lines of scripts.
use Rattle.std.specs.Prelude.{Bool, true, false}
use Rattle.script_replay.specs.declared.script.Line.{Line}
use Rattle.script_replay.specs.declared.script.Line.TheVariants.{Silent, Asks, Bad}

-- whether a line is bad
abbrev pub is_bad : Line → Bool
is_bad Silent = false
is_bad (Asks command) = false
is_bad Bad = true
