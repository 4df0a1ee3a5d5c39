-- What a search for a configuration is written as.
use Rattle.std.specs.Prelude.{ℕ, List, ◌++◌, length, codes}
use Rattle.history.specs.HistoryText.{ended}
use Rattle.schedules.specs.declared.finding.Search.{Search}
use Rattle.schedules.specs.declared.finding.Search.TheVariants.{Reached, Unreached}
use Rattle.script_replay.specs.Output.{numbered}
use Rattle.script_replay.specs.declared.status.Status.{Status}
use Rattle.script_replay.specs.declared.status.Status.TheVariants.{Good, FaultsFound}

-- how many steps a shortest order to one has
abbrev pub reached_text : ℕ → List ℕ
reached_text steps = numbered (codes "found after ") steps

-- that no order leads to one, and how many configurations there are
abbrev pub unreached_text : ℕ → List ℕ
unreached_text configurations = ended (codes "found nowhere") ++ numbered (codes "configurations ") configurations

abbrev pub search_text : Search → List ℕ
search_text (Reached events) = reached_text (length events.items)
search_text (Unreached configurations) = unreached_text configurations

-- good where none is found
abbrev pub search_status : Search → Status
search_status (Reached events) = FaultsFound
search_status (Unreached n) = Good
