-- Entries in segments, and the checkpoints between them.
use Rattle.std.specs.Prelude.{◌≡◌, ℕ, ◌+◌, ◌*◌, ◌<◌, ◌≤◌, All, List, ◌++◌, length, take, slice_get, Option, Some}
use Rattle.std.specs.List.{flat_map}
use Rattle.std.specs.Vec.{vec_len, vec_capacity}
use Rattle.app_interface.specs.Application.{App}
use Rattle.reset_model.specs.Configuration.{Configuration}
use Rattle.history.specs.declared.entry.Entry.{Entry}
use Rattle.history.specs.declared.log.Log.{Log}
use Rattle.history.specs.declared.segments.Segments.{Segments}
use Rattle.history.specs.Entries.{replayed}

-- the entries of segments, in turn
abbrev pub entries_of : Segments → List Entry
entries_of s = flat_map (λ es. es.items) s.full.items ++ s.last.items

-- each segment but the last is full, and the entries are counted
pub record IsSegmented (s : Segments) : Type 0 where
  pub full : All (λ es. length es.items ≡ 1024) s.full.items
  pub short : length s.last.items ≤ 1024
  pub counted : s.count ≡ length (entries_of s)

-- there is room for an entry more
pub record HasRoom (s : Segments) : Type 0 where
  pub short : length s.last.items < 1024
  pub roomy : vec_len s.last < vec_capacity s.last

-- the checkpoints of entries from c on: the one at index k is what the first 1024 * k of them leave. Each segment
-- has its own, and the next segment may have one already
pub record AreCheckpoints {L : Type 0} (app : App L) (from_text : List ℕ → Option L) (c : Configuration L)
    (es : List Entry) (checkpoints : List (Configuration L)) : Type 0 where
  pub each : (k : ℕ) (here : Configuration L) → slice_get checkpoints k ≡ Some here
      → replayed app from_text c (take (k * 1024) es) ≡ Some here
  pub reached : length checkpoints * 1024 ≤ length es + 1024
  pub enough : length es ≤ length checkpoints * 1024

-- what is true of entries in segments with their checkpoints
pub record IsLog {P L : Type 0} (app : App L) (from_text : List ℕ → Option L) (log : Log P L) : Type 0 where
  pub segmented : IsSegmented log.segments
  pub checkpoints : AreCheckpoints app from_text log.opening.value (entries_of log.segments) log.checkpoints.items

-- the next entry has a checkpoint before it in its segment
abbrev pub IsCovered : {P L : Type 0} → Log P L → Type 0
IsCovered log = length (entries_of log.segments) < length log.checkpoints.items * 1024

-- there is a place for an entry more
pub record HasPlace {P L : Type 0} (log : Log P L) : Type 0 where
  pub room : HasRoom log.segments
  pub covered : IsCovered log
