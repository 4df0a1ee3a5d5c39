-- A book: a configuration with the entries that led to it from its opening, and what it makes of events and faults.
use Rattle.std.specs.Prelude.{◌≡◌, ℕ, ◌+◌, ◌≤◌, ◌≢◌, ⊤, ◌-◌, ◌==◌, Bool, nat_le, slice_get, if◌then◌else◌, List, []}
use Rattle.std.specs.Prelude.{◌∷◌, ◌++◌, All, length, Option, Some, None, Result, Ok, Err}
use Rattle.action_tables.specs.Modulus.{IsModulus}
use Rattle.app_interface.specs.Application.{App}
use Rattle.reset_model.specs.declared.event.Event.{Event}
use Rattle.reset_model.specs.Configuration.{Configuration, IsShaped}
use Rattle.reset_model.specs.Planned.{Outcome, outcome_of}
use Rattle.reset_model.specs.View.{IsSeen, NodeView, view_of}
use Rattle.topology.specs.Graph.{IsGraph, IsNode}
use Rattle.fault_inject.specs.Effects.{injected}
use Rattle.fault_inject.specs.declared.fault.Fault.{Fault}
use Rattle.fault_inject.specs.declared.refusal.FaultRefusal.{FaultRefusal}
use Rattle.history.specs.declared.entry.Entry.{Entry}
use Rattle.history.specs.declared.entry.Entry.TheVariants.{Step, Disturbed}
use Rattle.history.specs.declared.entry.Receipt.{Receipt}
use Rattle.history.specs.declared.refusal.BookRefusal.{BookRefusal}
use Rattle.history.specs.declared.refusal.BookRefusal.TheVariants as book
use Rattle.history.specs.declared.refusal.DisturbRefusal.{DisturbRefusal}
use Rattle.history.specs.declared.refusal.DisturbRefusal.TheVariants as disturb
use Rattle.history.specs.declared.refusal.ApplyRefusal.{ApplyRefusal}
use Rattle.history.specs.declared.refusal.ApplyRefusal.TheVariants.{StrangeNode, Stale, BookFull, NoMemory}
use Rattle.history.specs.declared.log.Log.{Log}
use Rattle.history.specs.declared.player.Player.{Player}
use Rattle.history.specs.Entries.{replayed}
use Rattle.history.specs.HistoryText.{HasLine}
use Rattle.history.specs.Played.{HasPlayed}
use Rattle.history.specs.Segments.{IsLog, entries_of}

-- what contracts see of a book: how it opened, what happened since, what that left, and how many entries it may have
pub record BookView (L : Type 0) : Type 0 where
  pub opening : Configuration L
  pub entries : List Entry
  pub config : Configuration L
  pub limit : ℕ

-- it opened with a graph, whose nodes have each its registers and its local state; the configuration is what the entries
-- leave, which are within the limit, and which a history may have; and its modulus is one
pub record IsBook {L : Type 0} (app : App L) (from_text : List ℕ → Option L) (b : BookView L) : Type 0 where
  pub graph : IsGraph b.opening.graph
  pub shaped : IsShaped b.opening
  pub replay : replayed app from_text b.opening b.entries ≡ Some b.config
  pub room : length b.entries ≤ b.limit
  pub small : b.limit ≤ 1000000
  pub lines : All HasLine b.entries
  pub modulus : IsModulus b.config.modulus

-- what a player, a log and a limit are that keep a book: the player's is what the entries of the log leave from its
-- opening, which are within the limit, and which a history may have; and the opening is of a graph, and shaped
abbrev pub IsKept : {P L : Type 0} → App L → (List ℕ → Option L) → Player P L → Log P L → ℕ → Type 0
IsKept app from_text player log limit =
    HasPlayed app from_text log.opening.value (entries_of log.segments) player
    × (length (entries_of log.segments) ≤ limit) × (limit ≤ 1000000)
    × All HasLine (entries_of log.segments) × IsLog app from_text log
    × IsGraph log.opening.value.graph × IsShaped log.opening.value

-- the book with an entry more, which left this
abbrev pub with_entry : {L : Type 0} → BookView L → Entry → Configuration L → BookView L
with_entry b entry left =
    record { opening = b.opening; entries = b.entries ++ entry ∷ []; config = left; limit = b.limit }

-- the entry at this position, which counts from 1
abbrev pub entry_at : List Entry → ℕ → Option Entry
entry_at es position = if position == 0 then None else slice_get es (position - 1)

-- there is no room for an entry more
abbrev pub is_full : {L : Type 0} → BookView L → Bool
is_full b = nat_le b.limit (length b.entries)

abbrev pub book_outcome : {L : Type 0} → BookView L → Event → Outcome L → Result (BookView L × Receipt) BookRefusal
book_outcome b e (Ok done) =
    if is_full b then Err book.BookFull
    else Ok (with_entry b (Step e) done.0, record { position = length b.entries + 1; event = e; reply = done.1 })
book_outcome b e (Err f) = Err (book.Refused f)

-- what a step makes of a book, with its receipt, or the first refusal
abbrev pub booked : {L : Type 0} → App L → BookView L → Event → Result (BookView L × Receipt) BookRefusal
booked app b e = book_outcome b e (outcome_of app b.config e)

abbrev pub disturbance : {L : Type 0} → BookView L → Fault → Result (Configuration L) FaultRefusal
    → Result (BookView L × ℕ) DisturbRefusal
disturbance b f (Ok left) =
    if is_full b then Err disturb.BookFull else Ok (with_entry b (Disturbed f) left, length b.entries + 1)
disturbance b f (Err refusal) = Err (disturb.Refused refusal)

-- what a fault makes of a book, with its position, or the first refusal
abbrev pub disturbed_book : {L : Type 0} → App L → (List ℕ → Option L) → BookView L → Fault
    → Result (BookView L × ℕ) DisturbRefusal
disturbed_book app from_text b f = disturbance b f (injected app from_text b.config f)

-- why a book doesn't take a plan that was made on the view v: its node isn't there, or sees something else
-- now, or there is no room. Want of memory may stand in place of any reason
abbrev pub IsUnapplied : {P L : Type 0} → App L → BookView L → NodeView L → ApplyRefusal P L → Type 0
IsUnapplied app b v StrangeNode = IsNode b.config.graph v.id → ⊥
IsUnapplied app b v (Stale now) = IsNode b.config.graph v.id × (now ≡ view_of app b.config v.id) × (v ≢ now)
IsUnapplied app b v BookFull = IsSeen app b.config v × (b.limit ≤ length b.entries)
IsUnapplied app b v NoMemory = ⊤
