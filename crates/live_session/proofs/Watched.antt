-- What a node that watches is answered and leaves.
use Rattle.std.proofs.Common.{◌≡◌, ℕ, ◌-◌, Bool, false, List, [], ◌∷◌, ◌++◌, refl, sym, ap, ap₂, ◌∙◌}
use Rattle.std.proofs.Common.{append-nil, arith, Option, Some, None, Result, Ok, Err, IfOk, OnOk}
use Rattle.std.specs.List.{flat_map}
use Rattle.topology.specs.Graph.{IsNode}
use Rattle.applications.specs.Meaning.{Meaning}
use Rattle.history.specs.declared.entry.Entry.{Entry}
use Rattle.link_predicates.specs.Faults.{alarm_of}
use Rattle.link_predicates.specs.declared.fault.LinkFault.{LinkFault}
use Rattle.reset_model.specs.Configuration.{Configuration}
use Rattle.reset_model.specs.declared.event.Event.TheVariants.{Request}
use Rattle.script_replay.specs.Recorded.{event_entries, line_entries}
use Rattle.script_replay.specs.declared.script.Command.TheVariants.{Watch}
use Rattle.script_replay.specs.declared.script.Line.TheVariants.{Asks}
use Rattle.script_replay.proofs.Noting.{alarm_events, no_alarm_events}
use Rattle.live_session.specs.Course.{kept_lines, room_after}
use Rattle.live_session.specs.Progress.{HasActed, entry_if}
use Rattle.live_session.specs.declared.batch.Batch.{Batch}

pub on_ok : {D E : Type 0} (r : Result D E) (d : D) (A : Type 0) → r ≡ Ok d → OnOk r A → A
on_ok (Ok x) d A is a = a
on_ok (Err e) d A is a = absurd (cc)

room_kept : (room : Option ℕ) → room ≡ room_after room []
room_kept None = refl
room_kept (Some n) = let same : n ≡ n - 0 = omega arith in ap Some same

lines_kept : (room : Option ℕ) → kept_lines room [] ≡ []
lines_kept None = refl
lines_kept (Some n) = refl

module _ {L : Type 0} (m : Meaning L) (c : Configuration L) (i : ℕ) where
  pub quiet_entries : (IsNode c.graph i → alarm_of m.app c i ≡ None)
      → line_entries m c (Asks (Watch i)) ≡ entry_if false (Request i)
  quiet_entries none = ap (flat_map (event_entries m c)) (no_alarm_events m c i none)

  pub asked_entries : {E : Type 0} (r : Result Bool E) (fault : LinkFault)
      → IsNode c.graph i × (alarm_of m.app c i ≡ Some fault)
      → IfOk r (λ applied. event_entries m c (Request i) ≡ entry_if applied (Request i))
      → IfOk r (λ asks. line_entries m c (Asks (Watch i)) ≡ entry_if asks (Request i))
  asked_entries (Err e) fault found is = tt
  asked_entries (Ok applied) fault (node, found) is =
      ap (flat_map (event_entries m c)) (alarm_events m c i fault node found)
      ∙ append-nil (event_entries m c (Request i)) ∙ is

-- a line that leaves no entry, and one that leaves one
pub acted_none : (room : Option ℕ) (answer : List ℕ) (entries : List Entry) (old new : Batch) → entries ≡ []
    → new.answers.items ≡ old.answers.items ++ answer → new.entries.items ≡ old.entries.items
    → HasActed room answer entries room old new
acted_none room answer entries old new none wrote same = record {
  room_is = room_kept room ∙ ap (room_after room) (sym none);
  answers_are = wrote;
  entries_are =
      same ∙ sym (append-nil old.entries.items)
      ∙ ap (λ t. old.entries.items ++ t) (sym (lines_kept room) ∙ ap (kept_lines room) (sym none));
}

pub acted_one : {E : Type 0} (room : Option ℕ) (answer : List ℕ) (entries : List Entry) (e : Entry) (old mid new : Batch)
    (r : Result (Option ℕ) E) → entries ≡ e ∷ [] → mid.answers.items ≡ old.answers.items ++ answer
    → mid.entries.items ≡ old.entries.items → new.answers.items ≡ mid.answers.items
    → IfOk r (λ left. left ≡ room_after room (e ∷ []))
    → OnOk r (new.entries.items ≡ mid.entries.items ++ kept_lines room (e ∷ []))
    → IfOk r (λ left. HasActed room answer entries left old new)
acted_one room answer entries e old mid new (Err f) one wrote same kept left lines = tt
acted_one room answer entries e old mid new (Ok n) one wrote same kept left lines = record {
  room_is = left ∙ ap (room_after room) (sym one);
  answers_are = kept ∙ wrote;
  entries_are = lines ∙ ap₂ (λ xs es. xs ++ kept_lines room es) same (sym one);
}
