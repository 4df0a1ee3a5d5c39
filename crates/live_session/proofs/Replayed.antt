-- The entries of a session lead to what it leaves.
use Rattle.std.proofs.Common.{◌≡◌, ℕ, ◌+◌, Bool, true, false, if◌then◌else◌, List, [], ◌∷◌, ◌++◌, refl, sym, ap}
use Rattle.std.proofs.Common.{◌∙◌, append-nil, Option, Some, None, Result, Ok, Err}
use Rattle.std.specs.List.{flat_map}
use Rattle.std.specs.Option.{option_and_then}
use Rattle.app_interface.specs.Application.{App}
use Rattle.topology.specs.Graph.{IsNode, is_node}
use Rattle.applications.specs.Meaning.{Meaning}
use Rattle.fault_inject.specs.Effects.{injected}
use Rattle.fault_inject.specs.declared.fault.Fault.{Fault}
use Rattle.fault_inject.specs.declared.refusal.FaultRefusal.{FaultRefusal}
use Rattle.link_predicates.specs.Faults.{alarm_of}
use Rattle.link_predicates.specs.declared.fault.LinkFault.{LinkFault}
use Rattle.reset_model.specs.Configuration.{Configuration}
use Rattle.reset_model.specs.Planned.{Outcome, outcome_of}
use Rattle.reset_model.specs.declared.event.Event.{Event}
use Rattle.reset_model.specs.declared.event.Event.TheVariants.{Request}
use Rattle.history.specs.Entries.{entered, left_by_fault, left_by_step, replayed}
use Rattle.history.specs.declared.entry.Entry.{Entry}
use Rattle.history.specs.declared.entry.Entry.TheVariants as entry
use Rattle.script_replay.specs.Output.{answer_to, answered, disturbed, drawn, stepped}
use Rattle.script_replay.specs.Recorded.{event_entries, event_entry, fault_entry, line_entries}
use Rattle.script_replay.specs.Script.{line_of}
use Rattle.script_replay.specs.declared.script.Command.{Command}
use Rattle.script_replay.specs.declared.script.Command.TheVariants.{Step, Inject, Draw, Show, ShowNode, Newest, Enabled}
use Rattle.script_replay.specs.declared.script.Command.TheVariants.{Ready, Check, CheckNode, Alarm, Watch, Moves}
use Rattle.script_replay.specs.declared.script.Command.TheVariants.{MovesOf, Snapshot, Invariant}
use Rattle.script_replay.specs.declared.script.Line.{Line}
use Rattle.script_replay.specs.declared.script.Line.TheVariants.{Silent, Asks, Bad}
use Rattle.script_replay.proofs.Nodes.{node_of, node_there}
use Rattle.script_replay.proofs.Noting.{alarm_events, alarm_left, no_alarm_events, no_alarm_left}
use Rattle.live_session.specs.Course.{Exchange, config_after, course_of, entries_of, exchange, is_exit}
use Rattle.live_session.specs.Course.{full_text, is_refused, reply_text, room_after}
use Rattle.live_session.proofs.Courses.{course_exit, course_more, course_none}

module _ {L : Type 0} (app : App L) (from_text : List ℕ → Option L) where
  replayed-none : (c : Configuration L) → replayed app from_text c [] ≡ Some c
  unfolding replayed
  replayed-none c = refl

  replayed-one : (c : Configuration L) (e : Entry) → replayed app from_text c (e ∷ []) ≡ entered app from_text c e
  unfolding replayed
  replayed-one c e = go (entered app from_text c e)
    where
      go : (o : Option (Configuration L)) → option_and_then (λ after. replayed app from_text after []) o ≡ o
      go None = refl
      go (Some after) = replayed-none after

  pub replayed_on : (c d : Configuration L) (xs ys : List Entry) → replayed app from_text c xs ≡ Some d
      → replayed app from_text c (xs ++ ys) ≡ replayed app from_text d ys
  unfolding replayed
  replayed_on c d [] ys is = let same : c ≡ d = cc in ap (λ e. replayed app from_text e ys) same
  replayed_on c d (x ∷ xs) ys is =
      elim (entered app from_text c x) as (λ o. option_and_then (λ after. replayed app from_text after xs) o ≡ Some d
      → option_and_then (λ after. replayed app from_text after (xs ++ ys)) o ≡ replayed app from_text d ys)
      [ None ↦ λ none. cc | Some a ↦ λ rest. replayed_on a d xs ys rest ] is

module _ {L : Type 0} (m : Meaning L) (c : Configuration L) where
  abbrev left_by : List Entry → Option (Configuration L)
  left_by es = replayed m.app m.from_text c es

  event_replayed : (e : Event) (o : Outcome L) → outcome_of m.app c e ≡ o
      → left_by (event_entry e o) ≡ Some (stepped c o).0
  event_replayed e (Ok left) is = replayed-one m.app m.from_text c (entry.Step e) ∙ ap left_by_step is
  event_replayed e (Err refusal) is = replayed-none m.app m.from_text c

  fault_replayed : (f : Fault) (o : Result (Configuration L) FaultRefusal) → injected m.app m.from_text c f ≡ o
      → left_by (fault_entry f o) ≡ Some (disturbed c o).0
  fault_replayed f (Ok left) is = replayed-one m.app m.from_text c (entry.Disturbed f) ∙ ap left_by_fault is
  fault_replayed f (Err refusal) is = replayed-none m.app m.from_text c

  quiet_replayed : (i : ℕ) → (IsNode c.graph i → alarm_of m.app c i ≡ None)
      → left_by (line_entries m c (Asks (Watch i))) ≡ Some (answered m c (Watch i)).0
  quiet_replayed i none =
      ap (λ es. left_by (flat_map (event_entries m c) es)) (no_alarm_events m c i none)
      ∙ replayed-none m.app m.from_text c ∙ ap Some (sym (no_alarm_left m c i none))

  alarm_replayed : (i : ℕ) (fault : LinkFault) → IsNode c.graph i → alarm_of m.app c i ≡ Some fault
      → left_by (line_entries m c (Asks (Watch i))) ≡ Some (answered m c (Watch i)).0
  alarm_replayed i fault node found =
      ap (λ es. left_by (flat_map (event_entries m c) es)) (alarm_events m c i fault node found)
      ∙ ap left_by (append-nil (event_entries m c (Request i)))
      ∙ event_replayed (Request i) (outcome_of m.app c (Request i)) refl
      ∙ ap Some (sym (alarm_left m c i fault node found))

  watch_replayed : (i : ℕ) → left_by (line_entries m c (Asks (Watch i))) ≡ Some (answered m c (Watch i)).0
  watch_replayed i = by_node (is_node c.graph i) refl
    where
      by_alarm : (o : Option LinkFault) → alarm_of m.app c i ≡ o → IsNode c.graph i
          → left_by (line_entries m c (Asks (Watch i))) ≡ Some (answered m c (Watch i)).0
      by_alarm None is node = quiet_replayed i (λ there. is)
      by_alarm (Some fault) is node = alarm_replayed i fault node is

      by_node : (b : Bool) → is_node c.graph i ≡ b
          → left_by (line_entries m c (Asks (Watch i))) ≡ Some (answered m c (Watch i)).0
      by_node true is = by_alarm (alarm_of m.app c i) refl (node_of c i is)
      by_node false is =
          quiet_replayed i (λ node. let there : is_node c.graph i ≡ true = node_there c i node in absurd (cc))

  command_replayed : (command : Command)
      → left_by (line_entries m c (Asks command)) ≡ Some (answered m c command).0
  command_replayed (Step e) = event_replayed e (outcome_of m.app c e) refl
  command_replayed (Inject f) = fault_replayed f (injected m.app m.from_text c f) refl
  command_replayed (Draw seed) =
      fault_replayed (drawn c.graph.ids seed) (injected m.app m.from_text c (drawn c.graph.ids seed)) refl
  command_replayed Show = replayed-none m.app m.from_text c
  command_replayed (ShowNode i) = replayed-none m.app m.from_text c
  command_replayed Newest = replayed-none m.app m.from_text c
  command_replayed (Enabled i) = replayed-none m.app m.from_text c
  command_replayed Ready = replayed-none m.app m.from_text c
  command_replayed Check = replayed-none m.app m.from_text c
  command_replayed (CheckNode i) = replayed-none m.app m.from_text c
  command_replayed (Alarm i) = replayed-none m.app m.from_text c
  command_replayed (Watch i) = watch_replayed i
  command_replayed Moves = replayed-none m.app m.from_text c
  command_replayed (MovesOf i) = replayed-none m.app m.from_text c
  command_replayed Snapshot = replayed-none m.app m.from_text c
  command_replayed Invariant = replayed-none m.app m.from_text c

  line_replayed : (n : ℕ) (line : Line) → left_by (line_entries m c line) ≡ Some (answer_to m c n line).config
  line_replayed n Silent = replayed-none m.app m.from_text c
  line_replayed n (Asks command) = command_replayed command
  line_replayed n Bad = replayed-none m.app m.from_text c

  abbrev exchange_if : Bool → ℕ → List ℕ → Line → Exchange
  exchange_if refused n text line =
      if refused then record { answer = full_text; entries = [] }
      else record { answer = reply_text m c n text line; entries = line_entries m c line }

  abbrev config_if : Bool → ℕ → Line → Configuration L
  config_if refused n line = if refused then c else (answer_to m c n line).config

  replayed_if : (b : Bool) (n : ℕ) (text : List ℕ) (line : Line)
      → left_by (exchange_if b n text line).entries ≡ Some (config_if b n line)
  replayed_if true n text line = replayed-none m.app m.from_text c
  replayed_if false n text line = line_replayed n line

  exchange_replayed : (room : Option ℕ) (n : ℕ) (text : List ℕ) (line : Line)
      → left_by (exchange m room c n text line).entries ≡ Some (config_after m room c n line)
  exchange_replayed room n text line = replayed_if (is_refused room line) n text line

module _ {L : Type 0} (m : Meaning L) where
  pub course_replayed : (room : Option ℕ) (c : Configuration L) (n : ℕ) (lines : List (List ℕ))
      → replayed m.app m.from_text c (entries_of (course_of m room c n lines).exchanges)
      ≡ Some (course_of m room c n lines).config
  course_replayed room c n [] =
      let is = course_none m room c n in rw is (replayed-none m.app m.from_text c)
  course_replayed room c n (line ∷ lines) = go (is_exit line) refl (λ r x. course_replayed r x (n + 1) lines)
    where
      go : (b : Bool) → is_exit line ≡ b
          → ((r : Option ℕ) (x : Configuration L)
          → replayed m.app m.from_text x (entries_of (course_of m r x (n + 1) lines).exchanges)
          ≡ Some (course_of m r x (n + 1) lines).config)
          → replayed m.app m.from_text c (entries_of (course_of m room c n (line ∷ lines)).exchanges)
          ≡ Some (course_of m room c n (line ∷ lines)).config
      go true ends more =
          let is = course_exit m room c n line lines ends in rw is (replayed-none m.app m.from_text c)
      go false stays more =
          let is = course_more m room c n line lines stays in
          let e : Exchange = exchange m room c n line (line_of m.names line) in
          let after : Configuration L = config_after m room c n (line_of m.names line) in
          rw is
          (replayed_on m.app m.from_text c after e.entries
          (entries_of (course_of m (room_after room e.entries) after (n + 1) lines).exchanges)
          (exchange_replayed m c room n line (line_of m.names line))
          ∙ more (room_after room e.entries) after)
