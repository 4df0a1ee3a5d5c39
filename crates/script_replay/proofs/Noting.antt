-- What a book notes of the lines of a script.
use Rattle.std.proofs.Common.{◌≡◌, ◌≢◌, ◌<◌, ◌≤◌, ◌+◌, ◌*◌, ℕ, Bool, true, false, if◌then◌else◌, List, [], ◌∷◌, ◌++◌}
use Rattle.std.proofs.Common.{Option, Some, None, Result, Ok, Err, refl, sym, ap, ap₂, ◌∙◌, subst, append-nil}
use Rattle.std.proofs.Common.{append_assoc, arith, length, IfOk, IsSome}
use Rattle.std.specs.List.{flat_map}
use Rattle.std.proofs.lemmas.Bool.Decides.{nat_tests}
use Rattle.std.proofs.lemmas.List.{length-append}
use Rattle.topology.specs.Graph.{IsNode, is_node}
use Rattle.applications.specs.Meaning.{Meaning}
use Rattle.fault_inject.specs.declared.fault.Fault.{Fault}
use Rattle.fault_inject.specs.declared.refusal.FaultRefusal.{FaultRefusal}
use Rattle.link_predicates.specs.Faults.{alarm_of}
use Rattle.link_predicates.specs.declared.fault.LinkFault.{LinkFault}
use Rattle.reset_model.specs.Configuration.{Configuration}
use Rattle.reset_model.specs.Planned.{Outcome, outcome_of}
use Rattle.reset_model.specs.declared.event.Event.{Event}
use Rattle.reset_model.specs.declared.event.Event.TheVariants.{Request}
use Rattle.reset_model.specs.declared.step.StepRefusal.TheVariants.{StrangeNode}
use Rattle.history.specs.Book.{BookView, IsBook, book_outcome, is_full, with_entry}
use Rattle.history.specs.Entries.{replayed}
use Rattle.history.specs.HistoryText.{IsReadAs, ended, history_text}
use Rattle.history.specs.declared.entry.Entry.{Entry}
use Rattle.history.specs.declared.entry.Entry.TheVariants as entry
use Rattle.history.specs.declared.entry.Receipt.{Receipt}
use Rattle.script_replay.specs.Lines.{lines_of}
use Rattle.script_replay.specs.Output.{after_alarm, alarm_line, answer_to, answered, if_good, refusal_text}
use Rattle.script_replay.specs.Output.{stepped, watched, Answer}
use Rattle.script_replay.specs.Parts.{IsNoted, with_entries}
use Rattle.script_replay.specs.Recorded.{IsHistory, entries_of_lines, event_entries, event_entry, fault_entry}
use Rattle.script_replay.specs.Recorded.{line_entries}
use Rattle.script_replay.specs.Recorded.IsHistory.{kept}
use Rattle.script_replay.specs.Script.{line_of}
use Rattle.script_replay.specs.Stretches.{after_alarm_events, watch_events}
use Rattle.script_replay.specs.declared.script.Command.{Command}
use Rattle.script_replay.specs.declared.script.Command.TheVariants.{Step, Inject, Draw, Show, ShowNode, Newest, Enabled}
use Rattle.script_replay.specs.declared.script.Command.TheVariants.{Ready, Check, CheckNode, Alarm, Watch, Moves}
use Rattle.script_replay.specs.declared.script.Command.TheVariants.{MovesOf, Snapshot, Invariant}
use Rattle.script_replay.specs.declared.script.Line.{Line}
use Rattle.script_replay.specs.declared.script.Line.TheVariants.{Silent, Asks, Bad}
use Rattle.script_replay.specs.declared.status.Status.{Status}
use Rattle.script_replay.specs.declared.status.Status.TheVariants.{Good, FaultsFound, NotEnabled, BadInput}
use Rattle.script_replay.proofs.KeptModulus.{replayed_modulus}
use Rattle.script_replay.proofs.Nodes.{node_of, node_there}
use Rattle.script_replay.proofs.Runs.{if_bad}
use Rattle.script_replay.proofs.TextLines.{first_line}

-- ---- one entry

-- an event that a book has taken is noted
pub event_noted : {L : Type 0} (b : BookView L) (e : Event) (o : Outcome L) (new : BookView L) (receipt : Receipt)
    → length b.entries < b.limit → book_outcome b e o ≡ Ok (new, receipt)
    → new ≡ with_entries b (event_entry e o) (stepped b.config o).0
event_noted {L = L} b e (Ok left) new receipt room is =
    let roomy : is_full b ≡ false = grind (arith, nat_tests) in
    let told : Receipt = record { position = length b.entries + 1; event = e; reply = left.1 } in
    let made : BookView L × Receipt = (with_entry b (entry.Step e) left.0, told) in
    let same : Ok made ≡ Ok (new, receipt) = rw roomy at is in
    let pair : made ≡ (new, receipt) = cc in
    sym (ap (λ (p : BookView L × Receipt). p.0) pair)
event_noted b e (Err refusal) new receipt room is = absurd (cc)

-- the text of a book's history is the history of the lines
pub history_kept : {L T E : Type 0} (m : Meaning L) (c : Configuration L) (script : List ℕ) (b : BookView L)
    (items : T → List ℕ) (r : Result T E) → length script ≤ 1048576 → IsBook m.app m.from_text b → b.opening ≡ c
    → b.entries ≡ entries_of_lines m c 1 (lines_of script)
    → IfOk r (λ t. items t ≡ history_text b.config.modulus b.entries)
    → IfOk r (λ t. IsReadAs (items t) (Ok (b.config.modulus, b.entries))) → IfOk r (λ t. IsHistory m c script (items t))
history_kept m c script b items (Ok t) short is opening entries text read =
    let left : replayed m.app m.from_text c b.entries ≡ Some b.config =
    ap (λ d. replayed m.app m.from_text d b.entries) (sym opening) ∙ is.replay in
    let modulus : b.config.modulus ≡ c.modulus = replayed_modulus m.app m.from_text b.entries c b.config left in
    kept b.entries short entries (subst (λ o. IsSome o) (sym left) refl)
    (subst (λ n. IsReadAs (items t) (Ok (n, b.entries))) modulus read)
    (text ∙ ap (λ n. history_text n b.entries) modulus)
history_kept m c script b items (Err e) short is opening entries text read = tt

-- ---- a node that watches

module _ {L : Type 0} (m : Meaning L) (c : Configuration L) (i : ℕ) where
  abbrev events_if : Bool → Option LinkFault → List Event
  events_if b o = if b then after_alarm_events i o else []

  abbrev told_if : Bool → Option LinkFault → Configuration L × List ℕ
  told_if b o =
      if b then ((after_alarm m c i o).0, alarm_line m c i ++ (after_alarm m c i o).1)
      else (c, refusal_text StrangeNode)

  abbrev left_if : Bool → Option LinkFault → Configuration L
  left_if b o = (told_if b o).0

  events-is : watch_events m c i ≡ events_if (is_node c.graph i) (alarm_of m.app c i)
  unfolding watch_events
  events-is = refl

  left-is : (answered m c (Watch i)).0 ≡ left_if (is_node c.graph i) (alarm_of m.app c i)
  unfolding watched
  left-is = refl

  -- it asks where it has an alarm
  pub alarm_events : (fault : LinkFault) → IsNode c.graph i → alarm_of m.app c i ≡ Some fault
      → watch_events m c i ≡ Request i ∷ []
  alarm_events fault node found = events-is ∙ ap₂ events_if (node_there c i node) found

  pub alarm_left : (fault : LinkFault) → IsNode c.graph i → alarm_of m.app c i ≡ Some fault
      → (answered m c (Watch i)).0 ≡ (stepped c (outcome_of m.app c (Request i))).0
  alarm_left fault node found = left-is ∙ ap₂ left_if (node_there c i node) found

  -- and it does nothing where it has none
  pub no_alarm_events : (IsNode c.graph i → alarm_of m.app c i ≡ None) → watch_events m c i ≡ []
  no_alarm_events none = events-is ∙ go (is_node c.graph i) refl
    where
      go : (b : Bool) → is_node c.graph i ≡ b → events_if b (alarm_of m.app c i) ≡ []
      go true there = ap (events_if true) (none (node_of c i there))
      go false there = refl

  pub no_alarm_left : (IsNode c.graph i → alarm_of m.app c i ≡ None) → (answered m c (Watch i)).0 ≡ c
  no_alarm_left none = left-is ∙ go (is_node c.graph i) refl
    where
      go : (b : Bool) → is_node c.graph i ≡ b → left_if b (alarm_of m.app c i) ≡ c
      go true there = ap (left_if true) (none (node_of c i there))
      go false there = refl

  -- so it is noted
  module _ (b : BookView L) (is : b.config ≡ c) where
    pub quiet_noted : (IsNode c.graph i → alarm_of m.app c i ≡ None)
        → b ≡ with_entries b (line_entries m c (Asks (Watch i))) (answered m c (Watch i)).0
    quiet_noted none =
        let with : List Entry → Configuration L → BookView L =
        λ es left. record { opening = b.opening; entries = es; config = left; limit = b.limit } in
        sym
        (ap₂ (λ es left. with (b.entries ++ flat_map (event_entries m c) es) left) (no_alarm_events none)
        (no_alarm_left none ∙ sym is) ∙ ap (λ es. with es b.config) (append-nil b.entries))

    pub alarm_noted : (fault : LinkFault) → IsNode c.graph i × (alarm_of m.app c i ≡ Some fault) → (new : BookView L)
        → new ≡ with_entries b (event_entries m c (Request i)) (stepped c (outcome_of m.app c (Request i))).0
        → new ≡ with_entries b (line_entries m c (Asks (Watch i))) (answered m c (Watch i)).0
    alarm_noted fault (node, found) new noted =
        let es = event_entries m c (Request i) in
        noted
        ∙ ap₂ (λ xs left. with_entries b xs left)
        (sym (append-nil es) ∙ ap (flat_map (event_entries m c)) (sym (alarm_events fault node found)))
        (sym (alarm_left fault node found))

-- ---- lines

few_event : {L : Type 0} (e : Event) (o : Outcome L) → length (event_entry e o) ≤ 1
few_event e (Ok left) = omega arith
few_event e (Err refusal) = omega arith

few_fault : {L : Type 0} (f : Fault) (o : Result (Configuration L) FaultRefusal) → length (fault_entry f o) ≤ 1
few_fault f (Ok left) = omega arith
few_fault f (Err refusal) = omega arith

-- a line takes its bytes and a line feed
pub cut_length : (rest line after : List ℕ) → lines_of rest ≡ line ∷ lines_of after
    → length rest ≡ length line + 1 + length after
cut_length rest line after found =
    let whole = ap length (first_line rest line after found) in
    omega (arith, whole, length-append (ended line) after, length-append line (10 ∷ []))

module _ {L : Type 0} (m : Meaning L) where
  few_asked : (c : Configuration L) (i : ℕ) (o : Option LinkFault)
      → length (flat_map (event_entries m c) (after_alarm_events i o)) ≤ 1
  few_asked c i None = omega arith
  few_asked c i (Some fault) =
      let one = few_event (Request i) (outcome_of m.app c (Request i)) in
      omega (arith, length-append (event_entries m c (Request i)) [])

  few_watched : (c : Configuration L) (i : ℕ) → length (flat_map (event_entries m c) (watch_events m c i)) ≤ 1
  few_watched c i = go (is_node c.graph i) (events-is m c i)
    where
      go : (b : Bool) → watch_events m c i ≡ events_if m c i b (alarm_of m.app c i)
          → length (flat_map (event_entries m c) (watch_events m c i)) ≤ 1
      go true is = rw is (few_asked c i (alarm_of m.app c i))
      go false is = rw is (omega arith)

  few_command : (c : Configuration L) (command : Command) → length (line_entries m c (Asks command)) ≤ 1
  few_command c (Step e) = few_event e (outcome_of m.app c e)
  few_command c (Inject f) = few_fault f _
  few_command c (Draw seed) = few_fault _ _
  few_command c Show = omega arith
  few_command c (ShowNode i) = omega arith
  few_command c Newest = omega arith
  few_command c (Enabled i) = omega arith
  few_command c Ready = omega arith
  few_command c Check = omega arith
  few_command c (CheckNode i) = omega arith
  few_command c (Alarm i) = omega arith
  few_command c (Watch i) = few_watched c i
  few_command c Moves = omega arith
  few_command c (MovesOf i) = omega arith
  few_command c Snapshot = omega arith
  few_command c Invariant = omega arith

  few_entries : (c : Configuration L) (line : Line) → length (line_entries m c line) ≤ 1
  few_entries c Silent = omega arith
  few_entries c (Asks command) = few_command c command
  few_entries c Bad = omega arith

  -- a line with an entry has a byte
  pub short_line : (c : Configuration L) (line : List ℕ)
      → 2 * length (line_entries m c (line_of m.names line)) ≤ length line + 1
  short_line c [] = omega arith
  short_line c (byte ∷ bytes) = let few = few_entries c (line_of m.names (byte ∷ bytes)) in omega arith

  abbrev more : Configuration L → ℕ → Line → List (List ℕ) → List Entry
  more c n line lines =
      let a = answer_to m c n line in
      line_entries m c line ++ if_good a.status (entries_of_lines m a.config (n + 1) lines) []

  entries-more : (c : Configuration L) (n : ℕ) (line : List ℕ) (lines : List (List ℕ))
      → entries_of_lines m c n (line ∷ lines) ≡ more c n (line_of m.names line) lines
  unfolding entries_of_lines
  entries-more c n line lines = refl

  entries-none : (c : Configuration L) (n : ℕ) → entries_of_lines m c n [] ≡ []
  unfolding entries_of_lines
  entries-none c n = refl

  nothing_after : (s : Status) (es : List Entry) → es ≡ [] → if_good s es [] ≡ []
  nothing_after Good es none = none
  nothing_after FaultsFound es none = refl
  nothing_after NotEnabled es none = refl
  nothing_after BadInput es none = refl

  -- the entries of the lines that are left, after those that a book has
  module _ (all : List Entry) (old new : BookView L) (n : ℕ) (lines later : List (List ℕ)) (line : List ℕ)
      (status : Status) (left : all ≡ old.entries ++ entries_of_lines m old.config n lines)
      (first : lines ≡ line ∷ later) (noted : IsNoted m (line_of m.names line) old new status) where
    abbrev after : Answer L
    after = answer_to m old.config n (line_of m.names line)

    entries_are : new.entries ≡ old.entries ++ line_entries m old.config (line_of m.names line)
    entries_are = ap (λ (b : BookView L). b.entries) (noted.book n)

    all_are : all ≡ new.entries ++ if_good after.status (entries_of_lines m after.config (n + 1) later) []
    all_are =
        let es = line_entries m old.config (line_of m.names line) in
        let rest : List Entry = if_good after.status (entries_of_lines m after.config (n + 1) later) [] in
        left ∙ ap (λ ls. old.entries ++ entries_of_lines m old.config n ls) first
        ∙ ap (λ xs. old.entries ++ xs) (entries-more old.config n line later)
        ∙ sym (append_assoc old.entries es rest) ∙ ap (λ xs. xs ++ rest) (sym entries_are)

    pub noted_good : status ≡ Good → all ≡ new.entries ++ entries_of_lines m new.config (n + 1) later
    noted_good good =
        all_are
        ∙ ap (λ s. new.entries ++ if_good s (entries_of_lines m after.config (n + 1) later) [])
        (sym (noted.good n) ∙ good)
        ∙ ap (λ c. new.entries ++ entries_of_lines m c (n + 1) later)
        (sym (ap (λ (b : BookView L). b.config) (noted.book n)))

    pub noted_bad : status ≢ Good → all ≡ new.entries
    noted_bad bad =
        all_are
        ∙ ap (λ xs. new.entries ++ xs)
        (if_bad after.status (entries_of_lines m after.config (n + 1) later) [] (λ good. bad (noted.good n ∙ good)))
        ∙ append-nil new.entries

    pub noted_last : later ≡ [] → all ≡ new.entries
    noted_last none =
        all_are
        ∙ ap (λ xs. new.entries ++ xs)
        (nothing_after after.status (entries_of_lines m after.config (n + 1) later)
        (ap (λ ls. entries_of_lines m after.config (n + 1) ls) none ∙ entries-none after.config (n + 1)))
        ∙ append-nil new.entries

    -- and there is room for them
    pub noted_room : (bytes whole : ℕ) → 2 * length old.entries + (length line + 1 + bytes) ≤ whole
        → 2 * length new.entries + bytes ≤ whole
    noted_room bytes whole room =
        let few = short_line old.config line in
        let count = ap length entries_are in
        omega (arith, count, few, length-append old.entries (line_entries m old.config (line_of m.names line)))

    pub noted_limit : new.limit ≡ old.limit
    noted_limit = ap (λ (b : BookView L). b.limit) (noted.book n)

    pub noted_opening : new.opening ≡ old.opening
    noted_opening = ap (λ (b : BookView L). b.opening) (noted.book n)
