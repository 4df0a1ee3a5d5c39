-- What the lines of a script leave between two faults is what their events leave.
use Rattle.std.proofs.Common.{◌≡◌, ℕ, ◌+◌, Bool, true, false, if◌then◌else◌, List, [], ◌∷◌, ◌++◌, Option, Some, None}
use Rattle.std.proofs.Common.{Result, Ok, Err, refl, sym, subst, ◌∙◌}
use Rattle.std.proofs.lemmas.List.Elements.{All-head, All-tail}
use Rattle.topology.specs.Graph.{IsGraph, is_node}
use Rattle.applications.specs.Meaning.{Meaning}
use Rattle.link_predicates.specs.Faults.{alarm_of}
use Rattle.link_predicates.specs.declared.fault.LinkFault.{LinkFault}
use Rattle.reset_model.specs.Configuration.{Configuration, IsShaped}
use Rattle.reset_model.specs.Planned.{outcome_of}
use Rattle.reset_model.specs.Runs.{IsDone, IsRun}
use Rattle.reset_model.specs.declared.event.Event.{Event}
use Rattle.reset_model.specs.declared.step.Reply.{Reply}
use Rattle.reset_model.specs.declared.step.StepRefusal.{StepRefusal}
use Rattle.reset_model.specs.declared.step.StepRefusal.TheVariants.{StrangeNode}
use Rattle.reset_model.proofs.RunShadows.{step_graph}
use Rattle.reset_model.proofs.RunSteps.{applied_done, refused_done}
use Rattle.reset_model.proofs.Shapes.{outcome_shaped}
use Rattle.script_replay.specs.Output.{after_alarm, answer_to, answered, answers, answers_by, if_good, refusal_text}
use Rattle.script_replay.specs.Output.{stepped, told_after, watched, Answer}
use Rattle.script_replay.specs.Script.{line_of}
use Rattle.script_replay.specs.Stretches.{AreUndisturbed, IsUndisturbed, MakeRun, event_answer, event_answers}
use Rattle.script_replay.specs.Stretches.{events_of_lines, line_events, after_alarm_events, watch_events}
use Rattle.script_replay.specs.declared.script.Command.{Command}
use Rattle.script_replay.specs.declared.script.Command.TheVariants.{Step, Inject, Draw, Show, ShowNode, Newest, Enabled}
use Rattle.script_replay.specs.declared.script.Command.TheVariants.{Ready, Check, CheckNode, Alarm, Watch, Moves}
use Rattle.script_replay.specs.declared.script.Command.TheVariants.{MovesOf, Snapshot, Invariant}
use Rattle.script_replay.specs.declared.script.Line.{Line}
use Rattle.script_replay.specs.declared.script.Line.TheVariants.{Silent, Asks, Bad}

module _ {L : Type 0} (m : Meaning L) where
  -- ---- events

  -- what an event leaves, and what events leave in turn
  abbrev next : Configuration L → Event → Configuration L
  next c e = (stepped c (outcome_of m.app c e)).0

  abbrev left : Configuration L → List Event → Configuration L
  left c [] = c
  left c (e ∷ es) = left (next c e) es

  is_answer : (c : Configuration L) (e : Event) (o : Result (Configuration L × Reply) StepRefusal)
      → IsGraph c.graph → IsShaped c → outcome_of m.app c e ≡ o
      → IsDone m.app c e (event_answer o) (stepped c o).0
  is_answer c e (Ok r) graph shaped is = applied_done m.app c r.0 e r.1 graph shaped is
  is_answer c e (Err refusal) graph shaped is = refused_done m.app c e refusal graph shaped is

  -- an event leaves a graph and its shape
  stays : (c : Configuration L) (e : Event) (o : Result (Configuration L × Reply) StepRefusal)
      → IsGraph c.graph → IsShaped c → outcome_of m.app c e ≡ o
      → IsGraph (stepped c o).0.graph × IsShaped (stepped c o).0
  stays c e (Ok r) graph shaped is =
      let step = (applied_done m.app c r.0 e r.1 graph shaped is).0 in
      (subst IsGraph (sym (step_graph m.app c r.0 e step)) graph, outcome_shaped m.app c shaped e r.0 r.1 is)
  stays c e (Err refusal) graph shaped is = (graph, shaped)

  is_run : (c : Configuration L) (es : List Event) → IsGraph c.graph → IsShaped c
      → IsRun m.app c es (event_answers m.app c es) (left c es)
  is_run c [] graph shaped = refl
  is_run c (e ∷ es) graph shaped =
      let o = outcome_of m.app c e in
      let there = stays c e o graph shaped refl in
      (next c e, is_answer c e o graph shaped refl, is_run (next c e) es there.0 there.1)

  -- ---- a node that watches

  watched_by : (c : Configuration L) (i : ℕ) (o : Option LinkFault) (es : List Event)
      → left c (after_alarm_events i o ++ es) ≡ left (after_alarm m c i o).0 es
  watched_by c i None es = refl
  watched_by c i (Some fault) es = refl

  watched_left : (c : Configuration L) (i : ℕ) (b : Bool) (es : List Event)
      → left c ((if b then after_alarm_events i (alarm_of m.app c i) else []) ++ es)
      ≡ left (if b then watched m c i else (c, refusal_text StrangeNode)).0 es
  unfolding watched
  watched_left c i true es = watched_by c i (alarm_of m.app c i) es
  watched_left c i false es = refl

  watch_left : (c : Configuration L) (i : ℕ) (es : List Event)
      → left c (watch_events m c i ++ es) ≡ left (answered m c (Watch i)).0 es
  unfolding watch_events
  watch_left c i es = watched_left c i (is_node c.graph i) es

  -- ---- lines

  command_left : (c : Configuration L) (command : Command) (es : List Event) → IsUndisturbed (Asks command)
      → left c (line_events m c (Asks command) ++ es) ≡ left (answered m c command).0 es
  command_left c (Step e) es calm = refl
  command_left c (Inject f) es calm = absurd calm
  command_left c (Draw seed) es calm = absurd calm
  command_left c Show es calm = refl
  command_left c (ShowNode i) es calm = refl
  command_left c Newest es calm = refl
  command_left c (Enabled i) es calm = refl
  command_left c Ready es calm = refl
  command_left c Check es calm = refl
  command_left c (CheckNode i) es calm = refl
  command_left c (Alarm i) es calm = refl
  command_left c (Watch i) es calm = watch_left c i es
  command_left c Moves es calm = refl
  command_left c (MovesOf i) es calm = refl
  command_left c Snapshot es calm = refl
  command_left c Invariant es calm = refl

  abbrev Leave : ℕ → List (List ℕ) → Type 0
  Leave n lines = (c : Configuration L) → (answers m c n lines).config ≡ left c (events_of_lines m c n lines)

  abbrev more : Configuration L → ℕ → Line → List (List ℕ) → Answer L
  more c n line lines = let a =
      answer_to m c n line in if_good a.status (told_after a.text (answers m a.config (n + 1) lines)) a

  abbrev more_events : Configuration L → ℕ → Line → List (List ℕ) → List Event
  more_events c n line lines =
      let a = answer_to m c n line in line_events m c line
      ++ if_good a.status (events_of_lines m a.config (n + 1) lines) []

  line_left : (c : Configuration L) (n : ℕ) (line : Line) (lines : List (List ℕ)) → IsUndisturbed line
      → Leave (n + 1) lines
      → (more c n line lines).config ≡ left c (more_events c n line lines)
  line_left c n Silent lines calm rest = rest c
  line_left c n (Asks command) lines calm rest =
      let d = (answered m c command).0 in
      rest d ∙ sym (command_left c command (events_of_lines m d (n + 1) lines) calm)
  line_left c n Bad lines calm rest = refl

  none_left : (n : ℕ) → Leave n []
  unfolding answers_by events_of_lines
  none_left n c = refl

  some_left : (c : Configuration L) (n : ℕ) (line : List ℕ) (lines : List (List ℕ))
      → IsUndisturbed (line_of m.names line) → Leave (n + 1) lines
      → (answers m c n (line ∷ lines)).config ≡ left c (events_of_lines m c n (line ∷ lines))
  unfolding answers_by events_of_lines
  some_left c n line lines calm rest = line_left c n (line_of m.names line) lines calm rest

  lines_left : (lines : List (List ℕ)) (n : ℕ) → AreUndisturbed m.names lines → Leave n lines
  lines_left [] n calm = none_left n
  lines_left (line ∷ lines) n calm =
      let P : List ℕ → Type 0 = λ l. IsUndisturbed (line_of m.names l) in
      λ c. some_left c n line lines (All-head P line lines calm) (lines_left lines (n + 1) (All-tail P line lines calm))

  pub lines_make_run : (c : Configuration L) (n : ℕ) (lines : List (List ℕ)) → AreUndisturbed m.names lines
      → IsGraph c.graph → IsShaped c → MakeRun m c n lines
  lines_make_run c n lines calm graph shaped =
      let es = events_of_lines m c n lines in
      subst (λ d. IsRun m.app c es (event_answers m.app c es) d) (sym (lines_left lines n calm c)) (is_run c es graph shaped)
