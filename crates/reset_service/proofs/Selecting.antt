-- What a run of node threads comes to where a node may be selected.
use Rattle.std.proofs.Common.{◌≡◌, ◌≢◌, ◌<◌, ℕ, List, [], Option, None, Some, Result, Ok, Err, IfOk, IfSome, MatchOption}
use Rattle.std.proofs.Common.{Contains, drop, length, slice_get, ap, refl, subst, sym, ◌∙◌, ◌≤◌}
use Rattle.std.specs.Option.{option_or}
use Rattle.topology.specs.Graph.{Graph, IsNode}
use Rattle.topology.specs.TopologyText.{IsReadFault}
use Rattle.topology.specs.declared.text.AppName.{AppName}
use Rattle.topology.specs.declared.text.ReadFault.{ReadFault}
use Rattle.reset_model.specs.Configuration.{Configuration}
use Rattle.applications.specs.Meaning.{Meaning}
use Rattle.applications.proofs.Choosing.{follows}
use Rattle.history.specs.Book.{BookView}
use Rattle.history.specs.HistoryText.{IsReadAs}
use Rattle.history.specs.Stretches.{steps}
use Rattle.history.specs.declared.entry.Entry.{Entry}
use Rattle.node_threads.specs.Requests.{AsksAtMost, requests_at, requests_in}
use Rattle.node_threads.specs.declared.tasks.Task.{Task}
use Rattle.node_threads.specs.declared.run.RunCause.{RunCause}
use Rattle.node_threads.specs.declared.run.RunCause.TheVariants.{StrangeNode, TooManyForThreads}
use Rattle.script_replay.specs.Output.{Describes, IsJudged, bad_topology_text}
use Rattle.script_replay.specs.Output.IsJudged.{bad_topology, good_topology}
use Rattle.script_replay.specs.declared.status.RunStop.{RunStop}
use Rattle.script_replay.specs.declared.status.Status.{Status}
use Rattle.script_replay.specs.declared.status.Status.TheVariants.{BadInput, Good}
use Rattle.reset_service.specs.Begun.{IsBegunFrom, IsBegunOf, IsBegunText, RunsThreads}
use Rattle.reset_service.specs.Begun.IsBegunFrom.{bad_snapshot as begun_badly, begun as begun_well}
use Rattle.reset_service.specs.Opened.{IsOpenedFrom, IsOpenedOf}
use Rattle.reset_service.specs.Opened.IsOpenedFrom.{bad_snapshot, opened}
use Rattle.reset_service.specs.Selected.{AsksAsRun, IsSelected, IsSelectedText, IsToldOf, RunsSelected, task_of}
use Rattle.reset_service.specs.Selected.IsSelected.{ran, strange_node}
use Rattle.reset_service.specs.Selected.IsToldOf.{many, strange}
use Rattle.reset_service.specs.Threaded.{IsKept, IsKeptFrom, IsKeptOf, IsThreaded, told_history, told_output}
use Rattle.reset_service.specs.Threaded.IsKept.{too_many}
use Rattle.reset_service.specs.declared.threaded.ThreadRun.{ThreadRun}
use Rattle.reset_service.specs.declared.told.Told.{Told}
use Rattle.reset_service.proofs.Beginning.{begun}

abbrev Output : Type 0
Output = List ℕ × Status

-- ---- what the nodes do

named : (run : ThreadRun) (g : Graph) (i : ℕ) → run.selected ≡ Some i → (task_of run g).selected ≡ Some i
named run g i is = ap (λ s. option_or s (slice_get g.nodes 0)) is

-- the entries of a history are those of the book, of which the run says how many are requests
pub asks_as_run : {L : Type 0} (run : ThreadRun) (c : Configuration L) (first b : BookView L) (task : Task)
    (history : List ℕ) → first.entries ≡ [] → b.config.graph.nodes ≡ c.graph.nodes → task ≡ task_of run c.graph
    → AsksAtMost task first b
    → ((modulus : ℕ) (es : List Entry) → IsReadAs history (Ok (modulus, es)) → es ≡ b.entries)
    → AsksAsRun run c history
asks_as_run run c first b task history none nodes is asked text = λ events read i node.
    let most : requests_in (drop (length first.entries) b.entries) i ≤ requests_at task i =
    asked i (subst (λ ns. Contains ns i) (sym nodes) node) in
    subst (λ t. requests_in (steps events) i ≤ requests_at t i) is
    (subst (λ es. requests_in es i ≤ requests_at task i) (sym (text c.modulus (steps events) read))
    (subst (λ (es : List Entry). requests_in (drop (length es) b.entries) i ≤ requests_at task i) none most))

-- ---- from a configuration on

module _ {L : Type 0} (m : Meaning L) (run : ThreadRun) (c : Configuration L) (task : Task) (g : Graph)
    (same : g ≡ c.graph) (is : task ≡ task_of run c.graph) where
  chosen : (i : ℕ) → run.selected ≡ Some i → task.selected ≡ Some i
  chosen i selected = ap (λ (t : Task). t.selected) is ∙ named run c.graph i selected

  there : (named : Option ℕ) → run.selected ≡ named → IfSome task.selected (λ i. IsNode g i)
      → IfSome named (λ i. IsNode c.graph i)
  there None by has = tt
  there (Some i) by has =
      subst (λ h. IsNode h i) same (subst (λ s. IfSome s (λ k. IsNode g k)) (chosen i by) has)

  pub ran_there : IfSome task.selected (λ i. IsNode g i) → {history : List ℕ} → {output : Output}
      → IsKept m c history output → (output.1 ≡ Good → AsksAsRun run c history) → IsSelected m run c history output
  ran_there has kept asked = ran (there run.selected refl has) kept asked

  told_by : (what : Told) (cause : RunCause)
      → (cause ≡ StrangeNode → MatchOption task.selected ⊥ (λ i. IsNode g i → ⊥))
      → (cause ≢ StrangeNode → IfSome task.selected (λ i. IsNode g i))
      → (cause ≡ TooManyForThreads → 64 < length g.nodes) → IsToldOf run cause what
      → IsSelected m run c (told_history what) (told_output what)
  told_by what cause apart has more (strange i by why told) =
      let none : IsNode g i → ⊥ = subst (λ s. MatchOption s ⊥ (λ k. IsNode g k → ⊥)) (chosen i by) (apart why) in
      subst (λ w. IsSelected m run c (told_history w) (told_output w)) (sym told)
      (strange_node i by (subst (λ h. IsNode h i → ⊥) same none) refl)
  told_by what cause apart has more (many why told) =
      let other : cause ≢ StrangeNode = λ other. absurd (cc) in
      subst (λ w. IsSelected m run c (told_history w) (told_output w)) (sym told)
      (ran_there (has other) (too_many (subst (λ h. 64 < length h.nodes) same (more why)) refl) (λ good. absurd (cc)))

  pub stopped_told : (r : Result Told RunStop) (cause : RunCause)
      → (cause ≡ StrangeNode → MatchOption task.selected ⊥ (λ i. IsNode g i → ⊥))
      → (cause ≢ StrangeNode → IfSome task.selected (λ i. IsNode g i))
      → (cause ≡ TooManyForThreads → 64 < length g.nodes) → IfOk r (IsToldOf run cause)
      → IfOk r (λ told. IsSelected m run c (told_history told) (told_output told))
  stopped_told (Ok what) cause apart has more told = told_by what cause apart has more told
  stopped_told (Err stop) cause apart has more told = tt

-- and nothing is kept
unkept_by : (run : ThreadRun) (what : Told) (cause : RunCause) → IsToldOf run cause what → told_history what ≡ []
unkept_by run what cause (strange i is why told) = ap told_history told
unkept_by run what cause (many why told) = ap told_history told

pub stopped_unkept : (run : ThreadRun) (r : Result Told RunStop) (cause : RunCause) → IfOk r (IsToldOf run cause)
    → IfOk r (λ told. (told_output told).1 ≡ BadInput → told_history told ≡ [])
stopped_unkept run (Ok what) cause is = λ _. unkept_by run what cause is
stopped_unkept run (Err stop) cause is = tt

-- ---- from the texts of a topology and of a snapshot

module _ (run : ThreadRun) (topology : List ℕ) (snapshot : Option (List ℕ)) where
  pub told_selected : (g : Graph) (app : AppName) (modulus : ℕ) (describes : Describes topology g app modulus)
      (r : Result Told RunStop)
      → IfOk r (λ told. IsOpenedOf (RunsSelected run (told_history told)) app g modulus snapshot (told_output told))
      → IfOk r (λ told. (told_output told).1 ≡ BadInput → told_history told ≡ [])
      → IfOk r (λ told. IsSelectedText run topology snapshot (told_history told) (told_output told))
  told_selected g app modulus describes (Ok told) is unkept =
      record { judged = good_topology g app modulus describes is; unkept = unkept }
  told_selected g app modulus describes (Err stop) is unkept = tt

  pub unselected : (f : ReadFault) → IsReadFault topology f
      → IsSelectedText run topology snapshot [] (bad_topology_text f, BadInput)
  unselected f is = record { judged = bad_topology f is refl; unkept = λ _. refl }

-- ---- where no node is named

module _ (run : ThreadRun) (none : run.selected ≡ None) where
  plain_kept : {L : Type 0} (m : Meaning L) (c : Configuration L) (history : List ℕ) (output : Output)
      → IsSelected m run c history output → IsKept m c history output
  plain_kept m c history output (strange_node i is apart told) = absurd (cc)
  plain_kept m c history output (ran there kept asked) = kept

  -- from the booted configuration

  booted : {L : Type 0} (m : Meaning L) (g : Graph) (modulus : ℕ) (history : List ℕ) (output : Output)
      → IsOpenedFrom m g modulus None (RunsSelected run history L m) output → IsKeptFrom m g modulus history output
  booted m g modulus history output (bad_snapshot f is told) = absurd is
  booted m g modulus history output (opened c boot follows) = (c, boot, plain_kept m c history output follows)

  booted_of : (app : AppName) (g : Graph) (modulus : ℕ) (history : List ℕ) (output : Output)
      → IsOpenedOf (RunsSelected run history) app g modulus None output → IsKeptOf app g modulus history output
  booted_of app g modulus history output =
      follows (λ L m. IsOpenedFrom m g modulus None (RunsSelected run history L m) output)
      (λ L m. IsKeptFrom m g modulus history output) (λ L m. booted m g modulus history output) app

  booted_text : (topology history : List ℕ) (output : Output)
      → IsJudged (λ app g modulus. IsOpenedOf (RunsSelected run history) app g modulus None) topology output
      → IsJudged (λ app g modulus. IsKeptOf app g modulus history) topology output
  booted_text topology history output (bad_topology f is told) = bad_topology f is told
  booted_text topology history output (good_topology g app modulus describes follows) =
      good_topology g app modulus describes (booted_of app g modulus history output follows)

  pub plain_threaded : (topology history : List ℕ) (output : Output)
      → IsSelectedText run topology None history output → IsThreaded topology history output
  plain_threaded topology history output is =
      record { judged = booted_text topology history output is.judged; unkept = is.unkept }

  -- from a snapshot

  begun_by : {L : Type 0} (m : Meaning L) (g : Graph) (modulus : ℕ) (snapshot history : List ℕ) (output : Output)
      → (output.1 ≡ BadInput → history ≡ [])
      → IsOpenedFrom m g modulus (Some snapshot) (RunsSelected run history L m) output
      → IsBegunFrom m g modulus snapshot (RunsThreads L m) history output
  begun_by m g modulus snapshot history output unkept (bad_snapshot f is told) =
      begun_badly f is (unkept (ap (λ (o : Output). o.1) told)) told
  begun_by m g modulus snapshot history output unkept (opened c named follows) =
      begun_well c named.0 named.1 (plain_kept m c history output follows, unkept)

  begun_of : (app : AppName) (g : Graph) (modulus : ℕ) (snapshot history : List ℕ) (output : Output)
      → (output.1 ≡ BadInput → history ≡ [])
      → IsOpenedOf (RunsSelected run history) app g modulus (Some snapshot) output
      → IsBegunOf RunsThreads app g modulus snapshot history output
  begun_of app g modulus snapshot history output unkept =
      follows (λ L m. IsOpenedFrom m g modulus (Some snapshot) (RunsSelected run history L m) output)
      (λ L m. IsBegunFrom m g modulus snapshot (RunsThreads L m) history output)
      (λ L m. begun_by m g modulus snapshot history output unkept) app

  pub plain_begun : (topology snapshot history : List ℕ) (output : Output)
      → IsSelectedText run topology (Some snapshot) history output
      → IsBegunText RunsThreads topology snapshot history output
  plain_begun topology snapshot history output is = by is.judged
    where
      by : IsJudged (λ app g modulus. IsOpenedOf (RunsSelected run history) app g modulus (Some snapshot)) topology output
          → IsBegunText RunsThreads topology snapshot history output
      by (bad_topology f bad told) = record {
        judged = bad_topology f bad told;
        unkept = λ e other. is.unkept (ap (λ (o : Output). o.1) told);
      }
      by (good_topology g app modulus describes follows) =
          begun RunsThreads topology snapshot g app modulus describes history output
          (begun_of app g modulus snapshot history output is.unkept follows)
