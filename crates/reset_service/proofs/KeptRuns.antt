-- What node threads keep is a run of the abstract machine, whose reports are true.
use Rattle.std.proofs.Common.{◌≡◌, ◌<◌, ◌≤◌, ◌+◌, ℕ, Bool, true, false, if◌then◌else◌, nat_eq, List, [], ◌∷◌}
use Rattle.std.proofs.Common.{All, Contains, IsSome, Ok, Option, Some, None, ◌↔◌, arith, length, map, refl, sym}
use Rattle.std.proofs.Common.{ap, ◌∙◌, inl, subst, append-nil}
use Rattle.std.proofs.lemmas.Bool.{eqb-true}
use Rattle.std.proofs.lemmas.List.{length-append, length-map}
use Rattle.std.proofs.lemmas.List.Elements.{All-contains, All-contains_itself, All-weaker}
use Rattle.app_interface.specs.Application.{App}
use Rattle.app_interface.specs.Invariant.{Keeps, StartsByComponent}
use Rattle.topology.specs.Components.{component}
use Rattle.topology.specs.Graph.{Graph, IsConnected, IsGraph, IsNode}
use Rattle.topology.proofs.Components.{component_is, reached_itself}
use Rattle.topology.specs.declared.text.AppName.{AppName}
use Rattle.reset_model.specs.declared.event.Event.{Event}
use Rattle.reset_model.specs.Configuration.{Configuration, IsShaped, local_of, value_at}
use Rattle.reset_model.specs.BySteps.{IsBySteps}
use Rattle.reset_model.specs.Outcome.{IsBoot}
use Rattle.reset_model.specs.Refinement.{abstract_of}
use Rattle.reset_model.specs.Sound.{IsSound}
use Rattle.reset_model.specs.SoundSteps.{HoldsAt}
use Rattle.applications.specs.Choice.{ForInvariant}
use Rattle.applications.specs.Meaning.{Meaning}
use Rattle.applications.proofs.Choosing.{follows, invariant_follows, some_for}
use Rattle.history.specs.Entries.{replayed}
use Rattle.history.specs.HistoryText.{IsReadAs}
use Rattle.history.specs.Reports.{reports_of}
use Rattle.history.specs.Stretches.{IsIn, IsReport, IsStretch, IsTrueReport, Stretch, steps}
use Rattle.history.specs.declared.entry.Entry.{Entry}
use Rattle.history.specs.declared.entry.Entry.TheVariants.{Step}
use Rattle.history.specs.declared.entry.Report.{Report}
use Rattle.script_replay.specs.Output.{Describes, IsJudged}
use Rattle.script_replay.specs.Output.IsJudged.{bad_topology, good_topology}
use Rattle.reset_service.specs.Threaded.{IsKept, IsKeptFrom, IsKeptOf, IsThreaded, TellsRun, TellsRunOf}
use Rattle.reset_service.specs.Threaded.{threads_line, whole}
use Rattle.reset_service.specs.Threaded.IsKept.{too_many, kept}
use Rattle.reset_service.specs.Verified.{IsVerification, IsVerifiedFrom, IsVerifiedOf, verified_text}
use Rattle.reset_service.specs.Verified.IsVerified.{allowed}
use Rattle.script_replay.specs.declared.status.Status.{Status}
use Rattle.script_replay.specs.declared.status.Status.TheVariants.{BadInput, Good}
use Rattle.reset_service.proofs.ReadModuli.{read_modulus}
use Rattle.reset_service.proofs.VerifiedReports.{has_graph, is_shaped, is_sound}

abbrev Output : Type 0
Output = List ℕ × Status

-- ---- a booted configuration has the invariant

start_value : {L : Type 0} (f : ℕ → L) (ids : List ℕ) (i : ℕ) → value_at (f i) ids (map f ids) i ≡ f i
start_value f [] i = refl
start_value f (k ∷ ks) i = by_place (nat_eq k i) refl (start_value f ks i)
  where
    by_place : (b : Bool) → nat_eq k i ≡ b → value_at (f i) ks (map f ks) i ≡ f i
        → (if b then f k else value_at (f i) ks (map f ks) i) ≡ f i
    by_place true e rest = ap f (eqb-true k i e)
    by_place false e rest = rest

either_way : {L : Type 0} (b : Bool) (x y : L) → x ≡ y → (if b then x else y) ≡ y
either_way true x y e = e
either_way false x y e = refl

pub booted_invariant : {L : Type 0} (app : App L) (Inv : Graph → (ℕ → L) → Type 0)
    → StartsByComponent app
    → ((g : Graph) (bound : ℕ) → IsGraph g → IsConnected g → 0 < length g.nodes → length g.ids ≤ bound
    → Keeps app g bound (Inv g))
    → (g : Graph) (modulus : ℕ) (c : Configuration L) → IsGraph g → IsBoot app g modulus c
    → (i : ℕ) → IsNode c.graph i → HoldsAt app Inv c i
booted_invariant {L = L} app Inv starts keeps g modulus c graph boot i node =
    let here : IsGraph c.graph = subst IsGraph (sym boot.graph) graph in
    let part = component_is c.graph i here node in
    let itself = (part.same_nodes i).1 (reached_itself c.graph i) in
    let known =
    keeps (component c.graph i) (length (component c.graph i).ids) part.as_graph part.connected
    (omega (arith, itself.1)) (omega arith) in
    let locals : c.locals ≡ map (app.start c.graph) c.graph.ids =
    boot.locals ∙ ap (λ (h : Graph). map (app.start h) h.ids) (sym boot.graph) in
    known.same (app.start (component c.graph i)) (abstract_of app c)
    (λ j there. either_way _ (local_of app c j) (app.start c.graph j)
    (ap (λ xs. value_at (app.start c.graph j) c.graph.ids xs j) locals ∙ start_value (app.start c.graph) c.graph.ids j)
    ∙ sym (starts c.graph i j here node ((part.same_nodes j).0 there)))
    known.starts

-- ---- all that was kept is one stretch

module _ {L : Type 0} (m : Meaning L) (Inv : Graph → (ℕ → L) → Type 0) where
  abbrev pub AreReports : Type 0
  AreReports =
      (opening : Configuration L) (es : List Entry) (r : Report)
      → (Contains (reports_of m.app m.from_text opening es) r ↔ IsReport m.app m.from_text opening es r)

  abbrev pub AreTrue : Type 0
  AreTrue =
      (opening : Configuration L) (es : List Entry) (s : Stretch L) → IsGraph opening.graph
      → IsShaped opening → IsStretch m.app m.from_text opening es s → IsSound s.here
      → All (λ r. IsIn s r.finished → IsTrueReport m.app m.from_text opening es s r)
      (reports_of m.app m.from_text opening es)

  -- that stretches are steps, as it is known of any entries
  abbrev pub AreSteps : Type 0
  AreSteps =
      (opening : Configuration L) (es : List Entry) (s : Stretch L) → IsGraph opening.graph
      → IsShaped opening → IsStretch m.app m.from_text opening es s → IsSound s.here
      → IsBySteps m.app Inv s.here s.events s.left

  abbrev pub HoldBooted : Type 0
  HoldBooted =
      (g : Graph) (modulus : ℕ) (c : Configuration L) → IsGraph g → IsBoot m.app g modulus c
      → (i : ℕ) → IsNode c.graph i → HoldsAt m.app Inv c i

  pub whole_stretch : (c left : Configuration L) (events : List Event)
      → replayed m.app m.from_text c (steps events) ≡ Some left
      → IsStretch m.app m.from_text c (steps events) (whole c events left)
  unfolding replayed
  whole_stretch c left events is =
      record { split = sym (append-nil (steps events)); begins = refl; ends = is }

  -- each report is in it
  inside : (c left : Configuration L) (events : List Event) (r : Report)
      → IsReport m.app m.from_text c (steps events) r → IsIn (whole c events left) r.finished
  inside c left events r is =
      let before = is.told.before in
      let count : length (steps events) ≡ length before + length (Step is.event ∷ is.told.rest) =
      ap length is.told.split ∙ length-append before (Step is.event ∷ is.told.rest) in
      let all : length (steps events) ≡ length events = length-map events (λ e. Step e) in (
        omega (arith, is.told.place),
        omega (arith, is.told.place, count, all),
      )

  pub value_of : {X : Type 0} (o : Option X) → IsSome o → (x : X) × (o ≡ Some x)
  value_of (Some x) is = (x, refl)
  value_of None is = absurd (cc)

  module _ (are : AreReports) (are_true : AreTrue) (are_steps : AreSteps) (hold : HoldBooted) (g : Graph)
      (graph : IsGraph g) (modulus : ℕ) where
    tells : (history line : List ℕ) (c : Configuration L) → IsBoot m.app g modulus c
        → IsKept m c history (line, Good) → TellsRun m Inv g modulus history line
    tells history line c boot (too_many many is) =
        let other : Good ≡ BadInput = ap (λ (o : Output). o.1) is in absurd (cc)
    tells history line c boot (kept events few read some is) =
        let es = steps events in
        let end = value_of (replayed m.app m.from_text c es) some in
        let left = end.0 in
        let s = whole c events left in
        let stretch = whole_stretch c left events end.1 in
        let here = has_graph m g graph modulus c boot in
        let shaped = is_shaped m g graph modulus c boot (read_modulus history c.modulus es read) in
        let sound = is_sound m g graph modulus c boot in
        let lawful : IsBySteps m.app Inv c events left = are_steps c es s here shaped stretch sound in
        let reports = reports_of m.app m.from_text c es in
        let known = are_true c es s here shaped stretch sound in
        record {
          opening = c;
          events = events;
          left = left;
          booted = boot;
          sound = sound;
          read = subst (λ k. IsReadAs history (Ok (k, es))) boot.modulus read;
          stretch = stretch;
          lawful = lawful;
          invariant = λ i node.
              let before : IsNode c.graph i = subst (λ h. IsNode h i) (sym boot.graph) node in
              lawful.headline.keeps i before (inl (hold g modulus c graph boot i before));
          told = ap (λ (o : Output). o.0) is
              ∙ ap (λ (h : Graph). threads_line (length h.nodes) (length events) (length reports)) boot.graph;
          true_reports = All-weaker (Contains reports) (IsTrueReport m.app m.from_text c es s)
              (λ r there. All-contains (λ x. IsIn s x.finished → IsTrueReport m.app m.from_text c es s x) reports r
              known there (inside c left events r ((are c es r).0 there))) reports (All-contains_itself reports);
        }

    pub tells_run : (history line : List ℕ) → IsKeptFrom m g modulus history (line, Good)
        → TellsRun m Inv g modulus history line
    tells_run history line (c, boot, is) = tells history line c boot is

-- ---- a verification takes what was kept

verified_from : {L : Type 0} (m : Meaning L) (g : Graph) (modulus : ℕ) (history line : List ℕ)
    → IsKeptFrom m g modulus history (line, Good)
    → (written : List ℕ) × IsVerifiedFrom m g modulus history (written, Good)
verified_from m g modulus history line (c, boot, too_many many is) =
    let other : Good ≡ BadInput = ap (λ (o : Output). o.1) is in absurd (cc)
verified_from m g modulus history line (c, boot, kept events few read some is) = (
  verified_text (length (steps events)) (reports_of m.app m.from_text c (steps events)),
  (c, boot, allowed (steps events) read some refl),
)

verified_of : (app : AppName) (g : Graph) (modulus : ℕ) (history line : List ℕ)
    → IsKeptOf app g modulus history (line, Good)
    → (written : List ℕ) × IsVerifiedOf app g modulus history (written, Good)
verified_of app g modulus history line is =
    some_for (λ L m written. IsVerifiedFrom m g modulus history (written, Good)) app
    (follows (λ L m. IsKeptFrom m g modulus history (line, Good))
    (λ L m. (written : List ℕ) × IsVerifiedFrom m g modulus history (written, Good))
    (λ L m. verified_from m g modulus history line) app is)

pub threads_verified : (topology history line : List ℕ) → IsThreaded topology history (line, Good)
    → (written : List ℕ) × IsVerification topology history (written, Good)
threads_verified topology history line is = go is.judged
  where
    go : IsJudged (λ app g modulus. IsKeptOf app g modulus history) topology (line, Good)
        → (written : List ℕ) × IsVerification topology history (written, Good)
    go (bad_topology f bad is) = let other : Good ≡ BadInput = ap (λ (o : Output). o.1) is in absurd (cc)
    go (good_topology g app modulus describes is) =
        let found = verified_of app g modulus history line is in
        (found.0, good_topology g app modulus describes found.1)

-- ---- by the application's name

-- that it is known of an application
abbrev pub Known : {L : Type 0} → Meaning L → (Graph → (ℕ → L) → Type 0) → Type 0
Known m Inv =
    (g : Graph) (modulus : ℕ) (history line : List ℕ) → IsGraph g
    → IsKeptFrom m g modulus history (line, Good) → TellsRun m Inv g modulus history line

module _ (known : (app : AppName) → ForInvariant (λ L m Inv. Known m Inv) app) where
  tells_of : (app : AppName) (g : Graph) → IsGraph g → (modulus : ℕ) (history line : List ℕ)
      → IsKeptOf app g modulus history (line, Good) → TellsRunOf app g modulus history line
  tells_of app g graph modulus history line =
      invariant_follows (λ L m Inv. Known m Inv) (λ L m Inv. TellsRun m Inv g modulus history line)
      (λ L m. IsKeptFrom m g modulus history (line, Good))
      (λ L m Inv knows kept. knows g modulus history line graph kept) app (known app)

  pub threads_run : (topology history line : List ℕ) → IsThreaded topology history (line, Good)
      → (g : Graph) × (app : AppName) × (modulus : ℕ) × Describes topology g app modulus
      × TellsRunOf app g modulus history line
  threads_run topology history line is = go is.judged
    where
      go : IsJudged (λ app g modulus. IsKeptOf app g modulus history) topology (line, Good)
          → (g : Graph) × (app : AppName) × (modulus : ℕ) × Describes topology g app modulus
          × TellsRunOf app g modulus history line
      go (bad_topology f bad is) = let other : Good ≡ BadInput = ap (λ (o : Output). o.1) is in absurd (cc)
      go (good_topology g app modulus describes is) = (
        g,
        app,
        modulus,
        describes,
        tells_of app g describes.2.exact.as_graph modulus history line is,
      )
