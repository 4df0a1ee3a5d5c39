-- The events of a stretch are steps that were taken, and each place in it is reached by such steps.
use Rattle.std.proofs.Common.{◌≡◌, ℕ, ◌+◌, ◌≤◌, List, [], ◌∷◌, ◌++◌, length, Option, Some, None, Ok, Err}
use Rattle.std.proofs.Common.{refl, sym, ap, ap₂, subst, ◌∙◌, arith}
use Rattle.std.specs.Option.{IsSome, option_and_then}
use Rattle.std.proofs.lemmas.List.{length-append}
use Rattle.app_interface.specs.Application.{App}
use Rattle.reset_model.specs.Configuration.{Configuration}
use Rattle.reset_model.specs.Headline.{Steps, Transition, events_of}
use Rattle.reset_model.specs.Planned.{Outcome, outcome_of}
use Rattle.reset_model.specs.Sound.{IsSound}
use Rattle.reset_model.specs.declared.event.Event.{Event}
use Rattle.reset_model.specs.declared.step.Reply.{Reply}
use Rattle.reset_model.proofs.ConfigurationSteps.{outcome_is_step}
use Rattle.reset_model.proofs.Headlines.{steps_kept}
use Rattle.history.specs.declared.entry.Entry.{Entry}
use Rattle.history.specs.declared.entry.Entry.TheVariants.{Step}
use Rattle.history.specs.Entries.{entered, left_by_step, replayed}
use Rattle.history.specs.Stretches.{IsStretch, Stretch, steps}
use Rattle.history.proofs.KeptNetworks.{IsNetwork, applied_network, replayed_network}

-- ---- lists

-- of two splits of one list, what stands between the first place and the second
record IsBetween {X : Type 0} (before xs first ys : List X) : Type 0 where
  between : List X
  prefix : first ≡ before ++ between
  back : xs ≡ between ++ ys

is_between : {X : Type 0} (before xs first ys : List X) → before ++ xs ≡ first ++ ys → length before ≤ length first
    → IsBetween before xs first ys
is_between [] xs first ys is short = record { between = first; prefix = refl; back = is }
is_between (b ∷ before) xs [] ys is short = absurd (omega (arith, short))
is_between (b ∷ before) xs (f ∷ first) ys is short =
    let same : b ≡ f = cc in
    let rests : before ++ xs ≡ first ++ ys = cc in
    let more = is_between before xs first ys rests (omega (arith, short)) in
    record {
      between = more.between;
      prefix = ap₂ (λ z zs. z ∷ zs) (sym same) more.prefix;
      back = more.back;
    }

-- what stands among the steps of events, but not behind them, are the steps of some of them
first_steps : (events : List Event) (rest first ys : List Entry) → steps events ++ rest ≡ first ++ ys
    → length first ≤ length events → (earlier : List Event) × (first ≡ steps earlier)
first_steps events rest [] ys is short = ([], refl)
first_steps [] rest (f ∷ first) ys is short = absurd (omega (arith, short))
first_steps (e ∷ events) rest (f ∷ first) ys is short =
    let same : Step e ≡ f = cc in
    let rests : steps events ++ rest ≡ first ++ ys = cc in
    let more = first_steps events rest first ys rests (omega (arith, short)) in
    (e ∷ more.0, ap₂ (λ z zs. z ∷ zs) (sym same) more.1)

-- ---- replays

-- an event of a replay, with what it left and what came after it
pub record IsDone {L : Type 0} (app : App L) (from_text : List ℕ → Option L) (c : Configuration L) (e : Event)
    (es : List Entry) (left : Configuration L) : Type 0 where
  pub reply : Reply
  pub after : Configuration L
  pub outcome : outcome_of app c e ≡ Ok (after, reply)
  pub rest : replayed app from_text after es ≡ Some left

module _ {L : Type 0} (app : App L) (from_text : List ℕ → Option L) where
  pub first_done : (c left : Configuration L) (e : Event) (es : List Entry)
      → replayed app from_text c (Step e ∷ es) ≡ Some left → IsDone app from_text c e es left
  unfolding replayed
  first_done c left e es is = by_outcome (outcome_of app c e) refl is
    where
      by_outcome : (o : Outcome L) → outcome_of app c e ≡ o
          → option_and_then (λ after. replayed app from_text after es) (left_by_step o) ≡ Some left
          → IsDone app from_text c e es left
      by_outcome (Ok done) ok is = record { reply = done.1; after = done.0; outcome = ok; rest = is }
      by_outcome (Err f) err is = absurd (cc)

  -- what the first entries leave, and that the others leave the rest of it
  pub replayed_parts : (xs ys : List Entry) (c left : Configuration L)
      → replayed app from_text c (xs ++ ys) ≡ Some left
      → (m : Configuration L) × (replayed app from_text c xs ≡ Some m) × (replayed app from_text m ys ≡ Some left)
  unfolding replayed
  replayed_parts [] ys c left is = (c, refl, is)
  replayed_parts (x ∷ xs) ys c left is =
      by_entry (λ after. replayed_parts xs ys after left) (entered app from_text c x) is
    where
      by_entry : ((after : Configuration L) → replayed app from_text after (xs ++ ys) ≡ Some left
          → (m : Configuration L) × (replayed app from_text after xs ≡ Some m)
          × (replayed app from_text m ys ≡ Some left))
          → (o : Option (Configuration L))
          → option_and_then (λ after. replayed app from_text after (xs ++ ys)) o ≡ Some left
          → (m : Configuration L) × (option_and_then (λ after. replayed app from_text after xs) o ≡ Some m)
          × (replayed app from_text m ys ≡ Some left)
      by_entry later None is = absurd (cc)
      by_entry later (Some after) is = later after is

  -- the entries after those that left m
  pub replayed_on : (xs ys : List Entry) (c m left : Configuration L) → replayed app from_text c xs ≡ Some m
      → replayed app from_text c (xs ++ ys) ≡ Some left → replayed app from_text m ys ≡ Some left
  replayed_on xs ys c m left first all =
      let parts = replayed_parts xs ys c left all in
      let same : parts.0 ≡ m = one parts.0 m (sym parts.1 ∙ first) in
      subst (λ d. replayed app from_text d ys ≡ Some left) same parts.2
    where
      one : (a b : Configuration L) → ◌≡◌ {A = Option (Configuration L)} (Some a) (Some b) → a ≡ b
      one a b is = cc

  -- ---- the steps of events that were all applied

  pub record AreTaken (c : Configuration L) (events : List Event) (left : Configuration L) : Type 0 where
    pub taken : List (Transition L)
    pub same : events_of taken ≡ events
    pub steps : Steps app c taken left

  pub all_taken : (events : List Event) (c left : Configuration L) → IsNetwork c
      → replayed app from_text c (steps events) ≡ Some left → AreTaken c events left
  unfolding replayed
  all_taken [] c left network is =
      let same : left ≡ c = cc in record { taken = []; same = refl; steps = same }
  all_taken (e ∷ events) c left network is =
      let first = first_done c left e (steps events) is in
      let step = (outcome_is_step app c network.graph network.shaped e first.after first.reply first.outcome).0 in
      let there = applied_network app c first.after e first.reply network first.outcome in
      let more = all_taken events first.after left there first.rest in
      record {
        taken = record { before = c; event = e; after = first.after } ∷ more.taken;
        same = ap (λ xs. e ∷ xs) more.same;
        steps = (refl, step, more.steps);
      }

  -- ---- places in a stretch

  -- what the first entries leave is sound, where they are those before the stretch and the first events of it
  pub record IsSoundPlace (s : Stretch L) (first : List Entry) (here : Configuration L) : Type 0 where
    pub earlier : List Event
    pub entries : first ≡ s.before ++ steps earlier
    pub network : IsNetwork here
    pub graph : here.graph ≡ s.here.graph
    pub sound : IsSound here

  module _ (opening : Configuration L) (network : IsNetwork opening) (es : List Entry) (s : Stretch L)
      (is : IsStretch app from_text opening es s) (sound : IsSound s.here) where
    pub here_network : IsNetwork s.here
    here_network = replayed_network app from_text s.before opening s.here network is.begins

    pub sound_place : (first more : List Entry) (here : Configuration L) → es ≡ first ++ more
        → replayed app from_text opening first ≡ Some here → length s.before ≤ length first
        → length first ≤ length s.before + length s.events → IsSoundPlace s first here
    sound_place first more here splits reached low high =
        let between = is_between s.before (steps s.events ++ s.rest) first more (sym is.split ∙ splits) low in
        let long : length first ≡ length s.before + length between.between =
        ap length between.prefix ∙ length-append s.before between.between in
        let inside = first_steps s.events s.rest between.between more between.back (omega (arith, long, high)) in
        let entries : first ≡ s.before ++ steps inside.0 =
        between.prefix ∙ ap (λ xs. s.before ++ xs) inside.1 in
        let on = replayed_on s.before (steps inside.0) opening s.here here is.begins
        (ap (λ xs. replayed app from_text opening xs) (sym entries) ∙ reached) in
        let done = all_taken inside.0 s.here here here_network on in
        let kept = steps_kept app done.taken s.here here here_network.graph here_network.shaped.modulus sound
        done.steps in
        record {
          earlier = inside.0;
          entries = entries;
          network = replayed_network app from_text first opening here network reached;
          graph = kept.graph;
          sound = kept.sound;
        }

  -- events of entries that are all allowed, one after another with no fault between them, are a stretch
  pub stretch_there : (opening : Configuration L) (es before rest : List Entry) (events : List Event)
      → es ≡ before ++ (steps events ++ rest) → IsSome (replayed app from_text opening es)
      → (s : Stretch L) × IsStretch app from_text opening es s × (s.before ≡ before) × (s.events ≡ events)
  stretch_there opening es before rest events split some =
      let all = some_left (replayed app from_text opening es) some in
      let first = replayed_parts before (steps events ++ rest) opening all.0
      (ap (replayed app from_text opening) (sym split) ∙ all.1) in
      let second = replayed_parts (steps events) rest first.0 all.0 first.2 in (
        record { before = before; events = events; rest = rest; here = first.0; left = second.0 },
        record { split = split; begins = first.1; ends = second.1 },
        refl,
        refl,
      )
    where
      some_left : (o : Option (Configuration L)) → IsSome o → (left : Configuration L) × (o ≡ Some left)
      some_left None none = absurd (cc)
      some_left (Some left) is = (left, refl)
