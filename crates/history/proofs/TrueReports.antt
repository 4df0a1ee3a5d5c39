-- The reports of a stretch that begins in sound registers are true.
use Rattle.std.proofs.Common.{◌≡◌, ℕ, ◌+◌, ◌<◌, List, [], ◌∷◌, ◌++◌, length, All, Contains, Option, Some, Ok}
use Rattle.std.proofs.Common.{refl, sym, ap, subst, ◌∙◌, arith, append_assoc}
use Rattle.std.proofs.lemmas.List.{length-append, length-map}
use Rattle.std.proofs.lemmas.List.Elements.{All-contains_itself, All-weaker}
use Rattle.app_interface.specs.Application.{App}
use Rattle.topology.specs.Graph.{Graph}
use Rattle.reset_model.specs.Completion.{JoinsOnce, is_open_at, times}
use Rattle.reset_model.specs.Configuration.{Configuration, local_of, tree_of, wave_of}
use Rattle.reset_model.specs.Planned.{outcome_of}
use Rattle.reset_model.specs.Sound.{IsComplete, IsSound}
use Rattle.reset_model.specs.Steps.{event_node, reply_of}
use Rattle.reset_model.specs.declared.event.Event.{Event}
use Rattle.reset_model.specs.declared.event.Event.TheVariants.{Claim, Follow, Adopt, Request, Relay, Open, Join}
use Rattle.reset_model.specs.declared.event.Event.TheVariants.{Finish, Mend, Act}
use Rattle.reset_model.specs.declared.step.Reply.{Reply}
use Rattle.reset_model.specs.declared.step.Reply.TheVariants.{Complete}
use Rattle.reset_model.proofs.ConfigurationSteps.{outcome_is_step}
use Rattle.reset_model.proofs.Headlines.{joins_between}
use Rattle.reset_model.proofs.JoinCounts.{joined_restarted, own_finish}
use Rattle.reset_model.proofs.RunShadows.{step_graph}
use Rattle.reset_model.proofs.SoundConfigurations.{step_complete}
use Rattle.history.specs.declared.entry.Entry.{Entry}
use Rattle.history.specs.declared.entry.Entry.TheVariants.{Step}
use Rattle.history.specs.declared.entry.Report.{Report}
use Rattle.history.specs.Entries.{replayed}
use Rattle.history.specs.Played.{recent}
use Rattle.history.specs.Reports.{latest_opening, reports_of}
use Rattle.history.specs.Stretches.{IsApplied, IsIn, IsJoined, IsLatestOpening, IsReport, IsStretch, IsTrueReport}
use Rattle.history.specs.Stretches.{Stretch, latest, none, none_since, steps}
use Rattle.history.proofs.KeptNetworks.{IsNetwork, applied_network, replayed_network}
use Rattle.history.proofs.LatestOpenings.{latest_is, recent-append, unopened_since}
use Rattle.history.proofs.Plays.{recent_length}
use Rattle.history.proofs.ReportedCompletions.{reports_are}
use Rattle.history.proofs.StretchRuns.{IsSoundPlace, all_taken, first_done, replayed_parts, sound_place}

-- only a finish completes a session
completes : (e : Event) (reply : Reply) (session : ℕ) → reply ≡ Complete session → (t : ℕ → _) (w : ℕ → _)
    → reply ≡ reply_of t w e → e ≡ Finish (event_node e)
completes (Claim i) reply session told t w is = absurd (cc)
completes (Follow i) reply session told t w is = absurd (cc)
completes (Adopt i j) reply session told t w is = absurd (cc)
completes (Request i) reply session told t w is = absurd (cc)
completes (Relay i k) reply session told t w is = absurd (cc)
completes (Open i) reply session told t w is = absurd (cc)
completes (Join i) reply session told t w is = absurd (cc)
completes (Finish i) reply session told t w is = refl
completes (Mend i) reply session told t w is = absurd (cc)
completes (Act i case with) reply session told t w is = absurd (cc)

-- where the latest opening is
record IsOpening (top : ℕ) (entries : List Entry) (position : ℕ) : Type 0 where
  before : List Entry
  since : List Event
  split : entries ≡ before ++ Step (Open top) ∷ steps since
  place : position ≡ length before + 1
  unopened : times (is_open_at top) since ≡ 0

opening_at : (top : ℕ) (entries : List Entry) (o : Option ℕ) (position : ℕ) → IsLatestOpening top entries o
    → o ≡ Some position → IsOpening top entries position
opening_at top entries o position (latest before since is unopened) at = record {
  before = before;
  since = since;
  split = is;
  place = cc;
  unopened = unopened;
}
opening_at top entries o position (none_since before fault since is unopened) at = absurd (cc)
opening_at top entries o position (none since is unopened) at = absurd (cc)

-- between an opening in sound registers and the finish that completes it
once_between : {L : Type 0} (app : App L) (from_text : List ℕ → Option L) (c after here left : Configuration L)
    (top session : ℕ) (reply : Reply) (since : List Event) → IsNetwork c → IsSound c
    → outcome_of app c (Open top) ≡ Ok (after, reply) → replayed app from_text after (steps since) ≡ Some here
    → times (is_open_at top) since ≡ 0 → outcome_of app here (Finish top) ≡ Ok (left, Complete session)
    → JoinsOnce c.graph top since
once_between app from_text c after here left top session reply since network sound opens on unopened finishes =
    let opening = outcome_is_step app c network.graph network.shaped (Open top) after reply opens in
    let after_network = applied_network app c after (Open top) reply network opens in
    let done = all_taken app from_text since after here after_network on in
    let here_network = replayed_network app from_text (steps since) after here after_network on in
    let finish =
    outcome_is_step app here here_network.graph here_network.shaped (Finish top) left (Complete session) finishes in
    let own = own_finish app (tree_of here) (wave_of here) top session _ refl (sym finish.1) in
    subst (JoinsOnce c.graph top) done.same
    (joins_between app top done.taken c after here left network.graph network.shaped.modulus sound opening.0 done.steps
    (subst (λ events. times (is_open_at top) events ≡ 0) (sym done.same) unopened) finish.0 own)

module _ {L : Type 0} (app : App L) (from_text : List ℕ → Option L) (opening : Configuration L)
    (network : IsNetwork opening) (es : List Entry) (s : Stretch L) (is : IsStretch app from_text opening es s)
    (sound : IsSound s.here) where
  -- a node of the stretch that joins has its start state right after it
  restarts : (g : Graph) → g ≡ s.here.graph → (position i : ℕ) (reply : Reply) (left : Configuration L)
      → IsIn s position → IsApplied app from_text opening es position (Join i) reply left
      → local_of app left i ≡ app.start g i
  restarts g same position i reply left inside join =
      let place = sound_place app from_text opening network es s is sound join.before (Step (Join i) ∷ join.rest)
      join.here join.split join.allowed (omega (arith, inside.0, join.place)) (omega (arith, inside.1, join.place)) in
      joined_restarted app join.here left i
      (outcome_is_step app join.here place.network.graph place.network.shaped (Join i) left reply join.outcome).0
      ∙ ap (λ h. app.start h i) (place.graph ∙ sym same)

  module _ (r : Report) (inside : IsIn s r.finished) (top : ℕ) (left : Configuration L)
      (told : IsApplied app from_text opening es r.finished (Finish top) (Complete r.number) left) where
    place : IsSoundPlace app from_text s told.before told.here
    place =
        sound_place app from_text opening network es s is sound told.before (Step (Finish top) ∷ told.rest)
        told.here told.split told.allowed (omega (arith, inside.0, told.place)) (omega (arith, inside.1, told.place))

    complete : IsComplete left top r.number
    complete =
        let step = outcome_is_step app told.here place.network.graph place.network.shaped (Finish top) left
        (Complete r.number) told.outcome in
        step_complete app told.here left (Finish top) r.number place.network.graph step.0
        place.sound (sym step.1)

    left_graph : left.graph ≡ s.here.graph
    left_graph =
        step_graph app told.here left (Finish top)
        (outcome_is_step app told.here place.network.graph place.network.shaped (Finish top) left (Complete r.number)
        told.outcome).0
        ∙ place.graph

    joined : (position : ℕ) → IsOpening top told.before position → length s.before < position
        → IsJoined app from_text opening es left.graph top position r.finished
    joined position begun later =
        let long : length told.before ≡ length begun.before + (length begun.since + 1) =
        ap length begun.split ∙ length-append begun.before (Step (Open top) ∷ steps begun.since)
        ∙ omega (arith, length-map begun.since (λ e. Step e)) in
        let split : es ≡ begun.before ++ Step (Open top) ∷ (steps begun.since ++ Step (Finish top) ∷ told.rest) =
        told.split ∙ ap (λ xs. xs ++ Step (Finish top) ∷ told.rest) begun.split
        ∙ append_assoc begun.before (Step (Open top) ∷ steps begun.since) (Step (Finish top) ∷ told.rest) in
        let parts = replayed_parts app from_text begun.before (Step (Open top) ∷ steps begun.since) opening told.here
        (ap (replayed app from_text opening) (sym begun.split) ∙ told.allowed) in
        let first = first_done app from_text parts.0 told.here (Open top) (steps begun.since) parts.2 in
        let there = sound_place app from_text opening network es s is sound begun.before
        (Step (Open top) ∷ (steps begun.since ++ Step (Finish top) ∷ told.rest)) parts.0 split parts.1
        (omega (arith, later, begun.place)) (omega (arith, long, told.place, inside.1)) in
        let once = once_between app from_text parts.0 first.after told.here left top r.number first.reply begun.since
        there.network there.sound first.outcome first.rest begun.unopened told.outcome in
        record {
          before = begun.before;
          between = begun.since;
          rest = told.rest;
          split = split;
          opened_at = begun.place;
          finished_at = omega (arith, told.place, long, begun.place);
          joins = subst (λ g. JoinsOnce g top begun.since) (there.graph ∙ sym left_graph) once;
          restarts = λ at i reply after past short. restarts left.graph left_graph at i reply after
              (omega (arith, later, past), omega (arith, short, inside.1));
        }

    true_report : IsLatestOpening top told.before r.opened → IsTrueReport app from_text opening es s r
    true_report opened = record {
      top = top;
      left = left;
      told = told;
      complete = complete;
      joined = λ position at. joined position (opening_at top told.before r.opened position opened at);
      earlier = place.earlier;
      so_far = place.entries;
      unopened = λ early. unopened_since top place.earlier (recent [] s.before)
          (λ position at. let none_later = early position (sym (latest_is top told.before r.opened opened)
          ∙ ap (λ xs. latest_opening top (recent [] xs)) place.entries
          ∙ ap (latest_opening top) (recent-append [] s.before (steps place.earlier)) ∙ at) in
          omega (arith, none_later, recent_length [] s.before));
    }

  true_one : (r : Report) → IsReport app from_text opening es r → IsIn s r.finished
      → IsTrueReport app from_text opening es s r
  true_one r one inside =
      let told = one.told in
      let here = replayed_network app from_text told.before opening told.here network told.allowed in
      let finishes : one.event ≡ Finish (event_node one.event) =
      completes one.event (Complete r.number) r.number refl (tree_of told.here) (wave_of told.here)
      (outcome_is_step app told.here here.graph here.shaped one.event one.left (Complete r.number) told.outcome).1 in
      true_report r inside (event_node one.event) one.left
      (record {
        before = told.before;
        rest = told.rest;
        here = told.here;
        split = told.split ∙ ap (λ e. told.before ++ Step e ∷ told.rest) finishes;
        place = told.place;
        allowed = told.allowed;
        outcome = ap (outcome_of app told.here) (sym finishes) ∙ told.outcome;
      })
      one.opened

  pub true_reports : All (λ r. IsIn s r.finished → IsTrueReport app from_text opening es s r)
      (reports_of app from_text opening es)
  true_reports =
      let reports : List Report = reports_of app from_text opening es in
      All-weaker (Contains reports) (λ r. IsIn s r.finished → IsTrueReport app from_text opening es s r)
      (λ r there. true_one r ((reports_are app from_text opening es r).0 there)) reports (All-contains_itself reports)
