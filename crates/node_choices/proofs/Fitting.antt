-- Of the ways in which a node may take a case, only those may be allowed whose choice of a neighbour fits what it reads.
use Rattle.std.proofs.Common.{◌≡◌, ℕ, ◌==◌, not, Bool, true, false, cond, List, [], ◌∷◌, filter, find, map, Option, Some}
use Rattle.std.proofs.Common.{None, Err, is_ok, refl, sym, ap, ◌∙◌}
use Rattle.app_interface.specs.Application.{App}
use Rattle.app_interface.specs.declared.reads.Reads.{Reads}
use Rattle.app_interface.specs.declared.reads.Reads.TheVariants.{Alone, Toward, One, All}
use Rattle.reset_model.specs.declared.event.Event.{Event}
use Rattle.reset_model.specs.declared.event.Event.TheVariants.{Act}
use Rattle.reset_model.specs.declared.step.StepRefusal.{StepRefusal}
use Rattle.reset_model.specs.declared.step.StepRefusal.TheVariants.{StrangeNode, StrangeNeighbour, NoSuchCase}
use Rattle.reset_model.specs.declared.step.StepRefusal.TheVariants.{WantsNeighbour, TakesNoNeighbour}
use Rattle.reset_model.specs.Actions.{judged, misfit}
use Rattle.reset_model.specs.Planned.{Planned, case_planned, near_apart, near_read, sees}
use Rattle.reset_model.specs.View.{Neighbour, NodeView}
use Rattle.node_choices.specs.Choice.{case_events, is_allowed}

-- what is refused for itself is refused, whatever is asked before
pub refused_later : {L : Type 0} (a b : Bool) (r : Planned L) → is_ok r ≡ false
    → is_ok (cond a (Err StrangeNode) (cond b (Err StrangeNeighbour) r)) ≡ false
refused_later true b r is = refl
refused_later false true r is = refl
refused_later false false r is = is

module _ {L : Type 0} (app : App L) (v : NodeView L) (case : ℕ) where
  abbrev test : Event → Bool
  test = is_allowed app v

  abbrev pub toward : List (Neighbour L) → List Event
  toward near = map (λ n. Act v.id case (Some n.id)) near

  misfits : (with : Option ℕ) (f : StepRefusal) → misfit (app.reads case) with ≡ Some f
      → is_allowed app v (Act v.id case with) ≡ false
  misfits with f is =
      let read = near_read app v case with in
      let next = app.next v.id v.bound case with v.local (map (λ n. (n.id, n.local)) read) in
      refused_later (not (v.id == v.id)) (not (sees v with)) (case_planned (judged (misfit (app.reads case) with)
      (near_apart v read) next))
      (ap (λ m. is_ok (case_planned (judged m (near_apart v read) next))) is)

  none_pass : ((j : ℕ) → is_allowed app v (Act v.id case (Some j)) ≡ false) → (near : List (Neighbour L))
      → filter test (toward near) ≡ []
  none_pass fails [] = refl
  none_pass fails (n ∷ ns) =
      ap (λ b. cond b (Act v.id case (Some n.id) ∷ filter test (toward ns)) (filter test (toward ns))) (fails n.id)
      ∙ none_pass fails ns

  none_found : ((j : ℕ) → is_allowed app v (Act v.id case (Some j)) ≡ false) → (near : List (Neighbour L))
      → find test (toward near) ≡ None
  none_found fails [] = refl
  none_found fails (n ∷ ns) =
      ap (λ b. cond b (Some (Act v.id case (Some n.id))) (find test (toward ns))) (fails n.id)
      ∙ none_found fails ns

  -- by itself alone
  module _ (fails : (j : ℕ) → is_allowed app v (Act v.id case (Some j)) ≡ false) where
    pub passing_alone : filter test (Act v.id case None ∷ []) ≡ filter test (case_events v case)
    passing_alone =
        ap (λ l. cond (test (Act v.id case None)) (Act v.id case None ∷ l) l) (sym (none_pass fails v.near))

    pub found_alone : find test (Act v.id case None ∷ []) ≡ find test (case_events v case)
    found_alone = ap (λ o. cond (test (Act v.id case None)) (Some (Act v.id case None)) o) (sym (none_found fails v.near))

  -- toward a neighbour alone
  module _ (fails : is_allowed app v (Act v.id case None) ≡ false) where
    pub passing_toward : filter test (toward v.near) ≡ filter test (case_events v case)
    passing_toward =
        sym (ap (λ b. cond b (Act v.id case None ∷ filter test (toward v.near)) (filter test (toward v.near))) fails)

    pub found_toward : find test (toward v.near) ≡ find test (case_events v case)
    found_toward = sym (ap (λ b. cond b (Some (Act v.id case None)) (find test (toward v.near))) fails)

  -- a case that reads nothing, there being no such one
  pub no_case : (r : Option Reads) → r ≡ app.reads case → r ≡ None → (with : Option ℕ)
      → is_allowed app v (Act v.id case with) ≡ false
  no_case r is none with = misfits with NoSuchCase (ap (λ o. misfit o with) (sym is ∙ none))

  pub none_passes : (r : Option Reads) → r ≡ app.reads case → r ≡ None → [] ≡ filter test (case_events v case)
  none_passes r is none =
      sym (none_pass (λ j. no_case r is none (Some j)) v.near) ∙ passing_toward (no_case r is none None)

  pub none_is_found : (r : Option Reads) → r ≡ app.reads case → r ≡ None → None ≡ find test (case_events v case)
  none_is_found r is none =
      sym (none_found (λ j. no_case r is none (Some j)) v.near) ∙ found_toward (no_case r is none None)

  -- one that names no neighbour
  pub names_none : (r : Option Reads) (reads : Reads) → r ≡ app.reads case → r ≡ Some reads
      → misfit (Some reads) None ≡ None → (j : ℕ) → is_allowed app v (Act v.id case (Some j)) ≡ false
  names_none r Alone is some fit j = misfits (Some j) TakesNoNeighbour (ap (λ o. misfit o (Some j)) (sym is ∙ some))
  names_none r All is some fit j = misfits (Some j) TakesNoNeighbour (ap (λ o. misfit o (Some j)) (sym is ∙ some))
  names_none r Toward is some fit j = absurd (cc)
  names_none r One is some fit j = absurd (cc)

  -- one that names one
  pub names_one : (r : Option Reads) (reads : Reads) → r ≡ app.reads case → r ≡ Some reads
      → misfit (Some reads) None ≡ Some WantsNeighbour → is_allowed app v (Act v.id case None) ≡ false
  names_one r reads is some fit = misfits None WantsNeighbour (ap (λ o. misfit o None) (sym is ∙ some) ∙ fit)
