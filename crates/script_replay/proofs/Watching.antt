-- What a node that watches does, as its alarm is.
use Rattle.std.proofs.Common.{◌≡◌, ◌++◌, ℕ, List, ap, sym, subst, ◌∙◌, append-nil, Option, Some, None, Result, Ok, Err}
use Rattle.std.proofs.Common.{OnOk, OnErr}
use Rattle.std.specs.Io.KnownBytes.{Appends}
use Rattle.action_tables.specs.Written.{AppendsPrefix}
use Rattle.action_tables.proofs.Prefixes.{AppendsPrefix-first}
use Rattle.applications.specs.Meaning.{Meaning}
use Rattle.link_predicates.specs.Faults.{alarm_of}
use Rattle.link_predicates.specs.declared.fault.LinkFault.{LinkFault}
use Rattle.reset_model.specs.Configuration.{Configuration}
use Rattle.reset_model.specs.Planned.{outcome_of}
use Rattle.reset_model.specs.declared.event.Event.TheVariants.{Request}
use Rattle.script_replay.specs.Output.{after_alarm, alarm_text, stepped, watched}
use Rattle.script_replay.proofs.Nodes.{watched-is}

module _ {L : Type 0} (m : Meaning L) (c : Configuration L) (i : ℕ) (told : Option LinkFault)
    (is : told ≡ alarm_of m.app c i) where
  text_is : (watched m c i).1 ≡ alarm_text told ++ (after_alarm m c i told).1
  text_is = ap (λ (w : Configuration L × List ℕ). w.1) (watched-is m c i told is)

  config_is : (watched m c i).0 ≡ (after_alarm m c i told).0
  config_is = ap (λ (w : Configuration L × List ℕ). w.0) (watched-is m c i told is)

  -- its alarm is written first, and nothing follows where it has none
  pub watched_prefix : (a b : Option (List ℕ)) → AppendsPrefix a b (alarm_text told)
      → AppendsPrefix a b (watched m c i).1
  watched_prefix a b prefix =
      let P : List ℕ → Type 0 = λ t. AppendsPrefix a b t in
      subst P (sym text_is) (AppendsPrefix-first a b (alarm_text told) (after_alarm m c i told).1 prefix)

  pub quiet_text : (a b : Option (List ℕ)) → told ≡ None → Appends a b (alarm_text told)
      → Appends a b (watched m c i).1
  quiet_text a b none wrote =
      let P : List ℕ → Type 0 = λ t. Appends a b t in
      subst P (sym
      (text_is ∙ ap (λ o. alarm_text told ++ (after_alarm m c i o).1) none ∙ append-nil (alarm_text told))) wrote

  pub quiet_config : told ≡ None → c ≡ (watched m c i).0
  quiet_config none = sym (config_is ∙ ap (λ o. (after_alarm m c i o).0) none)

  -- and a request where it has one
  module _ (fault : LinkFault) (some : told ≡ Some fault) where
    pub asked_config : (stepped c (outcome_of m.app c (Request i))).0 ≡ (watched m c i).0
    asked_config = sym (config_is ∙ ap (λ o. (after_alarm m c i o).0) some)

    asked_text : alarm_text (Some fault) ++ (stepped c (outcome_of m.app c (Request i))).1 ≡ (watched m c i).1
    asked_text = sym (text_is ∙ ap (λ o. alarm_text o ++ (after_alarm m c i o).1) some)

    module _ (a d : Option (List ℕ)) {E : Type 0} where
      pub asked_ok : (after : Configuration L) (r : Result (Unit {0}) E)
          → OnOk r
          ((after ≡ (stepped c (outcome_of m.app c (Request i))).0)
          × Appends a d (alarm_text (Some fault) ++ (stepped c (outcome_of m.app c (Request i))).1))
          → OnOk r ((after ≡ (watched m c i).0) × Appends a d (watched m c i).1)
      asked_ok after (Ok x) ok =
          let P : List ℕ → Type 0 = λ t. Appends a d t in (ok.0 ∙ asked_config, subst P asked_text ok.1)
      asked_ok after (Err e) ok = tt

      pub asked_err : (r : Result (Unit {0}) E)
          → OnErr r (AppendsPrefix a d (alarm_text (Some fault) ++ (stepped c (outcome_of m.app c (Request i))).1))
          → OnErr r (AppendsPrefix a d (watched m c i).1)
      asked_err (Ok x) err = tt
      asked_err (Err e) err = let P : List ℕ → Type 0 = λ t. AppendsPrefix a d t in subst P asked_text err
