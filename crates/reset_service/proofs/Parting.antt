-- What drawing a part of a history leaves.
use Rattle.std.proofs.Common.{◌≡◌, ◌≢◌, ℕ, ◌-◌, ◌<◌, ◌≤◌, List, ap, arith, drop, length, min, refl, sym}
use Rattle.std.proofs.Common.{take, ◌∙◌}
use Rattle.std.proofs.Common.{Bool, true, false, nat_lt, ltb-false, ltb-true, Err, IsSome, Ok, Option, Some}
use Rattle.std.proofs.Common.{subst}
use Rattle.std.proofs.lemmas.List.{drop-take, length-drop, take_all}
use Rattle.app_interface.specs.Application.{App}
use Rattle.reset_model.specs.Configuration.{Configuration}
use Rattle.applications.specs.Meaning.{Meaning}
use Rattle.history.specs.Entries.{IsFirstRefused, replayed}
use Rattle.history.specs.HistoryText.{IsReadAs}
use Rattle.history.specs.declared.entry.Entry.{Entry}
use Rattle.history.specs.declared.text.BookFault.{BookFault}
use Rattle.history.proofs.Plays.{replayed_nil}
use Rattle.history.proofs.Replays.{allowed_between}
use Rattle.script_replay.specs.declared.status.Status.{Status}
use Rattle.script_replay.specs.declared.status.Status.TheVariants.{BadInput, Good, NotEnabled}
use Rattle.reset_service.specs.Chosen.{IsNamed, NamesNothing}
use Rattle.reset_service.specs.Parted.{IsHistoryDrawn}
use Rattle.reset_service.specs.Parted.IsHistoryDrawn.{unverified}
use Rattle.reset_service.specs.Verified.{bad_history_text, not_enabled_text, other_modulus_text}
use Rattle.reset_service.specs.Verified.IsVerified.{bad_history, not_enabled, other_modulus}

abbrev Output : Type 0
Output = List ℕ × Status

-- ---- a history that a verification doesn't take

isn't_good : (o : Output) (written : List ℕ) (s : Status) → s ≢ Good → o ≡ (written, s) → o.1 ≢ Good
isn't_good o written s other is good = other (sym (ap (λ (p : Output). p.1) is) ∙ good)

module _ {L : Type 0} (m : Meaning L) (rows : Option (ℕ × ℕ)) (nodes : List ℕ) (c : Configuration L) (text : List ℕ)
    (o : Output) where
  abbrev Drawn : Type 0
  Drawn = IsHistoryDrawn m rows nodes c text o

  pub of_bad_history : (f : BookFault) → IsReadAs text (Err f) → o ≡ (bad_history_text f, BadInput) → Drawn
  of_bad_history f bad is = unverified (bad_history f bad is) (isn't_good o (bad_history_text f) BadInput (λ e. cc) is)

  pub of_other_modulus : (modulus : ℕ) (es : List Entry) → IsReadAs text (Ok (modulus, es)) → modulus ≢ c.modulus
      → o ≡ (other_modulus_text modulus, BadInput) → Drawn
  of_other_modulus modulus es read apart is =
      unverified (other_modulus modulus es read apart is)
      (isn't_good o (other_modulus_text modulus) BadInput (λ e. cc) is)

  pub of_refused : (es : List Entry) (position : ℕ) → IsReadAs text (Ok (c.modulus, es))
      → IsFirstRefused m.app m.from_text c es position → o ≡ (not_enabled_text position, NotEnabled) → Drawn
  of_refused es position read first is =
      unverified (not_enabled es position read first is)
      (isn't_good o (not_enabled_text position) NotEnabled (λ e. cc) is)

-- ---- the rows of a run

-- the entries behind the first n, up to the last row or to the end
pub rows_between : (es : List Entry) (n last : ℕ) → n ≤ last
    → take (min (length es) last - n) (drop n es) ≡ drop n (take last es)
rows_between es n last in_turn = by_length (nat_lt (length es) last) refl
  where
    behind : drop n (take last es) ≡ take (last - n) (drop n es)
    behind = ap (λ k. drop n (take k es)) (omega (arith, in_turn)) ∙ drop-take n (last - n) es

    by_length : (b : Bool) → nat_lt (length es) last ≡ b
        → take (min (length es) last - n) (drop n es) ≡ drop n (take last es)
    by_length false test =
        let within : last ≤ length es = ltb-false (length es) last test in
        let least : min (length es) last - n ≡ last - n = omega (arith, within) in
        ap (λ k. take k (drop n es)) least ∙ sym behind
    by_length true test =
        let short : length es < last = ltb-true (length es) last test in
        let rest : length (drop n es) ≡ length es - n = length-drop n es in
        let least : min (length es) last - n ≡ length es - n = omega (arith, short) in
        ap (λ k. take k (drop n es)) least
        ∙ take_all (length es - n) (drop n es) (omega (arith, rest))
        ∙ sym (take_all (last - n) (drop n es) (omega (arith, rest, short)))
        ∙ sym behind

module _ {L : Type 0} (app : App L) (from_text : List ℕ → Option L) (c : Configuration L) (es : List Entry)
    (allowed : IsSome (replayed app from_text c es)) where
  -- the first entries are a run too
  pub first_allowed : (n : ℕ) → IsSome (replayed app from_text c (take n es))
  first_allowed n = allowed_between app from_text c c es 0 n allowed (replayed_nil app from_text c)

-- ---- what is named

module _ {X : Type 0} (Names : List ℕ → X → Type 0) (given : Option (List ℕ)) (text bytes : List ℕ)
    (is : given ≡ Some text) (same : bytes ≡ text) where
  -- the text that is given names this
  pub names : (named : X) → Names bytes named → IsNamed Names given (Some named)
  names named spelt = (text, is, subst (λ t. Names t named) same spelt)

  -- and this one names nothing
  pub names_nothing : ((named : X) → Names bytes named → ⊥) → NamesNothing Names given
  names_nothing none = (text, is, subst (λ t. (named : X) → Names t named → ⊥) same none)
