-- What steps alone made of a book is one undisturbed stretch of its entries.
use Rattle.std.proofs.Common.{◌≡◌, ◌∙◌, ℕ, true, List, [], ◌∷◌, ◌++◌, append-nil, length, drop, Option, Some, None, subst}
use Rattle.std.proofs.Common.{ap, ap₂, refl, sym}
use Rattle.std.proofs.lemmas.List.{take-append-drop}
use Rattle.std.specs.List.{list_all}
use Rattle.std.specs.Option.{option_and_then}
use Rattle.app_interface.specs.Application.{App}
use Rattle.reset_model.specs.Configuration.{Configuration}
use Rattle.reset_model.specs.declared.event.Event.{Event}
use Rattle.history.specs.declared.entry.Entry.{Entry}
use Rattle.history.specs.declared.entry.Entry.TheVariants.{Step, Disturbed}
use Rattle.history.specs.Book.{BookView, IsBook}
use Rattle.history.specs.Entries.{entered, replayed}
use Rattle.history.specs.Stretches.{IsStretch, steps}
use Rattle.node_threads.specs.Locked.{IsContinued, is_step}
use Rattle.node_threads.specs.Stepped.{stretch_since}

-- entries that are all steps are those of events
all_steps : (es : List Entry) → list_all is_step es ≡ true → (events : List Event) × (es ≡ steps events)
all_steps [] are = ([], refl)
all_steps (Step e ∷ es) are = let more = all_steps es are in (e ∷ more.0, ap (λ xs. Step e ∷ xs) more.1)
all_steps (Disturbed f ∷ es) are = absurd (cc)

module _ {L : Type 0} (app : App L) (from_text : List ℕ → Option L) where
  -- what comes after the first entries goes on from what these leave
  replayed_on : (xs ys : List Entry) (c m left : Configuration L) → replayed app from_text c xs ≡ Some m
      → replayed app from_text c (xs ++ ys) ≡ Some left → replayed app from_text m ys ≡ Some left
  unfolding replayed
  replayed_on [] ys c m left first all =
      let same : c ≡ m = cc in subst (λ (d : Configuration L). replayed app from_text d ys ≡ Some left) same all
  replayed_on (x ∷ xs) ys c m left first all =
      by_entry (λ after. replayed_on xs ys after m left) (entered app from_text c x) first all
    where
      by_entry : ((after : Configuration L) → replayed app from_text after xs ≡ Some m
          → replayed app from_text after (xs ++ ys) ≡ Some left → replayed app from_text m ys ≡ Some left)
          → (o : Option (Configuration L)) → option_and_then (λ after. replayed app from_text after xs) o ≡ Some m
          → option_and_then (λ after. replayed app from_text after (xs ++ ys)) o ≡ Some left
          → replayed app from_text m ys ≡ Some left
      by_entry later None first all = absurd (cc)
      by_entry later (Some after) first all = later after first all

  pub continued_stretch : (first b : BookView L) → IsBook app from_text first → IsContinued app from_text first b
      → (events : List Event) × IsStretch app from_text b.opening b.entries (stretch_since first b events)
  continued_stretch first b own is =
      let n = length first.entries in
      let since = all_steps (drop n b.entries) is.steps in
      let split : b.entries ≡ first.entries ++ steps since.0 =
      sym (take-append-drop n b.entries) ∙ ap₂ (λ xs ys. xs ++ ys) is.before since.1 in
      let begins : replayed app from_text b.opening first.entries ≡ Some first.config =
      ap (λ c. replayed app from_text c first.entries) is.opening ∙ own.replay in (
        since.0,
        record {
          split = split ∙ ap (λ xs. first.entries ++ xs) (sym (append-nil (steps since.0)));
          begins = begins;
          ends = replayed_on first.entries (steps since.0) b.opening first.config b.config begins
              (ap (replayed app from_text b.opening) (sym split) ∙ is.book.replay);
        },
      )
