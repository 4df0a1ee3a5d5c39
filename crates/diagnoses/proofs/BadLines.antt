-- The first bad line of those that are left.
use Rattle.std.proofs.Common.{◌≡◌, ℕ, ◌+◌, true, false, List, [], ◌∷◌, Option, Some, None, refl}
use Rattle.script_replay.specs.Left.{first_bad, unless_bad}
use Rattle.script_replay.specs.Script.{line_of}
use Rattle.script_replay.specs.declared.script.Line.{Line}
use Rattle.script_replay.specs.declared.script.Line.TheVariants.{Silent, Asks, Bad}
use Rattle.diagnoses.specs.Scripts.{is_bad}

goes_on : {A : Type 0} (line : Line) (next last : A) → is_bad line ≡ false → unless_bad line next last ≡ next
goes_on Silent next last is = refl
goes_on (Asks command) next last is = refl
goes_on Bad next last is = absurd (cc)

stops : {A : Type 0} (line : Line) (next last : A) → is_bad line ≡ true → unless_bad line next last ≡ last
stops Silent next last is = absurd (cc)
stops (Asks command) next last is = absurd (cc)
stops Bad next last is = refl

module _ (names : ℕ → Option (List ℕ)) (n : ℕ) where
  pub first_of_none : first_bad names n [] ≡ None
  unfolding first_bad
  first_of_none = refl

  module _ (line : List ℕ) (lines : List (List ℕ)) where
    pub first_after : is_bad (line_of names line) ≡ false
        → first_bad names n (line ∷ lines) ≡ first_bad names (n + 1) lines
    unfolding first_bad
    first_after good = goes_on (line_of names line) (first_bad names (n + 1) lines) (Some n) good

    pub first_here : is_bad (line_of names line) ≡ true → first_bad names n (line ∷ lines) ≡ Some n
    unfolding first_bad
    first_here bad = stops (line_of names line) (first_bad names (n + 1) lines) (Some n) bad
