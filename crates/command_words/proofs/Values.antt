-- Values that were found for arguments: texts, numbers of a range, and flags.
use Rattle.std.proofs.Common.{◌≡◌, ◌∙◌, ◌<◌, ◌||◌, not, ℕ, Bool, cond, true, false, refl, sym, ap, subst}
use Rattle.std.proofs.Common.{arith, codes, List, [], ◌∷◌, length, Option, Some, None, inl, inr}
use Rattle.std.proofs.lemmas.Slice.Eq.{bytes_eq-Decides}
use Rattle.std.specs.Str.{bytes_eq}
use Rattle.std.specs.Str.Parse.{digits_value, without_leading_plus}
use Rattle.std.specs.Prelude.{◌⊎◌, IfSome, IsSome, find, option_and_then, option_map}
use Rattle.std.specs.Prelude.{slice_get}
use Rattle.clap.specs.Words.{Row, Rule, Text, first_of}
use Rattle.clap.specs.Words.{read_as}
use Rattle.clap.specs.Takes.{is_given}
use Rattle.clap.specs.ValueTests.{accepts}
use Rattle.clap.specs.Values.{IsUnsignedIn}
use Rattle.clap.specs.Faults.{values_fault}
use Rattle.clap.specs.declared.builder.value_parser.ValueParser.TheVariants.{Unsigned, Bool as Flags}
use Rattle.clap.specs.declared.error.ErrorKind.{ErrorKind}
use Rattle.clap.specs.Walk.{arg_by_id}
use Rattle.clap.specs.Walk.{row_text}
use Rattle.clap.proofs.ValueTestLemmas.{accepts-Accepts}
use Rattle.clap.specs.declared.builder.value_parser.Reading.TheVariants.{AsWritten}
use Rattle.clap.specs.Walk.{reading_by}
use Rattle.command_words.specs.Words.{HasFlag, HasNumber}
use Rattle.command_words.specs.Words.{IsNumberWithin, MayHaveNumber}
use Rattle.command_words.proofs.PathRows.{AreTaken, IsTaken, given_row}
use Rattle.command_words.proofs.PathRows.{row_taken}

first_value : (values : List Text) → 0 < length values → IsSome (slice_get values 0)
first_value [] some = absurd (omega arith)
first_value (v ∷ vs) some = refl

-- an argument that was given has a value
pub text_found : (c : List Rule) (id : Text) (a : Rule) (rows : List Row) → arg_by_id c id ≡ Some a → AreTaken c rows
    → is_given id rows ≡ true → IsSome (first_of id rows)
text_found c id a rows is taken given =
    let row = given_row c id rows taken given in
    let of_a = subst (λ (o : Option Rule). IsTaken o row.0) is row.2 in
    subst (λ (o : Option Row). IsSome (option_and_then (λ r. slice_get r.values 0) o)) (sym row.1)
    (first_value row.0.values of_a.0)

-- ---- which arguments have to be given

pub one_given : (a : Bool) (k : ErrorKind) → cond (not a || false) (k ∷ []) [] ≡ [] → a ≡ true
one_given true k e = refl
one_given false k e = absurd (cc)

pub both_given : (a b : Bool) (k : ErrorKind) → cond (not a || (not b || false)) (k ∷ []) [] ≡ [] → (a ≡ true) × (b ≡ true)
both_given true b k e = (refl, one_given b k e)
both_given false b k e = absurd (cc)

pub three_given : (a b c : Bool) (k : ErrorKind) → cond (not a || (not b || (not c || false))) (k ∷ []) [] ≡ []
    → (a ≡ true) × (b ≡ true) × (c ≡ true)
three_given true b c k e =
    let rest = both_given b c k e in (refl, rest.0, rest.1)
three_given false b c k e = absurd (cc)

pub four_given : (a b c d : Bool) (k : ErrorKind)
    → cond (not a || (not b || (not c || (not d || false)))) (k ∷ []) [] ≡ []
    → (a ≡ true) × (b ≡ true) × (c ≡ true) × (d ≡ true)
four_given true b c d k e =
    let rest = three_given b c d k e in (refl, rest.0, rest.1, rest.2)
four_given false b c d k e = absurd (cc)

-- ---- numbers

pub is_accepted : (b : Bool) (k : ErrorKind) → cond b [] (k ∷ []) ≡ [] → b ≡ true
is_accepted true k e = refl
is_accepted false k e = absurd (cc)

-- an argument whose values are numbers from the least to the most
pub record IsOfNumbers (least most : ℕ) (a : Rule) : Type 0 where
  pub passes : (v : Text) (vs : List Text) → values_fault a (v ∷ vs) ≡ []
      → accepts false (Unsigned least most) v ≡ true
  pub reading : reading_by a ≡ AsWritten

-- a text that passed the range writes a number of the range
abbrev WritesNumber : ℕ → ℕ → Option Text → Type 0
WritesNumber least most o = (n : ℕ) × IsNumberWithin least most o n

writes_number : (least most : ℕ) (t : Text) → IsUnsignedIn least most t → WritesNumber least most (Some t)
writes_number least most t passed =
    (digits_value 10 (without_leading_plus t), ((passed.0, refl), passed.2, passed.3))

read_as_written : (o : Option Text) → option_map (read_as AsWritten) o ≡ o
read_as_written None = refl
read_as_written (Some t) = refl

values_write_number : (least most : ℕ) (a : Rule) → IsOfNumbers least most a → (values : List Text)
    → 0 < length values → values_fault a values ≡ [] → WritesNumber least most (slice_get values 0)
values_write_number least most a numbers [] some e = absurd (omega arith)
values_write_number least most a numbers (v ∷ vs) some e =
    writes_number least most v (accepts-Accepts false (Unsigned least most) v (numbers.passes v vs e))

-- the row has a number, which is read as it was written
abbrev RowHasNumber : ℕ → ℕ → Option Row → Type 0
RowHasNumber least most o = (n : ℕ) × IsNumberWithin least most (option_and_then (λ r. slice_get r.values 0) o) n
    × (option_and_then row_text o ≡ option_and_then (λ r. slice_get r.values 0) o)

row_has_number : (least most : ℕ) (a : Rule) → IsOfNumbers least most a → (r : Row) → IsTaken (Some a) r
    → RowHasNumber least most (Some r)
row_has_number least most a numbers r taken =
    let writes = values_write_number least most a numbers r.values taken.0 taken.1 in (
      writes.0,
      writes.1,
      ap (λ how. option_map (read_as how) (slice_get r.values 0)) (taken.2 ∙ numbers.reading)
          ∙ read_as_written (slice_get r.values 0),
    )

-- an argument that was given has a number
pub number_found : (least most : ℕ) (c : List Rule) (id : Text) (a : Rule) (rows : List Row) → IsOfNumbers least most a
    → arg_by_id c id ≡ Some a → AreTaken c rows → is_given id rows ≡ true → HasNumber id least most rows
number_found least most c id a rows numbers is taken given =
    let row = given_row c id rows taken given in
    let of_a = subst (λ (o : Option Rule). IsTaken o row.0) is row.2 in
    subst (RowHasNumber least most) (sym row.1) (row_has_number least most a numbers row.0 of_a)

-- and one that wasn't has none
pub number_or_none : (least most : ℕ) (c : List Rule) (id : Text) (a : Rule) (rows : List Row) → IsOfNumbers least most a
    → arg_by_id c id ≡ Some a → AreTaken c rows → MayHaveNumber id least most rows
number_or_none least most c id a rows numbers is taken =
    go (find (λ x. bytes_eq x.id id) rows) (row_taken c id rows taken)
  where
    go : (o : Option Row) → IfSome o (IsTaken (arg_by_id c id))
        → ((option_and_then (λ r. slice_get r.values 0) o ≡ None) × (option_and_then row_text o ≡ None))
        ⊎ RowHasNumber least most o
    go None none = inl (refl, refl)
    go (Some r) some =
        inr (row_has_number least most a numbers r (subst (λ (x : Option Rule). IsTaken x r) is some))

-- ---- flags

-- an argument whose values are `true` and `false`
pub record IsOfFlags (a : Rule) : Type 0 where
  pub passes : (v : Text) (vs : List Text) → values_fault a (v ∷ vs) ≡ [] → accepts false Flags v ≡ true
  pub reading : reading_by a ≡ AsWritten

abbrev IsTruth : Text → Type 0
IsTruth v = (v ≡ codes "true") ⊎ (v ≡ codes "false")

is_truth : (v : Text) → accepts false Flags v ≡ true → IsTruth v
is_truth v = go (bytes_eq v (codes "true")) refl
  where
    go : (b : Bool) → bytes_eq v (codes "true") ≡ b → (b || bytes_eq v (codes "false")) ≡ true → IsTruth v
    go true e passed = inl ((bytes_eq-Decides v (codes "true")).0 e)
    go false e passed = inr ((bytes_eq-Decides v (codes "false")).0 passed)

-- what was found of a flag is `true` or `false`, if there is something, and is read as it was written
pub flag_found : (c : List Rule) (id : Text) (a : Rule) (rows : List Row) → IsOfFlags a → arg_by_id c id ≡ Some a
    → AreTaken c rows → HasFlag id rows
flag_found c id a rows flags is taken = go (find (λ x. bytes_eq x.id id) rows) (row_taken c id rows taken)
  where
    of_values : (r : Row) (values : List Text) → values_fault a values ≡ [] → IfSome (slice_get values 0) IsTruth
    of_values r [] e = tt
    of_values r (v ∷ vs) e = is_truth v (flags.passes v vs e)

    of_row : (r : Row) → IsTaken (Some a) r
        → IfSome (slice_get r.values 0) IsTruth × (row_text r ≡ slice_get r.values 0)
    of_row r of_a = (
      of_values r r.values of_a.1,
      ap (λ how. option_map (read_as how) (slice_get r.values 0)) (of_a.2 ∙ flags.reading)
          ∙ read_as_written (slice_get r.values 0),
    )

    go : (o : Option Row) → IfSome o (IsTaken (arg_by_id c id))
        → IfSome (option_and_then (λ r. slice_get r.values 0) o) IsTruth
        × (option_and_then row_text o ≡ option_and_then (λ r. slice_get r.values 0) o)
    go None none = (tt, refl)
    go (Some r) some = of_row r (subst (λ (x : Option Rule). IsTaken x r) is some)
