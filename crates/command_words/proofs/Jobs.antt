-- The job of a subcommand that clap met, and the fault that stands for clap's error.
use Rattle.std.proofs.Common.{◌≡◌, ◌∙◌, ◌<◌, ◌≤◌, ◌^◌, ℕ, Bool, true, false, refl, sym, subst, ap, arith, codes, List}
use Rattle.std.proofs.Common.{◌⊎◌, Option, Some, None}
use Rattle.std.proofs.Common.{Result, Ok, Err, inl, inr}
use Rattle.std.specs.Borrow.{Bor}
use Rattle.std.specs.Prelude.{IfErr, IfSome, IsErrAnd, IsSome, IsSomeAnd, option_map, unwrap_or}
use Rattle.std.specs.Option.{ForSome}
use Rattle.std.specs.Str.{bytes_eq}
use Rattle.std.specs.Str.Parse.{ParsesUnsigned, digits_value, without_leading_plus}
use Rattle.clap.specs.Words.{HasKind, Text, IsAmong, ReadsOne, first_of, kind_of, one_text, rows_of, Row}
use Rattle.clap.specs.declared.error.Error.{Error}
use Rattle.clap.specs.declared.parser.matches.Found.{Found}
use Rattle.clap.proofs.WalkLemmas.{one_text-rows}
use Rattle.command_words.specs.Faults.{IsFaultOf, StandsFor, faults_of}
use Rattle.command_words.specs.Words.{HasFlag, HasJob, HasNumber, IsNumberOr, IsNumberOrNone, IsNumberWithin, MayHaveNumber}
use Rattle.command_words.specs.Words.{Writes, is_on}
use Rattle.command_words.specs.declared.words.Job.{Job}
use Rattle.command_words.specs.declared.words.LineFault.{LineFault}
use Rattle.command_words.specs.declared.words.LineFault.TheVariants.{BadWords, NoMemory}

pub some_text : (o : Option (Bor Text)) (text : Option Text) → option_map (λ s. s.now) o ≡ text → IsSome text → IsSome o
some_text None text e some = absurd (cc)
some_text (Some s) text e some = refl

-- clap's error as a fault
pub fault_is : (words : List Text) (e : Error) (r : Result Job LineFault) → HasKind (faults_of words) e
    → IsErrAnd r (StandsFor e) → IfErr r (IsFaultOf words)
fault_is words e (Ok job) kind stands = tt
fault_is words e (Err NoMemory) kind stands = tt
fault_is words e (Err (BadWords kept)) kind stands = go kind
  where
    go : HasKind (faults_of words) e → IsAmong (kind_of kept) (faults_of words)
    go (inl memory) = absurd (stands.1 memory)
    go (inr among) = subst (λ (x : Error). IsAmong (kind_of x) (faults_of words)) (sym stands.0) among

-- the number that was found of an argument is the one that a type of 32 bits reads
module _ (E : Type 0) (G : Text → Result ℕ E → Type 0)
    (parses : (t : Text) (x : Result ℕ E) → G t x → ParsesUnsigned 32 10 t x) (name : Text) (least most : ℕ)
    (small : most < 2 ^ 32) (f : Found) (r : Option ℕ)
    (reads : (t : Text) → one_text f name ≡ Some t → ReadsOne G t r) where
  number_read : (h : HasNumber name least most (rows_of f)) → r ≡ Some h.0
  number_read h = go (first_of name (rows_of f)) h.1.0 (one_text-rows f name ∙ h.2)
    where
      number : (t : Text) → Writes h.0 t → (o : Option ℕ) → ReadsOne G t o → o ≡ Some h.0
      number t writes (Some n) read = ap Some ((parses t (Ok n) read).1 ∙ writes.1)
      number t writes None read =
          let most_ok = h.1.2 in
          let same = writes.1 in
          let fits : digits_value 10 (without_leading_plus t) < 2 ^ 32 = omega arith in
          absurd (parses t (Err read.0) read.1 (writes.0, fits))

      go : (o : Option Text) → IsSomeAnd o (Writes h.0) → one_text f name ≡ o → r ≡ Some h.0
      go None some text = absurd some
      go (Some t) some text = number t some r (reads t text)

  -- it is the number of the text
  pub number_is : (n : ℕ) → r ≡ Some n → HasNumber name least most (rows_of f)
      → IsNumberWithin least most (first_of name (rows_of f)) n
  number_is n is h =
      subst (λ (k : ℕ). IsNumberWithin least most (first_of name (rows_of f)) k)
      (ap (λ o. unwrap_or o 0) (sym (number_read h) ∙ is)) h.1

  -- and there is one
  pub number_found : HasNumber name least most (rows_of f) → IsSome r
  number_found h = subst (λ (o : Option ℕ). IsSome o) (sym (number_read h)) refl

  -- where nothing may have been found, another number may stand for it
  pub number_or : (other : ℕ) → (one_text f name ≡ None → r ≡ None)
      → MayHaveNumber name least most (rows_of f)
      → IsNumberOr other least most (first_of name (rows_of f)) (unwrap_or r other)
  number_or other none (inl nothing) =
      let empty : r ≡ None = none (one_text-rows f name ∙ nothing.1) in
      subst (λ (o : Option Text). IsNumberOr other least most o (unwrap_or r other)) (sym nothing.0)
      (ap (λ o. unwrap_or o other) empty)
  number_or other none (inr h) =
      let read : r ≡ Some h.0 = number_read h in
      subst (λ (n : ℕ). IsNumberOr other least most (first_of name (rows_of f)) n)
      (sym (ap (λ o. unwrap_or o other) read))
      (given (first_of name (rows_of f)) h.1)
    where
      given : (o : Option Text) → IsNumberWithin least most o h.0 → IsNumberOr other least most o h.0
      given None is = absurd is.0
      given (Some t) is = is

  -- where nothing may have been found, there is none
  pub number_or_none : (one_text f name ≡ None → r ≡ None) → MayHaveNumber name least most (rows_of f)
      → IsNumberOrNone least most (first_of name (rows_of f)) r
  number_or_none none (inl nothing) =
      subst (λ (o : Option Text). IsNumberOrNone least most o r) (sym nothing.0) (none (one_text-rows f name ∙ nothing.1))
  number_or_none none (inr h) =
      subst (λ (o : Option ℕ). IsNumberOrNone least most (first_of name (rows_of f)) o) (sym (number_read h))
      (given (first_of name (rows_of f)) h.1)
    where
      given : (o : Option Text) → IsNumberWithin least most o h.0 → IsNumberOrNone least most o (Some h.0)
      given None is = absurd is.0
      given (Some t) is = is

-- a number that may be there is one of the range
pub number_few : (least most : ℕ) (o : Option Text) (r : Option ℕ) → IsNumberOrNone least most o r
    → ForSome r (λ n. n ≤ most)
number_few least most None r is n at = let differ : None ≡ Some n = sym is ∙ at in absurd (cc)
number_few least most (Some t) None is n at = absurd is
number_few least most (Some t) (Some m) is n at = let same : m ≡ n = cc in subst (λ k. k ≤ most) same is.2

-- what holds of the subcommand that was met holds of its name with its rows
pub met_rows : {S : Type 0} (name_of : S → Text) (rows_in : S → List Row) (name : Text) (rows : List Row) (found : Option S)
    → Some name ≡ option_map name_of found
    → Some rows ≡ option_map (λ p. p.1) (option_map {U = Text × List Row} (λ s. (name_of s, rows_in s)) found)
    → HasJob (option_map {U = Text × List Row} (λ s. (name_of s, rows_in s)) found) → HasJob (Some (name, rows))
met_rows name_of rows_in name rows None named given has = absurd (cc)
met_rows name_of rows_in name rows (Some s) named given has =
    let same : name ≡ name_of s = cc in
    let same_rows : rows ≡ rows_in s = cc in
    subst (λ (n : Text). HasJob (Some (n, rows))) (sym same)
    (subst (λ (r : List Row). HasJob (Some (name_of s, r))) (sym same_rows) has)

-- a flag is on where it is given
pub flag_is : (name : Text) (f : Found) (b : Bool) → (one_text f name ≡ None → b ≡ false)
    → (one_text f name ≡ Some (codes "true") → b ≡ true) → (one_text f name ≡ Some (codes "false") → b ≡ false)
    → HasFlag name (rows_of f) → b ≡ is_on (first_of name (rows_of f))
flag_is name f b none on off has = go (first_of name (rows_of f)) (one_text-rows f name ∙ has.1) has.0
  where
    go : (o : Option Text) → one_text f name ≡ o
        → IfSome o (λ value. (value ≡ codes "true") ⊎ (value ≡ codes "false")) → b ≡ is_on o
    go None text truth = none text
    go (Some t) text (inl is) =
        subst (λ (v : Text). b ≡ bytes_eq v (codes "true")) (sym is) (on (text ∙ ap Some is))
    go (Some t) text (inr is) =
        subst (λ (v : Text). b ≡ bytes_eq v (codes "true")) (sym is) (off (text ∙ ap Some is))
