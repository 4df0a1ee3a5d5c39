-- What texts of rows and of nodes name.
use Rattle.std.proofs.Common.{◌≡◌, ℕ, suc, ◌+◌, ◌<◌, ◌^◌, true, false, List, [], ◌∷◌, ◌++◌, All}
use Rattle.std.proofs.Common.{Contains}
use Rattle.std.proofs.Common.{arith, refl, sym, ap, ◌∙◌, subst, map, length, take, drop}
use Rattle.std.proofs.Common.{add-one, append_assoc, slice_index_or, true≢false, Option, Some, None, IfNone}
use Rattle.std.specs.Fmt.{decimal}
use Rattle.std.specs.Int.{IsInRange}
use Rattle.std.specs.List.{join_with_byte}
use Rattle.std.proofs.Math.Seq.{split_at}
use Rattle.std.proofs.lemmas.Fmt.{decimal_injective}
use Rattle.std.proofs.lemmas.List.Elements.{All-cons, All-head, All-nil, All-tail, All-contains}
use Rattle.action_tables.specs.Cuts.{HasNo}
use Rattle.action_tables.specs.LawsOfCuts.{HasNo-decimal, has_byte, rest_of, same_cut}
use Rattle.topology.specs.Faults.{IsFirst}
use Rattle.topology.specs.Graph.{has}
use Rattle.topology.specs.Id.{IsId}
use Rattle.topology.proofs.Membership.{Contains-has, has-Contains}
use Rattle.reset_service.specs.Chosen.{AreRows, NamesNodes, NamesRows}

-- ---- rows

no_dot : IsInRange 48 57 46 → ⊥
no_dot digit = omega (arith, digit)

-- what stands before the first dot, and behind it
pub rows_cut : (text rest : List ℕ) (first : ℕ) (rows : ℕ × ℕ) → first < 2 ^ 32 → text ≡ decimal first ++ 46 ∷ rest
    → NamesRows text rows → (rows.0 ≡ first) × (rest ≡ 46 ∷ decimal rows.1)
rows_cut text rest first rows small cut named =
    let valid = named.valid in
    let low : rows.0 < 2 ^ 64 = omega (arith, valid.in_turn, valid.small) in
    let high : first < 2 ^ 64 = omega (arith, small) in
    let same = same_cut 46 (decimal rows.0) (decimal first) (46 ∷ decimal rows.1) rest
    (HasNo-decimal 46 rows.0 no_dot low) (HasNo-decimal 46 first no_dot high) (sym named.spelling ∙ cut) in
    (decimal_injective rows.0 first low high same.prefix, sym same.back)

-- the number behind the dots
pub rows_last : (text rest word : List ℕ) (first : ℕ) (rows : ℕ × ℕ) → first < 2 ^ 32
    → text ≡ decimal first ++ 46 ∷ rest → rest ≡ 46 ∷ word → NamesRows text rows
    → (rows.0 ≡ first) × (word ≡ decimal rows.1)
rows_last text rest word first rows small cut dot named =
    let (is, more) = rows_cut text rest first rows small cut named in
    (is, rest_of 46 46 word (decimal rows.1) (sym dot ∙ more))

pub rows_known : (text rest word : List ℕ) (first last : ℕ) (rows : ℕ × ℕ) → first < 2 ^ 32 → last < 2 ^ 32
    → text ≡ decimal first ++ 46 ∷ rest → rest ≡ 46 ∷ word → word ≡ decimal last → NamesRows text rows
    → AreRows (first, last)
rows_known text rest word first last rows small small' cut dot is named =
    let valid = named.valid in
    let (same, more) = rows_last text rest word first rows small cut dot named in
    let low : rows.1 < 2 ^ 64 = omega (arith, valid.small) in
    let high : last < 2 ^ 64 = omega (arith, small') in
    let same' : rows.1 ≡ last = decimal_injective rows.1 last low high (sym more ∙ is) in
    record {
      positive = omega (arith, valid.positive, same);
      in_turn = omega (arith, valid.in_turn, same, same');
      small = omega (arith, valid.small, same');
    }

-- ---- nodes

no_comma : IsInRange 48 57 44 → ⊥
no_comma digit = omega (arith, digit)

wide : (id : ℕ) → IsId id → id < 2 ^ 64
wide id is = omega (arith, is.small)

-- what is named behind the first comma
pub record IsNamedNext (rest all : List ℕ) (n : ℕ) : Type 0 where
  pub more : List ℕ
  pub whole : all ≡ n ∷ more
  pub valid : IsId n
  pub named : NamesNodes rest more

pub next_named : (text rest all : List ℕ) (n : ℕ) → n < 2 ^ 32 → text ≡ decimal n ++ 44 ∷ rest → NamesNodes text all
    → IsNamedNext rest all n
next_named text rest [] n small cut named = absurd (named.some refl)
next_named text rest (x ∷ []) n small cut named =
    let is : IsId x = All-head IsId x [] named.valid in
    absurd (has_byte 44 (decimal n) rest
    (subst (HasNo 44) (sym named.spelling ∙ cut) (HasNo-decimal 44 x no_comma (wide x is))))
next_named text rest (x ∷ y ∷ ys) n small cut named =
    let is : IsId x = All-head IsId x (y ∷ ys) named.valid in
    let high : n < 2 ^ 64 = omega (arith, small) in
    let more : List ℕ = y ∷ ys in
    let same = same_cut 44 (decimal x) (decimal n) (join_with_byte 44 (map decimal more)) rest
    (HasNo-decimal 44 x no_comma (wide x is)) (HasNo-decimal 44 n no_comma high) (sym named.spelling ∙ cut) in
    let first : x ≡ n = decimal_injective x n (wide x is) high same.prefix in
    record {
      more = more;
      whole = ap (λ k. k ∷ more) first;
      valid = subst IsId first is;
      named = record {
        spelling = sym same.back;
        some = λ e. cc;
        valid = All-tail IsId x more named.valid;
      };
    }

pub named_next : (text rest more : List ℕ) (n : ℕ) → IsId n → text ≡ decimal n ++ 44 ∷ rest → NamesNodes rest more
    → NamesNodes text (n ∷ more)
named_next text rest [] n is cut named = absurd (named.some refl)
named_next text rest (y ∷ ys) n is cut named = record {
  spelling = cut ∙ ap (λ t. decimal n ++ 44 ∷ t) named.spelling;
  some = λ e. cc;
  valid = All-cons IsId n (y ∷ ys) is named.valid;
}

pub named_last : (text : List ℕ) (n : ℕ) → IsId n → text ≡ decimal n → NamesNodes text (n ∷ [])
named_last text n is spelt = record {
  spelling = spelt;
  some = λ e. cc;
  valid = All-cons IsId n [] is (All-nil IsId);
}

-- where no comma follows a number, one identifier is named at most
pub last_named : (text all : List ℕ) → ((n : ℕ) (rest : List ℕ) → n < 2 ^ 32 → text ≡ decimal n ++ 44 ∷ rest → ⊥)
    → NamesNodes text all → (n : ℕ) × IsId n × (text ≡ decimal n)
last_named text [] none named = absurd (named.some refl)
last_named text (x ∷ []) none named = (x, All-head IsId x [] named.valid, named.spelling)
last_named text (x ∷ y ∷ ys) none named =
    let is : IsId x = All-head IsId x (y ∷ ys) named.valid in
    absurd (none x (join_with_byte 44 (map decimal (y ∷ ys))) (omega (arith, is.small)) named.spelling)

-- ---- a text of which some was read

-- these identifiers were read of the text, and this is left
pub record AreRead (text rest ids : List ℕ) : Type 0 where
  pub onward : (more : List ℕ) → NamesNodes rest more → NamesNodes text (ids ++ more)
  pub left : (all : List ℕ) → NamesNodes text all → (more : List ℕ) × NamesNodes rest more

pub none_read : (text : List ℕ) → AreRead text text []
none_read text = record { onward = λ more named. named; left = λ all named. (all, named) }

pub one_read : (text rest after ids : List ℕ) (n : ℕ) → n < 2 ^ 32 → IsId n → rest ≡ decimal n ++ 44 ∷ after
    → AreRead text rest ids → AreRead text after (ids ++ n ∷ [])
one_read text rest after ids n small is cut read = record {
  onward = λ more named.
      subst (NamesNodes text) (sym (append_assoc ids (n ∷ []) more))
      (read.onward (n ∷ more) (named_next rest after more n is cut named));
  left = λ all named.
      let (more, there) = read.left all named in
      let next = next_named rest after more n small cut there in (next.more, next.named);
}

-- ---- the first that isn't among others

pub among : (ids : List ℕ) (id : ℕ) → has ids id ≡ true → Contains ids id
among ids id is = Contains-has ids id is

pub not_among : (ids : List ℕ) (id : ℕ) → has ids id ≡ false → Contains ids id → ⊥
not_among ids id is there = true≢false (sym (has-Contains ids id there) ∙ is)

pub first_at : (P : ℕ → Type 0) (xs : List ℕ) (k x : ℕ) → k < length xs → x ≡ slice_index_or xs k 0
    → All (λ y. P y → ⊥) (take k xs) → P x → IsFirst P xs x
first_at P xs k x short is none here = record {
  prefix = take k xs;
  rest = drop (k + 1) xs;
  whole =
      split_at xs k 0 short ∙ ap (λ e. take k xs ++ e ∷ drop (suc k) xs) (sym is)
      ∙ ap (λ n. take k xs ++ x ∷ drop n xs) (sym (add-one k));
  before = λ y there. All-contains (λ y. P y → ⊥) (take k xs) y none there;
  here = here;
}

-- a clause on want of a value that holds of any answer
pub IfNone-always : {X : Type 0} (o : Option X) (P : Type 0) → P → IfNone o P
IfNone-always None P p = p
IfNone-always (Some x) P p = tt
