-- The words of a line that is put together from words.
use Rattle.std.proofs.Common.{◌≡◌, ℕ, ◌<◌, ◌^◌, List, [], ◌∷◌, ◌++◌, Option, None, Some, IfNone, IfSome, refl, sym, ap}
use Rattle.std.proofs.Common.{◌∙◌, arith, length, ne_eqb}
use Rattle.std.specs.Fmt.{decimal}
use Rattle.std.specs.List.{onto_first, join_with_byte}
use Rattle.std.proofs.lemmas.List.Splits.{slice_split-cons_no, length-slice_split, join_with_byte-slice_split}
use Rattle.action_tables.specs.Cuts.{HasNo}
use Rattle.action_tables.specs.LawsOfCuts.{HasNo-decimal}
use Rattle.reset_model.specs.Words.{is_space, words_of}

-- no byte is a space
abbrev pub IsWord : List ℕ → Type 0
IsWord w = HasNo 32 w

pub words_of-word : (w : List ℕ) → IsWord w → words_of w ≡ w ∷ []
words_of-word [] h = refl
words_of-word (c ∷ cs) h =
    slice_split-cons_no is_space c cs (ne_eqb c 32 h.0) ∙ ap (onto_first c) (words_of-word cs h.1)

pub words_of-more : (w rest : List ℕ) → IsWord w → words_of (w ++ (32 ∷ rest)) ≡ w ∷ words_of rest
words_of-more [] rest h = refl
words_of-more (c ∷ cs) rest h =
    slice_split-cons_no is_space c (cs ++ (32 ∷ rest)) (ne_eqb c 32 h.0) ∙ ap (onto_first c) (words_of-more cs rest h.1)

-- a line has a word, which may be empty
pub words_of-some : (line : List ℕ) → words_of line ≡ [] → ⊥
words_of-some line h = omega (arith, length-slice_split is_space line, ap length h)

-- a line is its words, joined by spaces
pub line-words : (line : List ℕ) (ws : List (List ℕ)) → words_of line ≡ ws → line ≡ join_with_byte 32 ws
line-words line ws h = sym (join_with_byte-slice_split 32 line) ∙ ap (join_with_byte 32) h

pub IsWord-decimal : (n : ℕ) → n < 2 ^ 32 → IsWord (decimal n)
IsWord-decimal n h = HasNo-decimal 32 n (λ digit. omega (arith, digit)) (omega arith)

-- ---- a line that is cut at its first space

pub words_cut : (line w rest : List ℕ) → line ≡ w ++ 32 ∷ rest → IsWord w → words_of line ≡ w ∷ words_of rest
words_cut line w rest is none = ap words_of is ∙ words_of-more w rest none

pub some_of_both : {X : Type 0} (r : Option X) {P Q R : X → Type 0} → IfSome r P → IfSome r Q
    → ((x : X) → P x → Q x → R x) → IfSome r R
some_of_both (Some x) p q f = f x p q
some_of_both None p q f = tt

pub none_then : {X P Q : Type 0} (r : Option X) → IfNone r P → (P → Q) → IfNone r Q
none_then (Some x) p f = tt
none_then None p f = f p

-- ---- what is read of a line, each by its words

module _ {X : Type 0} (words : X → List (List ℕ)) where
  -- what has the line's words has the line
  pub line_found : (line : List ℕ) (ws : List (List ℕ)) (o : Option X) → words_of line ≡ ws
      → IfSome o (λ x. ws ≡ words x) → IfSome o (λ x. line ≡ join_with_byte 32 (words x))
  line_found line ws (Some x) split found = line-words line (words x) (split ∙ found)
  line_found line ws None split found = tt

  -- and where nothing that fits has the line's words, nothing that fits has the line, if the line of each that
  -- fits has its words
  pub no_line_found : {Fits : X → Type 0} → ((x : X) → Fits x → words_of (join_with_byte 32 (words x)) ≡ words x)
      → (line : List ℕ) (ws : List (List ℕ)) (o : Option X)
      → words_of line ≡ ws → IfNone o ((x : X) → Fits x → ws ≡ words x → ⊥)
      → IfNone o ((x : X) → Fits x → line ≡ join_with_byte 32 (words x) → ⊥)
  no_line_found words_of-its line ws o split none =
      none_then o none (λ apart x fits is. apart x fits (sym split ∙ ap words_of is ∙ words_of-its x fits))
