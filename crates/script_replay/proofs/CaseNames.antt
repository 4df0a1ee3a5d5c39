-- A name of a case in a line: it is one word, and no number.
use Rattle.std.specs.Prelude.{codes, IsTrue}
use Rattle.std.proofs.Common.{◌≡◌, ◌≢◌, ℕ, suc, ◌+◌, ◌-◌, ◌<◌, ◌≤◌, ◌^◌, Bool, cond, unwrap_or, true, false, ◌&&◌, List}
use Rattle.std.proofs.Common.{[], ◌∷◌, refl, sym, ap, ◌∙◌, true≢false, arith, length, Option, Some, None, IfSome}
use Rattle.std.specs.Char.{is_ascii_alphabetic, is_ascii_graphic}
use Rattle.std.specs.Fmt.{decimal}
use Rattle.std.specs.List.{find, join_with_byte, list_all, range_with_len}
use Rattle.std.proofs.lemmas.Bool.Decides.{nat_tests}
use Rattle.std.proofs.lemmas.Fmt.{decimal_is_IsNumeral}
use Rattle.std.proofs.lemmas.Str.Parse.{digit_from_value}
use Rattle.std.specs.Str.Parse.{AllDigits}
use Rattle.reset_model.specs.EventText.{neighbour_words, Fits}
use Rattle.reset_model.specs.Words.{words_of}
use Rattle.reset_model.specs.declared.event.Event.TheVariants.{Act}
use Rattle.reset_machine.proofs.CaseArguments.{cases_from, cases_end, all_from_1}
use Rattle.reset_model.proofs.EventLines.{action_small, action_words, cut_twice, same_number, words_of-decimal}
use Rattle.reset_model.proofs.WordLines.{line-words, words_of-word, words_of-more, IsWord, IsWord-decimal}
use Rattle.script_replay.proofs.CommandLines.{no_fault}
use Rattle.script_replay.specs.declared.script.Command.{Command}
use Rattle.script_replay.specs.declared.script.Command.TheVariants.{Step, Inject}
use Rattle.script_replay.specs.Script.{case_named, command_words, is_called, is_name, named_words, CommandFits, Spells}
use Rattle.script_replay.specs.Script.Spells.{by_name}

-- ---- a name is a word

graphic_not_space : (b : ℕ) → is_ascii_graphic b ≡ true → b ≢ 32
graphic_not_space b h is = true≢false (sym h ∙ ap is_ascii_graphic is)

first_of : (a b : Bool) → (a && b) ≡ true → a ≡ true
first_of true b h = refl
first_of false b h = h

second_of : (a b : Bool) → (a && b) ≡ true → b ≡ true
second_of true b h = h
second_of false b h = absurd (true≢false (sym h))

IsWord-graphic : (w : List ℕ) → list_all is_ascii_graphic w ≡ true → IsWord w
IsWord-graphic [] h = tt
IsWord-graphic (b ∷ bs) h = (
  graphic_not_space b (first_of (is_ascii_graphic b) (list_all is_ascii_graphic bs) h),
  IsWord-graphic bs
      (second_of (is_ascii_graphic b) (list_all is_ascii_graphic bs) h),
)

IsWord-name : (w : List ℕ) → IsTrue (is_name w) → IsWord w
IsWord-name [] h = tt
IsWord-name (b ∷ bs) h =
    IsWord-graphic (b ∷ bs) (second_of (is_ascii_alphabetic b) (list_all is_ascii_graphic (b ∷ bs)) h)

-- ---- a name is no number

letter_no_digit : (b : ℕ) (ds : List ℕ) → AllDigits 10 (b ∷ ds) → is_ascii_alphabetic b ≡ true → ⊥
letter_no_digit b ds digits letter = let digit = digit_from_value b digits.0 in grind (arith, nat_tests)

name_no_digits : (w : List ℕ) → AllDigits 10 w → IsTrue (is_name w) → ⊥
name_no_digits [] digits h = absurd (true≢false (sym h))
name_no_digits (b ∷ bs) digits h =
    letter_no_digit b bs digits (first_of (is_ascii_alphabetic b) (list_all is_ascii_graphic (b ∷ bs)) h)

pub name_no_number : (w : List ℕ) (n : ℕ) → n < 2 ^ 32 → w ≡ decimal n → IsTrue (is_name w) → ⊥
name_no_number w n small is h = name_no_digits (decimal n) ((decimal_is_IsNumeral n (omega arith)).0.1) (rw (← is) h)

-- ---- the words of an action with a name

pub words_of-named : (line : List ℕ) (at : ℕ) (w : List ℕ) (with : Option ℕ) → Fits (Act at 0 with) → IsTrue (is_name w)
    → line ≡ join_with_byte 32 (named_words at w with)
    → words_of line ≡ named_words at w with
words_of-named line at w None fits name is =
    ap words_of is
    ∙ ap (λ ws. codes "act" ∷ ws)
    (words_of-more (decimal at) w (IsWord-decimal at fits.0)
    ∙ ap (λ ws. decimal at ∷ ws) (words_of-word w (IsWord-name w name)))
words_of-named line at w (Some j) fits name is =
    let last = words_of-more w (decimal j) (IsWord-name w name) ∙ ap (λ ws. w ∷ ws) (words_of-decimal j fits.2) in
    ap words_of is
    ∙ ap (λ ws. codes "act" ∷ ws)
    (words_of-more (decimal at) _ (IsWord-decimal at fits.0) ∙ ap (λ ws. decimal at ∷ ws) last)

-- no command has them in its own words
pub named_apart : (c : Command) → CommandFits c → (at : ℕ) (w : List ℕ) (with : Option ℕ) → Fits (Act at 0 with)
    → IsTrue (is_name w) → command_words c ≡ named_words at w with → ⊥
named_apart (Step e) p at w with fits name h =
    let action = action_words e (decimal at ∷ w ∷ neighbour_words with) p (sym h) in
    let small = (action_small action.at action.case action.with action.fits).1 in
    let same = action.words in
    name_no_number w action.case (omega (arith, small)) (cc) name
named_apart (Inject f) p at w with fits name h = no_fault f h (λ first. absurd (omega (arith, first)))
named_apart c p at w with fits name h = absurd (omega (arith, ap length h))

-- and no two such actions have the same
pub one_named : (names : ℕ → Option (List ℕ)) (m n : ℕ) (w x : List ℕ) (v u : Option ℕ) → Fits (Act m 0 v)
    → Fits (Act n 0 u) → named_words m w v ≡ named_words n x u
    → Step (Act m (case_named names w) v) ≡ Step (Act n (case_named names x) u)
one_named names m n w x None None p q h =
    let same : m ≡ n = same_number m n p.0 q.0 (cc) in
    let word : w ≡ x = cc in
    ap (λ k. Step (Act k (case_named names w) None)) same ∙ ap (λ y. Step (Act n (case_named names y) None)) word
one_named names m n w x (Some j) (Some k) p q h =
    let same : m ≡ n = same_number m n p.0 q.0 (cc) in
    let word : w ≡ x = cc in
    let near : j ≡ k = same_number j k p.2 q.2 (cc) in
    ap (λ i. Step (Act i (case_named names w) (Some j))) same
    ∙ ap (λ y. Step (Act n (case_named names y) (Some j))) word
    ∙ ap (λ i. Step (Act n (case_named names x) (Some i))) near
one_named names m n w x v u p q h = absurd (omega (arith, ap length h))

-- ---- the case that is named, tried one after another

-- the first from n on that has the name
abbrev pub named_from : (ℕ → Option (List ℕ)) → List ℕ → ℕ → ℕ
named_from names word n = unwrap_or (find (λ n. is_called (names n) word) (cases_from n)) 0

cases_next : (n : ℕ) → n ≤ 16 → cases_from n ≡ n ∷ cases_from (n + 1)
unfolding cases_from
cases_next n low =
    let more : 17 - n ≡ suc (17 - (n + 1)) = omega arith in
    ap (λ k. range_with_len n k) more

named_next : (names : ℕ → Option (List ℕ)) (word : List ℕ) (n : ℕ) → n ≤ 16
    → named_from names word n
    ≡ unwrap_or
    (cond (is_called (names n) word) (Some n) (find (λ n. is_called (names n) word) (cases_from (n + 1)))) 0
named_next names word n low = ap (λ ns. unwrap_or (find (λ n. is_called (names n) word) ns) 0) (cases_next n low)

pub named_first : (names : ℕ → Option (List ℕ)) (word : List ℕ) → named_from names word 1 ≡ case_named names word
unfolding case_named
named_first names word = ap (λ ns. unwrap_or (find (λ n. is_called (names n) word) ns) 0) all_from_1

pub named_here : (names : ℕ → Option (List ℕ)) (word : List ℕ) (n : ℕ) → n ≤ 16 → is_called (names n) word ≡ true
    → named_from names word n ≡ n
named_here names word n low is = named_next names word n low ∙ rw is refl

pub named_later : (names : ℕ → Option (List ℕ)) (word : List ℕ) (n : ℕ) → n ≤ 16 → is_called (names n) word ≡ false
    → named_from names word n ≡ named_from names word (n + 1)
named_later names word n low is = named_next names word n low ∙ rw is refl

pub named_nowhere : (names : ℕ → Option (List ℕ)) (word : List ℕ) (n : ℕ) → 16 < n → named_from names word n ≡ 0
named_nowhere names word n high = ap (λ ns. unwrap_or (find (λ n. is_called (names n) word) ns) 0) (cases_end n high)

-- ---- the action of a line by its words

-- the line is no action with a name for its case
abbrev pub IsNotNamed : List ℕ → Type 0
IsNotNamed line =
    (at : ℕ) (word : List ℕ) (with : Option ℕ) → Fits (Act at 0 with) → IsTrue (is_name word)
    → line ≡ join_with_byte 32 (named_words at word with) → ⊥

all_small : (at : ℕ) (with : Option ℕ) → at < 2 ^ 32 → IfSome with (λ j. j < 2 ^ 32) → Fits (Act at 0 with)
all_small at None small near = (small, omega arith)
all_small at (Some j) small near = (small, omega arith, near)

-- a line of two words is none
pub two_not_named : (line command rest : List ℕ) → words_of line ≡ command ∷ words_of rest → words_of rest ≡ rest ∷ []
    → IsNotNamed line
two_not_named line command rest split one at word with fits name is =
    omega (
      arith,
      ap length
          (sym (words_of-named line at word with fits name is) ∙ cut_twice line command rest (rest ∷ []) split one),
    )

-- nor is one where something else than a word and a number follows the second
pub end_not_named : (line command rest at last : List ℕ) → words_of line ≡ command ∷ words_of rest
    → words_of rest ≡ at ∷ words_of last
    → ((word : List ℕ) (with : Option ℕ) → IfSome with (λ j. j < 2 ^ 32)
    → words_of last ≡ word ∷ neighbour_words with → ⊥) → IsNotNamed line
end_not_named line command rest at last first second none m word with fits name is =
    let same =
    sym (cut_twice line command rest (at ∷ words_of last) first second)
    ∙ words_of-named line m word with fits name is in
    none word with (action_small m 0 with fits).2 (cc)

-- the words of a line of three and perhaps a number
three_words : (line command rest at last word : List ℕ) (with : Option ℕ)
    → words_of line ≡ command ∷ words_of rest → words_of rest ≡ at ∷ words_of last
    → words_of last ≡ word ∷ neighbour_words with
    → words_of line ≡ command ∷ at ∷ word ∷ neighbour_words with
three_words line command rest at last word with first second third =
    cut_twice line command rest _ first (cut_twice rest at last _ second third)

-- such a line is an action with a name for its case where the first words are those of an action, and the third is a
-- name
pub three_found : (names : ℕ → Option (List ℕ)) (line command rest at last word : List ℕ) (with : Option ℕ) (m case : ℕ)
    → words_of line ≡ command ∷ words_of rest → words_of rest ≡ at ∷ words_of last
    → words_of last ≡ word ∷ neighbour_words with → IfSome with (λ j. j < 2 ^ 32)
    → command ≡ codes "act" → at ≡ decimal m → m < 2 ^ 32 → IsTrue (is_name word) → case ≡ case_named names word
    → Spells names line (Step (Act m case with))
three_found names line command rest at last word with m case first second third near act number small name named =
    let split = three_words line command rest at last word with first second third in
    let ends = word ∷ neighbour_words with in
    let is =
    line-words line (named_words m word with)
    (split ∙ ap (λ w. w ∷ at ∷ ends) act ∙ ap (λ w. codes "act" ∷ w ∷ ends) number) in
    by_name m word with (all_small m with small near) name is (ap (λ n. Step (Act m n with)) named)

-- and nowhere else
pub three_only : (line command rest at last word : List ℕ) (with : Option ℕ)
    → words_of line ≡ command ∷ words_of rest → words_of rest ≡ at ∷ words_of last
    → words_of last ≡ word ∷ neighbour_words with
    → ((m : ℕ) → m < 2 ^ 32 → command ≡ codes "act" → at ≡ decimal m → IsTrue (is_name word) → ⊥) → IsNotNamed line
three_only line command rest at last word with first second third apart m w v fits name is =
    let same =
    sym (three_words line command rest at last word with first second third)
    ∙ words_of-named line m w v fits name is in
    let third : w ≡ word = cc in
    apart m (action_small m 0 v fits).0 (cc) (cc) (rw (← third) name)
