-- What help a line asks for.
use Rattle.std.proofs.Common.{◌≡◌, ℕ, ◌<◌, Bool, true, false, List, codes, length, None}
use Rattle.std.proofs.Common.{option_map, refl, ap, ap₂, ◌∙◌, arith}
use Rattle.std.specs.Prelude.{nat_lt}
use Rattle.std.proofs.lemmas.Bool.Decides.{nat_tests}
use Rattle.std.proofs.lemmas.Slice.Eq.{bytes_eq-Decides}
use Rattle.std.specs.Option.{option_or}
use Rattle.std.specs.Str.{bytes_eq}
use Rattle.explanations.specs.Help.{asked_word, explanation_text, general_help, helped, word_help}

pub by_parts : (line : List ℕ) → helped line ≡ option_or (general_help line) (word_help line)
unfolding helped
by_parts line = refl

module _ (line : List ℕ) (long : 256 < length line) where
  is_other : (word : List ℕ) → length word < 256 → (b : Bool) → bytes_eq line word ≡ b → bytes_eq line word ≡ false
  is_other word short true is =
      let same : line ≡ word = (bytes_eq-Decides line word).0 is in
      absurd (omega (arith, long, short, ap length same))
  is_other word short false is = is

  nothing_general : general_help line ≡ None
  nothing_general =
      rw (
        is_other (codes "help") (omega arith) (bytes_eq line (codes "help")) refl,
        is_other (codes "explain") (omega arith) (bytes_eq line (codes "explain")) refl,
      ) refl

  nothing_asked : asked_word line ≡ None
  nothing_asked =
      let over : nat_lt 256 (length line) ≡ true = grind (arith, nat_tests) in
      rw over refl

  pub long_asks_nothing : helped line ≡ None
  long_asks_nothing =
      by_parts line ∙ ap₂ option_or nothing_general (ap (option_map explanation_text) nothing_asked)
