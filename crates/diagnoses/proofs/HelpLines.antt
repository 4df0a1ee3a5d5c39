-- The lines of the help that are left, and the names in them.
use Rattle.std.proofs.Common.{◌≡◌, ℕ, ◌+◌, List, [], ◌∷◌, ◌++◌, All, Contains, length, take, map, Bor, sym}
use Rattle.std.proofs.Common.{subst, ap, ◌∙◌, arith}
use Rattle.std.proofs.lemmas.List.{append_assoc, length-append, take_at}
use Rattle.std.proofs.lemmas.List.Elements.{All-contains, All-map, Contains-append_left, Contains-append_right}
use Rattle.std.proofs.lemmas.List.Elements.{Contains-push}
use Rattle.explanations.specs.declared.help.TheConstants.{COMMANDS_HELP}
use Rattle.script_replay.specs.Lines.{lines_of}
use Rattle.diagnoses.specs.Commands.{BeginsWithName, IsCommandName, IsMeantCommand, help_lines}
use Rattle.diagnoses.specs.Nearest.{IsNearest}

-- the lines that are left are lines of the help
abbrev pub AreLeft : List ℕ → Type 0
AreLeft rest = (line : List ℕ) → Contains (lines_of rest) line → Contains help_lines line

pub all_left : (text : List ℕ) → text ≡ COMMANDS_HELP.now → AreLeft text
unfolding help_lines
all_left text is line among = subst (λ t. Contains (lines_of t) line) is among

module _ (rest help after : List ℕ) (is : lines_of rest ≡ help ∷ lines_of after) (left : AreLeft rest) where
  pub left_after : AreLeft after
  left_after line among =
      left line
      (subst (λ lines. Contains lines line) (sym is) (Contains-append_right (help ∷ []) (lines_of after) line among))

  pub named : (name : List ℕ) → BeginsWithName help name → IsCommandName name
  named name begins = (
    help,
    left help
        (subst (λ lines. Contains lines help) (sym is)
        (Contains-append_left (help ∷ []) (lines_of after) help (Contains-push [] help))),
    begins,
  )

-- a line that begins with two words, each before a space
pub begins_with_two : (help first second rest more : List ℕ) → help ≡ first ++ 32 ∷ rest → rest ≡ second ++ 32 ∷ more
    → BeginsWithName help (take (length first + 1 + length second) help)
begins_with_two help first second rest more is rest_is =
    let whole : help ≡ (first ++ 32 ∷ second) ++ 32 ∷ more =
    is ∙ ap (λ r. first ++ 32 ∷ r) rest_is ∙ sym (append_assoc first (32 ∷ second) (32 ∷ more)) in
    let sum = length-append first (32 ∷ second) in
    let front : take (length first + 1 + length second) help ≡ first ++ 32 ∷ second =
    ap (take (length first + 1 + length second)) whole
    ∙ take_at (first ++ 32 ∷ second) (32 ∷ more) (length first + 1 + length second) (omega (arith, sum)) in
    (more, whole ∙ ap (λ name. name ++ 32 ∷ more) (sym front))

-- what is meant among names of commands is a command
pub meant : (names : List (Bor (List ℕ))) (word name : List ℕ)
    → All (λ (name : Bor (List ℕ)). IsCommandName name.now) names
    → IsNearest (map (λ (name : Bor (List ℕ)). name.now) names) word name → IsMeantCommand word name
meant names word name all is = record {
  command =
      All-contains IsCommandName (map (λ (n : Bor (List ℕ)). n.now) names) name
      (All-map IsCommandName (λ (n : Bor (List ℕ)). n.now) names all) is.among;
  near = is.near;
}

pub none_named : (names : List (Bor (List ℕ))) → names ≡ []
    → All (λ (name : Bor (List ℕ)). IsCommandName name.now) names
none_named names is =
    subst (All (λ (name : Bor (List ℕ)). IsCommandName name.now)) (sym is)
    (λ k d within. absurd (omega (arith, within)))
