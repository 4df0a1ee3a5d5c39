-- A line of plain bytes is what the data has for it.
use Rattle.std.proofs.Common.{◌≡◌, ℕ, ◌/◌, ◌%◌, true, cond, List, [], ◌∷◌, ◌++◌, ap, ap₂, refl}
use Rattle.std.proofs.lemmas.Bool.{and_parts}
use Rattle.std.specs.List.{flat_map, list_all}
use Rattle.history_page.specs.Lines.{encoded_byte, hex_digit, is_plain}

pub plain_encoded : (line : List ℕ) → list_all is_plain line ≡ true → flat_map encoded_byte line ≡ line
plain_encoded [] plain = refl
plain_encoded (b ∷ line) plain =
    let parts = and_parts (is_plain b) (list_all is_plain line) plain in
    ap₂ (λ own more. own ++ more)
    (ap (λ p. cond p (b ∷ []) (37 ∷ hex_digit (b / 16) ∷ hex_digit (b % 16) ∷ [])) parts.0) (plain_encoded line parts.1)
