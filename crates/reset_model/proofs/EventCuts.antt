-- Two numbers of which the second is missing.
use Rattle.std.proofs.Common.{◌≡◌, ℕ, ◌<◌, ◌^◌, List, ◌∷◌, ◌++◌, sym, ◌∙◌}
use Rattle.std.proofs.Common.{append_assoc}
use Rattle.std.specs.Fmt.{decimal}
use Rattle.action_tables.specs.Cuts.{HasNo}
use Rattle.action_tables.specs.LawsOfCuts.{same_cut}
use Rattle.reset_model.proofs.WordLines.{IsWord-decimal}

pub none_second : (text first rest : List ℕ) → text ≡ first ++ 32 ∷ rest → HasNo 32 first
    → ((n : ℕ) (more : List ℕ) → n < 2 ^ 32 → rest ≡ decimal n ++ 10 ∷ more → ⊥) → (m n : ℕ) (more : List ℕ)
    → m < 2 ^ 32 → n < 2 ^ 32 → text ≡ (decimal m ++ 32 ∷ decimal n) ++ 10 ∷ more → ⊥
none_second text first rest begin plain none m n more small small' is =
    let cut =
    same_cut 32 first (decimal m) rest (decimal n ++ 10 ∷ more) plain (IsWord-decimal m small)
    (sym begin ∙ is ∙ append_assoc (decimal m) (32 ∷ decimal n) (10 ∷ more)) in
    none n more small' cut.back
