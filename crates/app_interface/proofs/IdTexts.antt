-- The texts of identifiers.
use Rattle.std.proofs.Common.{◌≡◌, ℕ, ◌<◌, ◌^◌, true≢false, ◌↔◌, List, Option, None, Some, IfNone, IsSome, sym, ◌∙◌}
use Rattle.std.proofs.Common.{subst, arith}
use Rattle.std.specs.Fmt.{decimal}
use Rattle.std.proofs.lemmas.Fmt.{decimal_injective}
use Rattle.topology.specs.Id.{IsId}

-- a number that is no identifier spells none
pub no_id : (o : Option ℕ) (text : List ℕ) (n : ℕ) → n < 2 ^ 32 → text ≡ decimal n → (IsSome o ↔ IsId n)
    → IfNone o ((id : ℕ) → IsId id → text ≡ decimal id → ⊥)
no_id (Some x) text n small spelled valid = tt
no_id None text n small spelled valid = λ id is e.
    let same : id ≡ n = decimal_injective id n (omega (arith, is.small)) (omega (arith, small)) (sym e ∙ spelled) in
    absurd (true≢false (sym (valid.1 (subst IsId same is))))
