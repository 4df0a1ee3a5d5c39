-- Where no reason is named, none holds.
use Rattle.std.proofs.Common.{◌≡◌, Bool, true, false, cond, List, [], ◌∷◌, Some, None, refl}
use Rattle.std.specs.List.{AllByRecursion}
use Rattle.topology.specs.Changing.{Reason, first_of}

pub none_holds : {F : Type 0} (reasons : List (Reason F)) → first_of reasons ≡ None
    → AllByRecursion (λ reason. reason.holds ≡ false) reasons
none_holds [] none = tt
none_holds {F} (reason ∷ reasons) none = by_test (none_holds reasons) reason.holds none
  where
    by_test : (first_of reasons ≡ None → AllByRecursion (λ reason. reason.holds ≡ false) reasons) → (b : Bool)
        → cond b (Some reason.told) (first_of reasons) ≡ None
        → (b ≡ false) × AllByRecursion (λ reason. reason.holds ≡ false) reasons
    by_test more true is = absurd (cc)
    by_test more false is = (refl, more is)
