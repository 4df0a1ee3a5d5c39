-- One write after another, of which the last may have failed.
use Rattle.std.proofs.Common.{ℕ, List, ◌++◌, Option, Result, Ok, Err, OnOk, OnErr, subst, ◌≡◌, ap, ◌∙◌, append_assoc}
use Rattle.std.proofs.Common.{sym}
use Rattle.std.specs.Io.KnownBytes.{Appends}
use Rattle.std.proofs.KnownBytes.{Appends-trans}
use Rattle.action_tables.specs.Written.{AppendsPrefix}

-- the first of two writes failed
pub AppendsPrefix-first : (a b : Option (List ℕ)) (xs ys : List ℕ) → AppendsPrefix a b xs → AppendsPrefix a b (xs ++ ys)
AppendsPrefix-first a b xs ys h = record {
  prefix = h.prefix;
  rest = h.rest ++ ys;
  cut = ap (λ l. l ++ ys) h.cut ∙ append_assoc h.prefix h.rest ys;
  appended = h.appended;
}

-- the second of two writes failed
pub AppendsPrefix-then : (a b c : Option (List ℕ)) (xs ys : List ℕ) → Appends a b xs → AppendsPrefix b c ys
    → AppendsPrefix a c (xs ++ ys)
AppendsPrefix-then a b c xs ys p h = record {
  prefix = xs ++ h.prefix;
  rest = h.rest;
  cut = ap (λ l. xs ++ l) h.cut ∙ sym (append_assoc xs h.prefix h.rest);
  appended = Appends-trans a b c xs h.prefix p h.appended;
}

-- a clause on an error that holds of any result
pub OnErr-always : {T E : Type 0} (r : Result T E) (Q : Type 0) → Q → OnErr r Q
OnErr-always (Ok x) Q q = tt
OnErr-always (Err e) Q q = q

-- two writes make one text, where the second went well
pub OnOk-then : {T E : Type 0} (r : Result T E) (a b c : Option (List ℕ)) (xs ys zs : List ℕ) → zs ≡ xs ++ ys
    → Appends a b xs → OnOk r (Appends b c ys) → OnOk r (Appends a c zs)
OnOk-then (Ok x) a b c xs ys zs is p h = let P : List ℕ → Type 0 =
    λ l. Appends a c l in subst P (sym is) (Appends-trans a b c xs ys p h)
OnOk-then (Err e) a b c xs ys zs is p h = tt

-- two writes make one text, of which a prefix is written where the second failed
pub OnErr-then : {T E : Type 0} (r : Result T E) (a b c : Option (List ℕ)) (xs ys zs : List ℕ) → zs ≡ xs ++ ys
    → Appends a b xs → OnErr r (AppendsPrefix b c ys) → OnErr r (AppendsPrefix a c zs)
OnErr-then (Ok x) a b c xs ys zs is p h = tt
OnErr-then (Err e) a b c xs ys zs is p h = let P : List ℕ → Type 0 =
    λ l. AppendsPrefix a c l in subst P (sym is) (AppendsPrefix-then a b c xs ys p h)
