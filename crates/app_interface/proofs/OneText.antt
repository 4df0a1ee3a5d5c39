-- The local state with a text: the first of some that is one and has it.
use Rattle.std.proofs.Common.{◌≡◌, ◌≢◌, ◌↔◌, ℕ, zero, suc, ◌<◌, Bool, true, false, true≢false, ◌&&◌, cond, List, []}
use Rattle.std.proofs.Common.{◌∷◌, Option, Some, None, Result, Ok, Err, IfOk, length, get_or, refl, sym, ap, ◌∙◌, subst}
use Rattle.std.proofs.Common.{arith}
use Rattle.std.specs.Bool.{Decides}
use Rattle.std.specs.List.{Contains, find}
use Rattle.std.specs.Str.{bytes_eq}
use Rattle.std.proofs.lemmas.Bool.Decides.{Decides-and}
use Rattle.std.proofs.lemmas.Option.{none-some}
use Rattle.std.proofs.lemmas.Slice.Eq.{bytes_eq-Decides}

-- where a test tells the local states, and no two of them have one text
module _ {L : Type 0} {IsLocal : L → Type 0} {text : L → List ℕ} {is_local : L → Bool}
    (tells : (v : L) → Decides (is_local v) (IsLocal v))
    (one : (a b : L) → IsLocal a → IsLocal b → text a ≡ text b → a ≡ b) (t : List ℕ) where
  abbrev has_text : L → Bool
  has_text v = is_local v && bytes_eq (text v) t

  abbrev HasText : L → Type 0
  HasText v = IsLocal v × (text v ≡ t)

  tells_text : (v : L) → Decides (has_text v) (HasText v)
  tells_text v = Decides-and (is_local v) (bytes_eq (text v) t) (tells v) (bytes_eq-Decides (text v) t)

  -- what is found is one and has the text
  found : (vs : List L) (local : L) → find has_text vs ≡ Some local → HasText local
  found [] local e = absurd (none-some local e)
  found (v ∷ vs) local e = at (has_text v) refl e (found vs local)
    where
      at : (b : Bool) → has_text v ≡ b → cond b (Some v) (find has_text vs) ≡ Some local →
          (find has_text vs ≡ Some local → HasText local) → HasText local
      at true passes e more = let same : v ≡ local = cc in subst HasText same ((tells_text v).0 passes)
      at false fails e more = more e

  -- what stands there, is one and has the text is found
  finds : (vs : List L) (local : L) → Contains vs local → HasText local → find has_text vs ≡ Some local
  finds [] local there has = absurd (omega (arith, there.1))
  finds (v ∷ vs) local there has = at (has_text v) refl there.0 there.1 there.2 (λ later. finds vs local later has)
    where
      at : (b : Bool) → has_text v ≡ b → (k : ℕ) → k < length (v ∷ vs) → get_or (v ∷ vs) k local ≡ local →
          (Contains vs local → find has_text vs ≡ Some local) → cond b (Some v) (find has_text vs) ≡ Some local
      at true passes k lt stands more =
          let p = (tells_text v).0 passes in
          ap Some (one v local p.0 has.0 (p.1 ∙ sym has.1))
      at false fails zero lt stands more =
          absurd (true≢false (sym ((tells_text local).1 has) ∙ ap has_text (sym stands) ∙ fails))
      at false fails (suc k) lt stands more = more (k, omega (arith, lt), stands)

  -- where each of the text stands among them, a text is that of one local state, or of none
  pub one_of_listed : (vs : List L) → ((v : L) → IsLocal v → text v ≡ t → Contains vs v) →
      (local : L) → (find has_text vs ≡ Some local ↔ HasText local)
  one_of_listed vs listed local = (found vs local, λ has. finds vs local (listed local has.0 has.1) has)

  -- and so where the one of the text is what is looked at
  pub one_of_spelled : (v : L) → ((w : L) → IsLocal w → text w ≡ t → v ≡ w) →
      (local : L) → (cond (has_text v) (Some v) None ≡ Some local ↔ HasText local)
  one_of_spelled v same local = one_of_listed (v ∷ []) (λ w is spelled. (0, omega arith, same w is spelled)) local

-- ---- what a reader of local states answers

module _ {L : Type 0} {IsLocal : L → Type 0} {text : L → List ℕ} {from_text : List ℕ → Option L}
    (law : (t : List ℕ) (local : L) → (from_text t ≡ Some local ↔ IsLocal local × (text local ≡ t))) (t : List ℕ) where
  -- a local state with the text is the one of the text
  pub read_is : {E : Type 0} (r : Result L E) → IfOk r IsLocal → IfOk r (λ local. text local ≡ t) →
      IfOk r (λ local. from_text t ≡ Some local)
  read_is (Ok local) are spelled = (law t local).1 (are, spelled)
  read_is (Err e) are spelled = tt

  -- a text that no local state has is that of none
  pub none_is : ((local : L) → IsLocal local → text local ≢ t) → from_text t ≡ None
  none_is none = at (from_text t) refl
    where
      at : (o : Option L) → from_text t ≡ o → from_text t ≡ None
      at None e = e
      at (Some local) e = let p = (law t local).0 e in absurd (none local p.0 p.1)
