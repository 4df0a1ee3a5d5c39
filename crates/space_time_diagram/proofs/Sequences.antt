-- Texts that are written one after another.
use Rattle.std.proofs.Common.{List, ℕ, [], ◌++◌, Option, Some, None, sym, append-nil}
use Rattle.std.specs.Io.KnownBytes.{Appends}
use Rattle.std.proofs.KnownBytes.{Appends-trans}
use Rattle.action_tables.specs.Written.{AppendsPrefix}
use Rattle.action_tables.proofs.Prefixes.{AppendsPrefix-first, AppendsPrefix-then}

pub nothing_yet : (a : Option (List ℕ)) → Appends a a []
nothing_yet None = tt
nothing_yet (Some xs) = sym (append-nil xs)

-- the first of two texts was written, and the second failed, and so for more
pub second_failed : (a b c : Option (List ℕ)) (s t rest : List ℕ) → Appends a b s → AppendsPrefix b c t
    → AppendsPrefix a c (s ++ (t ++ rest))
second_failed a b c s t rest p h = AppendsPrefix-then a b c s (t ++ rest) p (AppendsPrefix-first b c t rest h)

pub third_failed : (a b c d : Option (List ℕ)) (s t u rest : List ℕ) → Appends a b s → Appends b c t
    → AppendsPrefix c d u → AppendsPrefix a d (s ++ (t ++ (u ++ rest)))
third_failed a b c d s t u rest p q h =
    AppendsPrefix-then a b d s (t ++ (u ++ rest)) p (second_failed b c d t u rest q h)

pub fourth_failed : (a b c d e : Option (List ℕ)) (s t u v rest : List ℕ) → Appends a b s → Appends b c t
    → Appends c d u → AppendsPrefix d e v → AppendsPrefix a e (s ++ (t ++ (u ++ (v ++ rest))))
fourth_failed a b c d e s t u v rest p q r h =
    AppendsPrefix-then a b e s (t ++ (u ++ (v ++ rest))) p (third_failed b c d e t u v rest q r h)

pub fifth_failed : (a b c d e f : Option (List ℕ)) (s t u v w rest : List ℕ) → Appends a b s → Appends b c t
    → Appends c d u → Appends d e v → AppendsPrefix e f w → AppendsPrefix a f (s ++ (t ++ (u ++ (v ++ (w ++ rest)))))
fifth_failed a b c d e f s t u v w rest p q r k h =
    AppendsPrefix-then a b f s (t ++ (u ++ (v ++ (w ++ rest)))) p (fourth_failed b c d e f t u v w rest q r k h)

-- all of them were written
last_written : (a b : Option (List ℕ)) (s : List ℕ) → Appends a b s → Appends a b (s ++ [])
last_written a b s p = Appends-trans a b b s [] p (nothing_yet b)

pub four_written : (a b c d e : Option (List ℕ)) (s t u v : List ℕ) → Appends a b s → Appends b c t → Appends c d u
    → Appends d e v → Appends a e (s ++ (t ++ (u ++ (v ++ []))))
four_written a b c d e s t u v p q r k =
    Appends-trans a b e s (t ++ (u ++ (v ++ []))) p
    (Appends-trans b c e t (u ++ (v ++ [])) q (Appends-trans c d e u (v ++ []) r (last_written d e v k)))

pub five_written : (a b c d e f : Option (List ℕ)) (s t u v w : List ℕ) → Appends a b s → Appends b c t
    → Appends c d u → Appends d e v → Appends e f w → Appends a f (s ++ (t ++ (u ++ (v ++ (w ++ [])))))
five_written a b c d e f s t u v w p q r k l =
    Appends-trans a b f s (t ++ (u ++ (v ++ (w ++ [])))) p (four_written b c d e f t u v w q r k l)
