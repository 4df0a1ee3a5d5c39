-- Four texts that are written one after another.
use Rattle.std.proofs.Common.{List, ℕ, ◌++◌, Option}
use Rattle.std.specs.Io.KnownBytes.{Appends}
use Rattle.std.proofs.KnownBytes.{Appends-trans}
use Rattle.action_tables.specs.Written.{AppendsPrefix}
use Rattle.action_tables.proofs.Prefixes.{AppendsPrefix-first, AppendsPrefix-then}

pub second_failed : (a b c : Option (List ℕ)) (s t rest : List ℕ) → Appends a b s → AppendsPrefix b c t
    → AppendsPrefix a c (s ++ (t ++ rest))
second_failed a b c s t rest p h = AppendsPrefix-then a b c s (t ++ rest) p (AppendsPrefix-first b c t rest h)

pub third_failed : (a b c d : Option (List ℕ)) (s t u rest : List ℕ) → Appends a b s → Appends b c t
    → AppendsPrefix c d u → AppendsPrefix a d (s ++ (t ++ (u ++ rest)))
third_failed a b c d s t u rest p q h =
    AppendsPrefix-then a b d s (t ++ (u ++ rest)) p (second_failed b c d t u rest q h)

pub last_failed : (a b c d e : Option (List ℕ)) (s t u v : List ℕ) → Appends a b s → Appends b c t
    → Appends c d u → AppendsPrefix d e v → AppendsPrefix a e (s ++ (t ++ (u ++ v)))
last_failed a b c d e s t u v p q r h =
    AppendsPrefix-then a b e s (t ++ (u ++ v)) p
    (AppendsPrefix-then b c e t (u ++ v) q (AppendsPrefix-then c d e u v r h))

pub all_written : (a b c d e : Option (List ℕ)) (s t u v : List ℕ) → Appends a b s → Appends b c t → Appends c d u
    → Appends d e v → Appends a e (s ++ (t ++ (u ++ v)))
all_written a b c d e s t u v p q r h =
    Appends-trans a b e s (t ++ (u ++ v)) p (Appends-trans b c e t (u ++ v) q (Appends-trans c d e u v r h))
