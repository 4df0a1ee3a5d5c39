-- What a bounded reading has of a reader.
use Rattle.std.proofs.Common.{◌≡◌, ℕ, ◌≤◌, List, [], ◌++◌, refl, sym, ap, ◌∙◌, append-nil, arith, length, take, Option}
use Rattle.std.proofs.Common.{None, Some, Result, Ok, Err, OnOk}
use Rattle.std.specs.Io.KnownBytes.{Consumes, IsAtEnd}
use Rattle.std.proofs.Math.Seq.{take-append_seam}
use Rattle.std.proofs.lemmas.List.{take_all, length-append}
use Rattle.std.proofs.KnownBytes.{Consumes-nil, Consumes-trans}
use Rattle.script_replay.specs.declared.input.TheConstants.{READ_LIMIT}
use Rattle.script_replay.specs.Lines.{GaveText, IsReadFrom}
use Rattle.script_replay.specs.Parts.{ReadMore}

-- the reader is at its end
pub read_to_end : (a b : Option (List ℕ)) (text : List ℕ) → Consumes a b text → IsAtEnd b → length text ≤ READ_LIMIT
    → IsReadFrom a text
unfolding IsReadFrom
read_to_end None b text p end short = tt
read_to_end (Some x) None text p end short = absurd p
read_to_end (Some x) (Some y) text p end short =
    sym (ap (take READ_LIMIT) (p ∙ ap (λ l. text ++ l) end ∙ append-nil text) ∙ take_all READ_LIMIT text short)

-- the limit is reached
pub read_to_limit : (a b : Option (List ℕ)) (text : List ℕ) → Consumes a b text → length text ≡ READ_LIMIT
    → IsReadFrom a text
unfolding IsReadFrom
read_to_limit None b text p full = tt
read_to_limit (Some x) None text p full = absurd p
read_to_limit (Some x) (Some y) text p full =
    sym (ap (take READ_LIMIT) p ∙ ap (λ n. take n (text ++ y)) (sym full) ∙ take-append_seam text y)

-- some text is what would be read
pub some_read : (a : Option (List ℕ)) → (text : List ℕ) × IsReadFrom a text
unfolding IsReadFrom
some_read None = ([], tt)
some_read (Some x) = (take READ_LIMIT x, refl)

-- one read more
pub read_on : (a b d : Option (List ℕ)) (old new : List ℕ) (n : ℕ) → Consumes a b old → ReadMore b d old new n
    → Consumes a d new
read_on a b d old new n p more = rw more.appended (Consumes-trans a b d old more.bytes p more.consumed)

-- the last read gave nothing
pub read_last : (a b d : Option (List ℕ)) (old new : List ℕ) (n : ℕ) → Consumes a b old → ReadMore b d old new n
    → IsAtEnd d → n ≡ 0 → length old ≤ READ_LIMIT → IsReadFrom a new
read_last a b d old new n p more end zero short =
    read_to_end a d new (read_on a b d old new n p more) end
    (omega (arith, ap length more.appended, length-append old more.bytes, more.count))

-- a text was read, of no more bytes than are read of one
pub text_given : {T E : Type 0} (r : Result T E) (a b : Option (List ℕ)) (text : List ℕ) → Consumes a b text
    → length text ≤ READ_LIMIT → OnOk r (GaveText a b)
text_given (Ok x) a b text given few = record { bytes = text; given = given; few = few }
text_given (Err e) a b text given few = tt

-- nothing was read
pub nothing_given : {T E : Type 0} (r : Result T E) (a : Option (List ℕ)) → OnOk r (GaveText a a)
nothing_given r a = text_given r a a [] (Consumes-nil a) (omega arith)
