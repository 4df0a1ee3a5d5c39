-- The number that is read of a history is a modulus.
use Rattle.std.proofs.Common.{ℕ, List, Result, Ok, Err, arith, subst, sym}
use Rattle.action_tables.specs.Modulus.{IsModulus}
use Rattle.history.specs.HistoryText.{IsFirstLine, IsReadAs}
use Rattle.history.specs.declared.entry.Entry.{Entry}
use Rattle.history.specs.declared.text.BookFault.{BookFault}

first_modulus : (version m : ℕ) (line : List ℕ) → IsFirstLine version m line → IsModulus m
first_modulus version m line (IsFirstLine.version_1 first wide is) =
    subst IsModulus (sym wide) (record { two = omega arith; wide = omega arith })
first_modulus version m line (IsFirstLine.version_2 second counted is) = counted
first_modulus version m line (IsFirstLine.version_3 third counted is) = counted

abbrev HasModulus : Result (ℕ × List Entry) BookFault → Type 0
HasModulus (Ok (m, es)) = IsModulus m
HasModulus (Err f) = Unit {0}

has_modulus : (text : List ℕ) (r : Result (ℕ × List Entry) BookFault) → IsReadAs text r → HasModulus r
has_modulus text r (IsReadAs.no_version none other) = tt
has_modulus text r (IsReadAs.other_version v is begins) = tt
has_modulus text r (IsReadAs.history version m es b) = first_modulus version m b.first b.names
has_modulus text r (IsReadAs.bad_line version m es rest b some stuck) = tt
has_modulus text r (IsReadAs.too_long version m es rest e b full has begins) = tt

pub read_modulus : (text : List ℕ) (m : ℕ) (es : List Entry) → IsReadAs text (Ok (m, es)) → IsModulus m
read_modulus text m es read = has_modulus text (Ok (m, es)) read
