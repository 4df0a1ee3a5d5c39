-- The numbers of a set of cases, from 1 to 16, and the bits that keep them.
use Rattle.std.specs.Prelude.{ℕ, ◌-◌, ◌^◌, Bool, ◌==◌, if◌then◌else◌, List, [], ◌∷◌}
use Rattle.std.specs.BTreeSet.{insert_key}
use Rattle.std.specs.Int.{bit_at}
use Rattle.std.specs.Int.RustNames.{bit_or}
use Rattle.std.specs.List.{filter, list_any, range_with_len}
use Rattle.std.specs.Ordering.{nat_cmp}

-- n is one of the numbers
abbrev pub is_among : ℕ → List ℕ → Bool
is_among n ns = list_any (λ m. m == n) ns

-- the ascending numbers with n at its place, unless it is there
abbrev pub with_number : ℕ → List ℕ → List ℕ
with_number n ns = insert_key nat_cmp ns n

-- the same where the test holds, and as they are elsewhere. It stays folded, so that a chain of
-- many is no tree of all their tests
unfoldable pub with_number_if : ℕ → Bool → List ℕ → List ℕ
with_number_if n test ns = if test then with_number n ns else ns

-- the bit of n, the one before it in the count from 0, is set
abbrev pub has_bit : ℕ → ℕ → Bool
has_bit bits n = bit_at bits (n - 1) == 1

-- 1 to 16
unfoldable pub all_cases : List ℕ
all_cases = range_with_len 1 16

-- the numbers whose bits are set
unfoldable pub numbers_of : ℕ → List ℕ
numbers_of bits = filter (λ n. has_bit bits n) all_cases

-- the bits of the numbers
unfoldable pub bits_of : List ℕ → ℕ
bits_of [] = 0
bits_of (n ∷ ns) = bit_or (2 ^ (n - 1)) (bits_of ns)
