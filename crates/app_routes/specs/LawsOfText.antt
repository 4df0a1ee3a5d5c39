-- The texts of local states, taken apart.
use Rattle.std.proofs.Common.{◌≡◌, ◌≢◌, ◌↔◌, ℕ, ◌<◌, ◌^◌, ltb, ◌&&◌, List, [], ◌∷◌, ◌++◌, Some, map, refl, sym, ap, ◌∙◌}
use Rattle.std.proofs.Common.{arith}
use Rattle.std.specs.Prelude.{slice_index_or}
use Rattle.std.specs.Bool.{Decides}
use Rattle.std.specs.Fmt.{decimal}
use Rattle.std.specs.List.{list_all}
use Rattle.std.proofs.lemmas.Bool.Decides.{Decides-and, Decides-by_and, Decides-ltb}
use Rattle.std.proofs.lemmas.Fmt.{decimal_injective}
use Rattle.topology.specs.Id.{IsId}
use Rattle.action_tables.specs.Cuts.{HasNo}
use Rattle.action_tables.specs.LawsOfCuts.{HasNo-append, HasNo-decimal, SameParts, has_second, same_parts}
use Rattle.app_interface.specs.FromText.{number_of}
use Rattle.app_interface.specs.Ids.{ascends, is_id}
use Rattle.app_interface.proofs.FromTextLaws.{ascends_tells, is_id_tells, items_of-list_text, number_of-decimal}
use Rattle.app_interface.proofs.FromTextLaws.{three_parts}
use Rattle.app_interface.specs.PrintableWord.{IsPrintableWord}
use Rattle.app_interface.proofs.PrintableWords.{IsPrintableWord-decimal, IsPrintableWord-joined, IsPrintableWord-list}
use Rattle.app_interface.proofs.OneText.{one_of_spelled}
use Rattle.app_interface.proofs.ListingLaws.{Spells, same_list}
use Rattle.app_routes.specs.Entries.{AreRoutes, IsEntry, are_routes, is_entry}
use Rattle.app_routes.specs.LocalText.{entry_spelled_by, entry_text, routes_from_text, routes_text, spelled_by}
use Rattle.app_routes.specs.declared.entry.Entry.{Entry}

small_id : (n : ℕ) → IsId n → n < 2 ^ 64
small_id n id = omega (arith, id.small)

small_hops : (n : ℕ) → n < 2 ^ 32 → n < 2 ^ 64
small_hops n small = omega (arith, small)

-- a number has no colon
pub no_colon : (n : ℕ) → n < 2 ^ 32 → HasNo 58 (decimal n)
no_colon n small = HasNo-decimal 58 n (λ digit. absurd (omega (arith, digit))) (small_hops n small)

-- the numbers of an entry are digits, and no byte but a colon stands between them
HasNo-entry : (byte : ℕ) (e : Entry) → byte < 48 → IsEntry e → HasNo byte (entry_text e)
HasNo-entry byte e low is =
    let colon : 58 ≢ byte = λ same. absurd (omega (arith, same, low)) in
    HasNo-append byte (decimal e.destination) (58 ∷ (decimal e.hops ++ 58 ∷ decimal e.next))
    (no_byte e.destination (small_id e.destination is.destination)) (
      colon,
      HasNo-append byte (decimal e.hops) (58 ∷ decimal e.next) (no_byte e.hops (small_hops e.hops is.hops))
          (colon, no_byte e.next (small_id e.next is.next)),
    )
  where
    no_byte : (n : ℕ) → n < 2 ^ 64 → HasNo byte (decimal n)
    no_byte n small = HasNo-decimal byte n (λ digit. omega (arith, digit, low)) small

module _ (e : Entry) (is : IsEntry e) (text first rest : List ℕ) (spelled : entry_text e ≡ text)
    (cut : text ≡ first ++ 58 ∷ rest) (none : HasNo 58 first) where
  no_colon_before : HasNo 58 (decimal e.destination)
  no_colon_before = no_colon e.destination (omega (arith, is.destination.small))

  -- a text has a colon, and another after it
  pub two_colons : HasNo 58 rest → ⊥
  two_colons =
      has_second 58 (decimal e.destination) (decimal e.hops) (decimal e.next) text first rest no_colon_before spelled
      cut none

  pub parts_of : (second third : List ℕ) → rest ≡ second ++ 58 ∷ third → HasNo 58 second
      → SameParts (decimal e.destination) first (decimal e.hops) second (decimal e.next) third
  parts_of second third cut' none' =
      same_parts 58 (decimal e.destination) (decimal e.hops) (decimal e.next) text first rest no_colon_before spelled
      cut none second third (no_colon e.hops is.hops) cut' none'

pub same_fields : (a b : Entry) → a.destination ≡ b.destination → a.hops ≡ b.hops → a.next ≡ b.next → a ≡ b
same_fields a b d h n =
    ap (λ x. make x a.hops a.next) d ∙ ap (λ x. make b.destination x a.next) h ∙ ap (λ x. make b.destination b.hops x) n
  where
    make : ℕ → ℕ → ℕ → Entry
    make d h n = record { destination = d; hops = h; next = n }

-- one entry a text
pub same_entry_text : (a b : Entry) → IsEntry a → IsEntry b → entry_text a ≡ entry_text b → a ≡ b
same_entry_text a b is is' text =
    let parts =
    parts_of a is (entry_text b) (decimal b.destination) (decimal b.hops ++ 58 ∷ decimal b.next) text refl
    (no_colon b.destination (omega (arith, is'.destination.small)))
    (decimal b.hops) (decimal b.next) refl (no_colon b.hops is'.hops) in
    same_fields a b
    (decimal_injective a.destination b.destination (small_id a.destination is.destination)
    (small_id b.destination is'.destination) parts.first)
    (decimal_injective a.hops b.hops (small_hops a.hops is.hops) (small_hops b.hops is'.hops) parts.second)
    (decimal_injective a.next b.next (small_id a.next is.next) (small_id b.next is'.next) parts.third)

-- entries have texts of their own
pub entries_spelled : Spells IsEntry entry_text
entries_spelled = record { high = HasNo-entry; one = same_entry_text }

same_text : (xs ys : List Entry) → AreRoutes xs → AreRoutes ys → routes_text xs ≡ routes_text ys → xs ≡ ys
same_text xs ys are are' e = same_list entries_spelled xs ys are.are_entries are'.are_entries e

-- ---- the local state of a text

entry_tells : (e : Entry) → Decides (is_entry e) (IsEntry e)
entry_tells e =
    let both =
    Decides-and (is_id e.destination) (ltb e.hops (2 ^ 32) && is_id e.next) (is_id_tells e.destination)
    (Decides-and (ltb e.hops (2 ^ 32)) (is_id e.next) (Decides-ltb e.hops (2 ^ 32)) (is_id_tells e.next)) in (
      λ t. let p = both.0 t in record { destination = p.0; hops = p.1.0; next = p.1.1 },
      λ is. both.1
          (is.destination, (is.hops, is.next)),
    )

routes_tell : (es : List Entry) → Decides (are_routes es) (AreRoutes es)
routes_tell es =
    let ns = map (λ e. e.destination) es in
    let both =
    Decides-and (ascends ns) (list_all is_entry es) (ascends_tells ns)
    (Decides-by_and is_entry IsEntry (list_all is_entry) entry_tells refl (λ _ _. refl) es) in (
      λ t. let p = both.0 t in record { ascending = p.0; are_entries = p.1 },
      λ are. both.1
          (are.ascending, are.are_entries),
    )

-- the text of an entry spells it
entry_back : (e : Entry) → IsEntry e → entry_spelled_by (entry_text e) ≡ e
entry_back e is =
    let destination : e.destination < 2 ^ 32 = omega (arith, is.destination.small) in
    let next : e.next < 2 ^ 32 = omega (arith, is.next.small) in
    let parts =
    three_parts 58 (decimal e.destination) (decimal e.hops) (decimal e.next)
    (no_colon e.destination destination) (no_colon e.hops is.hops) (no_colon e.next next) in
    same_fields (entry_spelled_by (entry_text e)) e
    (ap (λ ps. number_of (slice_index_or ps 0 [])) parts ∙ number_of-decimal e.destination destination)
    (ap (λ ps. number_of (slice_index_or ps 1 [])) parts ∙ number_of-decimal e.hops is.hops)
    (ap (λ ps. number_of (slice_index_or ps 2 [])) parts ∙ number_of-decimal e.next next)

-- the text of a local state spells it
spelled_back : (es : List Entry) → AreRoutes es → spelled_by (routes_text es) ≡ es
spelled_back es are = items_of-list_text entries_spelled entry_spelled_by entry_back es are.are_entries

-- a text is that of one local state, or of none
pub one_routes_text : (t : List ℕ) (local : List Entry)
    → (routes_from_text t ≡ Some local ↔ AreRoutes local × (routes_text local ≡ t))
one_routes_text t local =
    one_of_spelled routes_tell same_text t (spelled_by t) (λ es are e. ap spelled_by (sym e) ∙ spelled_back es are)
    local

-- ---- a text is one word

entry_word : (e : Entry) → IsEntry e → IsPrintableWord (entry_text e)
entry_word e is =
    IsPrintableWord-joined 58 (decimal e.destination) (decimal e.hops ∷ decimal e.next ∷ []) refl (
      IsPrintableWord-decimal e.destination (small_id e.destination is.destination),
      (
        IsPrintableWord-decimal e.hops (small_hops e.hops is.hops),
        (IsPrintableWord-decimal e.next (small_id e.next is.next), tt),
      ),
    )

-- the text of a local state is one word
pub routes_word : (local : List Entry) → AreRoutes local → IsPrintableWord (routes_text local)
routes_word local are = IsPrintableWord-list IsEntry entry_text entry_word local are.are_entries
