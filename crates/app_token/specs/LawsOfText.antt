-- The texts of local states, taken apart.
use Rattle.std.proofs.Common.{◌≡◌, ◌↔◌, ℕ, ◌<◌, ◌^◌, Bool, true, false, List, [], ◌∷◌, ◌++◌, Some, get_or, length, refl}
use Rattle.std.proofs.Common.{sym, ap, ◌∙◌, arith}
use Rattle.std.specs.Prelude.{codes, slice_index_or}
use Rattle.std.specs.Bool.{Decides}
use Rattle.std.specs.Fmt.{decimal}
use Rattle.std.specs.List.{list_all}
use Rattle.std.specs.Str.{bytes_eq}
use Rattle.std.proofs.lemmas.Bool.Decides.{Decides-and}
use Rattle.std.proofs.lemmas.Fmt.{decimal_injective}
use Rattle.topology.specs.Id.{IsId}
use Rattle.app_token.specs.Bits.{IsBits, are_bits}
use Rattle.action_tables.specs.Cuts.{HasNo}
use Rattle.action_tables.specs.LawsOfCuts.{HasNo-decimal, SameParts, has_second, same_parts}
use Rattle.action_tables.specs.RowText.{set_text}
use Rattle.app_interface.specs.FromText.{items_of, number_of}
use Rattle.app_interface.specs.Ids.{ascends, is_id}
use Rattle.app_interface.proofs.FromTextLaws.{ascends_tells, ids_tell, items_of-list_text, number_of-decimal}
use Rattle.app_interface.proofs.FromTextLaws.{three_parts}
use Rattle.app_interface.specs.PrintableWord.{IsPrintableWord}
use Rattle.app_interface.proofs.PrintableWords.{IsPrintableWord-decimal, IsPrintableWord-joined, IsPrintableWord-list}
use Rattle.app_interface.proofs.OneText.{one_of_spelled}
use Rattle.app_interface.proofs.ListingLaws.{HasNo-list, Spells, same_list}
use Rattle.app_token.specs.LocalText.{IsTokenLocal, hold_text, is_token_local, local_text, spelled_by, token_from_text}
use Rattle.app_token.specs.declared.local.TokenLocal.{TokenLocal}

-- identifiers have texts of their own
pub ids_spelled : Spells IsId decimal
ids_spelled = record {
  high = λ byte i low id. HasNo-decimal byte i (λ digit. omega (arith, digit, low)) (small_id i id);
  one = λ i j a b e. decimal_injective i j (small_id i a) (small_id j b) e;
}
  where
    small_id : (i : ℕ) → IsId i → i < 2 ^ 64
    small_id i id = omega (arith, id.small)

pub no_slash : (ids : List ℕ) → IsBits ids → HasNo 47 (set_text ids)
no_slash ids are =
    HasNo-list ids_spelled 47 ids (omega arith) (λ e. absurd (omega (arith, e))) (λ e. absurd (omega (arith, e)))
    are.are_ids

no_slash_flag : (hold : Bool) → HasNo 47 (hold_text hold)
no_slash_flag true = (
  λ e. absurd (omega (arith, e)),
  (λ e. absurd (omega (arith, e)), (λ e. absurd (omega (arith, e)), (λ e. absurd (omega (arith, e)), tt))),
)
no_slash_flag false = (
  λ e. absurd (omega (arith, e)),
  (λ e. absurd (omega (arith, e)), (λ e. absurd (omega (arith, e)), (λ e. absurd (omega (arith, e)), tt))),
)

same_flag : (a b : Bool) → hold_text a ≡ hold_text b → a ≡ b
same_flag true true e = refl
same_flag false false e = refl
same_flag true false e = let first : 104 ≡ 102 = ap (λ l. get_or l 0 0) e in absurd (omega (arith, first))
same_flag false true e = let first : 102 ≡ 104 = ap (λ l. get_or l 0 0) e in absurd (omega (arith, first))

-- ---- a text in three parts

module _ (v : TokenLocal) (are : IsTokenLocal v) (text hold lists : List ℕ) (spelled : local_text v ≡ text)
    (cut : text ≡ hold ++ 47 ∷ lists) (none : HasNo 47 hold) where
  -- a text has a slash, and another after it
  pub two_slashes : HasNo 47 lists → ⊥
  two_slashes =
      has_second 47 (hold_text v.hold) (set_text v.given) (set_text v.taken) text hold lists (no_slash_flag v.hold)
      spelled cut none

  pub parts_of : (given taken : List ℕ) → lists ≡ given ++ 47 ∷ taken → HasNo 47 given
      → SameParts (hold_text v.hold) hold (set_text v.given) given (set_text v.taken) taken
  parts_of given taken cut' none' =
      same_parts 47 (hold_text v.hold) (set_text v.given) (set_text v.taken) text hold lists (no_slash_flag v.hold)
      spelled cut none given taken (no_slash v.given are.given) cut' none'

same_fields : (a b : TokenLocal) → a.hold ≡ b.hold → a.given ≡ b.given → a.taken ≡ b.taken → a ≡ b
same_fields a b h g t =
    ap (λ x. make x a.given a.taken) h ∙ ap (λ x. make b.hold x a.taken) g ∙ ap (λ x. make b.hold b.given x) t
  where
    make : Bool → List ℕ → List ℕ → TokenLocal
    make h g t = record { hold = h; given = g; taken = t }

same_text : (a b : TokenLocal) → IsTokenLocal a → IsTokenLocal b → local_text a ≡ local_text b → a ≡ b
same_text a b are are' e =
    let parts =
    parts_of a are (local_text b) (hold_text b.hold) (set_text b.given ++ 47 ∷ set_text b.taken) e refl
    (no_slash_flag b.hold)
    (set_text b.given) (set_text b.taken) refl (no_slash b.given are'.given) in
    same_fields a b (same_flag a.hold b.hold parts.first)
    (same_list ids_spelled a.given b.given are.given.are_ids are'.given.are_ids parts.second)
    (same_list ids_spelled a.taken b.taken are.taken.are_ids are'.taken.are_ids parts.third)

-- ---- the local state of a text

bits_tell : (ids : List ℕ) → Decides (are_bits ids) (IsBits ids)
bits_tell ids =
    let both = Decides-and (ascends ids) (list_all is_id ids) (ascends_tells ids) (ids_tell ids) in
    (λ e. let p = both.0 e in record { ascending = p.0; are_ids = p.1 }, λ are. both.1 (are.ascending, are.are_ids))

local_tells : (v : TokenLocal) → Decides (is_token_local v) (IsTokenLocal v)
local_tells v =
    let both = Decides-and (are_bits v.given) (are_bits v.taken) (bits_tell v.given) (bits_tell v.taken) in
    (λ e. let p = both.0 e in record { given = p.0; taken = p.1 }, λ are. both.1 (are.given, are.taken))

flag_back : (hold : Bool) → bytes_eq (hold_text hold) (codes "hold") ≡ hold
flag_back true = refl
flag_back false = refl

ids_back : (ids : List ℕ) → IsBits ids → items_of number_of (set_text ids) ≡ ids
ids_back ids are =
    items_of-list_text ids_spelled number_of (λ i id. number_of-decimal i (omega (arith, id.small))) ids are.are_ids

-- the text of a local state spells it
spelled_back : (v : TokenLocal) → IsTokenLocal v → spelled_by (local_text v) ≡ v
spelled_back v are =
    let parts =
    three_parts 47 (hold_text v.hold) (set_text v.given) (set_text v.taken)
    (no_slash_flag v.hold) (no_slash v.given are.given) (no_slash v.taken are.taken) in
    same_fields (spelled_by (local_text v)) v
    (ap (λ ps. bytes_eq (slice_index_or ps 0 []) (codes "hold")) parts ∙ flag_back v.hold)
    (ap (λ ps. items_of number_of (slice_index_or ps 1 [])) parts ∙ ids_back v.given are.given)
    (ap (λ ps. items_of number_of (slice_index_or ps 2 [])) parts ∙ ids_back v.taken are.taken)

-- a text is that of one local state, or of none
pub one_token_text : (t : List ℕ) (local : TokenLocal)
    → (token_from_text t ≡ Some local ↔ IsTokenLocal local × (local_text local ≡ t))
one_token_text t local =
    one_of_spelled local_tells same_text t (spelled_by t) (λ w are e. ap spelled_by (sym e) ∙ spelled_back w are) local

-- ---- a text is one word

flag_word : (hold : Bool) → IsPrintableWord (hold_text hold)
flag_word true = ((λ e. absurd (omega (arith, ap length e))), refl)
flag_word false = ((λ e. absurd (omega (arith, ap length e))), refl)

ids_word : (ids : List ℕ) → IsBits ids → IsPrintableWord (set_text ids)
ids_word ids are =
    IsPrintableWord-list IsId decimal (λ i id. IsPrintableWord-decimal i (omega (arith, id.small))) ids are.are_ids

-- the text of a local state is one word
pub token_word : (local : TokenLocal) → IsTokenLocal local → IsPrintableWord (local_text local)
token_word local are =
    IsPrintableWord-joined 47 (hold_text local.hold) (set_text local.given ∷ set_text local.taken ∷ []) refl
    (flag_word local.hold, (ids_word local.given are.given, (ids_word local.taken are.taken, tt)))
