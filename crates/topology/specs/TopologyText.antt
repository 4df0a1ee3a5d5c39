-- What a topology text says.
use Rattle.std.specs.Prelude.{◌≡◌, ℕ, ◌^◌, nat_le, nat_lt, Bool, ◌&&◌, ◌||◌, if◌then◌else◌, ℤ, pos, negsuc, List, []}
use Rattle.std.specs.Prelude.{◌∷◌, length, map, codes, Option, Some, None, option_map, Result, Ok, Err, ok_or}
use Rattle.std.specs.List.{list_all}
use Rattle.std.specs.Option.{option_and_then}
use Rattle.std.specs.Str.{is_utf8, bytes_eq}
use Rattle.action_tables.specs.Modulus.{max_modulus}
use Rattle.toml.specs.Data.{Data, Items, no_items, item, Members, no_members, member, get_member, as_array, as_integer}
use Rattle.toml.specs.Data.{as_str}
use Rattle.toml.specs.Parse.{parse_document}
use Rattle.topology.specs.Faults.{IsFirstFault}
use Rattle.topology.specs.declared.text.AppName.{AppName}
use Rattle.topology.specs.declared.text.AppName.TheVariants.{Idle, Token, Mutex, Routes}
use Rattle.topology.specs.declared.text.ReadFault.{ReadFault}
use Rattle.topology.specs.declared.text.ReadFault.TheVariants.{TextTooLong, NotToml, MissingKey, UnknownKey, WrongKind}
use Rattle.topology.specs.declared.text.ReadFault.TheVariants.{UnknownApp, Topology}

-- what a text of the right shape gives
pub record Description : Type 0 where
  pub nodes : List ℕ
  pub links : List (ℕ × ℕ)
  pub app : AppName
  pub modulus : ℕ

-- the ? of the logic: the second step, where the first gave a value
infixl 10 ◌>>=◌
abbrev pub ◌>>=◌ : {A B : Type 0} → Result A ReadFault → (A → Result B ReadFault) → Result B ReadFault
Ok x >>= f = f x
Err e >>= f = Err e

-- the members of the document's top level, where the bytes are UTF-8 and a TOML document
unfoldable pub toml_of : List ℕ → Option Members
toml_of text = if is_utf8 text then parse_document text else None

-- the members of a text that is within the limit
unfoldable pub table_of : List ℕ → Result Members ReadFault
table_of text = if nat_lt 1048576 (length text) then Err TextTooLong else ok_or (toml_of text) NotToml

-- the value at a key of the top level
unfoldable pub value_at : Members → List ℕ → Result Data ReadFault
value_at t key = ok_or (get_member key t) MissingKey

-- the keys of the top level
abbrev pub keys_of : Members → List (List ℕ)
keys_of no_members = []
keys_of (member key d ms) = key ∷ keys_of ms

-- the four keys of a topology text
abbrev pub is_known : List ℕ → Bool
is_known key =
    ((bytes_eq key (codes "nodes") || bytes_eq key (codes "links")) || bytes_eq key (codes "app"))
    || bytes_eq key (codes "modulus")

-- no key stands beyond the four
unfoldable pub no_other_key : Members → Result (Unit {0}) ReadFault
no_other_key t = if list_all is_known (keys_of t) then Ok tt else Err UnknownKey

-- an array's values as a list
abbrev pub list_of : Items → List Data
list_of no_items = []
list_of (item d ds) = d ∷ list_of ds

-- the values of a list in which each is there
abbrev pub all_some : {X : Type 0} → List (Option X) → Option (List X)
all_some [] = Some []
all_some (o ∷ os) = option_and_then (λ x. option_map (λ xs. x ∷ xs) (all_some os)) o

-- what an array gives whose values are each of one kind
abbrev pub array_of : {X : Type 0} → (Data → Option X) → Data → Option (List X)
array_of kind d = option_and_then (λ ds. all_some (map kind (list_of ds))) (as_array d)

-- the number, if it is from 0 to 4294967295
abbrev pub in_range : ℤ → Option ℕ
in_range (pos n) = if nat_lt n (2 ^ 32) then Some n else None
in_range (negsuc n) = None

-- an integer from 0 to 4294967295
unfoldable pub number_of : Data → Option ℕ
number_of d = option_and_then in_range (as_integer d)

-- two values, each of them a number
abbrev pub two_numbers : List Data → Option (ℕ × ℕ)
two_numbers (a ∷ b ∷ []) = option_and_then (λ x. option_map (λ y. (x, y)) (number_of b)) (number_of a)
two_numbers _ = None

-- an array of exactly two numbers
unfoldable pub pair_of : Data → Option (ℕ × ℕ)
pair_of d = option_and_then (λ ds. two_numbers (list_of ds)) (as_array d)

-- an array of numbers
unfoldable pub numbers_of : Data → Result (List ℕ) ReadFault
numbers_of d = ok_or (array_of number_of d) WrongKind

-- an array of pairs of numbers
unfoldable pub pairs_of : Data → Result (List (ℕ × ℕ)) ReadFault
pairs_of d = ok_or (array_of pair_of d) WrongKind

-- a string
unfoldable pub string_of : Data → Result (List ℕ) ReadFault
string_of d = ok_or (as_str d) WrongKind

-- the number, if it is from 2 to 4294967296
abbrev pub if_modulus : ℤ → Option ℕ
if_modulus (pos n) = if nat_le 2 n && nat_le n max_modulus then Some n else None
if_modulus (negsuc n) = None

-- an integer from 2 to 4294967296
unfoldable pub modulus_of : Data → Option ℕ
modulus_of d = option_and_then if_modulus (as_integer d)

-- the modulus by the value of its key, which is the greatest where the key isn't there
abbrev pub modulus_or_max : Option Data → Result ℕ ReadFault
modulus_or_max None = Ok max_modulus
modulus_or_max (Some d) = ok_or (modulus_of d) WrongKind

-- the number modulo which sessions are counted
unfoldable pub modulus_at : Members → Result ℕ ReadFault
modulus_at t = modulus_or_max (get_member (codes "modulus") t)

-- the application of this name
unfoldable pub app_named : List ℕ → Result AppName ReadFault
app_named name =
    if bytes_eq name (codes "idle") then Ok Idle
    else (if bytes_eq name (codes "token") then Ok Token
    else (if bytes_eq name (codes "mutex") then Ok Mutex
    else (if bytes_eq name (codes "routes") then Ok Routes else Err UnknownApp)))

-- what the members of the top level describe, or their first fault
unfoldable pub described : Members → Result Description ReadFault
described t = do
  nodes ← value_at t (codes "nodes")
  links ← value_at t (codes "links")
  app ← value_at t (codes "app")
  none_beyond ← no_other_key t
  numbers ← numbers_of nodes
  pairs ← pairs_of links
  name ← string_of app
  modulus ← modulus_at t
  known ← app_named name
  Ok (record { nodes = numbers; links = pairs; app = known; modulus = modulus })

-- the description that a text gives, or its first fault
unfoldable pub description_of : List ℕ → Result Description ReadFault
description_of text = table_of text >>= described

-- the text has this fault: of its own, or the first of the lists that it describes
abbrev pub IsReadFault : List ℕ → ReadFault → Type 0
IsReadFault text (Topology f) = (d : Description) × (description_of text ≡ Ok d) × IsFirstFault d.nodes d.links f
IsReadFault text f = description_of text ≡ Err f
