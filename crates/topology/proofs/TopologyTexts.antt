-- The values of a TOML document, as the reader of topology texts goes over them.
use Rattle.std.proofs.Common.{◌≡◌, ◌≢◌, ℕ, ◌≤◌, if◌then◌else◌, Bool, true, false, List, [], ◌∷◌, ◌++◌, length, drop}
use Rattle.std.proofs.Common.{map, Option, Some, None, option_map, Result, Ok, Err, ok_or, IfErr, codes, String, Global}
use Rattle.std.proofs.Common.{string_bytes, IsUtf8, refl, subst, ltb}
use Rattle.std.specs.List.{list_all}
use Rattle.std.specs.Map as entries
use Rattle.std.specs.Str.{is_utf8, bytes_eq}
use Rattle.std.proofs.lemmas.Bool.{le-ltb}
use Rattle.std.proofs.lemmas.Str.{IsUtf8-from_is_utf8, is_utf8-from_IsUtf8}
use Rattle.toml.specs.Data.{Data, Members, as_array, as_str, get_member}
use Rattle.toml.specs.Parse.{parse_document}
use Rattle.toml.specs.View.{items_view, members_view}
use Rattle.toml.specs.declared.value.Value.{Value}
use Rattle.topology.specs.TopologyText.{◌>>=◌, IsReadFault, all_some, app_named, array_of, described, description_of}
use Rattle.topology.specs.TopologyText.{is_known, keys_of, list_of, modulus_at, modulus_of, modulus_or_max}
use Rattle.topology.specs.TopologyText.{no_other_key, number_of, numbers_of, pair_of, pairs_of, string_of, table_of}
use Rattle.topology.specs.TopologyText.{toml_of, value_at}
use Rattle.topology.specs.declared.fault.TopoFault.TheVariants as topo
use Rattle.topology.specs.declared.text.AppName.TheVariants.{Idle, Token, Mutex, Routes}
use Rattle.topology.specs.declared.text.ReadFault.{ReadFault}
use Rattle.topology.specs.declared.text.ReadFault.TheVariants.{TextTooLong, NotToml, MissingKey, UnknownKey, WrongKind}
use Rattle.topology.specs.declared.text.ReadFault.TheVariants.{UnknownApp, Topology, NoMemory}

-- what the values from an index on give, if each is of the kind
abbrev pub given_from : {X : Type 0} → (Data → Option X) → List Value → ℕ → Option (List X)
given_from kind vs i = all_some (map kind (list_of (items_view (drop i vs))))

-- the given values, after those that were read
abbrev pub after : {X : Type 0} → List X → Option (List X) → Option (List X)
after xs o = option_map (λ rest. xs ++ rest) o

-- an array of another length than two is no pair
pub pair_none : (d : Data) (vs : List Value) → Some (items_view vs) ≡ as_array d → length vs ≢ 2 → None ≡ pair_of d
unfolding pair_of
pair_none d [] array other = rw (← array)
pair_none d (a ∷ []) array other = rw (← array)
pair_none d (a ∷ b ∷ []) array other = absurd (other refl)
pair_none d (a ∷ b ∷ c ∷ vs) array other = rw (← array)

-- the keys of the map of a table are those of its members
pub keys-known : (es : List (String Global × Value))
    → list_all is_known (keys_of (members_view es)) ≡ list_all (λ k. is_known (string_bytes k)) (entries.keys_of es)
keys-known [] = refl
keys-known (e ∷ es) = rw (keys-known es)

-- a document that was read
pub table_read : (text : List ℕ) (t : Members) → length text ≤ 1048576 → IsUtf8 text → parse_document text ≡ Some t
    → table_of text ≡ Ok t
unfolding table_of toml_of
table_read text t short utf8 parsed = rw (le-ltb 1048576 (length text) short, is_utf8-from_IsUtf8 text utf8, parsed)

no-document : (text : List ℕ) (b : Bool) → is_utf8 text ≡ b → (IsUtf8 text → parse_document text ≡ None)
    → toml_of text ≡ None
unfolding toml_of
no-document text true is refused = rw (is, refused (IsUtf8-from_is_utf8 text is))
no-document text false is refused = rw is

-- a text that is no document
pub table_refused : (text : List ℕ) → length text ≤ 1048576 → (IsUtf8 text → parse_document text ≡ None)
    → table_of text ≡ Err NotToml
unfolding table_of
table_refused text short refused = rw (le-ltb 1048576 (length text) short, no-document text (is_utf8 text) refl refused)

-- a fault of the text, and not of the lists that it describes
abbrev IsOwn : ReadFault → Type 0
IsOwn (Topology f) = ⊥
IsOwn f = Unit {0}

bind-own : {A B : Type 0} (r : Result A ReadFault) (f : A → Result B ReadFault) → IfErr r IsOwn
    → ((x : A) → IfErr (f x) IsOwn) → IfErr (r >>= f) IsOwn
bind-own (Ok x) f here rest = rest x
bind-own (Err e) f here rest = here

ok_or-own : {A : Type 0} (o : Option A) (f : ReadFault) → IsOwn f → IfErr (ok_or o f) IsOwn
ok_or-own None f own = own
ok_or-own (Some x) f own = tt

if-own : {A : Type 0} (b : Bool) (r s : Result A ReadFault) → IfErr r IsOwn → IfErr s IsOwn
    → IfErr (if b then r else s) IsOwn
if-own true r s first second = first
if-own false r s first second = second

value_at-own : (t : Members) (key : List ℕ) → IfErr (value_at t key) IsOwn
unfolding value_at
value_at-own t key = ok_or-own (get_member key t) MissingKey tt

no_other_key-own : (t : Members) → IfErr (no_other_key t) IsOwn
unfolding no_other_key
no_other_key-own t = if-own (list_all is_known (keys_of t)) (Ok tt) (Err UnknownKey) tt tt

numbers_of-own : (d : Data) → IfErr (numbers_of d) IsOwn
unfolding numbers_of
numbers_of-own d = ok_or-own (array_of number_of d) WrongKind tt

pairs_of-own : (d : Data) → IfErr (pairs_of d) IsOwn
unfolding pairs_of
pairs_of-own d = ok_or-own (array_of pair_of d) WrongKind tt

string_of-own : (d : Data) → IfErr (string_of d) IsOwn
unfolding string_of
string_of-own d = ok_or-own (as_str d) WrongKind tt

modulus_or_max-own : (o : Option Data) → IfErr (modulus_or_max o) IsOwn
modulus_or_max-own None = tt
modulus_or_max-own (Some d) = ok_or-own (modulus_of d) WrongKind tt

modulus_at-own : (t : Members) → IfErr (modulus_at t) IsOwn
unfolding modulus_at
modulus_at-own t = modulus_or_max-own (get_member (codes "modulus") t)

app_named-own : (name : List ℕ) → IfErr (app_named name) IsOwn
unfolding app_named
app_named-own name =
    let not_mutex = if-own (bytes_eq name (codes "routes")) (Ok Routes) (Err UnknownApp) tt tt in
    let not_token =
    if-own (bytes_eq name (codes "mutex")) (Ok Mutex)
    (if bytes_eq name (codes "routes") then Ok Routes else Err UnknownApp) tt not_mutex in
    let not_idle = if-own (bytes_eq name (codes "token")) (Ok Token)
    (if bytes_eq name (codes "mutex") then Ok Mutex else
    (if bytes_eq name (codes "routes") then Ok Routes else Err UnknownApp)) tt not_token in
    if-own (bytes_eq name (codes "idle")) (Ok Idle)
    (if bytes_eq name (codes "token") then Ok Token
    else (if bytes_eq name (codes "mutex") then Ok Mutex else
    (if bytes_eq name (codes "routes") then Ok Routes else Err UnknownApp))) tt not_idle

table_of-own : (text : List ℕ) → IfErr (table_of text) IsOwn
unfolding table_of
table_of-own text =
    if-own (ltb 1048576 (length text)) (Err TextTooLong) (ok_or (toml_of text) NotToml) tt
    (ok_or-own (toml_of text) NotToml tt)

described-own : (t : Members) → IfErr (described t) IsOwn
unfolding described
described-own t =
    bind-own (value_at t (codes "nodes")) _ (value_at-own t _) λ nodes.
    bind-own (value_at t (codes "links")) _ (value_at-own t _) λ links.
    bind-own (value_at t (codes "app")) _ (value_at-own t _) λ app.
    bind-own (no_other_key t) _ (no_other_key-own t) λ none_beyond.
    bind-own (numbers_of nodes) _ (numbers_of-own nodes) λ numbers.
    bind-own (pairs_of links) _ (pairs_of-own links) λ pairs.
    bind-own (string_of app) _ (string_of-own app) λ name.
    bind-own (modulus_at t) _ (modulus_at-own t) λ modulus.
    bind-own (app_named name) _ (app_named-own name) λ known. tt

description-own : (text : List ℕ) → IfErr (description_of text) IsOwn
unfolding description_of
description-own text = bind-own (table_of text) described (table_of-own text) described-own

-- a fault by which a text gives no description
pub own_fault : (text : List ℕ) (f : ReadFault) → description_of text ≡ Err f → IsReadFault text f
own_fault text TextTooLong is = is
own_fault text NotToml is = is
own_fault text MissingKey is = is
own_fault text UnknownKey is = is
own_fault text WrongKind is = is
own_fault text UnknownApp is = is
own_fault text (Topology f) is = absurd (rw is at (description-own text))
own_fault text NoMemory is = is

-- want of memory is named once, and never as a fault of the lists
pub never_memory : (text : List ℕ) (f : ReadFault) → (f ≢ NoMemory → description_of text ≡ Err f)
    → f ≢ Topology topo.NoMemory
never_memory text f read is =
    let P : ReadFault → Type 0 = λ g. IsReadFault text g in
    let fault : IsReadFault text (Topology topo.NoMemory) = subst P is (own_fault text f (read (λ same. cc))) in
    fault.2.fault
