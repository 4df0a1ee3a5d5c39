-- What a table of a description is read as.
use Rattle.std.proofs.Common.{◌≡◌, true, ℕ, ◌≤◌, ◌^◌, List, [], ◌∷◌, length, map, Option, Some, Ok, All}
use Rattle.std.proofs.Common.{IsUtf8, refl, arith}
use Rattle.std.proofs.lemmas.Bool.{lt-ltb}
use Rattle.std.proofs.lemmas.List.Elements.{All-head, All-tail, All-weaker}
use Rattle.toml.specs.Data.{Data, depth, has_valid_dates, items_depth, items_have_valid_dates}
use Rattle.toml.specs.Data.{members_have_valid_dates}
use Rattle.toml.specs.Parse.{parse_document}
use Rattle.toml.specs.View.{items_of}
use Rattle.topology.specs.TopologyText.{Description, all_some, app_named, described, description_of, list_of}
use Rattle.action_tables.specs.Modulus.{max_modulus}
use Rattle.topology.specs.TopologyText.{modulus_at, no_other_key, number_of, numbers_of, pair_of, pairs_of, string_of, value_at}
use Rattle.topology.specs.declared.text.AppName.{AppName}
use Rattle.topology.specs.declared.text.AppName.TheVariants.{Idle, Token, Mutex, Routes}
use Rattle.topology.proofs.TopologyTexts.{table_read}
use Rattle.topology.specs.TopologyTable.{IsSmall, IsSmallLink, app_word, array_data, description_members, link_data}
use Rattle.topology.specs.TopologyTable.{number_data}

-- an array of values of a kind gives the values
array_back : {X : Type 0} (kind : Data → Option X) (data_of : X → Data) (xs : List X)
    → All (λ x. kind (data_of x) ≡ Some x) xs → all_some (map kind (list_of (items_of (map data_of xs)))) ≡ Some xs
array_back kind data_of [] each = refl
array_back kind data_of (x ∷ xs) each =
    let P = λ (y : _). kind (data_of y) ≡ Some y in
    rw (All-head P x xs each, array_back kind data_of xs (All-tail P x xs each))

number_back : (n : ℕ) → IsSmall n → number_of (number_data n) ≡ Some n
unfolding number_of
number_back n small = rw (lt-ltb n (2 ^ 32) small)

link_back : (l : ℕ × ℕ) → IsSmallLink l → pair_of (link_data l) ≡ Some l
unfolding pair_of
link_back l small = rw (number_back l.0 small.0, number_back l.1 small.1)

numbers_back : (ns : List ℕ) → All IsSmall ns → numbers_of (array_data number_data ns) ≡ Ok ns
unfolding numbers_of
numbers_back ns small =
    let back = All-weaker IsSmall (λ n. number_of (number_data n) ≡ Some n) number_back ns small in
    rw (array_back number_of number_data ns back)

links_back : (ls : List (ℕ × ℕ)) → All IsSmallLink ls → pairs_of (array_data link_data ls) ≡ Ok ls
unfolding pairs_of
links_back ls small =
    let back = All-weaker IsSmallLink (λ l. pair_of (link_data l) ≡ Some l) link_back ls small in
    rw (array_back pair_of link_data ls back)

app_back : (app : AppName) → app_named (app_word app) ≡ Ok app
unfolding app_named
app_back Idle = refl
app_back Token = refl
app_back Mutex = refl
app_back Routes = refl

-- the table of a description describes it
described_back : (d : Description) → All IsSmall d.nodes → All IsSmallLink d.links → d.modulus ≡ max_modulus
    → described (description_members d) ≡ Ok d
unfolding described value_at no_other_key string_of modulus_at
described_back d nodes_small links_small whole =
    rw (numbers_back d.nodes nodes_small, links_back d.links links_small, app_back d.app, ← whole)

-- how deep the table of a description nests
pub items_depth-map : {X : Type 0} (data_of : X → Data) (k : ℕ) → ((x : X) → depth (data_of x) ≤ k) → (xs : List X)
    → items_depth (items_of (map data_of xs)) ≤ k
items_depth-map data_of k low [] = omega arith
items_depth-map data_of k low (x ∷ xs) = omega (arith, low x, items_depth-map data_of k low xs)

pub items_dates-map : {X : Type 0} (data_of : X → Data) → ((x : X) → has_valid_dates (data_of x) ≡ true) → (xs : List X)
    → items_have_valid_dates (items_of (map data_of xs)) ≡ true
items_dates-map data_of valid [] = refl
items_dates-map data_of valid (x ∷ xs) = rw (valid x, items_dates-map data_of valid xs)

-- it has no date
pub description_members-dates : (d : Description) → members_have_valid_dates (description_members d) ≡ true
description_members-dates d =
    rw (items_dates-map link_data (λ l. refl) d.links, items_dates-map number_data (λ n. refl) d.nodes)

-- a text that is the document of a description's table
pub text_described : (text : List ℕ) (d : Description) → length text ≤ 1048576 → IsUtf8 text
    → parse_document text ≡ Some (description_members d) → All IsSmall d.nodes → All IsSmallLink d.links
    → d.modulus ≡ max_modulus → description_of text ≡ Ok d
unfolding description_of
text_described text d short utf8 parsed nodes_small links_small whole =
    rw (table_read text (description_members d) short utf8 parsed)
    (described_back d nodes_small links_small whole)
