-- How the printer writes the table of a description.
use Rattle.std.proofs.Common.{◌≡◌, ℕ, Bool, true, false, List, [], ◌∷◌, ◌++◌, map, codes, decimal, refl, ap, ap₂}
use Rattle.std.proofs.Common.{subst, ◌∙◌}
use Rattle.std.specs.List.{flat_map, join_by}
use Rattle.std.proofs.lemmas.List.{append-nil, append_assoc}
use Rattle.toml.specs.Data.{Data, string}
use Rattle.toml.specs.Tables.{key_value}
use Rattle.toml.specs.Text.{IsDocumentText, IsItemsText, IsLineText, IsLinesText, IsValueText}
use Rattle.toml.specs.Text.{expressions}
use Rattle.toml.specs.View.{items_of}
use Rattle.toml_writer.specs.Text.{key_text}
use Rattle.action_tables.specs.Modulus.{max_modulus}
use Rattle.topology.specs.TopologyText.{Description}
use Rattle.topology.specs.declared.text.AppName.{AppName}
use Rattle.topology.proofs.PlainTexts.{app_written, no_breaks}
use Rattle.topology.specs.TopologyTable.{app_word, array_data, array_text, description_members, description_text}
use Rattle.topology.specs.TopologyTable.{line_text, link_data, link_text, number_data}

-- each value of a kind is written in one way
abbrev IsWritten : {X : Type 0} → (X → Data) → (X → List ℕ) → Type 0
IsWritten {X} data_of text_of = (x : X) (text : List ℕ) → IsValueText false (data_of x) text → text ≡ text_of x

module _ {X : Type 0} (data_of : X → Data) (text_of : X → List ℕ) (written : IsWritten data_of text_of) where
  -- the elements after the first
  rest_written : (xs : List X) (text : List ℕ) → IsItemsText false false false (items_of (map data_of xs)) text
      → text ≡ flat_map (λ x. codes ", " ++ text_of x) xs ++ codes "]"
  rest_written [] text is = is
  rest_written (x ∷ xs) text is =
      rw (is.2, written x is.0 is.3, rest_written xs is.1 is.4) (simp append_assoc)

  items_written : (xs : List X) (text : List ℕ) → IsItemsText false false true (items_of (map data_of xs)) text
      → text ≡ join_by text_of (codes ", ") xs ++ codes "]"
  items_written [] text is = is
  items_written (x ∷ xs) text is = rw (is.2, written x is.0 is.3, rest_written xs is.1 is.4) (simp append_assoc)

  array_written : (xs : List X) (text : List ℕ) → IsValueText false (array_data data_of xs) text
      → text ≡ array_text text_of xs
  array_written xs text is =
      let ds = items_of (map data_of xs) in
      let items : IsItemsText false false true ds is.0 =
      subst (λ b. IsItemsText false b true ds is.0) (no_breaks ds) is.2 in
      is.1 ∙ ap (λ t. codes "[" ++ t) (items_written xs is.0 items)

number_written : IsWritten number_data decimal
number_written n text is = is.0

link_written : IsWritten link_data link_text
link_written l text is = array_written number_data decimal number_written (l.0 ∷ l.1 ∷ []) text is

keys_written : (key_text (codes "app") ≡ codes "app") × (key_text (codes "links") ≡ codes "links")
    × (key_text (codes "nodes") ≡ codes "nodes")
unfolding key_text
keys_written = (refl, refl, refl)

-- no array of a description is a section of its own
lines_of : (app : AppName) (links : List (ℕ × ℕ)) (nodes : List ℕ)
    → expressions (description_members (record { nodes = nodes; links = links; app = app; modulus = max_modulus }))
    ≡ (([], codes "app"), key_value (string (app_word app)))
    ∷ (([], codes "links"), key_value (array_data link_data links))
    ∷ (([], codes "nodes"), key_value (array_data number_data nodes)) ∷ []
lines_of app [] [] = refl
lines_of app [] (n ∷ nodes) = refl
lines_of app (l ∷ links) [] = refl
lines_of app (l ∷ links) (n ∷ nodes) = refl

line_written : (key : List ℕ) (started : Bool) (d : Data) (value text : List ℕ) → key_text key ≡ key
    → ((t : List ℕ) → IsValueText false d t → t ≡ value) → IsLineText false started ([], key) (key_value d) text
    → text ≡ line_text key value
line_written key started d value text bare written is =
    is.1 ∙ ap₂ (λ k v. k ++ (codes " = " ++ (v ++ codes "\n"))) bare (written is.0 is.2)

pub document_written : (d : Description) (text : List ℕ) → IsDocumentText false (description_members d) text
    → text ≡ description_text d
unfolding description_text
document_written d text is =
    let first = subst (λ es. IsLinesText false false es text) (lines_of d.app d.links d.nodes) is in
    let second = first.4 in
    let third = second.4 in
    let app : first.0 ≡ line_text (codes "app") (codes "\"" ++ (app_word d.app ++ codes "\"")) =
    line_written (codes "app") false (string (app_word d.app)) (codes "\"" ++ (app_word d.app ++ codes "\"")) first.0
    keys_written.0 (λ t same. same ∙ app_written d.app) first.3 in
    let links : second.0 ≡ line_text (codes "links") (array_text link_text d.links) =
    line_written (codes "links") true (array_data link_data d.links) (array_text link_text d.links) second.0
    keys_written.1 (λ t same. array_written link_data link_text link_written d.links t same) second.3 in
    let nodes : third.0 ≡ line_text (codes "nodes") (array_text decimal d.nodes) =
    line_written (codes "nodes") true (array_data number_data d.nodes) (array_text decimal d.nodes) third.0
    keys_written.2 (λ t same. array_written number_data decimal number_written d.nodes t same) third.3 in
    first.2
    ∙ ap₂ (λ a b. a ++ b) app
    (second.2 ∙ ap₂ (λ a b. a ++ b) links (third.2 ∙ ap₂ (λ a b. a ++ b) nodes third.4 ∙ append-nil _))
