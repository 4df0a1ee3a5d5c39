-- What is kept of items, and of one item more.
use Rattle.std.proofs.Common.{◌≡◌, Bool, true, false, ◌||◌, List, [], ◌∷◌, ◌++◌, append-nil, refl, sym, ap, ◌∙◌}
use Rattle.std.proofs.lemmas.Grind.{flat_map-append}
use Rattle.std.proofs.lemmas.List.Folds.{list_any-append}
use Rattle.snapshots.specs.Items.{is_of_links, link_in, links_in, list_links, node_in, nodes_in}
use Rattle.snapshots.specs.Parts.{AreKept}
use Rattle.snapshots.specs.declared.item.Item.{Item}
use Rattle.snapshots.specs.declared.reading.Reading.{Reading}

or-false : (b : Bool) → b ≡ (b || false)
or-false true = refl
or-false false = refl

module _ {L : Type 0} (items : List (Item L)) (item : Item L) where
  pub nodes_more : nodes_in (items ++ item ∷ []) ≡ nodes_in items ++ node_in item
  nodes_more =
      flat_map-append node_in items (item ∷ []) ∙ ap (λ ns. nodes_in items ++ ns) (append-nil (node_in item))

  pub links_more : links_in (items ++ item ∷ []) ≡ links_in items ++ link_in item
  links_more =
      flat_map-append link_in items (item ∷ []) ∙ ap (λ ls. links_in items ++ ls) (append-nil (link_in item))

  list_links_more : list_links (items ++ item ∷ []) ≡ (list_links items || is_of_links item)
  list_links_more =
      list_any-append is_of_links items (item ∷ [])
      ∙ ap (λ b. list_links items || b) (sym (or-false (is_of_links item)))

  pub kept_more : (old new : Reading L) → AreKept items old → new.nodes.items ≡ old.nodes.items ++ node_in item
      → new.links.items ≡ old.links.items ++ link_in item → new.lists_links ≡ (old.lists_links || is_of_links item)
      → AreKept (items ++ item ∷ []) new
  kept_more old new kept nodes links listed = record {
    nodes = nodes ∙ ap (λ ns. ns ++ node_in item) kept.nodes ∙ sym nodes_more;
    links = links ∙ ap (λ ls. ls ++ link_in item) kept.links ∙ sym links_more;
    list_links = listed ∙ ap (λ b. b || is_of_links item) kept.list_links ∙ sym list_links_more;
  }
