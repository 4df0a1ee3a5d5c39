-- The faults of one link after another are those of all of them.
use Rattle.std.proofs.Common.{◌≡◌, ℕ, ◌+◌, ◌<◌, ◌==◌, Bool, true, false, List, [], ◌∷◌, ◌++◌, Option, Some, None}
use Rattle.std.proofs.Common.{length, take, drop, get_or, slice_index, find, flat_map, map, refl}
use Rattle.std.proofs.Common.{append-nil, cond, filter, sym, ap, ap₂, ◌∙◌, add-one, true≢false}
use Rattle.std.specs.Option.{IfNone, IfSome, is_some, option_map, option_or}
use Rattle.std.proofs.Math.Seq.{take-suc}
use Rattle.std.proofs.lemmas.List.{at_drop_more, flat_map_more}
use Rattle.std.proofs.lemmas.List.Elements.{filter_more}
use Rattle.std.proofs.lemmas.List.Folds.{find-append}
use Rattle.std.proofs.lemmas.List.Quantifiers.{position-Some}
use Rattle.app_interface.specs.Application.{App}
use Rattle.topology.specs.Graph.{Graph, IsGraph, IsNode, are_linked, neighbours_of, node_at, node_bound}
use Rattle.reset_model.specs.Configuration.{Configuration}
use Rattle.reset_machine.proofs.NearSeen.{at_indexes, one_more}
use Rattle.reset_model.proofs.NodePositions.{no_node_placed, node_placed}
use Rattle.reset_model.proofs.Positions.{id_at-position}
use Rattle.reset_model.specs.View.{Neighbour, near_of}
use Rattle.link_predicates.specs.Ends.{AreEnds}
use Rattle.link_predicates.specs.Faults.{alarm_of, app_row, end_faults, fault_of, is_of_app, link_faults, own_row, tree_row}
use Rattle.link_predicates.specs.Faults.{wave_row}
use Rattle.link_predicates.specs.declared.fault.Family.TheVariants.{Tree, Wave, App as OfApp}
use Rattle.link_predicates.specs.declared.fault.LinkFault.{LinkFault}

-- what a search for a node says of it
pub found_node : (g : Graph) (id : ℕ) (o : Option ℕ) → o ≡ node_at g id
    → IfSome o (λ index. IsNode g id × (index < length g.ids) × (slice_index g.ids index ≡ id))
found_node g id None found = tt
found_node g id (Some index) found =
    let placed = node_placed g id index (sym found) in
    let place = position-Some (λ i. i == id) g.ids index 0 placed.1 in
    (placed.0, place.0, id_at-position g.ids index id placed.1)

pub no_node : (g : Graph) → IsGraph g → (id : ℕ) (o : Option ℕ) → o ≡ node_at g id → IfNone o (IsNode g id → ⊥)
no_node g graph id None found = no_node_placed g graph id (sym found)
no_node g graph id (Some index) found = tt

-- what is no node has no link
pub unlinked : (g : Graph) → IsGraph g → (i j : ℕ) → (IsNode g i → ⊥) → are_linked g i j ≡ false
unlinked g graph i j down = at (are_linked g i j) refl
  where
    at : (b : Bool) → are_linked g i j ≡ b → b ≡ false
    at false is = refl
    at true is = absurd (down (graph.ends i j is))

-- the faults at an end of a link, by the places of its ends, and where there is no such link
module _ {L : Type 0} (app : App L) (c : Configuration L) (i j : ℕ) where
  pub end_found : (index near : ℕ) → AreEnds c.graph i j index near
      → link_faults app (node_bound c.graph) c.modulus (near_of app c (slice_index c.graph.ids index))
      (near_of app c (slice_index c.graph.ids near)) ≡ end_faults app c i j
  end_found index near are =
      let at : ℕ → ℕ → List LinkFault =
      λ a b. link_faults app (node_bound c.graph) c.modulus (near_of app c a) (near_of app c b) in
      ap₂ at are.own are.other ∙ sym (ap (λ b. cond b (at i j) []) are.linked)

  pub end_missing : are_linked c.graph i j ≡ false → [] ≡ end_faults app c i j
  end_missing none =
      sym (ap (λ b. cond b (link_faults app (node_bound c.graph) c.modulus (near_of app c i) (near_of app c j)) []) none)

-- what is told of the identifiers that are up, with one more identifier: one that is up, and one that is down
module _ {A : Type 0} (f : ℕ → List A) (p : ℕ → Bool) (xs : List ℕ) (k : ℕ) (found : List A) (short : k < length xs)
    (so_far : found ≡ flat_map f (filter p (take k xs))) where
  -- what is told of those before the index that are up, and of this one where b says that it is
  abbrev told_with : Bool → List A
  told_with b = flat_map f (filter p (take k xs) ++ cond b (get_or xs k 0 ∷ []) [])

  pub one_up : (after : List A) → p (get_or xs k 0) ≡ true → after ≡ found ++ f (get_or xs k 0)
      → after ≡ flat_map f (filter p (take (k + 1) xs))
  one_up after up told =
      told ∙ ap (λ l. l ++ f (get_or xs k 0)) so_far ∙ flat_map_more f [] (filter p (take k xs)) (get_or xs k 0)
      ∙ ap told_with (sym up) ∙ ap (flat_map f) (sym (filter_more p xs k 0 short))

  pub one_down : p (get_or xs k 0) ≡ false → found ≡ flat_map f (filter p (take (k + 1) xs))
  one_down down =
      so_far ∙ ap (flat_map f) (sym (append-nil (filter p (take k xs)))) ∙ ap told_with (sym down)
      ∙ ap (flat_map f) (sym (filter_more p xs k 0 short))

-- what is told of one more node of a list
pub more_told : {X A : Type 0} (f : X → List A) (xs : List X) (k : ℕ) (d : X) (first before after : List A)
    → k < length xs
    → after ≡ before ++ f (get_or xs k d) → before ≡ first ++ flat_map f (take k xs)
    → after ≡ first ++ flat_map f (take (k + 1) xs)
more_told f xs k d first before after short told so_far =
    told ∙ ap (λ l. l ++ f (get_or xs k d)) so_far ∙ flat_map_more f first (take k xs) (get_or xs k d)
    ∙ ap (λ l. first ++ flat_map f l) (sym (take-suc xs k d short) ∙ ap (λ n. take n xs) (sym (add-one k)))

-- the same of what stands at one more of a list of indexes
pub more_told_at : {X A : Type 0} (seen : ℕ → X) (f : X → List A) (ids near : List ℕ) (k : ℕ)
    (first before after : List A) → k < length near
    → after ≡ before ++ f (seen (slice_index ids (slice_index near k)))
    → before ≡ first ++ flat_map f (at_indexes seen ids (take k near))
    → after ≡ first ++ flat_map f (at_indexes seen ids (take (k + 1) near))
more_told_at seen f ids near k first before after short told so_far =
    let here = seen (slice_index ids (slice_index near k)) in
    let so_many = at_indexes seen ids (take k near) in
    told ∙ ap (λ l. l ++ f here) so_far ∙ flat_map_more f first so_many here
    ∙ ap (λ l. first ++ flat_map f l)
    (one_more seen ids near k so_many (so_many ++ here ∷ []) here short refl refl refl)

-- of the faults at an end of a link the application's is the only one of the application
pub app_alone : {L : Type 0} (app : App L) (K m : ℕ) (own other : Neighbour L)
    → find is_of_app (link_faults app K m own other)
    ≡ option_map (λ row. record { at = own.id; other = other.id; family = OfApp; row = row })
    (app_row app K own other)
app_alone app K m own other = tree (tree_row K own other)
  where
    last : (r : Option ℕ)
        → find is_of_app (fault_of own.id other.id OfApp r)
        ≡ option_map (λ row. record { at = own.id; other = other.id; family = OfApp; row = row }) r
    last None = refl
    last (Some row) = refl

    wave : (w : Option ℕ)
        → find is_of_app (fault_of own.id other.id Wave w ++ fault_of own.id other.id OfApp (app_row app K own other))
        ≡ option_map (λ row. record { at = own.id; other = other.id; family = OfApp; row = row })
        (app_row app K own other)
    wave None = last (app_row app K own other)
    wave (Some row) = last (app_row app K own other)

    tree : (t : Option ℕ)
        → find is_of_app
        (fault_of own.id other.id Tree t
        ++ (fault_of own.id other.id Wave (wave_row m own other)
        ++ fault_of own.id other.id OfApp (app_row app K own other)))
        ≡ option_map (λ row. record { at = own.id; other = other.id; family = OfApp; row = row })
        (app_row app K own other)
    tree None = wave (wave_row m own other)
    tree (Some row) = wave (wave_row m own other)

-- what is found in what is told of one more node, or of those that are left
pub found_later : {X A : Type 0} (p : A → Bool) (seen : ℕ → X) (f : X → List A) (ids near : List ℕ) (k : ℕ)
    → k < length near
    → find p (flat_map f (at_indexes seen ids (drop k near)))
    ≡ option_or (find p (f (seen (slice_index ids (slice_index near k)))))
    (find p (flat_map f (at_indexes seen ids (drop (k + 1) near))))
found_later p seen f ids near k short =
    at_drop_more (λ left. find p (flat_map f (at_indexes seen ids left))) near k 0 short
    ∙ find-append p (f (seen (slice_index ids (slice_index near k))))
    (flat_map f (at_indexes seen ids (drop (k + 1) near)))

-- a node's own fault is none of the application
pub none_of_own : (i : ℕ) (row : Option ℕ) (rest : List LinkFault)
    → find is_of_app (fault_of i i Tree row ++ rest) ≡ find is_of_app rest
none_of_own i None rest = refl
none_of_own i (Some row) rest = refl

-- what is found first stands, where anything is found
pub found_first : {X : Type 0} (o rest : Option X) → is_some o ≡ true → option_or o rest ≡ o
found_first None rest is = absurd (true≢false (sym is))
found_first (Some x) rest is = refl

pub found_rest : {X : Type 0} (o rest : Option X) → is_some o ≡ false → option_or o rest ≡ rest
found_rest None rest is = refl
found_rest (Some x) rest is = absurd (true≢false is)

-- what is told where something is found, and where nothing is
pub found_told : {X : Type 0} {N : Type 0} (o found : Option X) → o ≡ found → N → IfSome o (λ x. N × (found ≡ Some x))
found_told None found same node = tt
found_told (Some x) found same node = (node, sym same)

pub none_told : {X : Type 0} (N : Type 0) (o found : Option X) → o ≡ found → IfNone o (N → found ≡ None)
none_told N None found same = λ node. sym same
none_told N (Some x) found same = tt

-- the first fault of the application at a node is the first of its links to these indexes
pub alarm_is : {L : Type 0} (app : App L) (c : Configuration L) (i : ℕ) (near : List ℕ)
    → map (λ n. slice_index c.graph.ids n) near ≡ neighbours_of c.graph i
    → find is_of_app
    (flat_map (link_faults app (node_bound c.graph) c.modulus (near_of app c i)) (at_indexes (near_of app c) c.graph.ids near))
    ≡ alarm_of app c i
alarm_is app c i near lists =
    ap (λ js. find is_of_app (flat_map (link_faults app (node_bound c.graph) c.modulus (near_of app c i)) (map (near_of app c) js)))
    lists
    ∙ sym (none_of_own i (own_row c i)
    (flat_map (link_faults app (node_bound c.graph) c.modulus (near_of app c i)) (map (near_of app c) (neighbours_of c.graph i))))
