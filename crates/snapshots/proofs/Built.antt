-- The links that lines name can be those of a graph, and so a topology is built of them unless allocation fails.
use Rattle.std.proofs.Common.{◌≡◌, ◌≢◌, ℕ, ◌+◌, ◌≤◌, true, false, not, ◌==◌, min, max, List, [], ◌∷◌, ◌++◌, length}
use Rattle.std.proofs.Common.{AllPairs, Contains, Option, Some, None, append-nil, sym, ap, ◌∙◌, subst, true≢false}
use Rattle.std.proofs.Common.{arith, nat_lt}
use Rattle.std.specs.List.{All, list_any}
use Rattle.std.proofs.lemmas.Bool.{eq-eqb}
use Rattle.std.proofs.lemmas.Bool.Decides.{nat_tests}
use Rattle.std.proofs.lemmas.List.{length-append, map-append}
use Rattle.std.proofs.lemmas.List.Concat.{flat_map-append}
use Rattle.std.proofs.lemmas.List.Elements.{All-append, All-cons, All-nil}
use Rattle.std.proofs.lemmas.List.Kept.{AllPairs-from_increasing}
use Rattle.topology.specs.Building.{joins}
use Rattle.topology.specs.Changing.{first_of}
use Rattle.topology.specs.Faults.{HasFault, ends_of, ordered_links}
use Rattle.topology.specs.Graph.{Graph, IsGraph, has}
use Rattle.topology.specs.Id.{IsId}
use Rattle.topology.specs.declared.fault.TopoFault.{TopoFault}
use Rattle.topology.specs.declared.fault.TopoFault.TheVariants.{NoNodes, TooManyNodes, BadId, TwiceNode, TooManyLinks}
use Rattle.topology.specs.declared.fault.TopoFault.TheVariants.{StrangeNode, SelfLink, TwiceLink}
use Rattle.topology.specs.declared.fault.TopoFault.TheVariants.{NoMemory, NoSuchLink, LinkIsThere, NodeIsUp}
use Rattle.topology.proofs.FirstItems.{apart_push, no_first, no_first_repeat}
use Rattle.topology.proofs.Joining.{joins_from_ordered}
use Rattle.topology.proofs.Membership.{Contains-has}
use Rattle.applications.specs.Meaning.{Meaning}
use Rattle.snapshots.specs.Items.{links_in}
use Rattle.snapshots.specs.Parts.{AreLinks}
use Rattle.snapshots.specs.Reading.{Say, said_refusals, with_said}
use Rattle.snapshots.specs.declared.item.Item.{Item}
use Rattle.snapshots.specs.declared.item.Item.TheVariants.{Version, Node, Link, NoLink}
use Rattle.snapshots.proofs.Collected.{links_more}
use Rattle.snapshots.proofs.Possible.{not_told, not-false_is}

-- ---- no fault

pub no_fault : (g : Graph) → IsGraph g → length g.ids ≤ 1024 → All IsId g.ids → (links : List (ℕ × ℕ)) → AreLinks g links
    → (f : TopoFault) → HasFault g.ids links f → ⊥
no_fault g are small ids links can NoNodes h = omega (arith, are.some, ap length h)
no_fault g are small ids links can TooManyNodes h = omega (arith, h, small)
no_fault g are small ids links can (BadId n) h =
    no_first (λ i. IsId i → ⊥) g.ids n (λ k d within bad. bad (ids k d within)) h
no_fault g are small ids links can (TwiceNode n) h =
    let rises = AllPairs-from_increasing g.ids are.ascending in
    no_first_repeat g.ids (λ i j d below within same. omega (arith, rises i j d below within, same)) n h
no_fault g are small ids links can TooManyLinks h = omega (arith, h, can.few)
no_fault g are small ids links can (StrangeNode n) h =
    no_first (λ i. Contains g.ids i → ⊥) (ends_of links) n
    (λ k d within strange. strange (Contains-has g.ids _ (can.apart.known k d within))) h
no_fault g are small ids links can (SelfLink n) h =
    no_first (λ (l : ℕ × ℕ). l.0 ≡ l.1) links (n, n) (λ k d within same. can.apart.different k d within same) h
no_fault g are small ids links can (TwiceLink a b) h = no_first_repeat (ordered_links links) can.once (a, b) h
no_fault g are small ids links can NoMemory h = h
no_fault g are small ids links can NoSuchLink h = h
no_fault g are small ids links can LinkIsThere h = h
no_fault g are small ids links can NodeIsUp h = h

-- ---- one link more

not_full : (n : ℕ) → not (nat_lt n 8192) ≡ false → n + 1 ≤ 8192
not_full n h = grind (arith, nat_tests)

link_more : (g : Graph) (links : List (ℕ × ℕ)) (a b : ℕ) → AreLinks g links → has g.ids a ≡ true → has g.ids b ≡ true
    → (a == b) ≡ false → list_any (joins a b) links ≡ false → not (nat_lt (length links) 8192) ≡ false
    → AreLinks g (links ++ (a, b) ∷ [])
link_more g links a b can a_known b_known other new few =
    let P : ℕ → Type 0 = λ i. has g.ids i ≡ true in
    let Q : ℕ × ℕ → Type 0 = λ l. l.0 ≢ l.1 in
    let f : ℕ × ℕ → ℕ × ℕ = λ l. (min l.0 l.1, max l.0 l.1) in
    record {
      apart = record {
        known = subst (All P) (sym (flat_map-append (λ (l : ℕ × ℕ). l.0 ∷ l.1 ∷ []) links ((a, b) ∷ [])))
            (All-append P (ends_of links) (a ∷ b ∷ []) can.apart.known
            (All-cons P a (b ∷ []) a_known (All-cons P b [] b_known (All-nil P))));
        different = All-append Q links ((a, b) ∷ []) can.apart.different
            (All-cons Q (a, b) [] (λ same. true≢false (sym (eq-eqb a b same) ∙ other)) (All-nil Q));
      };
      once = subst (AllPairs (λ l m. l ≢ m)) (sym (map-append f links ((a, b) ∷ [])))
          (apart_push (ordered_links links) (min a b, max a b) can.once
          (λ there. true≢false (sym (joins_from_ordered a b links there) ∙ new)));
      few = let room = not_full (length links) few in omega (arith, room, length-append links ((a, b) ∷ []));
    }

module _ {L : Type 0} (m : Meaning L) (g : Graph) where
  links_said : (items : List (Item L)) (said : Option (Item L)) → AreLinks g (links_in items)
      → first_of (said_refusals g items said) ≡ None → AreLinks g (links_in (with_said items said))
  links_said items None can none = can
  links_said items (Some (Link a b)) can none =
      let first = not_told (not (has g.ids a)) _ _ none in
      let second = not_told (not (has g.ids b)) _ _ first.1 in
      let third = not_told (a == b) _ _ second.1 in
      let fourth = not_told (list_any (joins a b) (links_in items)) _ _ third.1 in
      let fifth = not_told (not (nat_lt (length (links_in items)) 8192)) _ _ fourth.1 in
      subst (AreLinks g) (sym (links_more items (Link a b)))
      (link_more g (links_in items) a b can (not-false_is (has g.ids a) first.0) (not-false_is (has g.ids b) second.0)
      third.0 fourth.0 fifth.0)
  links_said items (Some (Version version)) can none =
      subst (AreLinks g) (sym (links_more items (Version version) ∙ append-nil (links_in items))) can
  links_said items (Some (Node node)) can none =
      subst (AreLinks g) (sym (links_more items (Node node) ∙ append-nil (links_in items))) can
  links_said items (Some NoLink) can none =
      subst (AreLinks g) (sym (links_more items NoLink ∙ append-nil (links_in items))) can

  pub can_be_links : (n : ℕ) (before : List (Item L)) (lines : List (List ℕ)) (items : List (Item L))
      → AreLinks g (links_in before) → Say m g n before lines items → AreLinks g (links_in items)
  can_be_links n before [] items can said = subst (λ is. AreLinks g (links_in is)) said can
  can_be_links n before (line ∷ lines) items can said =
      can_be_links (n + 1) (with_said before said.0) lines items (links_said before said.0 can said.2) said.3

pub no_links : (g : Graph) → AreLinks g []
no_links g =
    record {
      apart = record {
        known = All-nil (λ (i : ℕ). has g.ids i ≡ true);
        different = All-nil (λ (l : ℕ × ℕ). l.0 ≢ l.1);
      };
      once = λ i j d below within. absurd (omega (arith, below, within));
      few = omega arith;
    }
