-- The snapshot of a configuration says the items that name it.
use Rattle.std.specs.Prelude.{codes}
use Rattle.std.proofs.Common.{◌≡◌, ℕ, ◌+◌, ◌<◌, ◌≤◌, ◌^◌, Bool, true, false, not, ◌==◌, ◌||◌, ◌&&◌, cond, nat_lt, List, []}
use Rattle.std.proofs.Common.{◌∷◌, ◌++◌, length, map, refl, sym, ap, ap₂, ◌∙◌, subst, true≢false, arith, append_assoc}
use Rattle.std.proofs.Common.{append-nil, Option, Some, None, All, Contains}
use Rattle.std.specs.Fmt.{decimal}
use Rattle.std.specs.List.{AllByRecursion, concat, find, flat_map, list_any}
use Rattle.std.proofs.lemmas.Bool.{eq-eqb, lt-ltb, ne_eqb, or_left, or_right}
use Rattle.std.proofs.lemmas.Fmt.{decimal_digit, length-decimal-le}
use Rattle.std.proofs.lemmas.List.{length-append, map-append}
use Rattle.std.proofs.lemmas.List.Concat.{flat_map-append}
use Rattle.std.proofs.lemmas.List.Elements.{All-map}
use Rattle.std.proofs.lemmas.List.Folds.{list_any-append}
use Rattle.action_tables.specs.Cuts.{HasNo}
use Rattle.action_tables.specs.LawsOfCuts.{HasNo-append}
use Rattle.topology.specs.Building.{joins}
use Rattle.topology.specs.Changing.{first_of}
use Rattle.topology.specs.Faults.{ends_of}
use Rattle.topology.specs.Graph.{Graph, IsNode, are_linked, has, is_node}
use Rattle.topology.proofs.Membership.{Contains-has, has-Contains}
use Rattle.applications.specs.Meaning.{Meaning}
use Rattle.history.specs.HistoryText.{ended}
use Rattle.tree_layer.specs.declared.regs.TreeRegs.{TreeRegs}
use Rattle.wave_layer.specs.declared.regs.Phase.{Phase}
use Rattle.wave_layer.specs.declared.regs.Phase.TheVariants.{Normal, Initiate, Reset}
use Rattle.wave_layer.specs.declared.regs.WaveRegs.{WaveRegs}
use Rattle.wave_layer.specs.Names.{phase_name}
use Rattle.reset_model.specs.Configuration.{Configuration, local_of, tree_of, wave_of}
use Rattle.reset_model.proofs.PlainLines.{joined, letters, number}
use Rattle.script_replay.specs.Lines.{lines_of}
use Rattle.script_replay.specs.Output.{link_line, links_of, links_text, node_head, shown, snapshot_text}
use Rattle.script_replay.proofs.TextLines.{lines_cut}
use Rattle.snapshots.specs.Items.{version_line, has_node, is_of_links, link_in, links_in, list_links, node_in, nodes_in}
use Rattle.snapshots.specs.Named.{Holds, IsSnapshotOf}
use Rattle.snapshots.specs.ReadBack.{IsWritable}
use Rattle.snapshots.specs.Reading.{Say, Says, link_refusals, said_refusals, with_said}
use Rattle.snapshots.specs.Reading.Says.{an_item, nothing}
use Rattle.snapshots.specs.declared.item.Item.{Item}
use Rattle.snapshots.specs.declared.item.Item.TheVariants.{Version, Node, Link, NoLink}
use Rattle.snapshots.specs.declared.item.NodeState.{NodeState}
use Rattle.snapshots.proofs.Collected.{links_more, nodes_more}
use Rattle.snapshots.specs.Words.{StateFits}
use Rattle.snapshots.proofs.ItemWords.{link_line-ended, link_text}
use Rattle.snapshots.proofs.LinkLists.{AreOrdered, IsBefore, IsLink, are_links, are_ordered, each_middle, is_new}
use Rattle.snapshots.proofs.LinkLists.{joined_links, ordered_ids}

-- ---- no line feeds

head_plain : (id : ℕ) (tree : TreeRegs) (wave : WaveRegs) → StateFits id tree wave → HasNo 10 (node_head id tree wave)
head_plain id tree wave fits =
    parts_plain
    (codes "node " ∷ decimal id ∷ codes " tree " ∷ decimal tree.root ∷ codes " " ∷ decimal tree.father
    ∷ codes " " ∷ decimal tree.dist ∷ codes " wave " ∷ phase_name wave.phase ∷ codes " " ∷ decimal wave.session
    ∷ codes " local " ∷ []) (
      letters (codes "node ") refl,
      (
        number id fits.0,
        (
          letters (codes " tree ") refl,
          (
            number tree.root fits.1.0,
            (
              letters (codes " ") refl,
              (
                number tree.father fits.1.1,
                (
                  letters (codes " ") refl,
                  (
                    number tree.dist fits.1.2,
                    (
                      letters (codes " wave ") refl,
                      (
                        phase_plain wave.phase,
                        (
                          letters (codes " ") refl,
                          (
                            number wave.session fits.2,
                            (
                              letters (codes " local ") refl,
                              tt,
                            ),
                          ),
                        ),
                      ),
                    ),
                  ),
                ),
              ),
            ),
          ),
        ),
      ),
    )
  where
    phase_plain : (p : Phase) → HasNo 10 (phase_name p)
    phase_plain Normal = letters (codes "normal") refl
    phase_plain Initiate = letters (codes "initiate") refl
    phase_plain Reset = letters (codes "reset") refl

    parts_plain : (parts : List (List ℕ)) → AllByRecursion (HasNo 10) parts → HasNo 10 (concat parts)
    parts_plain [] h = tt
    parts_plain (part ∷ parts) h = HasNo-append 10 part (concat parts) h.0 (parts_plain parts h.1)

link_plain : (a b : ℕ) → a < 2 ^ 32 → b < 2 ^ 32 → HasNo 10 (link_text a b)
link_plain a b p q =
    joined (codes "link") (decimal a ∷ decimal b ∷ []) (letters (codes "link") refl, (number a p, (number b q, tt)))

first_version : codes "reset-snapshot 1" ≡ version_line 1
first_version = ap (λ t. codes "reset-snapshot " ++ t) (sym (decimal_digit 1 (omega arith)))

-- ---- short lines

link_short : (a b : ℕ) → a < 2 ^ 32 → b < 2 ^ 32 → length (link_text a b) ≤ 65536
link_short a b p q =
    let a_short = length-decimal-le 10 a (omega arith) (omega (arith, p)) (omega (arith, p)) in
    let b_short = length-decimal-le 10 b (omega arith) (omega (arith, q)) (omega (arith, q)) in
    omega (arith, a_short, b_short, length-append (decimal a) (32 ∷ decimal b))

-- ---- nothing against an item

node_allowed : {F : Type 0} (p q : Bool) (s t : F) → p ≡ true → q ≡ false
    → cond (not p) (Some s) (cond q (Some t) None) ≡ None
node_allowed true false s t known new = refl
node_allowed true true s t known new = absurd (true≢false new)
node_allowed false q s t known new = absurd (true≢false (sym known))

none_of_two : (p q : Bool) (a b : ℕ) (rest : Option ℕ) → p ≡ false → q ≡ false → rest ≡ None
    → cond p (Some a) (cond q (Some b) rest) ≡ None
none_of_two false false a b rest p_is q_is none = none
none_of_two true q a b rest p_is q_is none = absurd (true≢false p_is)
none_of_two false true a b rest p_is q_is none = absurd (true≢false q_is)

link_allowed : (g : Graph) (links : List (ℕ × ℕ)) (a b : ℕ) → has g.ids a ≡ true → has g.ids b ≡ true → (a == b) ≡ false
    → list_any (joins a b) links ≡ false → length links < 8192 → first_of (link_refusals g links a b) ≡ None
link_allowed g links a b a_known b_known other new few =
    let room : nat_lt (length links) 8192 ≡ true = lt-ltb (length links) 8192 few in
    rw (a_known, b_known, other, new, room) refl

-- ---- line by line

module _ {L : Type 0} (m : Meaning L) (g : Graph) where
  -- what a text says that begins with a line
  say_line : (n : ℕ) (before : List (Item L)) (line rest : List ℕ) (said : Option (Item L)) (all : List (Item L))
      → HasNo 10 line → Says m n line said → first_of (said_refusals g before said) ≡ None
      → Say m g (n + 1) (with_said before said) (lines_of rest) all → Say m g n before (lines_of (ended line ++ rest)) all
  say_line n before line rest said all plain says none more =
      let P : List (List ℕ) → Type 0 = λ ls. Say m g n before ls all in
      subst P (sym (lines_cut (ended line ++ rest) line rest plain (append_assoc line (10 ∷ []) rest)))
      (said, says, none, more)

  -- the empty line behind the last line feed says nothing
  say_end : (n : ℕ) (items : List (Item L)) → Say m g n items (lines_of []) items
  say_end n items = (None, nothing (omega arith) refl, refl, refl)

module _ {L : Type 0} (m : Meaning L) (IsLocal : L → Type 0) (g : Graph) (c : Configuration L)
    (can : IsWritable m IsLocal g c)
    (read : (local : L) → IsLocal local → m.from_text (m.text local) ≡ Some local)
    (plain : (local : L) → IsLocal local → HasNo 10 (m.text local)) where
  abbrev state : ℕ → NodeState L
  state i = record { id = i; tree = tree_of c i; wave = wave_of c i; local = local_of m.app c i }

  abbrev node_item : ℕ → Item L
  node_item i = Node (state i)

  -- ---- the line of a node

  abbrev node_line : ℕ → List ℕ
  node_line i = node_head i (tree_of c i) (wave_of c i) ++ m.text (local_of m.app c i)

  node_plain : (i : ℕ) → IsNode c.graph i → HasNo 10 (node_line i)
  node_plain i at =
      HasNo-append 10 (node_head i (tree_of c i) (wave_of c i)) (m.text (local_of m.app c i))
      (head_plain i (tree_of c i) (wave_of c i) (can.small i at, can.trees i at, can.sessions i at))
      (plain (local_of m.app c i) (can.locals i at))

  node_says : (n i : ℕ) → IsNode c.graph i → Says m n (node_line i) (Some (node_item i))
  node_says n i at =
      an_item (can.short i at) (node_item i)
      (record {
        text = m.text (local_of m.app c i);
        spelled = refl;
        local = read (local_of m.app c i) (can.locals i at);
        small = can.small i at;
        tree = can.trees i at;
        session = can.sessions i at;
      })

  has_state : (is : List ℕ) (i : ℕ) → has_node (map state is) i ≡ has is i
  has_state [] i = refl
  has_state (k ∷ is) i = ap (λ b. (k == i) || b) (has_state is i)

  known : (i : ℕ) → IsNode c.graph i → has g.ids i ≡ true
  known i at = has-Contains g.ids i (subst (λ ids. Contains ids i) can.ids (can.as_graph.within i at))

  not_before : (done : List ℕ) (i : ℕ) (is : List ℕ) → AreOrdered (λ x y. x < y) (done ++ i ∷ is) → has done i ≡ false
  not_before [] i is up = refl
  not_before (k ∷ done) i is up =
      ap₂ (λ s t. s || t) (ne_eqb k i (omega (arith, each_middle (λ y. k < y) done i is up.0))) (not_before done i is up.1)

  there : (done : List ℕ) (i : ℕ) (is : List ℕ) → done ++ i ∷ is ≡ c.graph.nodes → IsNode c.graph i
  there done i is whole =
      Contains-has c.graph.nodes i
      (ap (λ ns. has ns i) (sym whole)
      ∙ list_any-append (λ y. y == i) done (i ∷ is)
      ∙ or_right (has done i) (has (i ∷ is) i) (or_left (i == i) (has is i) (eq-eqb i i refl)))

  say_nodes : (n k : ℕ) (done is : List ℕ) (before mid all : List (Item L)) (rest : List ℕ)
      → nodes_in before ≡ map state done → done ++ is ≡ c.graph.nodes → k ≡ n + length is
      → mid ≡ before ++ map node_item is → Say m g k mid (lines_of rest) all
      → Say m g n before (lines_of (flat_map (shown m c) is ++ rest)) all
  say_nodes n k done [] before mid all rest names whole count items more =
      let same : k ≡ n = omega (arith, count) in
      let P : ℕ → Type 0 = λ j. Say m g j before (lines_of rest) all in
      let Q : List (Item L) → Type 0 = λ is. Say m g k is (lines_of rest) all in
      subst P same (subst Q (items ∙ append-nil before) more)
  say_nodes n k done (i ∷ is) before mid all rest names whole count items more =
      let at : IsNode c.graph i = there done i is whole in
      let after = flat_map (shown m c) is ++ rest in
      let order : AreOrdered (λ x y. x < y) (done ++ i ∷ is) =
      subst (AreOrdered (λ x y. x < y)) (sym whole) (ordered_ids c.graph.nodes can.as_graph.rising) in
      let new : has_node (nodes_in before) i ≡ false =
      ap (λ ns. has_node ns i) names ∙ has_state done i ∙ not_before done i is order in
      let text : shown m c i ++ after ≡ ended (node_line i) ++ after =
      ap (λ t. t ++ after)
      (sym (append_assoc (node_head i (tree_of c i) (wave_of c i)) (m.text (local_of m.app c i)) (10 ∷ []))) in
      let P : List ℕ → Type 0 = λ t. Say m g n before (lines_of t) all in
      subst P (sym (append_assoc (shown m c i) (flat_map (shown m c) is) rest ∙ text))
      (say_line m g n before (node_line i) after (Some (node_item i)) all (node_plain i at) (node_says n i at)
      (node_allowed (has g.ids i) (has_node (nodes_in before) i) _ _ (known i at) new)
      (say_nodes (n + 1) k (done ++ i ∷ []) is (before ++ node_item i ∷ []) mid all rest
      (nodes_more before (node_item i) ∙ ap (λ ns. ns ++ state i ∷ []) names ∙ sym (map-append state done (i ∷ [])))
      (append_assoc done (i ∷ []) is ∙ whole) (omega (arith, count))
      (items ∙ sym (append_assoc before (node_item i ∷ []) (map node_item is))) more))

  -- ---- the lines of links

  abbrev link_item : ℕ × ℕ → Item L
  link_item l = Link l.0 l.1

  link_ends : (l : ℕ × ℕ) → IsLink c.graph l → IsNode c.graph l.0 × IsNode c.graph l.1
  link_ends l is = (
    can.as_graph.ends l.0 l.1 is.1,
    can.as_graph.ends l.1 l.0 (sym (can.as_graph.symmetric l.0 l.1) ∙ is.1),
  )

  link_says : (n : ℕ) (l : ℕ × ℕ) → IsLink c.graph l → Says m n (link_text l.0 l.1) (Some (link_item l))
  link_says n l is =
      let ends = link_ends l is in
      let a_small : l.0 < 2 ^ 32 = can.small l.0 ends.0 in
      let b_small : l.1 < 2 ^ 32 = can.small l.1 ends.1 in
      an_item (link_short l.0 l.1 a_small b_small) (link_item l) (a_small, b_small, link_line-ended l.0 l.1)

  say_links : (n k : ℕ) (done ls : List (ℕ × ℕ)) (before mid all : List (Item L)) (rest : List ℕ)
      → links_in before ≡ done → done ++ ls ≡ links_of c.graph → k ≡ n + length ls
      → mid ≡ before ++ map link_item ls → Say m g k mid (lines_of rest) all
      → Say m g n before (lines_of (flat_map link_line ls ++ rest)) all
  say_links n k done [] before mid all rest names whole count items more =
      let same : k ≡ n = omega (arith, count) in
      let P : ℕ → Type 0 = λ j. Say m g j before (lines_of rest) all in
      let Q : List (Item L) → Type 0 = λ is. Say m g k is (lines_of rest) all in
      subst P same (subst Q (items ∙ append-nil before) more)
  say_links n k done (l ∷ ls) before mid all rest names whole count items more =
      let each : AllByRecursion (IsLink c.graph) (done ++ l ∷ ls) =
      subst (AllByRecursion (IsLink c.graph)) (sym whole) (are_links c.graph can.as_graph) in
      let order : AreOrdered IsBefore (done ++ l ∷ ls) =
      subst (AreOrdered IsBefore) (sym whole) (are_ordered c.graph can.as_graph) in
      let is : IsLink c.graph l = each_middle (IsLink c.graph) done l ls each in
      let ends = link_ends l is in
      let new : list_any (joins l.0 l.1) (links_in before) ≡ false =
      ap (list_any (joins l.0 l.1)) names ∙ is_new c.graph can.as_graph done l ls each order in
      let long : length (done ++ l ∷ ls) ≤ 8192 = subst (λ xs. length xs ≤ 8192) (sym whole) can.few in
      let few : length (links_in before) < 8192 =
      omega (arith, ap length names, long, length-append done (l ∷ ls)) in
      let after = flat_map link_line ls ++ rest in
      let text : link_line l ++ after ≡ ended (link_text l.0 l.1) ++ after =
      ap (λ t. t ++ after) (sym (link_line-ended l.0 l.1)) in
      let P : List ℕ → Type 0 = λ t. Say m g n before (lines_of t) all in
      subst P (sym (append_assoc (link_line l) (flat_map link_line ls) rest ∙ text))
      (say_line m g n before (link_text l.0 l.1) after (Some (link_item l)) all
      (link_plain l.0 l.1 (can.small l.0 ends.0) (can.small l.1 ends.1)) (link_says n l is)
      (link_allowed g (links_in before) l.0 l.1 (known l.0 ends.0) (known l.1 ends.1)
      (ne_eqb l.0 l.1 (λ same. omega (arith, same, is.0))) new few)
      (say_links (n + 1) k (done ++ l ∷ []) ls (before ++ link_item l ∷ []) mid all rest
      (links_more before (link_item l) ∙ ap (λ xs. xs ++ l ∷ []) names)
      (append_assoc done (l ∷ []) ls ∙ whole) (omega (arith, count))
      (items ∙ sym (append_assoc before (link_item l ∷ []) (map link_item ls))) more))

  -- ---- all lines

  -- the items of the lines of links, or of that which says that there is none
  link_items : List (ℕ × ℕ) → List (Item L)
  link_items [] = NoLink ∷ []
  link_items (l ∷ ls) = map link_item (l ∷ ls)

  abbrev node_items : List (Item L)
  node_items = Version 1 ∷ map node_item c.graph.nodes

  all_items : List (Item L)
  all_items = node_items ++ link_items (links_of c.graph)

  no_links_yet : (is : List ℕ) → links_in (map node_item is) ≡ []
  no_links_yet [] = refl
  no_links_yet (i ∷ is) = no_links_yet is

  say_ending : (n : ℕ) (ls : List (ℕ × ℕ)) → ls ≡ links_of c.graph
      → Say m g n node_items (lines_of (links_text ls)) (node_items ++ link_items ls)
  unfolding link_items
  say_ending n [] whole =
      let P : List ℕ → Type 0 = λ t. Say m g n node_items (lines_of t) (node_items ++ NoLink ∷ []) in
      subst P (append-nil (ended (codes "link -")))
      (say_line m g n node_items (codes "link -") [] (Some NoLink) (node_items ++ NoLink ∷ [])
      (letters (codes "link -") refl) (an_item (omega arith) NoLink refl) refl
      (say_end m g (n + 1) (node_items ++ NoLink ∷ [])))
  say_ending n (l ∷ ls) whole =
      let links = l ∷ ls in
      let mid = node_items ++ map link_item links in
      let P : List ℕ → Type 0 = λ t. Say m g n node_items (lines_of t) mid in
      subst P (append-nil (flat_map link_line links))
      (say_links n (n + length links) [] links node_items mid mid [] (no_links_yet c.graph.nodes) whole refl refl
      (say_end m g (n + length links) mid))

  said : Say m g 1 [] (lines_of (snapshot_text m c)) all_items
  unfolding snapshot_text all_items
  said =
      let nodes = c.graph.nodes in
      let links = links_of c.graph in
      say_line m g 1 [] (codes "reset-snapshot 1") (flat_map (shown m c) nodes ++ links_text links) (Some (Version 1))
      all_items (letters (codes "reset-snapshot 1") refl) (an_item (omega arith) (Version 1) (refl, omega arith, first_version)) refl
      (say_nodes 2 (2 + length nodes) [] nodes (Version 1 ∷ []) node_items all_items (links_text links) refl refl refl refl
      (say_ending (2 + length nodes) links refl))

  -- ---- what the items name

  states_of : (is : List ℕ) → nodes_in (map node_item is) ≡ map state is
  states_of [] = refl
  states_of (i ∷ is) = ap (λ ns. state i ∷ ns) (states_of is)

  no_nodes : (ls : List (ℕ × ℕ)) → nodes_in (map link_item ls) ≡ []
  no_nodes [] = refl
  no_nodes (l ∷ ls) = no_nodes ls

  no_nodes_there : (ls : List (ℕ × ℕ)) → nodes_in (link_items ls) ≡ []
  unfolding link_items
  no_nodes_there [] = refl
  no_nodes_there (l ∷ ls) = no_nodes ls

  links_there : (ls : List (ℕ × ℕ)) → links_in (map link_item ls) ≡ ls
  links_there [] = refl
  links_there (l ∷ ls) = ap (λ xs. l ∷ xs) (links_there ls)

  all_links_there : (ls : List (ℕ × ℕ)) → links_in (link_items ls) ≡ ls
  unfolding link_items
  all_links_there [] = refl
  all_links_there (l ∷ ls) = links_there (l ∷ ls)

  are_listed : (ls : List (ℕ × ℕ)) → list_links (link_items ls) ≡ true
  unfolding link_items
  are_listed [] = refl
  are_listed (l ∷ ls) = refl

  all_nodes : nodes_in all_items ≡ map state c.graph.nodes
  unfolding all_items
  all_nodes =
      flat_map-append node_in node_items (link_items (links_of c.graph))
      ∙ ap₂ (λ xs ys. xs ++ ys) (states_of c.graph.nodes) (no_nodes_there (links_of c.graph))
      ∙ append-nil (map state c.graph.nodes)

  all_links : links_in all_items ≡ links_of c.graph
  unfolding all_items
  all_links =
      flat_map-append link_in node_items (link_items (links_of c.graph))
      ∙ ap₂ (λ xs ys. xs ++ ys) (no_links_yet c.graph.nodes) (all_links_there (links_of c.graph))

  all_listed : list_links all_items ≡ true
  unfolding all_items
  all_listed =
      list_any-append is_of_links node_items (link_items (links_of c.graph))
      ∙ or_right (list_links node_items) (list_links (link_items (links_of c.graph))) (are_listed (links_of c.graph))

  named_as_up : (i : ℕ) → has_node (nodes_in all_items) i ≡ is_node c.graph i
  named_as_up i = ap (λ ns. has_node ns i) all_nodes ∙ has_state c.graph.nodes i

  end_up : (i : ℕ) → IsNode c.graph i → not (has_node (nodes_in all_items) i) ≡ false
  end_up i at = ap not (named_as_up i ∙ has-Contains c.graph.nodes i at)

  all_ends_up : (ls : List (ℕ × ℕ)) → AllByRecursion (IsLink c.graph) ls
      → find (λ i. not (has_node (nodes_in all_items) i)) (ends_of ls) ≡ None
  all_ends_up [] each = refl
  all_ends_up (l ∷ ls) each =
      let ends = link_ends l each.0 in
      none_of_two _ _ _ _ _ (end_up l.0 ends.0) (end_up l.1 ends.1) (all_ends_up ls each.1)

  pub read_back : IsSnapshotOf m g c.modulus (snapshot_text m c) c
  read_back = (
    all_items,
    record {
      said = said;
      up = ap (λ ls. find (λ i. not (has_node (nodes_in all_items) i)) (ends_of ls)) all_links
          ∙ all_ends_up (links_of c.graph) (are_links c.graph can.as_graph);
    },
    record {
      as_graph = can.as_graph;
      shaped = can.shaped;
      modulus = refl;
      ids = can.ids;
      up = λ i. sym (named_as_up i);
      links = λ a b.
          sym (joined_links c.graph can.as_graph a b)
          ∙ ap (list_any (joins a b)) (sym all_links)
          ∙ ap (λ t. cond t (list_any (joins a b) (links_in all_items))
          (are_linked g a b && (has_node (nodes_in all_items) a && has_node (nodes_in all_items) b))) (sym all_listed);
      nodes = subst (All (Holds m.app c)) (sym all_nodes)
          (All-map (Holds m.app c) state c.graph.nodes (λ k d within. (refl, refl, refl)));
    },
  )
