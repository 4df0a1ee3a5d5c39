-- What is read of a node and of its neighbours, place by place, is what the node sees.
use Rattle.std.proofs.Common.{◌≡◌, ℕ, zero, suc, ◌+◌, ◌<◌, List, [], ◌∷◌, ◌++◌, map, length, take, slice_index}
use Rattle.std.proofs.Common.{slice_index_or, add-one, refl, sym, ap, ◌∙◌, arith}
use Rattle.tree_layer.specs.declared.regs.TreeRegs.{TreeRegs}
use Rattle.wave_layer.specs.declared.regs.WaveRegs.{WaveRegs}
use Rattle.reset_model.specs.View.{Neighbour, NodeView}

-- what the nodes at these indexes have
abbrev pub at_indexes : {X : Type 0} → (ℕ → X) → List ℕ → List ℕ → List X
at_indexes f ids near = map f (map (λ n. slice_index ids n) near)

next_index : {X : Type 0} (f : ℕ → X) (ids near : List ℕ) (i : ℕ) → i < length near
    → at_indexes f ids (take (suc i) near)
    ≡ at_indexes f ids (take i near) ++ f (slice_index ids (slice_index near i)) ∷ []
next_index f ids [] i short = absurd (omega arith)
next_index f ids (n ∷ ns) zero short = refl
next_index f ids (n ∷ ns) (suc i) short = ap (λ l. f (slice_index ids n) ∷ l) (next_index f ids ns i (omega arith))

-- one node more
pub one_more : {X : Type 0} (f : ℕ → X) (ids near : List ℕ) (i : ℕ) (before after : List X) (x : X) → i < length near
    → f (slice_index ids (slice_index near i)) ≡ x → after ≡ before ++ x ∷ [] → before ≡ at_indexes f ids (take i near)
    → after ≡ at_indexes f ids (take (i + 1) near)
one_more f ids near i before after x short same pushed so_far =
    pushed ∙ ap (λ l. l ++ x ∷ []) so_far
    ∙ ap (λ y. at_indexes f ids (take i near) ++ y ∷ []) (sym same)
    ∙ sym (next_index f ids near i short) ∙ ap (λ k. at_indexes f ids (take k near)) (sym (add-one i))

-- two neighbours of the same parts are the same
abbrev neighbour : {L : Type 0} → ℕ → TreeRegs → WaveRegs → L → Neighbour L
neighbour i t w l = record { id = i; tree = t; wave = w; local = l }

pub same_neighbour : {L : Type 0} (i j : ℕ) (t u : TreeRegs) (w v : WaveRegs) (l k : L) → i ≡ j → t ≡ u → w ≡ v → l ≡ k
    → neighbour i t w l ≡ neighbour j u v k
same_neighbour i j t u w v l k a b c d =
    ap (λ x. neighbour x t w l) a ∙ ap (λ x. neighbour j x w l) b ∙ ap (λ x. neighbour j u x l) c
    ∙ ap (λ x. neighbour j u v x) d

-- and so are two views of one node
abbrev node_view : {L : Type 0} → ℕ → ℕ → ℕ → TreeRegs → WaveRegs → L → L → List (Neighbour L) → NodeView L
node_view i b m t w l s ns = record {
  id = i;
  bound = b;
  modulus = m;
  tree = t;
  wave = w;
  local = l;
  start = s;
  near = ns;
}

pub same_view : {L : Type 0} (i j b c m n : ℕ) (t u : TreeRegs) (w v : WaveRegs) (l k s r : L)
    (ns ms : List (Neighbour L)) → i ≡ j → b ≡ c → m ≡ n → t ≡ u → w ≡ v → l ≡ k → s ≡ r → ns ≡ ms
    → node_view i b m t w l s ns ≡ node_view j c n u v k r ms
same_view i j b c m n t u w v l k s r ns ms id bound modulus tree wave local start near =
    ap (λ x. node_view x b m t w l s ns) id ∙ ap (λ x. node_view j x m t w l s ns) bound
    ∙ ap (λ x. node_view j c x t w l s ns) modulus ∙ ap (λ x. node_view j c n x w l s ns) tree
    ∙ ap (λ x. node_view j c n u x l s ns) wave ∙ ap (λ x. node_view j c n u v x s ns) local
    ∙ ap (λ x. node_view j c n u v k x ns) start ∙ ap (λ x. node_view j c n u v k r x) near

-- what is found at a number is what the node at that index has
pub at_number : {X : Type 0} (f : ℕ → X) (ids near : List ℕ) (i : ℕ) (d : X) → i < length near
    → slice_index_or (at_indexes f ids near) i d ≡ f (slice_index ids (slice_index near i))
at_number f ids [] i d short = absurd (omega arith)
at_number f ids (n ∷ ns) zero d short = refl
at_number f ids (n ∷ ns) (suc i) d short = at_number f ids ns i d (omega arith)
