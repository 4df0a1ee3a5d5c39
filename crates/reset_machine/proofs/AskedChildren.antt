-- The children that the rows of a relay and of a finish ask.
use Rattle.std.proofs.Common.{◌≡◌, ℕ, ◌+◌, ◌<◌, ◌==◌, Bool, true, false, cond, ◌&&◌, List, ◌∷◌, Some, None, length}
use Rattle.std.proofs.Common.{drop, map, slice_index, refl, sym, ap, ◌∙◌}
use Rattle.std.proofs.lemmas.Bool.{eq-eqb}
use Rattle.topology.specs.Graph.{Graph, are_linked, has}
use Rattle.tree_layer.specs.declared.regs.TreeRegs.{TreeRegs}
use Rattle.wave_layer.specs.declared.regs.WaveRegs.{WaveRegs}
use Rattle.action_tables.specs.Nodes.{regs_of}
use Rattle.wave_layer.specs.WaveTable.{children_done, is_done}
use Rattle.reset_model.specs.LocalSteps.{children_of}
use Rattle.reset_machine.proofs.Children.{among-drop, children_among}
use Rattle.reset_model.proofs.Seen.{has-children_of, lookup-among}

-- ---- the child that a relay names

module _ (g : Graph) (t : ℕ → TreeRegs) (w : ℕ → WaveRegs) (i c : ℕ) where
  asked : (b : Bool) → has (children_of g t i) c ≡ b
      → regs_of c (map (λ k. (k, w k)) (children_of g t i)) ≡ cond b (Some (w c)) None
  asked b child = lookup-among w (children_of g t i) c ∙ ap (λ d. cond d (Some (w c)) None) child

  -- it is a child
  pub asked_child : (regs : WaveRegs) → (t c).father ≡ i → are_linked g i c ≡ true → has g.ids c ≡ true → w c ≡ regs
      → Some regs ≡ regs_of c (map (λ k. (k, w k)) (children_of g t i))
  asked_child regs father linked node same =
      let named = eq-eqb (t c).father i father in
      let child : has (children_of g t i) c ≡ true = rw (has-children_of g t i c, named, linked, node) refl in
      ap (λ r. Some r) (sym same) ∙ sym (asked true child)

  -- its father is another node
  pub asked_of_another : ((t c).father == i) ≡ false → None ≡ regs_of c (map (λ k. (k, w k)) (children_of g t i))
  asked_of_another other = sym (asked false (rw (has-children_of g t i c, other) refl))

-- ---- the first child that isn't done

module _ (ids : List ℕ) (t : ℕ → TreeRegs) (w : ℕ → WaveRegs) (i s : ℕ) (near : List ℕ) (n : ℕ)
    (short : n < length near) where
  abbrev c : ℕ
  c = slice_index ids (slice_index near n)

  abbrev later : List (ℕ × WaveRegs)
  later = children_among ids t w i (drop (n + 1) near)

  turn : (b : Bool) → ((t c).father == i) ≡ b
      → children_done s (children_among ids t w i (drop n near)) ≡ children_done s (cond b ((c, w c) ∷ later) later)
  turn b father =
      ap (children_done s)
      (among-drop ids (λ k. (t k).father == i) (λ k. (k, w k)) near n short
      ∙ ap (λ d. cond d ((c, w c) ∷ later) later) father)

  -- a child that isn't done
  pub undone_here : ((t c).father == i) ≡ true → is_done s (w c) ≡ false
      → children_done s (children_among ids t w i (drop n near)) ≡ false
  undone_here father undone = turn true father ∙ ap (λ b. b && children_done s later) undone

  -- one that is
  pub done_here : ((t c).father == i) ≡ true → is_done s (w c) ≡ true
      → children_done s later ≡ children_done s (children_among ids t w i (drop n near))
  done_here father done = sym (turn true father ∙ ap (λ b. b && children_done s later) done)

  -- no child
  pub another_here : ((t c).father == i) ≡ false
      → children_done s later ≡ children_done s (children_among ids t w i (drop n near))
  another_here father = sym (turn false father)
