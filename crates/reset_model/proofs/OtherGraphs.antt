-- Under another graph of the same identifiers the registers and the local states stay, but of nodes that come up.
use Rattle.std.proofs.Common.{◌≡◌, ◌≢◌, ℕ, zero, suc, nat_eq, Bool, true, false, cond, List, [], ◌∷◌, length, Contains}
use Rattle.std.proofs.Common.{◌⊎◌, inl, inr, refl, ap, sym, subst, ◌∙◌, arith}
use Rattle.std.proofs.lemmas.Bool.Decides.{eqb_tells}
use Rattle.app_interface.specs.Application.{App}
use Rattle.topology.specs.Graph.{Graph}
use Rattle.tree_layer.specs.TreeRows.{claimed}
use Rattle.tree_layer.specs.declared.regs.TreeRegs.{TreeRegs}
use Rattle.wave_layer.specs.declared.regs.WaveRegs.{WaveRegs}
use Rattle.wave_layer.specs.declared.regs.Phase.TheVariants.{Normal}
use Rattle.reset_model.specs.Configuration.{Configuration, IsShaped, local_of, tree_of, value_at, wave_of}
use Rattle.reset_model.specs.Topologies.{comes_up, renewed, with_topology}

-- an id that is there has its own value, whatever stands elsewhere
pub value_at-elsewhere : {X : Type 0} (d e : X) (ids : List ℕ) (xs : List X) (id : ℕ) → length xs ≡ length ids
    → Contains ids id → value_at d ids xs id ≡ value_at e ids xs id
value_at-elsewhere d e [] xs id same there = absurd (omega (arith, there.1))
value_at-elsewhere d e (k ∷ ks) [] id same there = absurd (omega arith)
value_at-elsewhere d e (k ∷ ks) (x ∷ xs) id same there =
    at (eqb_tells k id) (value_at-elsewhere d e ks xs id (omega arith)) there
  where
    at : ((nat_eq k id ≡ true) × (k ≡ id)) ⊎ ((nat_eq k id ≡ false) × (k ≢ id))
        → (Contains ks id → value_at d ks xs id ≡ value_at e ks xs id) → Contains (k ∷ ks) id
        → value_at d (k ∷ ks) (x ∷ xs) id ≡ value_at e (k ∷ ks) (x ∷ xs) id
    at (inl t) rest there = rw t.0 refl
    at (inr t) rest (zero, short, here) = absurd (t.1 here)
    at (inr t) rest (suc n, short, here) = rw t.0 (rest (n, omega arith, here))

length-renewed : {X : Type 0} (comes : ℕ → Bool) (new : ℕ → X) (ids : List ℕ) (xs : List X) → length xs ≡ length ids
    → length (renewed comes new ids xs) ≡ length ids
length-renewed comes new [] xs same = refl
length-renewed comes new (k ∷ ks) [] same = absurd (omega (arith, same))
length-renewed comes new (k ∷ ks) (x ∷ xs) same = ap suc (length-renewed comes new ks xs (omega (arith, same)))

-- an id that comes up has its new value, and any other its own
value_at-renewed : {X : Type 0} (d : X) (comes : ℕ → Bool) (new : ℕ → X) (ids : List ℕ) (xs : List X) (id : ℕ)
    → length xs ≡ length ids → Contains ids id
    → value_at d ids (renewed comes new ids xs) id ≡ cond (comes id) (new id) (value_at d ids xs id)
value_at-renewed d comes new [] xs id same there = absurd (omega (arith, there.1))
value_at-renewed d comes new (k ∷ ks) [] id same there = absurd (omega (arith, same))
value_at-renewed d comes new (k ∷ ks) (x ∷ xs) id same there =
    at (eqb_tells k id) (value_at-renewed d comes new ks xs id (omega (arith, same))) there
  where
    at : ((nat_eq k id ≡ true) × (k ≡ id)) ⊎ ((nat_eq k id ≡ false) × (k ≢ id))
        → (Contains ks id → value_at d ks (renewed comes new ks xs) id ≡ cond (comes id) (new id) (value_at d ks xs id))
        → Contains (k ∷ ks) id
        → value_at d (k ∷ ks) (renewed comes new (k ∷ ks) (x ∷ xs)) id
        ≡ cond (comes id) (new id) (value_at d (k ∷ ks) (x ∷ xs) id)
    at (inl t) rest there = rw t.0 (ap (λ n. cond (comes n) (new n) x) t.1)
    at (inr t) rest (zero, short, here) = absurd (t.1 here)
    at (inr t) rest (suc n, short, here) = rw t.0 (rest (n, omega (arith, short), here))

module _ {L : Type 0} (app : App L) (c : Configuration L) (g : Graph) (same : g.ids ≡ c.graph.ids)
    (shaped : IsShaped c) where
  abbrev new : Configuration L
  new = with_topology app c g

  nodes : length c.graph.ids ≡ length g.ids
  nodes = ap length (sym same)

  -- each identifier has its registers and its local state
  pub shaped-with_topology : IsShaped new
  shaped-with_topology = record {
    modulus = shaped.modulus;
    trees = length-renewed (comes_up c.graph g) claimed g.ids c.trees (shaped.trees ∙ nodes);
    waves = length-renewed (comes_up c.graph g) _ g.ids c.waves (shaped.waves ∙ nodes);
    locals = length-renewed (comes_up c.graph g) (app.start g) g.ids c.locals (shaped.locals ∙ nodes);
  }

  module _ (i : ℕ) (there : Contains c.graph.ids i) where
    in_new : Contains g.ids i
    in_new = subst (λ ids. Contains ids i) (sym same) there

    pub tree_there : tree_of new i ≡ cond (comes_up c.graph g i) (claimed i) (tree_of c i)
    tree_there =
        let d : TreeRegs = record { root = 0; father = 0; dist = 0 } in
        value_at-renewed d (comes_up c.graph g) claimed g.ids c.trees i (shaped.trees ∙ nodes) in_new
        ∙ ap (λ ids. cond (comes_up c.graph g i) (claimed i) (value_at d ids c.trees i)) same

    pub wave_there : wave_of new i
        ≡ cond (comes_up c.graph g i) (record { phase = Normal; session = 0 }) (wave_of c i)
    wave_there =
        let d : WaveRegs = record { phase = Normal; session = 0 } in
        value_at-renewed d (comes_up c.graph g) (λ _. d) g.ids c.waves i (shaped.waves ∙ nodes) in_new
        ∙ ap (λ ids. cond (comes_up c.graph g i) d (value_at d ids c.waves i)) same

    pub local_there : local_of app new i ≡ cond (comes_up c.graph g i) (app.start g i) (local_of app c i)
    local_there =
        value_at-renewed (app.start g i) (comes_up c.graph g) (app.start g) g.ids c.locals i (shaped.locals ∙ nodes) in_new
        ∙ ap (λ x. cond (comes_up c.graph g i) (app.start g i) x)
        (ap (λ ids. value_at (app.start g i) ids c.locals i) same
        ∙ value_at-elsewhere (app.start g i) (app.start c.graph i) c.graph.ids c.locals i shaped.locals there)
