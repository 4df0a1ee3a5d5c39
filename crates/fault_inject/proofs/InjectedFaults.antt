-- What comes of a fault, from the reasons that there are against it.
use Rattle.std.proofs.Common.{◌≡◌, ◌≢◌, ℕ, ◌==◌, ◌&&◌, Bool, true, false, not, List, [], ◌∷◌, ◌++◌, length, Option}
use Rattle.std.proofs.Common.{Some, None, Result, Ok, Err, OnOk, IfErr, MatchResult, refl, sym, ap, ◌∙◌}
use Rattle.std.proofs.Common.{true≢false, lt-ltb, le-ltb, ◌<◌, ◌≤◌}
use Rattle.app_interface.specs.Application.{App}
use Rattle.app_interface.specs.Ids.{is_id}
use Rattle.topology.specs.Changing.{Reason, first_of, is_full, link_fault, strange_ends, unlink_fault, when, with_link}
use Rattle.topology.specs.Changing.{off_fault, on_fault, with_node, without_link, without_node}
use Rattle.topology.specs.Graph.{Graph, IsNode, are_linked, has, is_node}
use Rattle.topology.specs.declared.fault.TopoFault.{TopoFault}
use Rattle.topology.specs.declared.fault.TopoFault.TheVariants.{StrangeNode as StrangeEnd, SelfLink, TooManyLinks}
use Rattle.topology.specs.declared.fault.TopoFault.TheVariants.{LinkIsThere as Doubled, NoSuchLink as Unlinked}
use Rattle.topology.specs.declared.fault.TopoFault.TheVariants.{NodeIsUp as Up}
use Rattle.topology.specs.declared.fault.TopoFault.TheVariants.{NoMemory as WantOfMemory}
use Rattle.tree_layer.specs.declared.regs.TreeRegs.{TreeRegs}
use Rattle.wave_layer.specs.declared.regs.WaveRegs.{WaveRegs}
use Rattle.reset_model.specs.Configuration.{Configuration, with_local, with_tree, with_wave}
use Rattle.reset_model.specs.Topologies.{with_topology}
use Rattle.reset_model.proofs.NodePositions.{a_node, no_node}
use Rattle.fault_inject.specs.Effects.{damaged, injected, refusals}
use Rattle.fault_inject.specs.declared.fault.Fault.{Fault}
use Rattle.fault_inject.specs.declared.fault.Fault.TheVariants.{SetTree, SetWave, SetLocal, LinkDown, LinkUp}
use Rattle.fault_inject.specs.declared.fault.Fault.TheVariants.{NodeDown, NodeUp}
use Rattle.fault_inject.specs.declared.refusal.FaultRefusal.{FaultRefusal}
use Rattle.fault_inject.specs.declared.refusal.FaultRefusal.TheVariants.{StrangeNode, BadValue, BadLocal, NoSuchLink}
use Rattle.fault_inject.specs.declared.refusal.FaultRefusal.TheVariants.{LinkIsThere, NodeIsUp, NoMemory}

-- ---- the first refusal, and none

module _ {L : Type 0} (app : App L) (from_text : List ℕ → Option L) (c : Configuration L) where
  refused : (f : Fault) (r : FaultRefusal) → first_of (refusals from_text c f) ≡ Some r → injected app from_text c f ≡ Err r
  unfolding injected
  refused f r is = rw is refl

  allowed : (f : Fault) (new : Configuration L) → first_of (refusals from_text c f) ≡ None → new ≡ damaged app from_text c f
      → injected app from_text c f ≡ Ok new
  unfolding injected
  allowed f new is made = rw (is, made) refl

  -- ---- registers

  pub wave_put : (at : ℕ) (regs : WaveRegs) (new : Configuration L) → IsNode c.graph at → new ≡ with_wave c at regs
      → injected app from_text c (SetWave at regs) ≡ Ok new
  wave_put at regs new node made = allowed (SetWave at regs) new (rw (a_node c.graph.nodes at node) refl) made

  pub wave_strange : (at : ℕ) (regs : WaveRegs) → (IsNode c.graph at → ⊥)
      → injected app from_text c (SetWave at regs) ≡ Err StrangeNode
  wave_strange at regs none = refused (SetWave at regs) StrangeNode (rw (no_node c.graph.nodes at none) refl)

  pub tree_put : (at : ℕ) (regs : TreeRegs) (new : Configuration L) → is_node c.graph at ≡ true
      → (is_id regs.root && is_id regs.father) ≡ true → new ≡ with_tree c at regs
      → injected app from_text c (SetTree at regs) ≡ Ok new
  tree_put at regs new node ids made = allowed (SetTree at regs) new (rw (node, ids) refl) made

  pub tree_strange : (at : ℕ) (regs : TreeRegs) → is_node c.graph at ≡ false
      → injected app from_text c (SetTree at regs) ≡ Err StrangeNode
  tree_strange at regs none = refused (SetTree at regs) StrangeNode (rw none refl)

  pub tree_lost : (at : ℕ) (regs : TreeRegs) → (IsNode c.graph at → ⊥)
      → injected app from_text c (SetTree at regs) ≡ Err StrangeNode
  tree_lost at regs none = tree_strange at regs (no_node c.graph.nodes at none)

  pub tree_bad : (at : ℕ) (regs : TreeRegs) → is_node c.graph at ≡ true
      → (is_id regs.root && is_id regs.father) ≡ false
      → injected app from_text c (SetTree at regs) ≡ Err BadValue
  tree_bad at regs node bad = refused (SetTree at regs) BadValue (rw (node, bad) refl)

  -- ---- local states

  pub local_strange : (at : ℕ) (text : List ℕ) → is_node c.graph at ≡ false
      → injected app from_text c (SetLocal at text) ≡ Err StrangeNode
  local_strange at text none = refused (SetLocal at text) StrangeNode (rw none refl)

  pub local_lost : (at : ℕ) (text : List ℕ) → (IsNode c.graph at → ⊥)
      → injected app from_text c (SetLocal at text) ≡ Err StrangeNode
  local_lost at text none = local_strange at text (no_node c.graph.nodes at none)

  pub local_long : (at : ℕ) (text : List ℕ) → is_node c.graph at ≡ true → 200 < length text
      → injected app from_text c (SetLocal at text) ≡ Err BadLocal
  local_long at text node long = refused (SetLocal at text) BadLocal (rw (node, lt-ltb 200 (length text) long) refl)

  pub local_bad : (at : ℕ) (text : List ℕ) → is_node c.graph at ≡ true → length text ≤ 200 → from_text text ≡ None
      → injected app from_text c (SetLocal at text) ≡ Err BadLocal
  local_bad at text node short bad =
      refused (SetLocal at text) BadLocal (rw (node, le-ltb 200 (length text) short, bad) refl)

  pub local_put : (at : ℕ) (text : List ℕ) (local : L) (new : Configuration L) → is_node c.graph at ≡ true
      → length text ≤ 200 → from_text text ≡ Some local → new ≡ with_local c at local
      → injected app from_text c (SetLocal at text) ≡ Ok new
  local_put at text local new node short read made =
      allowed (SetLocal at text) new (rw (node, le-ltb 200 (length text) short, read) refl) (rw read made)

-- ---- links

-- the refusal for a fault of the topology
abbrev told : TopoFault → FaultRefusal
told (StrangeEnd n) = StrangeNode
told (SelfLink n) = BadValue
told TooManyLinks = BadValue
told Doubled = LinkIsThere
told Unlinked = NoSuchLink
told Up = NodeIsUp
told f = NoMemory

abbrev all_told : List (Reason TopoFault) → List (Reason FaultRefusal)
all_told [] = []
all_told (f ∷ fs) = when f.holds (told f.told) ∷ all_told fs

abbrev told_or : Option TopoFault → Option FaultRefusal → Option FaultRefusal
told_or (Some f) o = Some (told f)
told_or None o = o

first_told : (fs : List (Reason TopoFault)) (more : List (Reason FaultRefusal))
    → first_of (all_told fs ++ more) ≡ told_or (first_of fs) (first_of more)
first_told [] more = refl
first_told (f ∷ fs) more = by_test f.holds (first_told fs more)
  where
    by_test : (holds : Bool) → first_of (all_told fs ++ more) ≡ told_or (first_of fs) (first_of more)
        → first_of (all_told (when holds f.told ∷ fs) ++ more)
        ≡ told_or (first_of (when holds f.told ∷ fs)) (first_of more)
    by_test true later = refl
    by_test false later = later

abbrev up_faults : Graph → ℕ → ℕ → List (Reason TopoFault)
up_faults g a b =
    strange_ends g.nodes a b
    ++ when (a == b) (SelfLink a) ∷ when (are_linked g a b) Doubled ∷ when (is_full g) TooManyLinks ∷ []

abbrev down_faults : Graph → ℕ → ℕ → List (Reason TopoFault)
down_faults g a b = strange_ends g.nodes a b ++ when (not (are_linked g a b)) Unlinked ∷ []

abbrev is_memory : TopoFault → Bool
is_memory WantOfMemory = true
is_memory f = false

other_fault : (f : TopoFault) → is_memory f ≡ false → f ≢ WantOfMemory
other_fault f is e = true≢false (sym (ap is_memory e) ∙ is)

abbrev off_faults : Graph → ℕ → List (Reason TopoFault)
off_faults g i = when (not (is_node g i)) (StrangeEnd i) ∷ []

abbrev on_faults : Graph → ℕ → List (Reason TopoFault)
on_faults g i = when (not (has g.ids i)) (StrangeEnd i) ∷ when (is_node g i) Up ∷ []

module _ {L : Type 0} (app : App L) (from_text : List ℕ → Option L) (c : Configuration L) (a b : ℕ) where
  pub up_refused : (g : Graph) (f : TopoFault) → g ≡ c.graph → is_memory f ≡ false
      → (f ≢ WantOfMemory → link_fault g a b ≡ Some f)
      → injected app from_text c (LinkUp a b) ≡ Err (told f)
  up_refused g f same other is =
      refused app from_text c (LinkUp a b) (told f)
      (first_told (up_faults c.graph a b) []
      ∙ ap (λ o. told_or o None) (ap (λ h. link_fault h a b) (sym same) ∙ is (other_fault f other)))

  pub up_put : (g changed : Graph) (new : Configuration L) → g ≡ c.graph → link_fault g a b ≡ None
      → changed ≡ with_link g a b
      → new ≡ with_topology app c changed → injected app from_text c (LinkUp a b) ≡ Ok new
  up_put g changed new same is linked made =
      let whole : changed ≡ with_link c.graph a b = linked ∙ ap (λ h. with_link h a b) same in
      allowed app from_text c (LinkUp a b) new
      (first_told (up_faults c.graph a b) [] ∙ ap (λ o. told_or o None) (ap (λ h. link_fault h a b) (sym same) ∙ is))
      (made ∙ ap (λ h. with_topology app c h) whole)

  pub down_refused : (g : Graph) (f : TopoFault) → g ≡ c.graph → is_memory f ≡ false
      → (f ≢ WantOfMemory → unlink_fault g a b ≡ Some f)
      → injected app from_text c (LinkDown a b) ≡ Err (told f)
  down_refused g f same other is =
      refused app from_text c (LinkDown a b) (told f)
      (first_told (down_faults c.graph a b) []
      ∙ ap (λ o. told_or o None) (ap (λ h. unlink_fault h a b) (sym same) ∙ is (other_fault f other)))

  pub down_put : (g changed : Graph) (new : Configuration L) → g ≡ c.graph → unlink_fault g a b ≡ None
      → changed ≡ without_link g a b
      → new ≡ with_topology app c changed → injected app from_text c (LinkDown a b) ≡ Ok new
  down_put g changed new same is unlinked made =
      let gone : changed ≡ without_link c.graph a b = unlinked ∙ ap (λ h. without_link h a b) same in
      allowed app from_text c (LinkDown a b) new
      (first_told (down_faults c.graph a b) [] ∙ ap (λ o. told_or o None) (ap (λ h. unlink_fault h a b) (sym same) ∙ is))
      (made ∙ ap (λ h. with_topology app c h) gone)

module _ {L : Type 0} (app : App L) (from_text : List ℕ → Option L) (c : Configuration L) where
  -- ---- nodes

  pub off_refused : (at : ℕ) (g : Graph) (f : TopoFault) → g ≡ c.graph → is_memory f ≡ false
      → (f ≢ WantOfMemory → off_fault g at ≡ Some f)
      → injected app from_text c (NodeDown at) ≡ Err (told f)
  off_refused at g f same other is =
      refused app from_text c (NodeDown at) (told f)
      (first_told (off_faults c.graph at) []
      ∙ ap (λ o. told_or o None) (ap (λ h. off_fault h at) (sym same) ∙ is (other_fault f other)))

  pub off_put : (at : ℕ) (g changed : Graph) (new : Configuration L) → g ≡ c.graph → off_fault g at ≡ None
      → changed ≡ without_node g at
      → new ≡ with_topology app c changed → injected app from_text c (NodeDown at) ≡ Ok new
  off_put at g changed new same is down made =
      let gone : changed ≡ without_node c.graph at = down ∙ ap (λ h. without_node h at) same in
      allowed app from_text c (NodeDown at) new
      (first_told (off_faults c.graph at) [] ∙ ap (λ o. told_or o None) (ap (λ h. off_fault h at) (sym same) ∙ is))
      (made ∙ ap (λ h. with_topology app c h) gone)

  pub on_refused : (at : ℕ) (g : Graph) (f : TopoFault) → g ≡ c.graph → is_memory f ≡ false
      → (f ≢ WantOfMemory → on_fault g at ≡ Some f)
      → injected app from_text c (NodeUp at) ≡ Err (told f)
  on_refused at g f same other is =
      refused app from_text c (NodeUp at) (told f)
      (first_told (on_faults c.graph at) []
      ∙ ap (λ o. told_or o None) (ap (λ h. on_fault h at) (sym same) ∙ is (other_fault f other)))

  pub on_put : (at : ℕ) (g changed : Graph) (new : Configuration L) → g ≡ c.graph → on_fault g at ≡ None
      → changed ≡ with_node g at
      → new ≡ with_topology app c changed → injected app from_text c (NodeUp at) ≡ Ok new
  on_put at g changed new same is up made =
      let whole : changed ≡ with_node c.graph at = up ∙ ap (λ h. with_node h at) same in
      allowed app from_text c (NodeUp at) new
      (first_told (on_faults c.graph at) [] ∙ ap (λ o. told_or o None) (ap (λ h. on_fault h at) (sym same) ∙ is))
      (made ∙ ap (λ h. with_topology app c h) whole)

  -- where the topology was put, or memory was wanting
  pub put_or_not : {A : Type 0} (f : Fault) (r : Result A FaultRefusal) (g : Graph) (new : Configuration L)
      → OnOk r (new ≡ with_topology app c g)
      → IfErr r (λ e. e ≡ NoMemory) → (new ≡ with_topology app c g → injected app from_text c f ≡ Ok new)
      → MatchResult r (λ _. injected app from_text c f ≡ Ok new) (λ e. e ≢ NoMemory → injected app from_text c f ≡ Err e)
  put_or_not f (Ok x) g new ok err to = to ok
  put_or_not f (Err e) g new ok err to = λ other. absurd (other err)
