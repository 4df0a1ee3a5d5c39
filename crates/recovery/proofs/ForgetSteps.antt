-- Claims and follows of a configuration at a false node of least distance.
use Rattle.std.proofs.Common.{◌≡◌, ℕ, ◌<◌, ◌≤◌, ◌+◌, ◌⊎◌, refl, sym, ap, subst, ◌∙◌, ⊎_elim, Bool, true, false, true≢false, Some}
use Rattle.std.proofs.Common.{None, Option, IfSome, IfNone, List, [], ◌∷◌, ◌++◌, length, length-append, arith, cond}
use Rattle.std.proofs.lemmas.Bool.{cases_Bool}
use Rattle.wave_layer.specs.declared.regs.WaveRegs.{WaveRegs}
use Rattle.tree_layer.specs.TreePicture.{TreePicture}
use Rattle.tree_layer.proofs.Leaders.{walked_node}
use Rattle.app_interface.specs.Application.{App}
use Rattle.topology.specs.Graph.{Graph, IsGraph, IsNode, node_bound}
use Rattle.tree_layer.specs.declared.regs.TreeRegs.{TreeRegs}
use Rattle.tree_layer.specs.TreeRows.{Claims, Follows, IsFather, follow_root, follow_dist, followed}
use Rattle.reset_model.specs.declared.event.Event.{Event}
use Rattle.reset_model.specs.declared.event.Event.TheVariants.{Claim, Follow}
use Rattle.reset_model.specs.declared.step.StepRefusal.{StepRefusal}
use Rattle.reset_model.specs.Configuration.{Configuration, tree_of}
use Rattle.reset_model.specs.MachineSteps.{IsRefused, IsStep, RowStep, act_refused, act_step, row_refused, row_step}
use Rattle.reset_model.specs.Steps.{IsEnabled, RowRefused, is_act, not_enabled, strange_neighbour, strange_node}
use Rattle.reset_model.specs.Steps.{event_node, named_node}
use Rattle.reset_model.specs.Configuration.{wave_of}
use Rattle.recovery.specs.FalseNodes.{AllTrue, AtMost, Forgets, IsFalseNode, IsLowest, IsTarget, far_of, is_false}
use Rattle.recovery.specs.FalseNodes.{potential, potential_of, top_of}
use Rattle.recovery.proofs.Potential.{claim_lowers, follow_lowers, picture_leads, steps_on, test_from_is}

-- a refused event of the tables that names no other node isn't enabled
row_rests : (g : Graph) (K m : ℕ) (t : ℕ → TreeRegs) (w : ℕ → WaveRegs) (e : Event) (f : StepRefusal) → RowRefused g K m t w e f
    → IsNode g (event_node e) → named_node e ≡ None → IsEnabled g K m t w e → ⊥
row_rests g K m t w e f (strange_node not_there) node names on = not_there node
row_rests g K m t w e f (strange_neighbour j at named apart) node names on = absurd (let no : None ≡ Some j = sym names ∙ named in cc)
row_rests g K m t w e f (not_enabled named off) node names on = off on

pub refused_rests : {L : Type 0} (app : App L) (c : Configuration L) (e : Event) (f : StepRefusal) → is_act e ≡ false
    → IsRefused app c e f → IsNode c.graph (event_node e) → named_node e ≡ None
    → IsEnabled c.graph (node_bound c.graph) c.modulus (tree_of c) (wave_of c) e → ⊥
refused_rests app c e f row (row_refused same is) node names on =
    row_rests c.graph (node_bound c.graph) c.modulus (tree_of c) (wave_of c) e f is node names on
refused_rests app c e f row (act_refused i case with same is) node names on =
    absurd (true≢false (sym (ap is_act same) ∙ row))

module _ {L : Type 0} (app : App L) (c b c' : Configuration L) (i : ℕ) (graph : IsGraph c.graph) (target : IsTarget c b)
    (low : IsLowest c b i) where
  -- one of the two is enabled
  pub goes : Claims c.graph (node_bound c.graph) (tree_of c) i ⊎ Follows c.graph (node_bound c.graph) (tree_of c) i
  goes = steps_on c.graph graph (node_bound c.graph) (top_of b) (far_of b)
      (picture_leads c.graph graph (tree_of b) target.picture) (tree_of c) i low.node low.is low.least

  along : (h : Graph) → h ≡ c.graph
      → potential c.graph (node_bound c.graph) (top_of b) (far_of b) (tree_of c') < potential_of c b
      → potential h (node_bound h) (top_of b) (far_of b) (tree_of c') < potential_of c b
  along h same less =
      let P : Graph → Type 0 = λ k. potential k (node_bound k) (top_of b) (far_of b) (tree_of c') < potential_of c b in
      subst P (sym same) less

  row_claim : RowStep app c (Claim i) c' → Forgets c b c'
  row_claim row = record {
    graph = row.graph;
    fewer = along c'.graph row.graph (claim_lowers c.graph graph (node_bound c.graph) (top_of b) (far_of b)
        (picture_leads c.graph graph (tree_of b) target.picture) (tree_of c) i low.node low.is low.least (tree_of c') _
        row.regs.trees refl);
  }

  pub claim_forgets : IsStep app c (Claim i) c' → Forgets c b c'
  claim_forgets (row_step row) = row_claim row
  claim_forgets (act_step k case with same is) = absurd (true≢false (sym (ap is_act same)))

  lowers : RowStep app c (Follow i) c' → (j : ℕ) → IsFather c.graph (tree_of c) i j
      → (tree_of c i).dist < node_bound c.graph → Forgets c b c'
  lowers row j father short =
      let t = tree_of c in
      let K = node_bound c.graph in
      record {
        graph = row.graph;
        fewer = along c'.graph row.graph (follow_lowers c.graph graph K (top_of b) (far_of b)
            (picture_leads c.graph graph (tree_of b) target.picture) t i low.node low.is low.least (tree_of c') _
            row.regs.trees j father.linked short (ap (λ k. followed K k (t k)) father.named));
      }

  row_follow : RowStep app c (Follow i) c' → Follows c.graph (node_bound c.graph) (tree_of c) i → Forgets c b c'
  row_follow row (follow_root j father short differs) = lowers row j father short
  row_follow row (follow_dist j father short same differs) = lowers row j father short

  pub follow_forgets : IsStep app c (Follow i) c' → Forgets c b c'
  follow_forgets (row_step row) = row_follow row row.regs.enabled
  follow_forgets (act_step k case with same is) = absurd (true≢false (sym (ap is_act same)))

  -- they aren't both refused
  pub stuck : (f h : StepRefusal) → IsRefused app c (Claim i) f → (m : Configuration L) → m ≡ c
      → IsRefused app m (Follow i) h → ⊥
  stuck f h no_claim m same no_follow =
      let P : Configuration L → Type 0 = λ k. IsRefused app k (Follow i) h in
      ⊎_elim (refused_rests app c (Claim i) f refl no_claim low.node refl)
      (refused_rests app c (Follow i) h refl (subst P same no_follow) low.node refl) goes

pub one_longer : (es es' : List Event) (e : Event) → es' ≡ es ++ e ∷ [] → length es' ≡ length es + 1
one_longer es es' e grew = ap length grew ∙ length-append es (e ∷ [])

module _ {L : Type 0} (app : App L) (c b c' : Configuration L) (i : ℕ) (es es' : List Event) (graph : IsGraph c.graph)
    (target : IsTarget c b) (low : IsLowest c b i) where
  pub claimed_on : IsStep app c (Claim i) c' → es' ≡ es ++ Claim i ∷ [] → Forgets c b c' × (length es' ≡ length es + 1)
  claimed_on step grew = (claim_forgets app c b c' i graph target low step, one_longer es es' (Claim i) grew)

  pub followed_on : (m : Configuration L) (em : List Event) → m ≡ c → em ≡ es → IsStep app m (Follow i) c'
      → es' ≡ em ++ Follow i ∷ [] → Forgets c b c' × (length es' ≡ length es + 1)
  followed_on m em same equal step grew =
      let P : Configuration L → Type 0 = λ k. IsStep app k (Follow i) c' in (
        follow_forgets app c b c' i graph target low (subst P same step),
        one_longer em es' (Follow i) grew ∙ ap (λ l. length l + 1) equal,
      )

-- the leader of a node is a node
pub target_top : {L : Type 0} (c b : Configuration L) (i : ℕ) → IsGraph c.graph → IsTarget c b → IsNode c.graph i
    → IsNode c.graph (top_of b i)
target_top c b i graph target node =
    let r = (target.picture.root i node).reached in walked_node c.graph graph r.0 i (top_of b i) node r.1

pub lowest_found : {L : Type 0} (c b : Configuration L) (o : Option ℕ) → IfSome o (λ i. IsFalseNode c b i)
    → ((j : ℕ) → IsNode c.graph j → is_false (top_of b) (far_of b) (tree_of c) j ≡ true → AtMost c o j)
    → IfSome o (λ i. IsLowest c b i)
lowest_found c b None h least = h
lowest_found c b (Some i) h least = record { node = h.0; is = h.1; least = least }

pub lowest_none : {L : Type 0} (c b : Configuration L) (o : Option ℕ)
    → ((j : ℕ) → IsNode c.graph j → is_false (top_of b) (far_of b) (tree_of c) j ≡ true → AtMost c o j)
    → IfNone o (AllTrue c b)
lowest_none c b (Some i) least = tt
lowest_none c b None least = λ j node is. least j node (test_from_is (top_of b) (far_of b) (tree_of c) j is)

-- one more step at false nodes, or none
module _ {L : Type 0} (c0 c b c' : Configuration L) (es0 es es' : List Event) (did : Bool) (target : IsTarget c b)
    (same : c.graph ≡ c0.graph) (few : length es + potential_of c b ≤ length es0 + potential_of c0 b)
    (done : did ≡ true → Forgets c b c' × (length es' ≡ length es + 1))
    (none : did ≡ false → (c' ≡ c) × (es' ≡ es) × AllTrue c b) where
  abbrev pub Further : Bool → Type 0
  Further d = IsTarget c' b × (c'.graph ≡ c0.graph) × (length es' + potential_of c' b ≤ length es0 + potential_of c0 b)
      × (d ≡ false → AllTrue c' b) × (potential_of c' b + cond d 1 0 < potential_of c b + 1)

  moved : did ≡ true → Further did
  moved is =
      let on = done is in
      let Pictured : Graph → Type 0 = λ g. TreePicture g (tree_of b) in
      let left : potential_of c' b + cond did 1 0 < potential_of c b + 1 =
      let one : cond did 1 0 ≡ 1 = ap (λ (d : Bool). let n : ℕ = cond d 1 0 in n) is in
      omega (arith, one, on.0.fewer) in (
        record { graph = target.graph ∙ sym on.0.graph; picture = subst Pictured (sym on.0.graph) target.picture },
        on.0.graph ∙ same,
        omega (arith, few, on.0.fewer, on.1),
        λ no. absurd (true≢false (sym is ∙ no)),
        left,
      )

  rested : did ≡ false → Further did
  rested is =
      let on = none is in
      let At : Configuration L → Type 0 = λ k. IsTarget k b in
      let True : Configuration L → Type 0 = λ k. AllTrue k b in
      let size = ap length on.1 in
      let left_same = ap (λ k. potential_of k b) on.0 in
      let left : potential_of c' b + cond did 1 0 < potential_of c b + 1 =
      let one : cond did 1 0 ≡ 0 = ap (λ (d : Bool). let n : ℕ = cond d 1 0 in n) is in
      omega (arith, one, left_same) in (
        subst At (sym on.0) target,
        ap (λ k. k.graph) on.0 ∙ same,
        omega (arith, few, size, left_same),
        λ no. subst True (sym on.0) on.2,
        left,
      )

  pub further : Further did
  further = ⊎_elim moved rested (cases_Bool did)
