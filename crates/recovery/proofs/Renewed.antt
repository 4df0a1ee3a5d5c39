-- After a restart of all nodes and its end each is renewed; and orders that are reversed.
use Rattle.std.proofs.Common.{◌≡◌, ◌≢◌, ℕ, ◌+◌, ◌-◌, ◌*◌, ◌<◌, ◌≤◌, List, length, slice_index_or}
use Rattle.std.proofs.Common.{sym, ap, ap₂, subst, ◌∙◌, ⊎_elim, true≢false, arith}
use Rattle.std.proofs.Common.{Bool, cond, Result, Ok, Err, OnOk, reverse}
use Rattle.std.proofs.lemmas.Bool.{cases_eq}
use Rattle.std.proofs.lemmas.List.{get_or-reverse}
use Rattle.std.proofs.lemmas.List.Sorted.{Contains-permutation, IsPermutation-reverse, IsPermutation-sym, length_permutation}
use Rattle.std.specs.List.Sorted.{IsPermutation}
use Rattle.app_interface.specs.Application.{App}
use Rattle.topology.specs.Components.{leader}
use Rattle.topology.specs.Graph.{Graph, IsGraph, IsNode}
use Rattle.topology.proofs.Components.{leader_leads, leader_node, same_leader}
use Rattle.wave_layer.specs.declared.regs.Phase.{Phase}
use Rattle.wave_layer.specs.declared.regs.Phase.TheVariants.{Normal}
use Rattle.wave_layer.specs.declared.regs.WaveRegs.{WaveRegs}
use Rattle.wave_layer.specs.Sessions.{next_session}
use Rattle.wave_layer.specs.WaveTable.{is_reset}
use Rattle.reset_model.specs.declared.event.Event.{Event}
use Rattle.reset_model.specs.declared.event.Event.TheVariants.{Join}
use Rattle.reset_model.specs.Configuration.{Configuration, tree_of, wave_of}
use Rattle.reset_model.specs.Sound.{IsSound}
use Rattle.reset_model.specs.WavePicture.{HasJoined}
use Rattle.reset_model.proofs.Fathers.{IsTop, IsUnder, top_or_under}
use Rattle.recovery.specs.Drafts.{DraftView, Tried, TriedToOpen}
use Rattle.recovery.specs.FalseNodes.{far_of}
use Rattle.recovery.specs.Mended.{KeepsTree}
use Rattle.recovery.specs.Outward.{IsOutward}
use Rattle.recovery.specs.Recovered.{CompletesOnce, IsRenewed}
use Rattle.recovery.specs.Resetting.{AllJoined, EndsBy, HasFinished, IsAnew, IsInward, NoneReset, RestartsSoFar}
use Rattle.recovery.proofs.Counting.{completes_once}
use Rattle.recovery.proofs.Restarted.{at_node, below_restarts, leader_restarts}
use Rattle.recovery.proofs.WaveMoves.{leader_own, node_on, tree_picture}

-- ---- one node restarts

pub one_restarts : {L : Type 0} (app : App L) (c : Configuration L) (graph : IsGraph c.graph) → IsSound c
    → (order : List ℕ) (out : IsOutward c order) (joined : AllJoined c) (ended : NoneReset c) (n d : ℕ)
    (low : n < length order) (v v' : DraftView L) → RestartsSoFar app c v.config v.events order n
    → ((tree_of v.config (slice_index_or order n d)).father ≡ slice_index_or order n d
    → TriedToOpen app v (slice_index_or order n d) v')
    → ((tree_of v.config (slice_index_or order n d)).father ≢ slice_index_or order n d
    → Tried app v (Join (slice_index_or order n d)) v')
    → RestartsSoFar app c v'.config v'.events order (n + 1)
one_restarts app c graph sound order out joined ended n d low v v' so_far opens joins =
    let at = slice_index_or order n d in
    let node = at_node app c graph order out joined ended n d low v so_far in
    let same = so_far.keeps.trees at node in
    ⊎_elim
    (λ own. let tried = opens (ap (λ r. r.father) same ∙ own) in
    leader_restarts app c graph order out joined ended n d low v so_far own tried.0 v' tried.1 tried.2)
    (λ other. ⊎_elim
    (λ (top : IsTop c.graph (tree_of c) at). absurd (other top.father))
    (λ (under : IsUnder c.graph (tree_of c) at).
    below_restarts app c graph order out joined ended n d low v so_far under v'
    (joins (λ own. other (ap (λ r. r.father) (sym same) ∙ own))))
    (top_or_under c.graph graph (tree_of c) (tree_picture c graph sound) at node))
    (cases_eq (tree_of c at).father at)

-- ---- all have restarted

-- they are in one session
pub anew_joined : {L : Type 0} (app : App L) (c c' : Configuration L) (es : List Event) → IsGraph c.graph → KeepsTree c c'
    → AllJoined c → ((i : ℕ) → IsNode c.graph i → IsAnew app c c' es i) → AllJoined c'
anew_joined app c c' es graph keeps joined anew =
    let P : Graph → Type 0 = λ g. (i : ℕ) → IsNode g i → HasJoined g (wave_of c') i in
    subst P (sym keeps.graph)
    (λ i node.
    let l = leader c.graph i in
    ap (λ (r : WaveRegs). r.session) (anew i node).wave ∙ ap (next_session c.modulus) (joined i node)
    ∙ ap (λ (r : WaveRegs). r.session) (sym (anew l (leader_node c.graph i graph node)).wave))

same_regs : (a b : Phase) (s r : ℕ) → a ≡ b → s ≡ r
    → (let x : WaveRegs = record { phase = a; session = s } in
    let y : WaveRegs = record { phase = b; session = r } in x ≡ y)
same_regs a b s r p q =
    let Made : Phase → ℕ → WaveRegs = λ k n. record { phase = k; session = n } in ap₂ Made p q

-- and after all have finished each is renewed
module _ {L : Type 0} (app : App L) (c c' c2 : Configuration L) (es es' : List Event) (graph : IsGraph c.graph)
    (sound : IsSound c) (keeps : KeepsTree c c') (anew : (i : ℕ) → IsNode c.graph i → IsAnew app c c' es i)
    (by : HasFinished app c' c2) (joined : AllJoined c2) (none : NoneReset c2)
    (ends : EndsBy c' c2 es es') where
  all_graph : c2.graph ≡ c.graph
  all_graph = by.keeps.graph ∙ keeps.graph

  normal : (i : ℕ) → IsNode c.graph i → (wave_of c2 i).phase ≡ Normal
  normal i node =
      let there = node_on c c' keeps i node in
      let last = node_on c' c2 by.keeps i there in
      ⊎_elim
      (λ is. is)
      (λ same. absurd (true≢false
      (sym (ap is_reset (same ∙ ap (λ (r : WaveRegs). r.phase) (anew i node).wave)) ∙ none i last)))
      (by.phases i there)

  opened_there : (i : ℕ) → IsNode c.graph i → CompletesOnce es' (leader c.graph i)
  opened_there i node =
      let l = leader c.graph i in
      let at = leader_node c.graph i graph node in
      let twice : leader c.graph l ≡ l = same_leader c.graph i l graph node (leader_leads c.graph i graph node).reached in
      let there = node_on c c' keeps l at in
      let last = node_on c' c2 by.keeps l there in
      let Left : Bool → ℕ = λ b. cond b 0 1 in
      let one = ends.once l there (ap (λ (r : WaveRegs). is_reset r.phase) (anew l at).wave) in
      let done = ap Left (none l last) in
      completes_once es es' ends.more l ((anew l at).opened (leader_own c graph sound l at (sym twice))) ends.added
      (ends.closed l) (one ∙ done)

  pub renewed : (i : ℕ) → IsNode c2.graph i → IsRenewed app es' c2 i
  renewed i node =
      let P : Graph → Type 0 = λ g. IsNode g i in
      let here : IsNode c.graph i = subst P all_graph node in
      let Q : Graph → Type 0 = λ g. CompletesOnce es' (leader g i) in
      record {
        opened = subst Q (sym all_graph) (opened_there i here);
        wave = same_regs (wave_of c2 i).phase Normal (wave_of c2 i).session _ (normal i here) (joined i node);
        local = by.locals i (node_on c c' keeps i here) ∙ (anew i here).local
            ∙ ap (λ g. app.start g i) (sym all_graph);
      }

pub few_resets : (n a e0 e1 e2 e3 e4 b : ℕ) → a ≡ n → b ≡ n → e1 ≤ e0 + a → e2 ≤ e1 + b → e3 ≤ e2 + 2 * a → e4 ≤ e3 + b
    → e4 ≤ e0 + 5 * n
few_resets n a e0 e1 e2 e3 e4 b one two p q r s = omega (arith, one, two, p, q, r, s)

-- what holds where a result is Ok, from four facts
pub on_ok_all : {A E : Type 0} (r : Result A E) (P Q R S T : Type 0) → (P → Q → R → S → T) → OnOk r P → OnOk r Q
    → OnOk r R → OnOk r S → OnOk r T
on_ok_all (Ok x) P Q R S T to p q r s = to p q r s
on_ok_all (Err e) P Q R S T to p q r s = tt

-- the other way round
pub is_inward : {L : Type 0} (b : Configuration L) (order back : List ℕ) → IsOutward b order → back ≡ reverse order
    → IsInward b back
is_inward b order back out turned =
    let same = IsPermutation-reverse order in
    let P : List ℕ → Type 0 = λ l. IsPermutation order l in
    let moved = subst P (sym turned) same in
    let count = length_permutation order back moved in
    let Q : List ℕ → Type 0 = λ l. (k d : ℕ) → k < length order
    → slice_index_or l k d ≡ slice_index_or order (length order - 1 - k) d in
    let at = subst Q (sym turned) (λ k d low. get_or-reverse order k d low) in
    record {
      count = count ∙ out.count;
      only = λ i there. out.only i (Contains-permutation back order i (IsPermutation-sym order back moved) there);
      all = λ i node. Contains-permutation order back i moved (out.all i node);
      falling = λ k l d low high.
          let a = ap (far_of b) (at k d (omega (arith, low, high, count))) in
          let z = ap (far_of b) (at l d (omega (arith, high, count))) in
          let up = out.rising (length order - 1 - l) (length order - 1 - k) d (omega (arith, low))
          (omega (arith, low, high, count)) in
          omega (arith, a, z, up);
    }
