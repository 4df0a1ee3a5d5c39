-- Nodes that restart in turn, nearer ones first, where all have joined and none is reset: leaders open a session, the others
-- join it.
use Rattle.std.proofs.Common.{◌≡◌, ◌≢◌, ℕ, ◌+◌, ◌<◌, ◌≤◌, inl, inr, true, false, List, [], ◌∷◌, Contains, length, slice_index_or}
use Rattle.std.proofs.Common.{refl, sym, ap, ap₂, subst, ◌∙◌, ⊎_elim, true≢false, arith}
use Rattle.std.proofs.lemmas.Bool.{cases_eq, cases_lt, ne_eqb}
use Rattle.std.proofs.Common.{append_assoc, append-nil, ◌++◌}
use Rattle.app_interface.specs.Application.{App}
use Rattle.topology.specs.Graph.{IsGraph, IsNode, node_bound}
use Rattle.tree_layer.specs.declared.regs.TreeRegs.{TreeRegs}
use Rattle.tree_layer.specs.TreeRows.{IsFather}
use Rattle.tree_layer.proofs.Leaders.{linked_node}
use Rattle.wave_layer.specs.declared.regs.Phase.{Phase}
use Rattle.wave_layer.specs.declared.regs.Phase.TheVariants.{Normal, Initiate, Reset}
use Rattle.wave_layer.specs.declared.regs.WaveRegs.{WaveRegs}
use Rattle.wave_layer.specs.Sessions.{next_session}
use Rattle.wave_layer.specs.WaveTable.{is_reset}
use Rattle.reset_model.specs.declared.event.Event.{Event}
use Rattle.reset_model.specs.declared.event.Event.TheVariants.{Join, Open, Request}
use Rattle.reset_model.specs.Completion.{times}
use Rattle.reset_model.specs.Configuration.{Configuration, local_of, tree_of, wave_of}
use Rattle.reset_model.specs.Sound.{IsSound}
use Rattle.reset_model.specs.Steps.{Joins, event_node, is_act, join_asked, join_normal, reset_at, tree_effect}
use Rattle.reset_model.proofs.Fathers.{IsUnder, father_leader, not_own_father}
use Rattle.reset_model.proofs.SoundConfigurations.{step_sound}
use Rattle.recovery.specs.Drafts.{DraftView, Tried}
use Rattle.recovery.specs.FalseNodes.{far_of}
use Rattle.recovery.specs.Mended.{KeepsTree}
use Rattle.recovery.specs.Outward.{IsOutward}
use Rattle.recovery.specs.Resetting.{AllJoined, IsAnew, NoneReset, RestartsSoFar, is_at}
use Rattle.recovery.proofs.Counting.{opens_still, times_append, times_of_one}
use Rattle.recovery.proofs.Leading.{same_item}
use Rattle.recovery.proofs.MendingOut.{father_on, kept_itself, kept_on}
use Rattle.recovery.proofs.Outward.{item_node}
use Rattle.recovery.proofs.WaveMoves.{Moved, moved, node_on}

-- ---- what changes at one node

-- the tree is kept, registers and local states change at i alone, and events are added
pub record Advances {L : Type 0} (app : App L) (v v' : DraftView L) (i : ℕ) : Type 0 where
  pub keeps : KeepsTree v.config v'.config
  pub sound : IsSound v'.config
  pub waves : (k : ℕ) → IsNode v.config.graph k → k ≢ i → wave_of v'.config k ≡ wave_of v.config k
  pub locals : (k : ℕ) → IsNode v.config.graph k → k ≢ i → local_of app v'.config k ≡ local_of app v.config k
  pub more : List Event
  pub added : v'.events ≡ v.events ++ more
  pub elsewhere : (k : ℕ) → k ≢ i → times (is_at k) more ≡ 0

pub stays : {L : Type 0} (app : App L) (v v' : DraftView L) (i : ℕ) → IsSound v.config → v' ≡ v → Advances app v v' i
stays {L} app v v' i sound same =
    let P : DraftView L → Type 0 = λ d. Advances app v d i in
    subst P (sym same) (record {
      keeps = kept_itself v.config;
      sound = sound;
      waves = λ k node other. refl;
      locals = λ k node other. refl;
      more = [];
      added = sym (append-nil v.events);
      elsewhere = λ k other. refl;
    })

pub advances : {L : Type 0} (app : App L) (v v' : DraftView L) (e : Event) → is_act e ≡ false
    → tree_effect (node_bound v.config.graph) (tree_of v.config) e ≡ tree_of v.config (event_node e)
    → IsGraph v.config.graph → IsSound v.config → Tried app v e v' → Advances app v v' (event_node e)
advances app v v' e row tree graph sound (inl did) =
    let m = moved app v.config v'.config e row tree did.0 in
    record {
      keeps = m.keeps;
      sound = step_sound app v.config v'.config e graph did.0 sound;
      waves = m.others;
      locals = m.local_others;
      more = e ∷ [];
      added = did.1;
      elsewhere = λ k other. times_of_one (is_at k) e false (ne_eqb (event_node e) k (λ same. other (sym same)));
    }
advances app v v' e row tree graph sound (inr none) = stays app v v' (event_node e) sound none.1

pub advances_on : {L : Type 0} (app : App L) (v m v' : DraftView L) (i : ℕ) → Advances app v m i → Advances app m v' i
    → Advances app v v' i
advances_on app v m v' i before after = record {
  keeps = kept_on v.config m.config v'.config before.keeps after.keeps;
  sound = after.sound;
  waves = λ k node other. after.waves k (node_on v.config m.config before.keeps k node) other
      ∙ before.waves k node other;
  locals = λ k node other. after.locals k (node_on v.config m.config before.keeps k node) other
      ∙ before.locals k node other;
  more = before.more ++ after.more;
  added = after.added ∙ ap (λ l. l ++ after.more) before.added ∙ append_assoc v.events before.more after.more;
  elsewhere = λ k other. times_append (is_at k) before.more after.more
      ∙ omega (arith, before.elsewhere k other, after.elsewhere k other);
}

-- ---- one node more

module _ {L : Type 0} (app : App L) (c : Configuration L) (graph : IsGraph c.graph) (order : List ℕ) (out : IsOutward c order)
    (joined : AllJoined c) (ended : NoneReset c) (n d : ℕ) (low : n < length order) (v : DraftView L)
    (so_far : RestartsSoFar app c v.config v.events order n) where
  abbrev at : ℕ
  at = slice_index_or order n d

  pub at_node : IsNode c.graph at
  at_node = item_node c order out n d low

  carried : (v' : DraftView L) → Advances app v v' at → (i : ℕ) → IsNode c.graph i → i ≢ at
      → IsAnew app c v.config v.events i → IsAnew app c v'.config v'.events i
  carried v' on i node other anew =
      let there = node_on c v.config so_far.keeps i node in
      record {
        wave = on.waves i there other ∙ anew.wave;
        local = on.locals i there other ∙ anew.local;
        opened = λ own. opens_still v.events v'.events on.more i (anew.opened own) on.added (on.elsewhere i other);
      }

  one_more : (v' : DraftView L) → Advances app v v' at → IsAnew app c v'.config v'.events at
      → RestartsSoFar app c v'.config v'.events order (n + 1)
  one_more v' on here =
      let P : ℕ → Type 0 = λ i. IsAnew app c v'.config v'.events i in
      record {
        keeps = kept_on c v.config v'.config so_far.keeps on.keeps;
        sound = on.sound;
        each = λ i node. ⊎_elim
            (λ same. inr (subst P (sym same) here))
            (λ other. ⊎_elim
            (λ old. inl (on.waves i (node_on c v.config so_far.keeps i node) other ∙ old))
            (λ anew. inr (carried v' on i node other anew))
            (so_far.each i node))
            (cases_eq i at);
        first = λ k e short.
            let x = slice_index_or order k e in
            ⊎_elim
            (λ before. ⊎_elim (λ same. subst P (sym same) here)
            (λ other. carried v' on x (item_node c order out k e (omega (arith, before, low))) other
            (so_far.first k e before))
            (cases_eq x at))
            (λ last.
            let same : k ≡ n = omega (arith, short, last) in
            let item : x ≡ at = ap (λ y. slice_index_or order y e) same ∙ sym (same_item order n d e low) in
            subst P (sym item) here)
            (cases_lt k n);
      }

  there_graph : IsGraph v.config.graph
  there_graph = subst IsGraph (sym so_far.keeps.graph) graph

  there_node : IsNode v.config.graph at
  there_node = node_on c v.config so_far.keeps at at_node

  reset_phase : (c' : Configuration L) (es : List Event) → IsAnew app c c' es at → (wave_of c' at).phase ≡ Reset
  reset_phase c' es anew = ap (λ (r : WaveRegs). r.phase) anew.wave

  -- where it is as it was it isn't reset
  awake : wave_of v.config at ≡ wave_of c at → (wave_of v.config at).phase ≡ Reset → ⊥
  awake old is =
      true≢false (sym (ap is_reset is) ∙ ap (λ (r : WaveRegs). is_reset r.phase) old ∙ ended at at_node)

  not_both : (p : Phase) → p ≡ Reset → (p ≡ Normal → ⊥) × (p ≡ Initiate → ⊥)
  not_both p is = (
    (λ normal. true≢false (sym (ap is_reset is) ∙ ap is_reset normal)),
    (λ asked. true≢false (sym (ap is_reset is) ∙ ap is_reset asked)),
  )

  -- ---- a leader

  module _ (own : (tree_of c at).father ≡ at) (m v' : DraftView L) (asks : Tried app v (Request at) m)
      (opens : Tried app m (Open at) v') where
    asking : Advances app v m at
    asking = advances app v m (Request at) refl refl there_graph so_far.sound asks

    m_graph : IsGraph m.config.graph
    m_graph = subst IsGraph (sym asking.keeps.graph) there_graph

    opening : Advances app m v' at
    opening = advances app m v' (Open at) refl refl m_graph asking.sound opens

    all_keeps : KeepsTree c m.config
    all_keeps = kept_on c v.config m.config so_far.keeps asking.keeps

    m_own : (tree_of m.config at).father ≡ at
    m_own = ap (λ (r : TreeRegs). r.father) (all_keeps.trees at at_node) ∙ own

    -- after the request it has asked, in its old session
    asked : wave_of v.config at ≡ wave_of c at → Tried app v (Request at) m
        → ((wave_of m.config at).phase ≡ Initiate) × ((wave_of m.config at).session ≡ (wave_of c at).session)
    asked old (inl did) =
        let here = (moved app v.config m.config (Request at) refl refl did.0).here in (
          ap (λ (r : WaveRegs). r.phase) here,
          ap (λ (r : WaveRegs). r.session) here ∙ ap (λ (r : WaveRegs). r.session) old,
        )
    asked old (inr none) =
        let same = ap (λ (k : DraftView L). wave_of k.config at) none.1 in (
          ap (λ (r : WaveRegs). r.phase) same ∙ by_phase (wave_of v.config at).phase refl,
          ap (λ (r : WaveRegs). r.session) (same ∙ old),
        )
      where
        by_phase : (p : Phase) → (wave_of v.config at).phase ≡ p → p ≡ Initiate
        by_phase Normal is = absurd (none.0 is)
        by_phase Initiate is = refl
        by_phase Reset is = absurd (awake old is)

    opened_anew : wave_of v.config at ≡ wave_of c at → Tried app m (Open at) v' → IsAnew app c v'.config v'.events at
    opened_anew old (inl did) =
        let step = moved app m.config v'.config (Open at) refl refl did.0 in
        let was = asked old asks in
        let Made : ℕ → ℕ → WaveRegs = λ k s. record { phase = Reset; session = next_session k s } in
        record {
          wave = step.here ∙ ap₂ Made all_keeps.modulus was.1;
          local = step.local_here ∙ ap (λ g. app.start g at) all_keeps.graph;
          opened = λ _. (m.events, [], did.1, refl);
        }
    opened_anew old (inr none) = absurd (none.0 (m_own, (asked old asks).0))

    -- where it is anew neither is enabled
    unasked : IsAnew app c v.config v.events at → Tried app v (Request at) m → m ≡ v
    unasked anew (inl did) =
        absurd ((not_both (wave_of v.config at).phase (reset_phase v.config v.events anew)).0
        (moved app v.config m.config (Request at) refl refl did.0).enabled)
    unasked anew (inr none) = none.1

    unopened : IsAnew app c m.config m.events at → Tried app m (Open at) v' → v' ≡ m
    unopened anew (inl did) =
        absurd ((not_both (wave_of m.config at).phase (reset_phase m.config m.events anew)).1
        (moved app m.config v'.config (Open at) refl refl did.0).enabled.1)
    unopened anew (inr none) = none.1

    still_anew : IsAnew app c v.config v.events at → IsAnew app c v'.config v'.events at
    still_anew anew =
        let P : DraftView L → Type 0 = λ k. IsAnew app c k.config k.events at in
        let there : P m = subst P (sym (unasked anew asks)) anew in
        subst P (sym (unopened there opens)) there

    pub leader_restarts : RestartsSoFar app c v'.config v'.events order (n + 1)
    leader_restarts =
        one_more v' (advances_on app v m v' at asking opening)
        (⊎_elim (λ old. opened_anew old opens) still_anew (so_far.each at at_node))

  -- ---- a node below its father

  module _ (under : IsUnder c.graph (tree_of c) at) (v' : DraftView L) (joins : Tried app v (Join at) v') where
    abbrev up : ℕ
    up = (tree_of c at).father

    up_node : IsNode c.graph up
    up_node = linked_node c.graph graph at up under.father.linked

    up_anew : IsAnew app c v.config v.events up
    up_anew =
        let found : Contains order up = out.all up up_node in
        let k = found.0 in
        let P : ℕ → Type 0 = λ i. IsAnew app c v.config v.events i in
        ⊎_elim
        (λ before. subst P found.2 (so_far.first k up before))
        (λ behind.
        let rising = out.rising n k up behind found.1 in
        let same_k = ap (far_of c) found.2 in
        let same_n = ap (far_of c) (same_item order n d up low) in
        absurd (omega (arith, under.dist, rising, same_k, same_n)))
        (cases_lt k n)

    -- both had one session
    one_session : (wave_of c up).session ≡ (wave_of c at).session
    one_session =
        joined up up_node
        ∙ ap (λ k. (wave_of c k).session) (father_leader c.graph graph (tree_of c) at up under.father)
        ∙ sym (joined at at_node)

    abbrev Made : ℕ → WaveRegs
    Made s = record { phase = Reset; session = s }

    there_up : (tree_of v.config at).father ≡ up
    there_up = ap (λ (r : TreeRegs). r.father) (so_far.keeps.trees at at_node)

    joined_anew : Moved app v.config (Join at) v'.config → IsAnew app c v'.config v'.events at
    joined_anew step =
        let session : (wave_of v.config (tree_of v.config at).father).session
        ≡ next_session c.modulus (wave_of c at).session =
        ap (λ k. (wave_of v.config k).session) there_up ∙ ap (λ (r : WaveRegs). r.session) up_anew.wave
        ∙ ap (next_session c.modulus) one_session in
        record {
          wave = step.here ∙ ap Made session;
          local = step.local_here ∙ ap (λ g. app.start g at) so_far.keeps.graph;
          opened = λ own. absurd (not_own_father c.graph (tree_of c) at up graph under.father (sym own));
        }

    -- where it is as it was it can join
    can_join : wave_of v.config at ≡ wave_of c at
        → Joins v.config.graph v.config.modulus (tree_of v.config) (wave_of v.config) at
    can_join old =
        let father = father_on c v.config so_far.keeps at up at_node under.father in
        let reset : reset_at (wave_of v.config) up ≡ true = ap (λ (r : WaveRegs). is_reset r.phase) up_anew.wave in
        let next : (wave_of v.config up).session ≡ next_session v.config.modulus (wave_of v.config at).session =
        ap (λ (r : WaveRegs). r.session) up_anew.wave
        ∙ ap₂ next_session (sym so_far.keeps.modulus) (one_session ∙ ap (λ (r : WaveRegs). r.session) (sym old)) in
        by_phase father reset next (wave_of v.config at).phase refl
      where
        by_phase : IsFather v.config.graph (tree_of v.config) at up → reset_at (wave_of v.config) up ≡ true
            → (wave_of v.config up).session ≡ next_session v.config.modulus (wave_of v.config at).session
            → (p : Phase) → (wave_of v.config at).phase ≡ p
            → Joins v.config.graph v.config.modulus (tree_of v.config) (wave_of v.config) at
        by_phase father reset next Normal is = join_normal up father reset is next
        by_phase father reset next Initiate is = join_asked up father reset is next
        by_phase father reset next Reset is = absurd (awake old is)

    below_anew : Tried app v (Join at) v' → IsAnew app c v'.config v'.events at
    below_anew (inl did) = joined_anew (moved app v.config v'.config (Join at) refl refl did.0)
    below_anew (inr none) =
        let P : DraftView L → Type 0 = λ k. IsAnew app c k.config k.events at in
        subst P (sym none.1)
        (⊎_elim (λ old. absurd (none.0 (can_join old))) (λ anew. anew) (so_far.each at at_node))

    pub below_restarts : RestartsSoFar app c v'.config v'.events order (n + 1)
    below_restarts =
        one_more v' (advances app v v' (Join at) refl refl there_graph so_far.sound joins) (below_anew joins)

-- at the beginning and at the end
pub none_restarted : {L : Type 0} (app : App L) (c : Configuration L) (es : List Event) (order : List ℕ) → IsSound c
    → RestartsSoFar app c c es order 0
none_restarted app c es order sound = record {
  keeps = kept_itself c;
  sound = sound;
  each = λ i node. inl refl;
  first = λ k d low. absurd (omega (arith, low));
}

pub all_restarted : {L : Type 0} (app : App L) (c c' : Configuration L) (es : List Event) (order : List ℕ) (n : ℕ)
    → IsOutward c order → length order ≤ n → RestartsSoFar app c c' es order n
    → (i : ℕ) → IsNode c.graph i → IsAnew app c c' es i
all_restarted app c c' es order n out whole so_far i node =
    let found : Contains order i = out.all i node in
    let short : found.0 < length order = found.1 in
    let P : ℕ → Type 0 = λ k. IsAnew app c c' es k in
    subst P found.2 (so_far.first found.0 i (omega (arith, short, whole)))
