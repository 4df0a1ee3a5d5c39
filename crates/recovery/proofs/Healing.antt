-- What the repairs of a draft come to.
use Rattle.std.proofs.Common.{◌≡◌, ℕ, zero, suc, ◌+◌, ◌*◌, ◌≤◌, Bool, true, false, ◌&&◌, List, [], ◌∷◌, ◌++◌, All, length}
use Rattle.std.proofs.Common.{Result, Ok, Err, OnOk, refl, sym, ap, subst, ◌∙◌, true≢false, arith}
use Rattle.std.specs.List.{list_all}
use Rattle.std.proofs.lemmas.List.Folds.{list_all-append}
use Rattle.std.proofs.Math.Nat.{mul-add}
use Rattle.app_interface.specs.Application.{App}
use Rattle.topology.specs.Graph.{Graph, IsNode, node_bound}
use Rattle.reset_model.specs.declared.event.Event.{Event}
use Rattle.reset_model.specs.declared.event.Event.TheVariants.{Claim, Follow, Adopt, Request, Relay, Open, Join, Finish}
use Rattle.reset_model.specs.declared.event.Event.TheVariants.{Mend, Act}
use Rattle.reset_model.specs.Configuration.{Configuration, tree_of}
use Rattle.reset_model.specs.Sound.{IsSound, Repairs, claims, follows, adopts, mends}
use Rattle.reset_model.proofs.SoundConfigurations.{step_quiet}
use Rattle.recovery.specs.Drafts.{Leads, is_repair}
use Rattle.recovery.specs.FalseNodes.{IsPlaced, IsTarget, far_of, potential_of, top_of}
use Rattle.recovery.specs.Outward.{AllPlaced, IsOutward}
use Rattle.recovery.specs.Recovered.{AreSteps, Heals}
use Rattle.recovery.proofs.Potential.{potential_most}

-- what holds where a result is Ok
pub on_ok : {A E : Type 0} (r : Result A E) (P Q : Type 0) → (P → Q) → OnOk r P → OnOk r Q
on_ok (Ok x) P Q to h = to h
on_ok (Err e) P Q to h = tt

-- ---- events of a draft

pub all_more : (takes : Event → Bool) (es more : List Event) (e : Event) → list_all takes es ≡ true → takes e ≡ true
    → more ≡ es ++ e ∷ [] → list_all takes more ≡ true
all_more takes es more e all one grew =
    ap (list_all takes) grew ∙ list_all-append takes es (e ∷ [])
    ∙ ap (λ b. b && list_all takes (e ∷ [])) all ∙ ap (λ b. b && true) one

-- the tested ones are repairs
is_repairing : (e : Event) → is_repair e ≡ true → Repairs e
is_repairing (Claim i) is = claims i
is_repairing (Follow i) is = follows i
is_repairing (Adopt i j) is = adopts i j
is_repairing (Mend i) is = mends i
is_repairing (Request i) is = absurd (true≢false (sym is))
is_repairing (Relay i c) is = absurd (true≢false (sym is))
is_repairing (Open i) is = absurd (true≢false (sym is))
is_repairing (Join i) is = absurd (true≢false (sym is))
is_repairing (Finish i) is = absurd (true≢false (sym is))
is_repairing (Act i case with) is = absurd (true≢false (sym is))

both : (a b : Bool) → (a && b) ≡ true → (a ≡ true) × (b ≡ true)
both true b is = (refl, is)
both false b is = absurd (true≢false (sym is))

all_repairs : (es : List Event) → list_all is_repair es ≡ true → All Repairs es
all_repairs [] is k d low = absurd (omega (arith, low))
all_repairs (e ∷ es) is zero d low = is_repairing e (both (is_repair e) (list_all is_repair es) is).0
all_repairs (e ∷ es) is (suc k) d low =
    all_repairs es (both (is_repair e) (list_all is_repair es) is).1 k d (omega (arith, low))

-- steps with the configurations between
pub leads_steps : {L : Type 0} (app : App L) (es : List Event) (c c' : Configuration L) → Leads app c es c'
    → AreSteps app c es c'
leads_steps app [] c c' leads = ([], refl, leads)
leads_steps app (e ∷ es) c c' leads =
    let rest = leads_steps app es leads.0 c' leads.2 in (
      record { before = c; event = e; after = leads.0 } ∷ rest.0,
      ap (λ l. e ∷ l) rest.1,
      (refl, leads.1, rest.2),
    )

-- from a sound configuration no step is a repair
none_needed : {L : Type 0} (app : App L) (es : List Event) (c c' : Configuration L) → Leads app c es c'
    → list_all is_repair es ≡ true → IsSound c → es ≡ []
none_needed app [] c c' leads only sound = refl
none_needed app (e ∷ es) c c' leads only sound =
    absurd (step_quiet app c leads.0 e leads.1 sound
    (is_repairing e (both (is_repair e) (list_all is_repair es) only).0))

pub heals : {L : Type 0} (app : App L) (es : List Event) (c c' : Configuration L) → Leads app c es c'
    → list_all is_repair es ≡ true → length es ≤ length c.graph.nodes * (node_bound c.graph + 4) → IsSound c'
    → Heals app c es c'
heals app es c c' leads only few sound = record {
  steps = leads_steps app es c c' leads;
  only = all_repairs es only;
  few = few;
  sound = sound;
  none = none_needed app es c c' leads only;
}

-- ---- bounds

pub placed_itself : {L : Type 0} (c b m : Configuration L) → AllPlaced c b m → AllPlaced m b m
placed_itself c b m placed =
    let P : Graph → Type 0 = λ g. (i : ℕ) → IsNode g i → IsPlaced g (top_of b) (far_of b) (tree_of m) i in
    record { graph = refl; each = subst P (sym placed.graph) placed.each }

pub few_in_all : {L : Type 0} (c b d : Configuration L) (order : List ℕ) (e0 e1 e2 e3 : ℕ) → IsTarget c b
    → IsOutward b order → e1 + potential_of d b ≤ e0 + potential_of c b → e2 ≤ e1 + 2 * length order
    → e3 ≤ e2 + length order → e3 ≤ e0 + length c.graph.nodes * (node_bound c.graph + 4)
few_in_all c b d order e0 e1 e2 e3 target out forgot placed mended =
    let n = length c.graph.nodes in
    let K = node_bound c.graph in
    let count : length order ≡ n = out.count ∙ ap (λ (g : Graph). length g.nodes) target.graph in
    let most = potential_most c.graph K (top_of b) (far_of b) (tree_of c) in
    omega (arith, forgot, placed, mended, count, most, mul-add n (K + 1) 3)
