use Rattle.std.proofs.Common.{◌≡◌, ◌<◌, false, length, get_or, map, sym, ap, ap₂, ◌∙◌, arith, subst}
use Rattle.std.specs.List.{list_all}
use Rattle.std.proofs.lemmas.List.{get_or-map, length-map}
use Rattle.app_mutex.specs.Turns.{holds_turn}
use Rattle.app_mutex.specs.declared.local.MutexLocal.{MutexLocal}
use Rattle.app_invariants.proofs.States.{state_at}
use Rattle.app_invariants.proofs.TurnCounts.{some_fails}
use Rattle.app_invariants.proofs.turns.holds_all_turns.Goals as goal

pub returns-then-not-holds_turn : goal.returns-then-not-holds_turn
returns-then-not-holds_turn c =
    λ v are.
    let g = c.args.topology.now in
    let ids = g.ids in
    let near = c.neighbours-near-items.result.now in
    let k = c.loop-near.near-index in
    let none : MutexLocal = record { inside = false; bit = false } in
    let i = get_or ids c.args.index 0 in
    let k_in : k < length near = c.loop-near-test.true in
    let j_in : get_or near k 0 < length ids = c.neighbours-near-items.ensures.within k 0 k_in in
    let fails : holds_turn i (v i).bit (get_or ids (get_or near k 0) 0) (v (get_or ids (get_or near k 0) 0)).bit ≡ false =
    ap₂ (λ x y. holds_turn i x.bit (get_or ids (get_or near k 0) 0) y.bit)
    (sym (state_at g v c.args.states.now are c.args.index none c.requires.index))
    (sym (state_at g v c.args.states.now are (get_or near k 0) none j_in))
    ∙ ap (λ xs. holds_turn (get_or xs c.args.index 0) (get_or c.args.states.now c.args.index none).bit
    (get_or xs (get_or near k 0) 0) (get_or c.args.states.now (get_or near k 0) none).bit) (sym c.ids-ids.ensures)
    ∙ sym c.if-not-holds_turn.ensures in
    let at : get_or (map (λ n. get_or ids n 0) near) k 0 ≡ get_or ids (get_or near k 0) 0 =
    get_or-map (λ n. get_or ids n 0) near k 0 0 k_in in
    sym (subst (λ js. list_all (λ j. holds_turn i (v i).bit j (v j).bit) js ≡ false) c.neighbours-near-items.ensures.ids
    (some_fails (λ j. holds_turn i (v i).bit j (v j).bit) (map (λ n. get_or ids n 0) near) k 0
    (omega (arith, length-map near (λ n. get_or ids n 0)))
    (ap (λ j. holds_turn i (v i).bit j (v j).bit) at ∙ fails)))
