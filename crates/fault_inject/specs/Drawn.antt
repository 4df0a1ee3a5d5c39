-- The faults that are drawn from random words.
use Rattle.std.specs.Prelude.{ℕ, ◌+◌, ◌%◌, ◌==◌, if◌then◌else◌, List, length, slice_index}
use Rattle.rand_pcg.specs.Lcg.{Lcg}
use Rattle.rand_core.specs.Pcg32Seed.{pcg32_seed}
use Rattle.rand_pcg.specs.Pcg.{pcg32, pcg32_of_seed}
use Rattle.wave_layer.specs.declared.regs.Phase.{Phase}
use Rattle.wave_layer.specs.declared.regs.Phase.TheVariants.{Normal, Initiate, Reset}
use Rattle.fault_inject.specs.declared.fault.Fault.{Fault}
use Rattle.fault_inject.specs.declared.fault.Fault.TheVariants.{SetTree, SetWave, LinkDown, LinkUp}

-- the generator that a number seeds, by way of 16 bytes
abbrev pub seeded : ℕ → Lcg
seeded seed = pcg32_of_seed (pcg32_seed 16 seed)

-- the next five words of a generator, in their order, and the generator after them
abbrev pub next_words : Lcg → (ℕ × ℕ × ℕ × ℕ × ℕ) × Lcg
next_words generator =
    let first = pcg32 generator in
    let second = pcg32 first.1 in
    let third = pcg32 second.1 in
    let fourth = pcg32 third.1 in
    let fifth = pcg32 fourth.1 in
    ((first.0, second.0, third.0, fourth.0, fifth.0), fifth.1)

-- the node that a word draws, of those with these ids
abbrev pub drawn_node : List ℕ → ℕ → ℕ
drawn_node ids word = slice_index ids (word % length ids)

-- the phase that a word draws
abbrev pub drawn_phase : ℕ → Phase
drawn_phase word = if word % 3 == 0 then Normal else if word % 3 == 1 then Initiate else Reset

-- the fault that five words draw in a network of nodes with these ids, which ascend; the first word
-- draws its kind
abbrev pub drawn_fault : List ℕ → ℕ × ℕ × ℕ × ℕ × ℕ → Fault
drawn_fault ids (w1, w2, w3, w4, w5) =
    let node = drawn_node ids in
    if w1 % 4 == 0 then SetTree (node w2) (record { root = node w3; father = node w4; dist = w5 % (length ids + 1) })
    else if w1 % 4 == 1 then SetWave (node w2) (record { phase = drawn_phase w3; session = w4 % 8 })
    else if w1 % 4 == 2 then LinkDown (node w2) (node w3)
    else LinkUp (node w2) (node w3)
