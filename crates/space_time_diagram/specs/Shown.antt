-- What is seen on a page of a node.
use Rattle.std.specs.Prelude.{ℕ, ◌+◌, ◌==◌, ◌&&◌, nat_le, nat_lt, if◌then◌else◌, Bool, List, [], ◌∷◌, Option}
use Rattle.wave_layer.specs.declared.regs.WaveRegs.{WaveRegs}
use Rattle.space_time_diagram.specs.declared.band.Band.{Band}

-- the band is one of node i, and there is some of it in the row at y
abbrev pub covers : ℕ → ℕ → Band → Bool
covers i y b = (b.node == i) && (nat_le b.y y && nat_lt y (b.y + b.height))

-- what is seen of node i in the row at y, after these bands were painted over what was seen there: registers, or that it
-- is down
abbrev pub seen : ℕ → ℕ → Option WaveRegs → List Band → Option WaveRegs
seen i y shown [] = shown
seen i y shown (b ∷ bs) = seen i y (if covers i y b then b.shown else shown) bs
