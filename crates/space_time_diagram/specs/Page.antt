-- Places on the page, in whole user units of the picture: a lane a node from left to right, and a row an entry down.
use Rattle.std.specs.Prelude.{ℕ, ◌+◌, ◌-◌, ◌*◌, ◌/◌}

-- the middle of a lane; lanes count from 0
abbrev pub lane_x : ℕ → ℕ
lane_x lane = 76 + 56 * lane

-- where it begins, at the left
abbrev pub lane_left : ℕ → ℕ
lane_left lane = 48 + 56 * lane

-- the row of an entry, by its position; row 0 is the opening. One row is left free above each fortieth
abbrev pub row_y : ℕ → ℕ
row_y place = 256 + 22 * (place + place / 40)

-- the numbers of the nodes stand above row 0 and above each fortieth; these count from 0
abbrev pub heading_y : ℕ → ℕ
heading_y n = row_y (40 * n) - 16

-- how far it is from the row of a position to below the last of so many entries
abbrev pub height_below : ℕ → ℕ → ℕ
height_below count place = row_y count + 22 - row_y place

-- where the last of so many lanes ends, with some room
abbrev pub right_end : ℕ → ℕ
right_end lanes = 52 + 56 * lanes

-- the page has a margin for what is written beside the lanes, and room for the legend above them
abbrev pub page_width : ℕ → ℕ
page_width lanes = 350 + 56 * lanes

abbrev pub page_height : ℕ → ℕ
page_height count = row_y count + 38
