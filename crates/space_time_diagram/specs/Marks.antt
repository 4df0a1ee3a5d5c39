-- The marks of entries.
use Rattle.std.specs.Prelude.{ℕ, ◌+◌, ◌==◌, if◌then◌else◌, List, [], ◌∷◌, ◌++◌, codes, Option, Some, None}
use Rattle.std.specs.Fmt.{decimal}
use Rattle.std.specs.List.{concat, flat_map}
use Rattle.std.specs.Option.{option_and_then}
use Rattle.reset_model.specs.declared.event.Event.{Event}
use Rattle.reset_model.specs.declared.event.Event.TheVariants.{Claim, Follow, Adopt, Request, Relay, Open, Join}
use Rattle.reset_model.specs.declared.event.Event.TheVariants.{Finish, Mend, Act}
use Rattle.fault_inject.specs.declared.fault.Fault.{Fault}
use Rattle.fault_inject.specs.declared.fault.Fault.TheVariants.{SetTree, SetWave, SetLocal, LinkDown, LinkUp}
use Rattle.fault_inject.specs.declared.fault.Fault.TheVariants.{NodeDown, NodeUp}
use Rattle.history.specs.HistoryText.{entry_line}
use Rattle.history.specs.declared.entry.Entry.{Entry}
use Rattle.history.specs.declared.entry.Entry.TheVariants.{Step, Disturbed}
use Rattle.space_time_diagram.specs.Bands.{entry_node}
use Rattle.space_time_diagram.specs.Page.{lane_x, row_y}

-- a byte of a text, as XML has it
abbrev pub escaped_byte : ℕ → List ℕ
escaped_byte b =
    if b == 60 then codes "&lt;" else if b == 62 then codes "&gt;" else if b == 38 then codes "&amp;" else b ∷ []

-- a text, as XML has it
abbrev pub escaped : List ℕ → List ℕ
escaped text = flat_map escaped_byte text

-- the kind of an event, by which its mark has its colour, its form and its letter
abbrev pub event_kind : Event → List ℕ
event_kind (Claim i) = codes "tree"
event_kind (Follow i) = codes "tree"
event_kind (Adopt i j) = codes "tree"
event_kind (Request i) = codes "request"
event_kind (Relay i c) = codes "relay"
event_kind (Open i) = codes "open"
event_kind (Join i) = codes "join"
event_kind (Finish i) = codes "finish"
event_kind (Mend i) = codes "mend"
event_kind (Act i case with) = codes "action"

-- the kind of an entry
abbrev pub entry_kind : Entry → List ℕ
entry_kind (Step e) = event_kind e
entry_kind (Disturbed f) = codes "fault"

-- a mark at x and y, of this kind, with the number of its entry and the line of it to be read there
unfoldable pub mark_text : List ℕ → ℕ → ℕ → ℕ → List ℕ → List ℕ
mark_text kind x y number line = concat (codes "<g class='mark " ∷ kind ∷ codes "' transform='translate(" ∷ decimal x
    ∷ codes " " ∷ decimal y ∷ codes ")'><title>" ∷ decimal number ∷ codes ": " ∷ line ∷ codes "</title><use href='#"
    ∷ kind ∷ codes "'/></g>\n" ∷ [])

-- the same on a lane, if there is one
abbrev pub mark_on : Option ℕ → List ℕ → ℕ → ℕ → List ℕ → List ℕ
mark_on (Some lane) kind y number line = mark_text kind (lane_x lane) y number line
mark_on None kind y number line = []

-- the number of an entry, left of all lanes
unfoldable pub number_text : ℕ → ℕ → List ℕ
number_text y number = concat (codes "<text class='place' x='36' dy='3' y='" ∷ decimal y ∷ codes "'>" ∷ decimal number
    ∷ codes "</text>\n" ∷ [])

-- the other end of the link of a fault: the one that it names last
abbrev pub fault_end : Fault → Option ℕ
fault_end (SetTree at regs) = None
fault_end (SetWave at regs) = None
fault_end (SetLocal at text) = None
fault_end (LinkDown a b) = Some b
fault_end (LinkUp a b) = Some b
fault_end (NodeDown at) = None
fault_end (NodeUp at) = None

-- that of an entry
abbrev pub entry_end : Entry → Option ℕ
entry_end (Step e) = None
entry_end (Disturbed f) = fault_end f

-- a thin line at y from x to the other end, where it has a small mark, with the number of its entry and the line of it
-- to be read there
unfoldable pub link_text : ℕ → ℕ → ℕ → ℕ → List ℕ → List ℕ
link_text x end y number line = concat (codes "<g class='link'><title>" ∷ decimal number ∷ codes ": " ∷ line
    ∷ codes "</title><path d='M" ∷ decimal x ∷ codes " " ∷ decimal y ∷ codes "H" ∷ decimal end
    ∷ codes "'/><circle class='form bad' cx='" ∷ decimal end ∷ codes "' cy='" ∷ decimal y
    ∷ codes "' r='4'/></g>\n" ∷ [])

-- the same between two lanes, if there are both
abbrev pub link_between : Option ℕ → Option ℕ → ℕ → ℕ → List ℕ → List ℕ
link_between (Some lane) (Some end) y number line = link_text (lane_x lane) (lane_x end) y number line
link_between (Some lane) None y number line = []
link_between None end y number line = []

-- what the row at y has of an entry of this kind and number and with this line: its mark, if there is a lane for that,
-- and a line from there to the lane of the other end, if there is one
abbrev pub row_text : List ℕ → Option ℕ → Option ℕ → ℕ → ℕ → List ℕ → List ℕ
row_text kind lane end y number line =
    link_between lane end y number line ++ (mark_on lane kind y number line ++ number_text y number)

-- that of the entry at a position, if so many entries came before the first: its mark is on the lane of its node. If it
-- takes a link out or puts one in, a line leads to the lane of its other end
abbrev pub mark : (ℕ → Option ℕ) → ℕ → ℕ → Entry → List ℕ
mark lane before place e =
    row_text (entry_kind e) (lane (entry_node e)) (option_and_then lane (entry_end e)) (row_y place) (before + place)
    (escaped (entry_line e))

-- the marks of entries, the first of which has this position
unfoldable pub marks_from : (ℕ → Option ℕ) → ℕ → ℕ → List Entry → List ℕ
marks_from lane before place [] = []
marks_from lane before place (e ∷ es) = mark lane before place e ++ marks_from lane before (place + 1) es
