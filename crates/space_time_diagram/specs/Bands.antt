-- The bands: what the wave registers of a node are, from the entry that left them on, or that it is down.
use Rattle.std.specs.Prelude.{ℕ, ◌+◌, ◌%◌, List, [], ◌∷◌, ◌++◌, length, map, codes, Option, Some, None}
use Rattle.std.specs.Prelude.{if◌then◌else◌}
use Rattle.std.specs.Fmt.{decimal}
use Rattle.std.specs.List.{concat, flat_map}
use Rattle.std.specs.Option.{option_map_or}
use Rattle.app_interface.specs.Application.{App}
use Rattle.topology.specs.Graph.{is_node}
use Rattle.wave_layer.specs.Names.{phase_name}
use Rattle.wave_layer.specs.declared.regs.WaveRegs.{WaveRegs}
use Rattle.reset_model.specs.Configuration.{Configuration, wave_of}
use Rattle.reset_model.specs.Steps.{event_node}
use Rattle.fault_inject.specs.declared.fault.Fault.{Fault}
use Rattle.fault_inject.specs.declared.fault.Fault.TheVariants.{SetTree, SetWave, SetLocal, LinkDown, LinkUp}
use Rattle.fault_inject.specs.declared.fault.Fault.TheVariants.{NodeDown, NodeUp}
use Rattle.history.specs.declared.entry.Entry.{Entry}
use Rattle.history.specs.declared.entry.Entry.TheVariants.{Step, Disturbed}
use Rattle.history.specs.Entries.{entered}
use Rattle.space_time_diagram.specs.declared.band.Band.{Band}
use Rattle.space_time_diagram.specs.Lanes.{lane_of, own_lane}
use Rattle.space_time_diagram.specs.Page.{height_below, lane_x, row_y}

-- the node on whose lane a fault stands: its own, and of a link the first end that it names
abbrev pub fault_node : Fault → ℕ
fault_node (SetTree at regs) = at
fault_node (SetWave at regs) = at
fault_node (SetLocal at text) = at
fault_node (LinkDown a b) = a
fault_node (LinkUp a b) = a
fault_node (NodeDown at) = at
fault_node (NodeUp at) = at

-- the node on whose lane an entry stands
abbrev pub entry_node : Entry → ℕ
entry_node (Step e) = event_node e
entry_node (Disturbed f) = fault_node f

-- what a band shows of a node: its wave registers while it is up, and none while it is down
abbrev pub shown_of : {L : Type 0} → Configuration L → ℕ → Option WaveRegs
shown_of c i = if is_node c.graph i then Some (wave_of c i) else None

-- the band of a node that shows this, on its lane from the row of a position down to below the last of so many entries
abbrev pub band : ℕ → ℕ → ℕ → ℕ → Option WaveRegs → Band
band lane count place i shown = record {
  x = lane_x lane;
  y = row_y place;
  height = height_below count place;
  node = i;
  shown = shown;
}

-- the band of one of these nodes in the opening
abbrev pub opening_band : {L : Type 0} → List ℕ → Configuration L → ℕ → ℕ → Band
opening_band nodes c count i = band (lane_of nodes c i) count 0 i (shown_of c i)

-- the band that the entry at a position begins at a node, where this has a lane
abbrev pub begun_band : Option ℕ → ℕ → ℕ → ℕ → Option WaveRegs → List Band
begun_band (Some lane) count place i shown = band lane count place i shown ∷ []
begun_band None count place i shown = []

-- the bands of entries from c on, the first of which has this position: each begins one at its node, of what it leaves
-- there, if the node has a lane
unfoldable pub bands_from : {L : Type 0} → App L → (List ℕ → Option L) → (ℕ → Option ℕ) → ℕ → Configuration L → ℕ
    → List Entry → List Band
bands_from app from_text lane count c place [] = []
bands_from app from_text lane count c place (e ∷ es) =
    option_map_or (λ after. begun_band (lane (entry_node e)) count place (entry_node e) (shown_of after (entry_node e))
    ++ bands_from app from_text lane count after (place + 1) es) (entered app from_text c e) []

-- the bands of a picture of these nodes, in the order in which they are painted: each covers what an earlier one has
-- below it
abbrev pub bands_of : {L : Type 0} → App L → (List ℕ → Option L) → List ℕ → Configuration L → List Entry → List Band
bands_of app from_text nodes c es =
    map (opening_band nodes c (length es)) nodes ++ bands_from app from_text (own_lane nodes c) (length es) c 1 es

-- a band of these registers, whose phase has this name: the session as a wide pale rectangle in one of six colours
-- with its number, and the phase as a narrow one before it
unfoldable pub phase_band_text : Band → WaveRegs → List ℕ → List ℕ
phase_band_text b regs phase = concat (codes "<g transform='translate(" ∷ decimal b.x ∷ codes " " ∷ decimal b.y
    ∷ codes ")'><title>node " ∷ decimal b.node ∷ codes ": " ∷ phase ∷ codes ", session " ∷ decimal regs.session
    ∷ codes "</title><rect class='s" ∷ decimal (regs.session % 6) ∷ codes "' x='-26' width='52' height='"
    ∷ decimal b.height ∷ codes "'/><rect class='" ∷ phase ∷ codes "' x='-5' width='10' height='" ∷ decimal b.height
    ∷ codes "'/><text class='session' x='24' y='8'>" ∷ decimal regs.session ∷ codes "</text></g>\n" ∷ [])

-- a band of a node that is down: a wide hatched rectangle
unfoldable pub down_text : Band → List ℕ
down_text b = concat (codes "<g transform='translate(" ∷ decimal b.x ∷ codes " " ∷ decimal b.y
    ∷ codes ")'><title>node " ∷ decimal b.node ∷ codes ": down</title><rect class='down' x='-26' width='52' height='"
    ∷ decimal b.height ∷ codes "'/></g>\n" ∷ [])

-- a band that shows this
abbrev pub shown_text : Band → Option WaveRegs → List ℕ
shown_text b (Some regs) = phase_band_text b regs (phase_name regs.phase)
shown_text b None = down_text b

abbrev pub band_text : Band → List ℕ
band_text b = shown_text b b.shown

-- the bands of a picture
abbrev pub bands_text : List Band → List ℕ
bands_text bs = flat_map band_text bs
