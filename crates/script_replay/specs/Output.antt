-- What a run writes.
use Rattle.std.specs.Prelude.{◌≡◌, ℕ, ◌+◌, ◌<◌, ◌≤◌, nat_lt, if◌then◌else◌, ◌⊎◌, List, [], ◌∷◌, ◌++◌, length, codes}
use Rattle.std.specs.Prelude.{Bool, false, Option, Some, None, Result, Ok, Err, map, filter}
use Rattle.std.specs.Fmt.{decimal}
use Rattle.std.specs.Io.KnownBytes.{Appends, Keeps}
use Rattle.std.specs.List.{concat, flat_map}
use Rattle.topology.specs.Graph.{Graph, is_node, neighbours_of}
use Rattle.topology.specs.Faults.{IsTopologyOf}
use Rattle.topology.specs.FaultText.{fault_text}
use Rattle.topology.specs.ReadFaultText.{read_fault_text}
use Rattle.topology.specs.TopologyText.{Description, IsReadFault, description_of}
use Rattle.topology.specs.declared.fault.TopoFault.{TopoFault}
use Rattle.topology.specs.declared.text.ReadFault.{ReadFault}
use Rattle.topology.specs.declared.text.AppName.{AppName}
use Rattle.tree_layer.specs.declared.regs.TreeRegs.{TreeRegs}
use Rattle.wave_layer.specs.Names.{phase_name}
use Rattle.wave_layer.specs.declared.regs.WaveRegs.{WaveRegs}
use Rattle.reset_model.specs.EventText.{event_line}
use Rattle.reset_model.specs.declared.event.Event.{Event}
use Rattle.reset_model.specs.declared.event.Event.TheVariants.{Request}
use Rattle.reset_model.specs.declared.step.Reply.{Reply}
use Rattle.reset_model.specs.declared.step.Reply.TheVariants.{Applied, Complete}
use Rattle.reset_model.specs.declared.step.StepRefusal.{StepRefusal}
use Rattle.reset_model.specs.declared.step.StepRefusal.TheVariants.{StrangeNode, StrangeNeighbour, NoSuchCase}
use Rattle.reset_model.specs.declared.step.StepRefusal.TheVariants.{WantsNeighbour, TakesNoNeighbour, Disagrees}
use Rattle.reset_model.specs.declared.step.StepRefusal.TheVariants.{NotEnabled, NoMemory}
use Rattle.reset_model.specs.Configuration.{Configuration, tree_of, wave_of, local_of}
use Rattle.reset_model.specs.Outcome.{IsBoot}
use Rattle.reset_model.specs.Planned.{outcome_of}
use Rattle.reset_machine.specs.Enabled.{enabled_rows, ready_of}
use Rattle.reset_model.specs.Refinement.{has_joined}
use Rattle.applications.specs.Choice.{ForApp}
use Rattle.applications.specs.Meaning.{Meaning}
use Rattle.fault_inject.specs.Drawn.{drawn_fault, next_words, seeded}
use Rattle.fault_inject.specs.Effects.{injected}
use Rattle.fault_inject.specs.FaultText as fault
use Rattle.fault_inject.specs.declared.fault.Fault.{Fault}
use Rattle.fault_inject.specs.declared.refusal.FaultRefusal.{FaultRefusal}
use Rattle.fault_inject.specs.declared.refusal.FaultRefusal.TheVariants.{BadValue, BadLocal}
use Rattle.fault_inject.specs.declared.refusal.FaultRefusal.TheVariants as refused
use Rattle.app_invariants.specs.Verdicts.{verdicts_of}
use Rattle.link_predicates.specs.Faults.{alarm_of, family_name, faults, node_faults, repair_of}
use Rattle.link_predicates.specs.declared.fault.LinkFault.{LinkFault}
use Rattle.reset_machine.specs.declared.enabled.Enabled.{Enabled}
use Rattle.action_tables.specs.RowText.{set_text}
use Rattle.action_tables.specs.Written.{AppendsPrefix}
use Rattle.history.specs.HistoryText.{ended}
use Rattle.scheduler.specs.Driven.{enabled_events}
use Rattle.script_replay.specs.Lines.{lines_of, IsCut}
use Rattle.script_replay.specs.Script.{line_of}
use Rattle.script_replay.specs.VerdictText.{verdict_line}
use Rattle.script_replay.specs.declared.script.Command.{Command}
use Rattle.script_replay.specs.declared.script.Command.TheVariants.{Step, Inject, Draw, Show, ShowNode, Newest, Ready}
use Rattle.script_replay.specs.declared.script.Command.TheVariants.{Check, CheckNode, Alarm, Watch, Moves, MovesOf}
use Rattle.script_replay.specs.declared.script.Command.TheVariants.{Snapshot, Invariant}
use Rattle.script_replay.specs.declared.script.Command.TheVariants as command
use Rattle.script_replay.specs.declared.script.Line.{Line}
use Rattle.script_replay.specs.declared.script.Line.TheVariants.{Silent, Asks, Bad}
use Rattle.script_replay.specs.declared.status.Status.{Status}
use Rattle.script_replay.specs.declared.status.Status.TheVariants.{Good, FaultsFound, BadInput}
use Rattle.script_replay.specs.declared.status.Purpose.{Purpose}
use Rattle.script_replay.specs.declared.status.Purpose.TheVariants as purposes
use Rattle.script_replay.specs.declared.status.RunStop.{RunStop}
use Rattle.script_replay.specs.declared.status.RunStop.TheVariants.{ReadFailed, WriteFailed}
use Rattle.script_replay.specs.declared.status.RunStop.TheVariants as stop

-- ---- lines

-- a line that ends with a number
abbrev pub numbered : List ℕ → ℕ → List ℕ
numbered text n = concat (text ∷ decimal n ∷ ended [] ∷ [])

-- a line that ends with two numbers
abbrev pub numbered_twice : List ℕ → ℕ → ℕ → List ℕ
numbered_twice text a b = concat (text ∷ decimal a ∷ codes " " ∷ decimal b ∷ ended [] ∷ [])

abbrev pub reply_text : Reply → List ℕ
reply_text Applied = ended (codes "applied")
reply_text (Complete session) = numbered (codes "complete ") session

abbrev pub refusal_text : StepRefusal → List ℕ
refusal_text StrangeNode = ended (codes "refused StrangeNode")
refusal_text StrangeNeighbour = ended (codes "refused StrangeNeighbour")
refusal_text NoSuchCase = ended (codes "refused NoSuchCase")
refusal_text WantsNeighbour = ended (codes "refused WantsNeighbour")
refusal_text TakesNoNeighbour = ended (codes "refused TakesNoNeighbour")
refusal_text (Disagrees n) = numbered (codes "refused Disagrees ") n
refusal_text NotEnabled = ended (codes "refused NotEnabled")
refusal_text NoMemory = ended (codes "refused NoMemory")

abbrev pub fault_refusal_text : FaultRefusal → List ℕ
fault_refusal_text refused.StrangeNode = ended (codes "refused StrangeNode")
fault_refusal_text BadValue = ended (codes "refused BadValue")
fault_refusal_text BadLocal = ended (codes "refused BadLocal")
fault_refusal_text refused.NoSuchLink = ended (codes "refused NoSuchLink")
fault_refusal_text refused.LinkIsThere = ended (codes "refused LinkIsThere")
fault_refusal_text refused.NodeIsUp = ended (codes "refused NodeIsUp")
fault_refusal_text refused.NoMemory = ended (codes "refused NoMemory")

-- the line of a move: an event, as the command that makes it happen
abbrev pub move_line : Event → List ℕ
move_line e = codes "move " ++ ended (event_line e)

-- the lines of moves
abbrev pub moves_text : List Event → List ℕ
moves_text moves = flat_map move_line moves

-- the line of a link
abbrev pub link_line : ℕ × ℕ → List ℕ
link_line link = concat (codes "link " ∷ decimal link.0 ∷ codes " " ∷ decimal link.1 ∷ ended [] ∷ [])

-- the links of a graph, the lesser end first, in ascending order
abbrev pub links_of : Graph → List (ℕ × ℕ)
links_of g = flat_map (λ i. map (λ j. (i, j)) (filter (nat_lt i) (neighbours_of g i))) g.nodes

-- the lines of links, or that there is none
abbrev pub links_text : List (ℕ × ℕ) → List ℕ
links_text [] = ended (codes "link -")
links_text (link ∷ links) = flat_map link_line (link ∷ links)

-- the line of a fault that was drawn
abbrev pub drawn_text : Fault → List ℕ
drawn_text f = codes "drawn " ++ ended (fault.fault_line f)

-- what stands before the local state in the line that shows a node
abbrev pub node_head : ℕ → TreeRegs → WaveRegs → List ℕ
node_head id tree wave =
    concat (codes "node " ∷ decimal id ∷ codes " tree " ∷ decimal tree.root ∷ codes " " ∷ decimal tree.father
    ∷ codes " " ∷ decimal tree.dist
    ∷ codes " wave " ∷ phase_name wave.phase ∷ codes " " ∷ decimal wave.session ∷ codes " local " ∷ [])

-- what stands before it in the line of the newest session
abbrev pub newest_head : ℕ → List ℕ
newest_head id = concat (codes "newest " ∷ decimal id ∷ codes " " ∷ [])

-- the line that names the enabled rows of a node, by table
abbrev pub enabled_text : ℕ → Enabled → List ℕ
enabled_text id rows =
    concat (codes "enabled " ∷ decimal id ∷ codes " tree " ∷ set_text rows.tree ∷ codes " wave " ∷ set_text rows.wave
    ∷ codes " act " ∷ set_text rows.act ∷ ended [] ∷ [])

-- a number after a space
abbrev pub spaced : ℕ → List ℕ
spaced n = codes " " ++ decimal n

-- the line that names nodes, each after a space, or has a dash where there is none
abbrev pub ready_text : List ℕ → List ℕ
ready_text [] = ended (codes "ready -")
ready_text (id ∷ ids) = ended (codes "ready" ++ flat_map spaced (id ∷ ids))

-- what a fault says: at which end of which link, and the row
abbrev pub fault_words : LinkFault → List ℕ
fault_words fault =
    concat (codes "link " ∷ decimal fault.at ∷ codes " " ∷ decimal fault.other ∷ codes " " ∷ family_name fault.family
    ∷ codes " " ∷ decimal fault.row ∷ [])

-- what stands behind it for a repair
abbrev pub repair_text : Option Event → List ℕ
repair_text None = []
repair_text (Some event) = codes " -> " ++ event_line event

-- the line of a fault, which has the repair where repairs are asked for
abbrev pub fault_line : Bool → LinkFault → List ℕ
fault_line repairs fault = fault_words fault ++ (repair_text (if repairs then repair_of fault else None) ++ ended [])

-- the lines of faults, and their number
abbrev pub faults_text : Bool → List LinkFault → List ℕ
faults_text repairs told = flat_map (fault_line repairs) told ++ numbered (codes "faults ") (length told)

-- the line of an alarm, or that there is none
abbrev pub alarm_text : Option LinkFault → List ℕ
alarm_text None = ended (codes "quiet")
alarm_text (Some fault) =
    concat (codes "alarm " ∷ decimal fault.at ∷ codes " " ∷ decimal fault.other ∷ codes " " ∷ decimal fault.row
    ∷ ended [] ∷ [])

-- the line of a fault of the lists that a topology is built from, and that of a fault of its text
abbrev pub graph_fault_text : TopoFault → List ℕ
graph_fault_text f = codes "bad topology " ++ ended (fault_text f)

abbrev pub bad_topology_text : ReadFault → List ℕ
bad_topology_text f = codes "bad topology " ++ ended (read_fault_text f)

abbrev pub too_long_text : List ℕ
too_long_text = ended (codes "bad script TooLong")

abbrev pub bad_line_text : ℕ → List ℕ
bad_line_text n = numbered (codes "bad line ") n

-- ---- answers

-- what a configuration becomes, and what is written
abbrev pub stepped : {L : Type 0} → Configuration L → Result (Configuration L × Reply) StepRefusal
    → Configuration L × List ℕ
stepped c (Ok r) = (r.0, reply_text r.1)
stepped c (Err refusal) = (c, refusal_text refusal)

-- what a configuration becomes that has a fault or refuses it, and what is written
abbrev pub disturbed : {L : Type 0} → Configuration L → Result (Configuration L) FaultRefusal → Configuration L × List ℕ
disturbed c (Ok after) = (after, ended (codes "disturbed"))
disturbed c (Err refusal) = (c, fault_refusal_text refusal)

-- the fault that a seed draws in a network of nodes with these ids. It stays folded: unfolded, it has the generator
unfoldable pub drawn : List ℕ → ℕ → Fault
drawn ids seed = drawn_fault ids (next_words (seeded seed)).0

-- the same for a fault that is drawn, which is told first
abbrev pub disturbed_by_drawn : {L : Type 0} → Meaning L → Configuration L → Fault → Configuration L × List ℕ
disturbed_by_drawn m c f = let after = disturbed c (injected m.app m.from_text c f) in (after.0, drawn_text f ++ after.1)

-- the line of a node, as its registers and its local state stand
abbrev pub shown : {L : Type 0} → Meaning L → Configuration L → ℕ → List ℕ
shown m c i = node_head i (tree_of c i) (wave_of c i) ++ ended (m.text (local_of m.app c i))

-- the line of a node's local state in the newest session
abbrev pub newest_line : {L : Type 0} → Meaning L → Configuration L → ℕ → List ℕ
newest_line m c i =
    newest_head i ++ ended (if has_joined c.graph (wave_of c) i then m.text (local_of m.app c i) else codes "unjoined")

-- the line that names the enabled rows of a node. It stays folded: unfolded, it has all the tables
unfoldable pub enabled_line : {L : Type 0} → Meaning L → Configuration L → ℕ → List ℕ
enabled_line m c i = enabled_text i (enabled_rows m.app c i)

-- the line that names the nodes that have something to do
unfoldable pub ready_line : {L : Type 0} → Meaning L → Configuration L → List ℕ
ready_line m c = ready_text (ready_of m.app c)

-- the lines of the moves of a node: the events that are allowed there. They stay folded: unfolded, they have all the
-- tables
unfoldable pub moves_lines : {L : Type 0} → Meaning L → Configuration L → ℕ → List ℕ
moves_lines m c i = moves_text (enabled_events m.app c i)

-- what is told of the faults of all nodes. It stays folded: unfolded, it has all the tables
unfoldable pub faults_lines : {L : Type 0} → Meaning L → Bool → Configuration L → List ℕ
faults_lines m repairs c = faults_text repairs (faults m.app c)

-- what is told of those of a node
unfoldable pub node_faults_lines : {L : Type 0} → Meaning L → Configuration L → ℕ → List ℕ
node_faults_lines m c i = faults_text false (node_faults m.app c i)

-- what is told of the application's invariant in each component. It stays folded: unfolded, it has all that is counted
unfoldable pub invariant_lines : {L : Type 0} → Meaning L → Configuration L → List ℕ
invariant_lines m c = flat_map verdict_line (verdicts_of m.counts m.app c)

-- how a check of all nodes ends
abbrev pub found_status : List LinkFault → Status
found_status [] = Good
found_status (fault ∷ more) = FaultsFound

unfoldable pub faults_status : {L : Type 0} → Meaning L → Configuration L → Status
faults_status m c = found_status (faults m.app c)

-- what is told of a node's alarm
unfoldable pub alarm_line : {L : Type 0} → Meaning L → Configuration L → ℕ → List ℕ
alarm_line m c i = alarm_text (alarm_of m.app c i)

-- after an alarm, a node that watches asks for a reset
abbrev pub after_alarm : {L : Type 0} → Meaning L → Configuration L → ℕ → Option LinkFault → Configuration L × List ℕ
after_alarm m c i None = (c, [])
after_alarm m c i (Some fault) = stepped c (outcome_of m.app c (Request i))

-- what becomes of a configuration in which a node watches, and what is told
unfoldable pub watched : {L : Type 0} → Meaning L → Configuration L → ℕ → Configuration L × List ℕ
watched m c i = let after = after_alarm m c i (alarm_of m.app c i) in (after.0, alarm_line m c i ++ after.1)

-- the text of a configuration: a first line, the lines of its nodes, and those of its links
unfoldable pub snapshot_text : {L : Type 0} → Meaning L → Configuration L → List ℕ
snapshot_text m c =
    ended (codes "reset-snapshot 1") ++ flat_map (shown m c) c.graph.nodes ++ links_text (links_of c.graph)

-- the answer where the identifier is that of a node, and a refusal elsewhere
abbrev pub at_node : {L : Type 0} → Configuration L → ℕ → List ℕ → List ℕ
at_node c i text = if is_node c.graph i then text else refusal_text StrangeNode

-- the answer to a command
abbrev pub answered : {L : Type 0} → Meaning L → Configuration L → Command → Configuration L × List ℕ
answered m c (Step e) = stepped c (outcome_of m.app c e)
answered m c (Inject f) = disturbed c (injected m.app m.from_text c f)
answered m c (Draw seed) = disturbed_by_drawn m c (drawn c.graph.ids seed)
answered m c Show = (c, flat_map (shown m c) c.graph.nodes)
answered m c (ShowNode i) = (c, at_node c i (shown m c i))
answered m c Newest = (c, flat_map (newest_line m c) c.graph.nodes)
answered m c (command.Enabled i) = (c, at_node c i (enabled_line m c i))
answered m c Ready = (c, ready_line m c)
answered m c Check = (c, faults_lines m false c)
answered m c (CheckNode i) = (c, at_node c i (node_faults_lines m c i))
answered m c (Alarm i) = (c, at_node c i (alarm_line m c i))
answered m c (Watch i) = if is_node c.graph i then watched m c i else (c, refusal_text StrangeNode)
answered m c Moves = (c, flat_map (moves_lines m c) c.graph.nodes)
answered m c (MovesOf i) = (c, at_node c i (moves_lines m c i))
answered m c Snapshot = (c, snapshot_text m c)
answered m c Invariant = (c, invariant_lines m c)

-- what lines leave: the configuration, what is written, and whether they are good
pub record Answer (L : Type 0) : Type 0 where
  pub config : Configuration L
  pub text : List ℕ
  pub status : Status

-- the answer to the n-th line
abbrev pub answer_to : {L : Type 0} → Meaning L → Configuration L → ℕ → Line → Answer L
answer_to m c n Silent = record { config = c; text = []; status = Good }
answer_to m c n (Asks command) =
    record { config = (answered m c command).0; text = (answered m c command).1; status = Good }
answer_to m c n Bad = record { config = c; text = bad_line_text n; status = BadInput }

-- the answer to the text of the n-th line
abbrev pub line_answer : {L : Type 0} → Meaning L → Configuration L → ℕ → List ℕ → Answer L
line_answer m c n line = answer_to m c n (line_of m.names line)

-- what follows where all was good, and what was where it wasn't
abbrev pub if_good : {A : Type 0} → Status → A → A → A
if_good Good next last = next
if_good _ next last = last

-- an answer before which this text was written
abbrev pub told_after : {L : Type 0} → List ℕ → Answer L → Answer L
told_after text a = record { config = a.config; text = text ++ a.text; status = a.status }

-- what answers a line, by its number and its text
abbrev pub Answering : Type 0 → Type 0
Answering L = Configuration L → ℕ → List ℕ → Answer L

-- what answers lines in turn, of which the first has the number n: the first answer that isn't good is the last
unfoldable pub answers_by : {L : Type 0} → Answering L → Configuration L → ℕ → List (List ℕ) → Answer L
answers_by f c n [] = record { config = c; text = []; status = Good }
answers_by f c n (line ∷ lines) =
    let a = f c n line in if_good a.status
    (told_after a.text (answers_by f a.config (n + 1) lines)) a

-- the answers to lines, of which the first bad one is the last
abbrev pub answers : {L : Type 0} → Meaning L → Configuration L → ℕ → List (List ℕ) → Answer L
answers m = answers_by (line_answer m)

-- what follows lines that ended so, and the status of the run: a check of what good lines left, or nothing
abbrev pub ending : {L : Type 0} → Meaning L → Purpose → Configuration L → Status → List ℕ × Status
ending m purposes.Replay c status = ([], status)
ending m (purposes.Check repairs) c status = if_good status (faults_lines m repairs c, faults_status m c) ([], status)

-- what is written for a purpose, and the status
abbrev pub output_for : {L : Type 0} → Meaning L → Purpose → Answer L → List ℕ × Status
output_for m purpose a = let last = ending m purpose a.config a.status in (a.text ++ last.0, last.1)

-- the answers to a script
abbrev pub script_output : {L : Type 0} → Meaning L → Purpose → Configuration L → List ℕ → List ℕ × Status
script_output m purpose c script =
    if nat_lt 1048576 (length script) then (too_long_text, BadInput) else output_for m purpose
    (answers m c 1 (lines_of script))

-- ---- the output of texts

-- the answers to a script from the booted configuration of a graph, with sessions modulo this number
pub data IsReplay {L : Type 0} (m : Meaning L) (purpose : Purpose) (g : Graph) (modulus : ℕ) (script : List ℕ)
    (output : List ℕ × Status) : Type 0 where
  replayed : (c : Configuration L) → IsBoot m.app g modulus c → output ≡ script_output m purpose c script
      → IsReplay m purpose g modulus script output

-- the same for the application of a name
abbrev pub IsReplayOf : AppName → Purpose → Graph → ℕ → List ℕ → List ℕ × Status → Type 0
IsReplayOf app purpose g modulus script output = ForApp (λ L m. IsReplay m purpose g modulus script output) app

-- a topology text describes a graph, and names an application and the number modulo which sessions are counted
abbrev pub Describes : List ℕ → Graph → AppName → ℕ → Type 0
Describes topology g app modulus =
    (d : Description) × (description_of topology ≡ Ok d) × IsTopologyOf d.nodes d.links g × (app ≡ d.app)
    × (modulus ≡ d.modulus)

-- what is written, and the status, where a topology is judged first: the line of its fault, or what follows a good one
pub data IsJudged (Follows : AppName → Graph → ℕ → List ℕ × Status → Type 0) (topology : List ℕ)
    (output : List ℕ × Status) : Type 0 where
  bad_topology : (f : ReadFault) → IsReadFault topology f → output ≡ (bad_topology_text f, BadInput)
      → IsJudged Follows topology output
  good_topology : (g : Graph) (app : AppName) (modulus : ℕ) → Describes topology g app modulus
      → Follows app g modulus output → IsJudged Follows topology output

-- what a run writes, and its status: the topology is judged before the script
abbrev pub IsOutput : Purpose → List ℕ → List ℕ → List ℕ × Status → Type 0
IsOutput purpose topology script = IsJudged (λ app g modulus. IsReplayOf app purpose g modulus script) topology

-- the same of a joined text that is replayed, which is judged by its length before it is cut
pub data IsJoinedOutput (joined : List ℕ) (output : List ℕ × Status) : Type 0 where
  too_long : 1048576 < length joined → output ≡ (too_long_text, BadInput) → IsJoinedOutput joined output
  cut : (topology script : List ℕ) → length joined ≤ 1048576 → IsCut joined topology script
      → IsOutput purposes.Replay topology script output
      → IsJoinedOutput joined output

-- ---- what a run leaves

-- a prefix of an output was written
abbrev pub HasPrefix : (List ℕ × Status → Type 0) → Option (List ℕ) → Option (List ℕ) → Type 0
HasPrefix O old new = (output : List ℕ × Status) × O output × AppendsPrefix old new output.0

-- the run wrote an output and answers its status, or it was cut short
abbrev pub Leaves : (List ℕ × Status → Type 0) → Option (List ℕ) → Option (List ℕ) → Result Status RunStop → Type 0
Leaves O old new (Ok status) = (written : List ℕ) × O (written, status) × Appends old new written
Leaves O old new (Err ReadFailed) = Keeps old new
Leaves O old new (Err WriteFailed) = HasPrefix O old new
Leaves O old new (Err stop.NoMemory) = Keeps old new ⊎ HasPrefix O old new
Leaves O old new (Err stop.ThreadFailed) = ⊥
Leaves O old new (Err stop.NotClosed) = ⊥
