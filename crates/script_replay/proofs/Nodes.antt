-- Which nodes can be shown, and what is answered of the enabled rows.
use Rattle.std.specs.Prelude.{codes}
use Rattle.std.proofs.Common.{◌≡◌, ◌≢◌, ℕ, ◌<◌, Bool, true, false, ◌++◌, if◌then◌else◌, List, refl, sym, ap, ◌∙◌}
use Rattle.std.proofs.Common.{arith, length, get_or, Option, Some, None, IfSome, IfNone}
use Rattle.std.proofs.lemmas.Bool.Decides.{nat_tests}
use Rattle.std.proofs.lemmas.Grind.{get_or_default_zero}
use Rattle.topology.specs.Graph.{IsNode, is_node}
use Rattle.topology.proofs.Membership.{Contains-has, has-Contains}
use Rattle.tree_layer.specs.declared.regs.TreeRegs.{TreeRegs}
use Rattle.wave_layer.specs.declared.regs.WaveRegs.{WaveRegs}
use Rattle.reset_model.specs.declared.step.StepRefusal.{StepRefusal}
use Rattle.reset_model.specs.declared.step.StepRefusal.TheVariants.{NoMemory, StrangeNode}
use Rattle.reset_machine.specs.Enabled.{enabled_rows, ready_of}
use Rattle.reset_machine.specs.declared.enabled.Enabled.{Enabled}
use Rattle.reset_model.specs.Configuration.{Configuration, tree_of, wave_of, local_of}
use Rattle.reset_model.specs.WavePicture.{HasJoined}
use Rattle.app_interface.specs.Application.{App}
use Rattle.applications.specs.Meaning.{Meaning}
use Rattle.link_predicates.specs.Faults.{alarm_of, faults, node_faults}
use Rattle.link_predicates.specs.declared.fault.LinkFault.{LinkFault}
use Rattle.history.specs.HistoryText.{ended}
use Rattle.reset_model.specs.Refinement.{has_joined}
use Rattle.script_replay.specs.Output.{after_alarm, alarm_line, alarm_text, at_node, enabled_line, faults_status}
use Rattle.script_replay.specs.Output.{found_status, newest_head, newest_line, node_head, enabled_text, faults_lines}
use Rattle.script_replay.specs.Output.{faults_text, node_faults_lines, ready_line, ready_text, refusal_text, shown}
use Rattle.script_replay.specs.Output.{watched}

pub node_there : {L : Type 0} (c : Configuration L) (i : ℕ) → IsNode c.graph i → is_node c.graph i ≡ true
node_there c i node = has-Contains c.graph.nodes i node

pub node_of : {L : Type 0} (c : Configuration L) (i : ℕ) → is_node c.graph i ≡ true → IsNode c.graph i
node_of c i there = Contains-has c.graph.nodes i there

pub no_node_there : {L : Type 0} (c : Configuration L) (i : ℕ) → (IsNode c.graph i → ⊥) → is_node c.graph i ≡ false
no_node_there c i none = go (is_node c.graph i) refl
  where
    go : (b : Bool) → is_node c.graph i ≡ b → is_node c.graph i ≡ false
    go true there = absurd (none (node_of c i there))
    go false out = out

-- the text of a node is told at it, and a refusal elsewhere
pub told_node : {L : Type 0} (c : Configuration L) (i : ℕ) (text : List ℕ) → IsNode c.graph i → at_node c i text ≡ text
told_node c i text node = ap (λ (b : Bool). if b then text else refusal_text StrangeNode) (node_there c i node)

pub told_none : {L : Type 0} (c : Configuration L) (i : ℕ) (text : List ℕ) → (IsNode c.graph i → ⊥)
    → at_node c i text ≡ refusal_text StrangeNode
told_none c i text none = ap (λ (b : Bool). if b then text else refusal_text StrangeNode) (no_node_there c i none)

-- the refusal of a call that refuses what is no node
pub told_refused : {L : Type 0} (c : Configuration L) (i : ℕ) (text : List ℕ) (refusal : StepRefusal)
    → (refusal ≢ NoMemory → (refusal ≡ StrangeNode) × (IsNode c.graph i → ⊥)) → refusal ≢ NoMemory
    → at_node c i text ≡ refusal_text refusal
told_refused c i text refusal known memory =
    told_none c i text (known memory).1 ∙ ap refusal_text (sym (known memory).0)

-- ---- the nodes by index

-- of the i-th node its own text is told
pub told_at : {L : Type 0} (c : Configuration L) (line : ℕ → List ℕ) (i : ℕ) → i < length c.graph.nodes
    → at_node c (get_or c.graph.nodes i 0) (line (get_or c.graph.nodes i 0)) ≡ line (get_or c.graph.nodes i 0)
told_at c line i inside =
    told_node c (get_or c.graph.nodes i 0) (line (get_or c.graph.nodes i 0))
    (i, inside, get_or_default_zero c.graph.nodes i (get_or c.graph.nodes i 0) inside)

-- the line of a node, from what stands there
pub shown_node : {L : Type 0} (m : Meaning L) (c : Configuration L) (i : ℕ) (tree : TreeRegs) (wave : WaveRegs)
    (local : L) → IsNode c.graph i
    → tree ≡ tree_of c i → wave ≡ wave_of c i → local ≡ local_of m.app c i
    → at_node c i (shown m c i) ≡ node_head i tree wave ++ ended (m.text local)
shown_node m c i tree wave local node t w l =
    told_node c i (shown m c i) node
    ∙ ap (λ t. node_head i t (wave_of c i) ++ ended (m.text (local_of m.app c i))) (sym t)
    ∙ ap (λ w. node_head i tree w ++ ended (m.text (local_of m.app c i))) (sym w)
    ∙ ap (λ l. node_head i tree wave ++ ended (m.text l)) (sym l)

-- ---- enabled rows

enabled_line-is : {L : Type 0} (m : Meaning L) (c : Configuration L) (i : ℕ) (rows : Enabled)
    → rows ≡ enabled_rows m.app c i → enabled_line m c i ≡ enabled_text i rows
unfolding enabled_line
enabled_line-is m c i rows is = ap (enabled_text i) (sym is)

pub enabled_node : {L : Type 0} (m : Meaning L) (c : Configuration L) (i : ℕ) (rows : Enabled) → IsNode c.graph i
    → rows ≡ enabled_rows m.app c i → at_node c i (enabled_line m c i) ≡ enabled_text i rows
enabled_node m c i rows node is = told_node c i (enabled_line m c i) node ∙ enabled_line-is m c i rows is

pub ready_line-is : {L : Type 0} (m : Meaning L) (c : Configuration L) (ids : List ℕ) → ids ≡ ready_of m.app c
    → ready_line m c ≡ ready_text ids
unfolding ready_line
ready_line-is m c ids is = ap ready_text (sym is)

-- ---- faults

pub faults_lines-is : {L : Type 0} (m : Meaning L) (repairs : Bool) (c : Configuration L) (told : List LinkFault)
    → told ≡ faults m.app c → faults_lines m repairs c ≡ faults_text repairs told
unfolding faults_lines
faults_lines-is m repairs c told is = ap (faults_text repairs) (sym is)

node_faults_lines-is : {L : Type 0} (m : Meaning L) (c : Configuration L) (i : ℕ) (told : List LinkFault)
    → told ≡ node_faults m.app c i
    → node_faults_lines m c i ≡ faults_text false told
unfolding node_faults_lines
node_faults_lines-is m c i told is = ap (faults_text false) (sym is)

pub faults_node : {L : Type 0} (m : Meaning L) (c : Configuration L) (i : ℕ) (told : List LinkFault) → IsNode c.graph i
    → told ≡ node_faults m.app c i → at_node c i (node_faults_lines m c i) ≡ faults_text false told
faults_node m c i told node is = told_node c i (node_faults_lines m c i) node ∙ node_faults_lines-is m c i told is

pub faults_status-is : {L : Type 0} (m : Meaning L) (c : Configuration L) (told : List LinkFault)
    → told ≡ faults m.app c
    → found_status told ≡ faults_status m c
unfolding faults_status
faults_status-is m c told is = ap found_status is

-- ---- alarms

-- what is told of a node is its alarm
pub told_alarm : {L : Type 0} (app : App L) (c : Configuration L) (i : ℕ) (told : Option LinkFault) → IsNode c.graph i
    → IfSome told (λ fault. IsNode c.graph i × (alarm_of app c i ≡ Some fault))
    → IfNone told (IsNode c.graph i → alarm_of app c i ≡ None)
    → told ≡ alarm_of app c i
told_alarm app c i (Some fault) node found none = sym found.1
told_alarm app c i None node found none = sym (none node)

alarm_line-is : {L : Type 0} (m : Meaning L) (c : Configuration L) (i : ℕ) (told : Option LinkFault)
    → told ≡ alarm_of m.app c i
    → alarm_line m c i ≡ alarm_text told
unfolding alarm_line
alarm_line-is m c i told is = ap alarm_text (sym is)

pub alarm_node : {L : Type 0} (m : Meaning L) (c : Configuration L) (i : ℕ) (told : Option LinkFault)
    → is_node c.graph i ≡ true
    → IfSome told (λ fault. IsNode c.graph i × (alarm_of m.app c i ≡ Some fault))
    → IfNone told (IsNode c.graph i → alarm_of m.app c i ≡ None)
    → at_node c i (alarm_line m c i) ≡ alarm_text told
alarm_node m c i told there found none =
    let node = node_of c i there in
    told_node c i (alarm_line m c i) node ∙ alarm_line-is m c i told (told_alarm m.app c i told node found none)

-- what is told of a node that watches, and what it then does
pub watched-is : {L : Type 0} (m : Meaning L) (c : Configuration L) (i : ℕ) (told : Option LinkFault)
    → told ≡ alarm_of m.app c i
    → watched m c i ≡ ((after_alarm m c i told).0, alarm_text told ++ (after_alarm m c i told).1)
unfolding watched alarm_line
watched-is {L = L} m c i told is =
    let answer : Option LinkFault → Configuration L × List ℕ =
    λ o. ((after_alarm m c i o).0, alarm_text o ++ (after_alarm m c i o).1) in
    ap answer (sym is)

-- ---- the newest session

joined_or : {L : Type 0} (c : Configuration L) (i : ℕ) (local none : List ℕ) (b : Bool)
    → has_joined c.graph (wave_of c) i ≡ b
    → newest_head i ++ ended (if has_joined c.graph (wave_of c) i then local else none)
    ≡ newest_head i ++ ended (if b then local else none)
joined_or c i local none b is = ap (λ (b : Bool). newest_head i ++ ended (if b then local else none)) is

pub newest_joined : {L : Type 0} (m : Meaning L) (c : Configuration L) (i : ℕ) → HasJoined c.graph (wave_of c) i
    → newest_line m c i ≡ newest_head i ++ ended (m.text (local_of m.app c i))
newest_joined m c i joined =
    joined_or c i (m.text (local_of m.app c i)) (codes "unjoined") true (grind (arith, nat_tests))

pub newest_unjoined : {L : Type 0} (m : Meaning L) (c : Configuration L) (i : ℕ) → (HasJoined c.graph (wave_of c) i → ⊥)
    → newest_line m c i ≡ newest_head i ++ codes "unjoined\n"
newest_unjoined m c i out =
    joined_or c i (m.text (local_of m.app c i)) (codes "unjoined") false (grind (arith, nat_tests))
