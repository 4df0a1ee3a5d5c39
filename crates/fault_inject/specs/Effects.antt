-- What a fault does to a configuration, and why a configuration can't have it.
use Rattle.std.specs.Prelude.{ℕ, ◌==◌, ◌&&◌, ◌||◌, not, nat_lt, List, [], ◌∷◌, length, Option, Some, None, Result, Ok}
use Rattle.std.specs.Prelude.{Err}
use Rattle.std.specs.Option.{is_none}
use Rattle.app_interface.specs.Application.{App}
use Rattle.app_interface.specs.Ids.{is_id}
use Rattle.topology.specs.Changing.{Reason, first_of, is_full, when, with_link, with_node, without_link, without_node}
use Rattle.topology.specs.Graph.{are_linked, has, is_node}
use Rattle.reset_model.specs.Configuration.{Configuration, with_local, with_tree, with_wave}
use Rattle.reset_model.specs.Topologies.{with_topology}
use Rattle.fault_inject.specs.declared.fault.Fault.{Fault}
use Rattle.fault_inject.specs.declared.fault.Fault.TheVariants.{SetTree, SetWave, SetLocal, LinkDown, LinkUp}
use Rattle.fault_inject.specs.declared.fault.Fault.TheVariants.{NodeDown, NodeUp}
use Rattle.fault_inject.specs.declared.refusal.FaultRefusal.{FaultRefusal}
use Rattle.fault_inject.specs.declared.refusal.FaultRefusal.TheVariants.{StrangeNode, BadValue, BadLocal, NoSuchLink}
use Rattle.fault_inject.specs.declared.refusal.FaultRefusal.TheVariants.{LinkIsThere, NodeIsUp}

-- there is no node i
abbrev pub strange : {L : Type 0} → Configuration L → ℕ → Reason FaultRefusal
strange c i = when (not (is_node c.graph i)) StrangeNode

-- the refusals of a fault, in their order; from_text gives the local state with a text, where there is one
abbrev pub refusals : {L : Type 0} → (List ℕ → Option L) → Configuration L → Fault → List (Reason FaultRefusal)
refusals from_text c (SetTree at regs) = strange c at ∷ when (not (is_id regs.root && is_id regs.father)) BadValue ∷ []
refusals from_text c (SetWave at regs) = strange c at ∷ []
refusals from_text c (SetLocal at text) =
    strange c at ∷ when (nat_lt 200 (length text) || is_none (from_text text)) BadLocal ∷ []
refusals from_text c (LinkDown a b) =
    strange c a ∷ strange c b ∷ when (not (are_linked c.graph a b)) NoSuchLink ∷ []
refusals from_text c (LinkUp a b) =
    strange c a ∷ strange c b ∷ when (a == b) BadValue ∷ when (are_linked c.graph a b) LinkIsThere
    ∷ when (is_full c.graph) BadValue ∷ []
refusals from_text c (NodeDown at) = strange c at ∷ []
refusals from_text c (NodeUp at) =
    when (not (has c.graph.ids at)) StrangeNode ∷ when (is_node c.graph at) NodeIsUp ∷ []

-- the configuration with this local state of a node, if it is one
abbrev pub with_read : {L : Type 0} → Configuration L → ℕ → Option L → Configuration L
with_read c i (Some local) = with_local c i local
with_read c i None = c

-- what a fault leaves that isn't refused
abbrev pub damaged : {L : Type 0} → App L → (List ℕ → Option L) → Configuration L → Fault → Configuration L
damaged app from_text c (SetTree at regs) = with_tree c at regs
damaged app from_text c (SetWave at regs) = with_wave c at regs
damaged app from_text c (SetLocal at text) = with_read c at (from_text text)
damaged app from_text c (LinkDown a b) = with_topology app c (without_link c.graph a b)
damaged app from_text c (LinkUp a b) = with_topology app c (with_link c.graph a b)
damaged app from_text c (NodeDown at) = with_topology app c (without_node c.graph at)
damaged app from_text c (NodeUp at) = with_topology app c (with_node c.graph at)

-- a fault that asks for memory: it puts a local state, or takes a link or a node out or puts one in
abbrev pub AsksForMemory : Fault → Type 0
AsksForMemory (SetTree at regs) = ⊥
AsksForMemory (SetWave at regs) = ⊥
AsksForMemory f = Unit {0}

-- the configuration, unless there is a refusal
abbrev unless : {L : Type 0} → Option FaultRefusal → Configuration L → Result (Configuration L) FaultRefusal
unless None c = Ok c
unless (Some refusal) c = Err refusal

-- what comes of a fault: what it leaves, or the first refusal
unfoldable pub injected : {L : Type 0} → App L → (List ℕ → Option L) → Configuration L → Fault
    → Result (Configuration L) FaultRefusal
injected app from_text c f = unless (first_of (refusals from_text c f)) (damaged app from_text c f)
