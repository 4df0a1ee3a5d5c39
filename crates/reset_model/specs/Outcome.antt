-- What an event makes of a configuration: its reply and the configuration after it, or the first refusal.
use Rattle.std.specs.Prelude.{◌≡◌, ℕ, Bool, false, if◌then◌else◌, List, length, replicate, Option, Result, Ok, Err}
use Rattle.app_interface.specs.Application.{App}
use Rattle.topology.specs.Graph.{Graph, node_bound}
use Rattle.tree_layer.specs.BootTree.{AreBooted}
use Rattle.tree_layer.specs.declared.regs.TreeRegs.{TreeRegs}
use Rattle.wave_layer.specs.declared.regs.WaveRegs.{WaveRegs}
use Rattle.wave_layer.specs.declared.regs.Phase.TheVariants.{Normal}
use Rattle.reset_model.specs.declared.event.Event.{Event}
use Rattle.reset_model.specs.declared.event.Event.TheVariants.{Claim, Follow, Adopt, Request, Relay, Open, Join, Finish}
use Rattle.reset_model.specs.declared.event.Event.TheVariants.{Mend, Act}
use Rattle.reset_model.specs.declared.plan.Fired.{Fired}
use Rattle.reset_model.specs.declared.plan.Fired.TheVariants.{Tree, Wave}
use Rattle.reset_model.specs.declared.step.Reply.{Reply}
use Rattle.reset_model.specs.declared.step.Reply.TheVariants.{Applied, Complete}
use Rattle.reset_model.specs.declared.step.StepRefusal.{StepRefusal}
use Rattle.reset_model.specs.Actions.{acted_of}
use Rattle.reset_model.specs.Configuration.{Configuration, start_list, tree_of, wave_of, local_of, put_at, with_tree}
use Rattle.reset_model.specs.Configuration.{with_wave, with_local, with_locals}
use Rattle.reset_model.specs.Steps.{event_node}
use Rattle.reset_model.specs.LocalSteps.{event_fired}

-- the local states in which i, if it restarts, has its start state again
abbrev pub restarted : {L : Type 0} → App L → Configuration L → ℕ → Bool → List L
restarted app c i restarts = if restarts then put_at c.graph.ids c.locals i (app.start c.graph i) else c.locals

-- the configuration in which i has done this
abbrev pub after_fired : {L : Type 0} → App L → Configuration L → ℕ → Fired → Configuration L
after_fired app c i (Tree regs) = with_tree c i regs
after_fired app c i (Wave move) = with_wave (with_locals c (restarted app c i move.restarts)) i move.regs

-- the tree registers that an effect leaves of a node's own
abbrev pub tree_left : TreeRegs → Fired → TreeRegs
tree_left own (Tree regs) = regs
tree_left own (Wave move) = own

-- the wave registers that it leaves
abbrev pub wave_left : WaveRegs → Fired → WaveRegs
wave_left own (Tree regs) = own
wave_left own (Wave move) = move.regs

-- whether it restarts the local state
abbrev pub fired_restarts : Fired → Bool
fired_restarts (Tree regs) = false
fired_restarts (Wave move) = move.restarts

-- what the node replies
abbrev pub fired_reply : Fired → Reply
fired_reply (Tree regs) = Applied
fired_reply (Wave move) = if move.completes then Complete move.regs.session else Applied

abbrev pub done : {L : Type 0} → App L → Configuration L → ℕ → Result Fired StepRefusal
    → Result (Configuration L × Reply) StepRefusal
done app c i (Ok does) = Ok (after_fired app c i does, fired_reply does)
done app c i (Err refusal) = Err refusal

-- the outcome of an event of the two tables
abbrev pub row_outcome : {L : Type 0} → App L → Configuration L → Event → Result (Configuration L × Reply) StepRefusal
row_outcome app c e =
    done app c (event_node e) (event_fired c.graph (node_bound c.graph) c.modulus (tree_of c) (wave_of c) e)

abbrev pub acted : {L : Type 0} → Configuration L → ℕ → Result L StepRefusal
    → Result (Configuration L × Reply) StepRefusal
acted c i (Ok local) = Ok (with_local c i local, Applied)
acted c i (Err refusal) = Err refusal

-- the outcome of an action
abbrev pub act_outcome : {L : Type 0} → App L → Configuration L → ℕ → ℕ → Option ℕ
    → Result (Configuration L × Reply) StepRefusal
act_outcome app c i case with =
    acted c i (acted_of app c.graph (node_bound c.graph) (wave_of c) (local_of app c) i case with)

-- the configuration after the event, with the reply
abbrev pub map_outcome : {L : Type 0} → App L → Configuration L → Event → Result (Configuration L × Reply) StepRefusal
map_outcome app c (Claim i) = row_outcome app c (Claim i)
map_outcome app c (Follow i) = row_outcome app c (Follow i)
map_outcome app c (Adopt i j) = row_outcome app c (Adopt i j)
map_outcome app c (Request i) = row_outcome app c (Request i)
map_outcome app c (Relay i k) = row_outcome app c (Relay i k)
map_outcome app c (Open i) = row_outcome app c (Open i)
map_outcome app c (Join i) = row_outcome app c (Join i)
map_outcome app c (Finish i) = row_outcome app c (Finish i)
map_outcome app c (Mend i) = row_outcome app c (Mend i)
map_outcome app c (Act i case with) = act_outcome app c i case with

-- the booted configuration of a graph, with sessions modulo m: the tree of shortest ways to the leader, no reset,
-- session 0, and the start states
pub record IsBoot {L : Type 0} (app : App L) (g : Graph) (m : ℕ) (c : Configuration L) : Type 0 where
  pub graph : c.graph ≡ g
  pub modulus : c.modulus ≡ m
  pub trees : AreBooted g c.trees
  pub waves : c.waves ≡ replicate (length g.ids) (record { phase = Normal; session = 0 })
  pub locals : c.locals ≡ start_list app g
