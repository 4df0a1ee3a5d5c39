-- What a run of node threads comes to.
use Rattle.std.specs.Prelude.{◌≡◌, ◌≢◌, ◌<◌, ◌≤◌, ℕ, List, length, map, Option, IfSome, MatchOption}
use Rattle.app_interface.specs.Application.{App}
use Rattle.topology.specs.Graph.{IsNode}
use Rattle.history.specs.Book.{BookView}
use Rattle.node_threads.specs.Closed.{HasCloseFault, IsClosed, NodeList}
use Rattle.node_threads.specs.Locked.{IsContinued}
use Rattle.node_threads.specs.declared.closing.CloseFault.{CloseFault}
use Rattle.node_threads.specs.declared.closing.CloseFault.TheVariants.{SeatMissing}
use Rattle.node_threads.specs.declared.run.RunCause.{RunCause}
use Rattle.node_threads.specs.declared.run.RunCause.TheVariants.{StrangeNode, TooManyForThreads, Close}

-- the selected node, if there is one, is a node of the book
abbrev pub IsThere : {L : Type 0} → BookView L → Option ℕ → Type 0
IsThere first selected = IfSome selected (λ i. IsNode first.config.graph i)

-- there is one, which isn't a node of the book
abbrev pub IsStrange : {L : Type 0} → BookView L → Option ℕ → Type 0
IsStrange first selected = MatchOption selected ⊥ (λ i. IsNode first.config.graph i → ⊥)

-- the book and the lists of a run of the first book that ended well, where this node, if any, is selected: they close a
-- sharing of it, in the order of its nodes, which are at most 64 and have the selected one among them
pub record IsOutcome {L : Type 0} (app : App L) (from_text : List ℕ → Option L) (first : BookView L)
    (selected : Option ℕ) (b : BookView L) (lists : List NodeList) : Type 0 where
  pub closed : IsClosed app from_text first b lists
  pub order : map (λ l. l.0) lists ≡ first.config.graph.nodes
  pub few : length first.config.graph.nodes ≤ 64
  pub there : IsThere first selected

-- why a run of the first book gives no outcome, and the book that comes back: a continuation of it, and itself for the
-- first two causes, of which a strange node comes first. No seat is ever missing
pub record IsStopped {L : Type 0} (app : App L) (from_text : List ℕ → Option L) (first : BookView L)
    (selected : Option ℕ) (cause : RunCause) (b : BookView L) : Type 0 where
  pub strange : cause ≡ StrangeNode → IsStrange first selected
  pub there : cause ≢ StrangeNode → IsThere first selected
  pub many : cause ≡ TooManyForThreads → 64 < length first.config.graph.nodes
  pub first_cause : (IsStrange first selected → cause ≡ StrangeNode)
      × (IsThere first selected → 64 < length first.config.graph.nodes → cause ≡ TooManyForThreads)
  pub close : (f : CloseFault) → cause ≡ Close f → HasCloseFault app from_text first b f
  pub seats : (i : ℕ) → cause ≢ Close (SeatMissing i)
  pub back : (cause ≡ StrangeNode → b ≡ first) × (cause ≡ TooManyForThreads → b ≡ first)
  pub stands : IsContinued app from_text first b
