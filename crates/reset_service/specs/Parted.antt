-- What drawing a part of a history writes.
use Rattle.std.specs.Prelude.{◌≡◌, ◌≢◌, ◌<◌, ◌≤◌, ◌-◌, ℕ, All, Contains, List, length, codes, take, drop, IfSome}
use Rattle.std.specs.Prelude.{IsSome, Ok, Option, Some, None}
use Rattle.topology.specs.Faults.{IsFirst}
use Rattle.topology.specs.Graph.{Graph}
use Rattle.reset_model.specs.Configuration.{Configuration}
use Rattle.applications.specs.Meaning.{Meaning}
use Rattle.history.specs.Entries.{replayed}
use Rattle.history.specs.HistoryText.{IsReadAs, ended}
use Rattle.history.specs.declared.entry.Entry.{Entry}
use Rattle.script_replay.specs.Output.{numbered}
use Rattle.script_replay.specs.declared.status.Status.{Status}
use Rattle.script_replay.specs.declared.status.Status.TheVariants.{BadInput, Good}
use Rattle.reset_service.specs.Asked.{ends_after_text}
use Rattle.reset_service.specs.Chosen.{IsNamed, NamesNodes, NamesNothing, NamesRows, lanes_of}
use Rattle.reset_service.specs.Pictured.{drawing_of, too_many_lanes_text}
use Rattle.reset_service.specs.Started.{FollowUp}
use Rattle.reset_service.specs.Verified.{IsVerified}

-- ---- lines

-- the line of a text that names no rows
abbrev pub bad_rows_text : List ℕ
bad_rows_text = ended (codes "bad rows BadRange")

-- the line of a text that names no identifiers
abbrev pub bad_nodes_text : List ℕ
bad_nodes_text = ended (codes "bad nodes BadId")

-- the line of an identifier that is named, and that the topology doesn't have
abbrev pub strange_text : ℕ → List ℕ
strange_text id = numbered (codes "bad nodes StrangeNode ") id

-- the line of more nodes than a picture has lanes for, where these are named, or none are
abbrev pub too_many_text : Option (List ℕ) → List ℕ
too_many_text None = too_many_lanes_text
too_many_text (Some ids) = ended (codes "bad nodes TooManyForPicture")

-- ---- what is drawn

-- what entries that are a run from c are drawn as, and the status: all of them, or those from the first row to the
-- last, from the configuration that those before them leave. A last row behind the last entry stands for that one
pub data IsRunDrawn {L : Type 0} (m : Meaning L) (rows : Option (ℕ × ℕ)) (nodes : List ℕ) (c : Configuration L)
    (es : List Entry) (output : List ℕ × Status) : Type 0 where
  whole : rows ≡ None → output ≡ drawing_of m nodes 0 c es → IsRunDrawn m rows nodes c es output
  too_few : (first last : ℕ) → rows ≡ Some (first, last) → length es < first
      → output ≡ (ends_after_text (length es), BadInput) → IsRunDrawn m rows nodes c es output
  part : (first last : ℕ) (left : Configuration L) → rows ≡ Some (first, last) → first ≤ length es
      → replayed m.app m.from_text c (take (first - 1) es) ≡ Some left
      → output ≡ drawing_of m nodes (first - 1) left (drop (first - 1) (take last es))
      → IsRunDrawn m rows nodes c es output

-- what the text of a history that opens so is drawn as with lanes for these nodes, and the status: one that a
-- verification doesn't take is answered as there
pub data IsHistoryDrawn {L : Type 0} (m : Meaning L) (rows : Option (ℕ × ℕ)) (nodes : List ℕ) (c : Configuration L)
    (history : List ℕ) (output : List ℕ × Status) : Type 0 where
  unverified : IsVerified m c history output → output.1 ≢ Good → IsHistoryDrawn m rows nodes c history output
  verified : (es : List Entry) → IsReadAs history (Ok (c.modulus, es)) → IsSome (replayed m.app m.from_text c es)
      → IsRunDrawn m rows nodes c es output → IsHistoryDrawn m rows nodes c history output

-- each identifier that is named is one of the topology
abbrev pub AreThere : Graph → Option (List ℕ) → Type 0
AreThere g ids = IfSome ids (λ named. All (λ i. Contains g.ids i) named)

-- the same where these identifiers are named, or none are: before the history it is judged whether each is there, and
-- then how many lanes there would be
pub data IsSelectionDrawn {L : Type 0} (m : Meaning L) (rows : Option (ℕ × ℕ)) (ids : Option (List ℕ))
    (c : Configuration L) (history : List ℕ) (output : List ℕ × Status) : Type 0 where
  strange_node : (named : List ℕ) (id : ℕ) → ids ≡ Some named → IsFirst (λ i. Contains c.graph.ids i → ⊥) named id
      → output ≡ (strange_text id, BadInput) → IsSelectionDrawn m rows ids c history output
  too_many_nodes : AreThere c.graph ids → 64 < length (lanes_of c.graph ids) → output ≡ (too_many_text ids, BadInput)
      → IsSelectionDrawn m rows ids c history output
  drawn : AreThere c.graph ids → length (lanes_of c.graph ids) ≤ 64
      → IsHistoryDrawn m rows (lanes_of c.graph ids) c history output → IsSelectionDrawn m rows ids c history output

-- the same where texts name the rows and the nodes, or none do: the text of the rows is judged first, then that of the
-- nodes, and then what they name
pub data IsPartDrawn {L : Type 0} (m : Meaning L) (rows nodes : Option (List ℕ)) (c : Configuration L)
    (history : List ℕ) (output : List ℕ × Status) : Type 0 where
  bad_rows : NamesNothing NamesRows rows → output ≡ (bad_rows_text, BadInput)
      → IsPartDrawn m rows nodes c history output
  bad_nodes : (r : Option (ℕ × ℕ)) → IsNamed NamesRows rows r → NamesNothing NamesNodes nodes
      → output ≡ (bad_nodes_text, BadInput) → IsPartDrawn m rows nodes c history output
  named : (r : Option (ℕ × ℕ)) (ids : Option (List ℕ)) → IsNamed NamesRows rows r → IsNamed NamesNodes nodes ids
      → IsSelectionDrawn m r ids c history output → IsPartDrawn m rows nodes c history output

-- what may follow a topology and a snapshot
abbrev pub DrawsPart : (rows nodes : Option (List ℕ)) → List ℕ → FollowUp
DrawsPart rows nodes history L m c output = IsPartDrawn m rows nodes c history output
