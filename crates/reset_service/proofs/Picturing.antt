-- What drawing a history leaves.
use Rattle.std.proofs.Common.{◌≡◌, ◌≤◌, ℕ, List, length, ap, refl}
use Rattle.std.proofs.Common.{None}
use Rattle.std.proofs.lemmas.Bool.{le-ltb}
use Rattle.reset_model.specs.Configuration.{Configuration}
use Rattle.applications.specs.Meaning.{Meaning}
use Rattle.history.specs.Reports.{reports_of}
use Rattle.history.specs.declared.entry.Entry.{Entry}
use Rattle.space_time_diagram.specs.Diagram.{diagram_text}
use Rattle.script_replay.specs.declared.status.Status.{Status}
use Rattle.script_replay.specs.declared.status.Status.TheVariants.{Good}
use Rattle.reset_service.specs.Parted.{IsHistoryDrawn, IsRunDrawn, IsSelectionDrawn}
use Rattle.reset_service.specs.Parted.IsHistoryDrawn.{unverified, verified}
use Rattle.reset_service.specs.Parted.IsRunDrawn.{part, too_few, whole}
use Rattle.reset_service.specs.Parted.IsSelectionDrawn.{drawn, strange_node, too_many_nodes}
use Rattle.reset_service.specs.Pictured.{IsPicture, drawing, drawing_of}
use Rattle.reset_service.specs.Pictured.IsDrawing.{allowed as all_allowed, not_enabled as one_refused}
use Rattle.reset_service.specs.Pictured.IsPicture.{bad_history as no_history, other_modulus as other, read}
use Rattle.reset_service.specs.Pictured.IsPicture.{too_many_lanes}
use Rattle.reset_service.specs.Verified.IsVerified.{allowed, bad_history, not_enabled, other_modulus}

abbrev Output : Type 0
Output = List ℕ × Status

-- entries that aren't too many are drawn
pub drawing_few : {L : Type 0} (m : Meaning L) (nodes : List ℕ) (before : ℕ) (c : Configuration L) (es : List Entry)
    → length es ≤ 2000
    → drawing_of m nodes before c es
    ≡ (diagram_text m.app m.from_text nodes before c es (reports_of m.app m.from_text c es), Good)
drawing_few m nodes before c es few = rw (le-ltb 2000 (length es) few) refl

module _ {L : Type 0} (m : Meaning L) (c : Configuration L) (text : List ℕ) (o : Output) where
  -- what all entries of a run are drawn as
  of_run : (es : List Entry) → IsRunDrawn m None c.graph.ids c es o → o ≡ drawing m c es
  of_run es (whole none is) = is
  of_run es (too_few first last some few is) = absurd (cc)
  of_run es (part first last left some few before is) = absurd (cc)

  of_history : length c.graph.ids ≤ 64 → IsHistoryDrawn m None c.graph.ids c text o → IsPicture m c text o
  of_history few (unverified (bad_history f bad is) apart) = no_history f few bad is
  of_history few (unverified (other_modulus modulus es reads differ is) apart) = other modulus es few reads differ is
  of_history few (unverified (not_enabled es position reads first is) apart) =
      read es few reads (one_refused position first is)
  of_history few (unverified (allowed es reads all is) apart) = absurd (apart (ap (λ (p : Output). p.1) is))
  of_history few (verified es reads all run) = read es few reads (all_allowed all (of_run es run))

  -- where neither rows nor nodes are named, the picture is the whole one
  pub of_selection : IsSelectionDrawn m None None c text o → IsPicture m c text o
  of_selection (strange_node named id some first is) = absurd (cc)
  of_selection (too_many_nodes there many is) = too_many_lanes many is
  of_selection (drawn there few is) = of_history few is
