-- What playing a history leaves.
use Rattle.std.proofs.Common.{◌≡◌, ◌≤◌, ℕ, List, length, refl}
use Rattle.std.proofs.lemmas.Bool.{le-ltb}
use Rattle.reset_model.specs.Configuration.{Configuration}
use Rattle.applications.specs.Meaning.{Meaning}
use Rattle.history.specs.declared.entry.Entry.{Entry}
use Rattle.history_page.specs.Page.{data_text, page_text}
use Rattle.history_page.specs.declared.frame.TheConstants.{HEAD}
use Rattle.history_page.specs.declared.moments.TheConstants.{MOMENTS}
use Rattle.history_page.specs.declared.views.TheConstants.{VIEWS}
use Rattle.reset_service.specs.Page.{Frame, page_output}
use Rattle.script_replay.specs.declared.status.Status.TheVariants.{Good}

-- what stands around the data on all pages
abbrev pub page_frame : Frame
page_frame = page_text HEAD.now MOMENTS.now VIEWS.now

-- entries that aren't too many are played
pub page_few : {L : Type 0} (around : Frame) (title name : List ℕ) (m : Meaning L) (c : Configuration L)
    (es : List Entry)
    → length es ≤ 100000
    → page_output around title name m c es ≡ (around (data_text m.app m.text m.from_text title name c es), Good)
page_few around title name m c es few = rw (le-ltb 100000 (length es) few) refl
