use Rattle.std.proofs.Common.{◌≡◌, ℕ, ap, List, Some}
use Rattle.std.specs.Borrow.{Bor}
use Rattle.std.specs.Prelude.{option_map}
use Rattle.applications.specs.Meaning.{meaning_of}
use Rattle.script_replay.specs.declared.status.Status.TheVariants.{BadInput}
use Rattle.reset_service.specs.Chosen.{NamesRows}
use Rattle.reset_service.specs.Parted.{IsPartDrawn, bad_rows_text}
use Rattle.reset_service.specs.Parted.IsPartDrawn.{bad_rows}
use Rattle.reset_service.proofs.Parting.{names_nothing}
use Rattle.reset_service.proofs.Verifying.{read_anyway}
use Rattle.reset_service.proofs.parted.draw_part.Goals as goal

pub returns-in-None : goal.returns-in-None
returns-in-None g c =
    let m =
    meaning_of g.P.Application.app g.P.Application.text g.P.Application.from_text g.P.Application.names
    g.P.Invariant.counts in
    let rows = option_map (λ t. t.now) c.args.part.rows in
    let nodes = option_map (λ t. t.now) c.args.part.nodes in
    let given : rows ≡ Some c.in-Some.text.now = ap (option_map (λ (t : Bor (List ℕ)). t.now)) c.in-Some.is in
    let none = names_nothing NamesRows rows c.in-Some.text.now c.as_bytes.result.now given c.as_bytes.ensures.value
    c.in-None.ensures.only in
    record {
      leaves = read_anyway (g.R.Read.remaining c.args.history.now) (IsPartDrawn m rows nodes c.args.opening.now)
          (λ o. o ≡ (bad_rows_text, BadInput)) _ _ c.refuse_input.result (λ text o is. bad_rows none is)
          c.refuse_input.ensures.leaves;
    }
