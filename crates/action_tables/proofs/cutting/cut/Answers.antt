use Rattle.std.proofs.Common.{sym, ◌∙◌}
use Rattle.std.proofs.lemmas.List.{take_rest}
use Rattle.action_tables.proofs.CutTexts.{unplaced, placed_prefix, placed_whole}
use Rattle.action_tables.proofs.cutting.cut.Goals as goal

pub returns-in_err-index-clause-none : goal.returns-in_err-index-clause-none
returns-in_err-index-clause-none c =
    rw c.from_residual.ensures (unplaced c.args.byte c.args.text.now (sym c.in_err-index.was ∙ c.index_of.ensures))

pub returns-clause-found : goal.returns-clause-found
returns-clause-found c =
    rw take_rest
    (placed_whole c.args.byte c.args.text.now c.in_ok-index.index (sym c.in_ok-index.was ∙ c.index_of.ensures))

pub returns-clause-first : goal.returns-clause-first
returns-clause-first c =
    placed_prefix c.args.byte c.args.text.now c.in_ok-index.index (sym c.in_ok-index.was ∙ c.index_of.ensures)
