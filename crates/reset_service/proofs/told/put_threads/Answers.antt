use Rattle.std.proofs.Common.{codes, ◌∷◌, [], refl}
use Rattle.std.specs.Fmt.{decimal}
use Rattle.std.specs.List.{concat}
use Rattle.action_tables.proofs.Prefixes.{AppendsPrefix-first, OnErr-always, OnErr-then}
use Rattle.reset_service.specs.Counts.{counts_line}
use Rattle.reset_service.specs.Threaded.{threads_line}
use Rattle.reset_service.proofs.told.put_threads.Goals as goal

pub returns-in_err-put_parts-clause-err : goal.returns-in_err-put_parts-clause-err
returns-in_err-put_parts-clause-err g c =
    OnErr-always _ _
    (AppendsPrefix-first _ _ (concat (codes "threads " ∷ decimal c.args.nodes ∷ []))
    (counts_line (codes " nodes ") c.args.entries c.args.reports) c.in_err-put_parts.ensures.err)

pub returns-clause-err : goal.returns-clause-err
returns-clause-err g c =
    OnErr-then c.put_counts.result (g.W.Write.contents c.args.out.now) (g.W.Write.contents c.put_parts.new.out)
    (g.W.Write.contents c.put_counts.new.out)
    (concat (codes "threads " ∷ decimal c.args.nodes ∷ [])) (counts_line (codes " nodes ") c.args.entries c.args.reports)
    (threads_line c.args.nodes c.args.entries c.args.reports) refl
    c.in_ok-put_parts.ensures.ok c.put_counts.ensures.err
