use Rattle.std.proofs.Common.{refl}
use Rattle.action_tables.proofs.Prefixes.{AppendsPrefix-first, OnErr-always, OnErr-then}
use Rattle.reset_service.specs.Explorations.{counts_text, runs_text, schedules_text}
use Rattle.reset_service.proofs.explored.put_schedules.Goals as goal

pub returns-in_err-put_found_counts-clause-err : goal.returns-in_err-put_found_counts-clause-err
returns-in_err-put_found_counts-clause-err g c =
    OnErr-always _ _
    (AppendsPrefix-first _ _ (counts_text c.args.found) (runs_text c.args.found.runs) c.in_err-put_found_counts.ensures.err)

pub returns-clause-err : goal.returns-clause-err
returns-clause-err g c =
    OnErr-then c.put_runs.result (g.W.Write.contents c.args.out.now) (g.W.Write.contents c.put_found_counts.new.out)
    (g.W.Write.contents c.put_runs.new.out)
    (counts_text c.args.found) (runs_text c.args.found.runs) (schedules_text c.args.found) refl
    c.in_ok-put_found_counts.ensures.ok c.put_runs.ensures.err
