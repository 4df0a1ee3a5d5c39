use Rattle.std.proofs.Common.{List, arith, length, subst, sym, ℕ, ◌-◌, ◌∙◌}
use Rattle.std.specs.Io.KnownBytes.{Appends}
use Rattle.action_tables.specs.Written.{AppendsPrefix}
use Rattle.action_tables.proofs.Prefixes.{OnErr-always}
use Rattle.history.proofs.Replays.{allowed_between, replayed_between}
use Rattle.space_time_diagram.specs.Completions.{completion}
use Rattle.space_time_diagram.specs.Lanes.{lane_of}
use Rattle.space_time_diagram.proofs.ToldNodes.{told_there}
use Rattle.space_time_diagram.proofs.completion.put_next.Goals as goal

pub play_all-requires-after_bounds : goal.play_all-requires-after_bounds
play_all-requires-after_bounds g c κs within =
    allowed_between g.P.Application.app g.P.Application.from_text c.args.opening.now c.args.config.now
    c.args.entries.now c.args.played (c.args.report.finished - c.args.played) c.requires.run c.requires.here

pub returns-in_err-put_completion-clause-err : goal.returns-in_err-put_completion-clause-err
returns-in_err-put_completion-clause-err g c =
    let opening = c.args.opening.now in
    OnErr-always _ _
    (subst (λ (nodes : List ℕ). AppendsPrefix (g.W.Write.contents c.args.out.now)
    (g.W.Write.contents c.put_completion.new.out)
    (completion (lane_of c.args.nodes.now opening) (length c.args.nodes.now) c.args.before nodes c.args.report))
    (sym (told_there g.P.Application.app g.P.Application.from_text c.args.nodes.now opening c.args.config.now
    c.play_all.new.config c.args.entries.now c.args.played c.args.report.finished c.index-entries-report.result _ _ c.requires.later
    c.requires.within c.index-entries-report.is c.requires.here c.in_ok-play_all.ensures c.topology.ensures
    c.entry_node-node.ensures))
    c.in_err-put_completion.ensures.err)

pub returns-clause-played : goal.returns-clause-played
returns-clause-played g c =
    replayed_between g.P.Application.app g.P.Application.from_text c.args.opening.now c.args.config.now
    c.args.entries.now c.args.played (c.args.report.finished - c.args.played) c.args.report.finished c.requires.here
    (omega (arith, c.requires.later)) ∙ c.in_ok-play_all.ensures

pub returns-clause-ok : goal.returns-clause-ok
returns-clause-ok g c =
    let opening = c.args.opening.now in
    subst (λ (nodes : List ℕ). Appends (g.W.Write.contents c.args.out.now)
    (g.W.Write.contents c.put_completion.new.out)
    (completion (lane_of c.args.nodes.now opening) (length c.args.nodes.now) c.args.before nodes c.args.report))
    (sym (told_there g.P.Application.app g.P.Application.from_text c.args.nodes.now opening c.args.config.now
    c.play_all.new.config c.args.entries.now c.args.played c.args.report.finished c.index-entries-report.result _ _ c.requires.later
    c.requires.within c.index-entries-report.is c.requires.here c.in_ok-play_all.ensures c.topology.ensures
    c.entry_node-node.ensures))
    c.in_ok-put_completion.ensures.ok
