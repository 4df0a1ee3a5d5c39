use Rattle.std.specs.Prelude.{slice_index}
use Rattle.std.proofs.Common.{ℕ, List, ap, sym, subst, ◌∙◌, arith, get_or}
use Rattle.std.specs.List.{flat_map}
use Rattle.std.specs.Io.KnownBytes.{Appends}
use Rattle.std.proofs.lemmas.List.{take_all}
use Rattle.action_tables.specs.Written.{AppendsPrefix}
use Rattle.action_tables.proofs.Pieces.{AppendsPrefix-piece}
use Rattle.action_tables.proofs.Prefixes.{OnErr-always}
use Rattle.script_replay.specs.Parts.{line_from}
use Rattle.script_replay.proofs.LinkTexts.{lines_from}
use Rattle.script_replay.proofs.snapshot.put_links_from.Goals as goal

pub returns-in_err-put_link-clause-err : goal.returns-in_err-put_link-clause-err
returns-in_err-put_link-clause-err g c =
    let graph = c.args.topology.now in
    let at = c.args.at in
    let near = c.neighbours_at-near-items.result.now in
    let k = c.loop-near.near-index in
    let before = g.W.Write.contents c.args.out.now in
    let here = g.W.Write.contents c.loop-near.out in
    let after = g.W.Write.contents c.put_link.new.out in
    let line : ℕ → List ℕ = λ n. line_from at (slice_index graph.ids n) in
    let Prefix : List ℕ → Type 0 =
    λ ids. AppendsPrefix here after (line_from at (slice_index ids (get_or near k 0))) in
    let Whole : List ℕ → Type 0 = λ t. AppendsPrefix before after t in
    OnErr-always _ _
    (subst Whole (sym (lines_from graph at near c.neighbours_at-near-items.ensures.ids))
    (AppendsPrefix-piece before here after line near k 0 c.loop-near-test.true c.loop-near.invariant
    (subst Prefix c.ids-ids.ensures c.in_err-put_link.ensures.err)))

pub returns-clause-ok : goal.returns-clause-ok
returns-clause-ok g c =
    let graph = c.args.topology.now in
    let at = c.args.at in
    let near = c.neighbours_at-near-items.result.now in
    let line : ℕ → List ℕ = λ n. line_from at (slice_index graph.ids n) in
    let Whole : List ℕ → Type 0 =
    λ t. Appends (g.W.Write.contents c.args.out.now) (g.W.Write.contents c.loop-near.out) t in
    subst Whole
    (ap (flat_map line) (take_all c.loop-near.near-index near (omega (arith, c.loop-near-test.false)))
    ∙ sym (lines_from graph at near c.neighbours_at-near-items.ensures.ids)) c.loop-near.invariant
