use Rattle.std.proofs.Common.{ℕ, List, Option, length, sym, subst, ap, ◌∙◌}
use Rattle.std.specs.Prelude.{All}
use Rattle.history_page.specs.Entries.{concerned}
use Rattle.history_page.specs.Failing.{noted}
use Rattle.history_page.specs.Known.{IsKnown, StaysQuiet, kept}
use Rattle.history_page.proofs.Known.{kept_known, noted_quiet}
use Rattle.history_page.proofs.Written.{entered_ids}
use Rattle.history_page.proofs.entry.next_line.Goals as goal

pub add_changes-requires-clause-quiet : goal.add_changes-requires-clause-quiet
add_changes-requires-clause-quiet g c κs within =
    let app = g.P.Application.app in
    let from_text = g.P.Application.from_text in
    let before = c.args.config.now in
    let after = c.play.new.config in
    let entry = c.args.entry.now in
    let ids = concerned before.graph entry in
    let Nodes : List (ℕ × List ℕ) → Type 0 = All (StaysQuiet app after c.written_at.result) in
    let At : Option ℕ → Type 0 = λ o. All (StaysQuiet app after o) (noted app before ids) in
    subst Nodes (sym (c.deref.ensures.value ∙ c.in_ok-before.ensures))
    (subst At (sym c.written_at.ensures)
    (noted_quiet app from_text before after entry c.lemma_is_graph.ensures.graph c.lemma_is_graph.ensures.shaped
    c.in_ok-play.ensures ids))

pub add_changes-requires-clause-count : goal.add_changes-requires-clause-count
add_changes-requires-clause-count g c κs within =
    c.requires.known.count
    ∙ ap length
    (sym (entered_ids g.P.Application.app g.P.Application.from_text c.args.config.now c.args.entry.now c.play.new.config
    c.in_ok-play.ensures))

pub returns-clause-known : goal.returns-clause-known
returns-clause-known g c =
    let app = g.P.Application.app in
    let from_text = g.P.Application.from_text in
    let before = c.args.config.now in
    let after = c.play.new.config in
    let entry = c.args.entry.now in
    let known = c.args.known.now in
    subst (IsKnown app after)
    (sym (c.in_ok-add_changes.ensures.known
    ∙ ap (λ nodes. kept app after nodes known) (c.deref.ensures.value ∙ c.in_ok-before.ensures)))
    (kept_known app from_text before after entry c.lemma_is_graph.ensures.graph c.lemma_is_graph.ensures.shaped
    c.in_ok-play.ensures known c.lemma_is_graph-2.ensures.graph c.requires.known)
