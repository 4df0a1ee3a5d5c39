use Rattle.std.proofs.Common.{◌∙◌}
use Rattle.applications.specs.Meaning.{meaning_of}
use Rattle.script_replay.proofs.Noting.{history_kept}
use Rattle.script_replay.proofs.recording.history_in.Goals as goal

pub returns : goal.returns
returns g c =
    let m =
    meaning_of g.P.Application.app g.P.Application.text g.P.Application.from_text g.P.Application.names
    g.P.Invariant.counts in
    history_kept m c.args.book.now.config c.args.script.now c.record_lines.new.book (λ text. text.items)
    c.text_of.result c.requires.short c.lemma_is_book.ensures
    (c.in_ok-record_lines.ensures.opening ∙ c.requires.opening) c.in_ok-record_lines.ensures.entries
    c.text_of.ensures.text c.text_of.ensures.read
