use Rattle.std.proofs.Common.{◌∙◌}
use Rattle.applications.specs.Meaning.{meaning_of}
use Rattle.script_replay.specs.Lines.{lines_of}
use Rattle.live_session.specs.Course.{course, entries_of}
use Rattle.live_session.proofs.Replayed.{course_replayed, replayed_on}
use Rattle.live_session.proofs.laws.sessions_are_histories.Goals as goal

pub returns : goal.returns
returns g c opening here past room text is =
    let m =
    meaning_of g.P.Application.app g.P.Application.text g.P.Application.from_text g.P.Application.names
    g.P.Invariant.counts in
    replayed_on m.app m.from_text opening here past (entries_of (course m room here text).exchanges) is
    ∙ course_replayed m room here 1 (lines_of text)
