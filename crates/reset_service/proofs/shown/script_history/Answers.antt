use Rattle.std.proofs.Common.{◌≡◌, ◌++◌, ap, subst, sym, ◌∙◌}
use Rattle.applications.specs.Meaning.{meaning_of}
use Rattle.script_replay.specs.Recorded.{IsHistory}
use Rattle.reset_service.proofs.shown.script_history.Goals as goal

pub returns-in-Ok : goal.returns-in-Ok
returns-in-Ok g c =
    let m =
    meaning_of g.P.Application.app g.P.Application.text g.P.Application.from_text g.P.Application.names
    g.P.Invariant.counts in
    let left = c.in-Ok.ensures in
    let text : c.record_script.new.history.items ≡ left.0 = left.3 ∙ ap (λ xs. xs ++ left.0) c.new-text.ensures.items in
    subst (IsHistory m c.args.opening.now c.args.script.now) (sym text)
    (subst (λ d. IsHistory m d c.args.script.now left.0) c.in_ok-left.ensures left.2.history_is)
