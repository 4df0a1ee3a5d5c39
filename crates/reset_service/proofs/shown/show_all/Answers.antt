use Rattle.std.proofs.Common.{◌≡◌, ◌≢◌, ◌<◌, ◌+◌, ℕ, Bool, true, false, List, [], length, Some, ap, refl, subst, sym, ◌∙◌}
use Rattle.applications.specs.Meaning.{meaning_of}
use Rattle.script_replay.specs.Lines.{lines_of}
use Rattle.script_replay.specs.Recorded.{entries_of_lines}
use Rattle.script_replay.specs.declared.status.Status.{Status}
use Rattle.script_replay.specs.declared.status.Status.TheVariants.{BadInput}
use Rattle.script_replay.proofs.LeftRecords.{record_alone, record_weaker}
use Rattle.schedules.specs.declared.schedules.Runs.{Runs}
use Rattle.schedules.specs.declared.schedules.Runs.TheVariants.{Ending, Endless}
use Rattle.reset_service.specs.Explorations.{status_by, status_of, too_many_text}
use Rattle.reset_service.specs.Shown.{IsFoundBy, IsHistoryOf, long_history_text, shown_events, shown_text}
use Rattle.reset_service.specs.Shown.IsFoundBy.{explored, too_many}
use Rattle.reset_service.specs.Shown.IsKeptWith.{kept as is_kept, long}
use Rattle.reset_service.proofs.shown.show_all.Goals as goal

-- what was found isn't bad input
good_input : (whole : Bool) (runs : Runs) → status_by whole runs ≢ BadInput
good_input true (Ending longest count) is = absurd (cc)
good_input false (Ending longest count) is = absurd (cc)
good_input whole Endless is = absurd (cc)

pub returns-in-Err-TooMany : goal.returns-in-Err-TooMany
returns-in-Err-TooMany g c =
    let m =
    meaning_of g.P.Application.app g.P.Application.text g.P.Application.from_text g.P.Application.names
    g.P.Invariant.counts in
    let entries = entries_of_lines m c.args.opening.now 1 (lines_of c.args.script.now) in
    record_alone
    (λ h o. IsFoundBy m c.args.run c.args.opening.now.modulus entries c.args.left.now h o × (o.1 ≡ BadInput → h ≡ []))
    (λ o. o ≡ (too_many_text c.args.run.most, BadInput))
    (λ o is. (too_many (c.in-Err-TooMany.ensures.too_many c.in-Err-TooMany.field-0-is) refl is, λ _. refl))
    (g.H.Write.contents c.args.history.now) _ _ c.answer_too_many.result c.answer_too_many.ensures.stop
    c.answer_too_many.ensures.leaves

pub returns-in-Ok-None : goal.returns-in-Ok-None
returns-in-Ok-None g c =
    let m =
    meaning_of g.P.Application.app g.P.Application.text g.P.Application.from_text g.P.Application.names
    g.P.Invariant.counts in
    let modulus = c.args.opening.now.modulus in
    let entries = entries_of_lines m c.args.opening.now 1 (lines_of c.args.script.now) in
    let found = c.in-Ok.answer.0 in
    let witness = c.in-Ok.answer.1 in
    let many : 1000000 < length entries + length (shown_events witness) =
    subst (λ es. 1000000 < length entries + length es) c.events_of.ensures
    (subst (IsHistoryOf modulus entries c.events_of.result.now) c.in-Ok-None.field-0-is c.in-Ok-None.ensures) in
    record_alone
    (λ h o. IsFoundBy m c.args.run modulus entries c.args.left.now h o × (o.1 ≡ BadInput → h ≡ []))
    (λ o. o ≡ (long_history_text, BadInput))
    (λ o is. (
      explored found witness c.requires.all c.in-Ok.ensures.exact c.in-Ok.ensures.few c.in-Ok.ensures.shown (long many refl is),
      λ _. refl,
    ))
    (g.H.Write.contents c.args.history.now) _ _ c.answer_long_history.result c.answer_long_history.ensures.stop
    c.answer_long_history.ensures.leaves

pub returns-in-Ok-Some : goal.returns-in-Ok-Some
returns-in-Ok-Some g c =
    let m =
    meaning_of g.P.Application.app g.P.Application.text g.P.Application.from_text g.P.Application.names
    g.P.Invariant.counts in
    let modulus = c.args.opening.now.modulus in
    let entries = entries_of_lines m c.args.opening.now 1 (lines_of c.args.script.now) in
    let found = c.in-Ok.answer.0 in
    let witness = c.in-Ok.answer.1 in
    let kept = c.in-Ok-Some.shown in
    let is : IsHistoryOf modulus entries (shown_events witness) (Some kept) =
    subst (λ es. IsHistoryOf modulus entries es (Some kept)) c.events_of.ensures
    (subst (IsHistoryOf modulus entries c.events_of.result.now) c.in-Ok-Some.field-0-is c.in-Ok-Some.ensures) in
    record_weaker
    (λ h o. (h ≡ kept.text.items) × (o ≡ (shown_text kept.before found witness, status_of found)))
    (λ h o. IsFoundBy m c.args.run modulus entries c.args.left.now h o × (o.1 ≡ BadInput → h ≡ [])) _ _ _ _ c.put_found.result
    (λ h o left. (
      explored found witness c.requires.all c.in-Ok.ensures.exact c.in-Ok.ensures.few c.in-Ok.ensures.shown
          (is_kept is.0 (left.0 ∙ is.1) (left.1 ∙ ap (λ n. (shown_text n found witness, status_of found)) is.2)),
      λ bad. absurd (good_input _ found.runs (sym (ap (λ (p : List ℕ × Status). p.1) left.1) ∙ bad)),
    ))
    c.put_found.ensures
