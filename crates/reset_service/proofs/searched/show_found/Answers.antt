use Rattle.std.proofs.Common.{◌≡◌, ◌≢◌, ◌+◌, ◌<◌, ℕ, List, [], length, Some, ap, refl, subst, sym, ◌∙◌}
use Rattle.applications.specs.Meaning.{meaning_of}
use Rattle.schedules.specs.declared.finding.Search.{Search}
use Rattle.schedules.specs.declared.finding.Search.TheVariants.{Reached, Unreached}
use Rattle.script_replay.specs.Lines.{lines_of}
use Rattle.script_replay.specs.Recorded.{entries_of_lines}
use Rattle.script_replay.specs.declared.status.Status.{Status}
use Rattle.script_replay.specs.declared.status.Status.TheVariants.{BadInput}
use Rattle.script_replay.proofs.LeftRecords.{record_alone, record_weaker}
use Rattle.reset_service.specs.Searched.{search_status, search_text}
use Rattle.reset_service.specs.Shown.{IsHistoryOf, IsLeftBy, long_history_text}
use Rattle.reset_service.specs.Shown.IsKeptWith.{kept as is_kept, long}
use Rattle.reset_service.proofs.searched.show_found.Goals as goal

-- what was found isn't bad input
good_input : (found : Search) → search_status found ≢ BadInput
good_input (Reached events) is = absurd (cc)
good_input (Unreached n) is = absurd (cc)

pub returns-in-Ok-Some : goal.returns-in-Ok-Some
returns-in-Ok-Some g c =
    let m =
    meaning_of g.P.Application.app g.P.Application.text g.P.Application.from_text g.P.Application.names
    g.P.Invariant.counts in
    let modulus = c.args.opening.now.modulus in
    let entries = entries_of_lines m c.args.opening.now 1 (lines_of c.args.script.now) in
    let found = c.args.found.now in
    let kept = c.in-Ok-Some.shown in
    let is : IsHistoryOf modulus entries c.in-Reached.events.items (Some kept) =
    subst (λ es. IsHistoryOf modulus entries es (Some kept)) c.deref.ensures.value
    (subst (IsHistoryOf modulus entries c.deref.result.now) c.in-Ok-Some.field-0-is c.in-Ok-Some.ensures) in
    record_weaker
    (λ h o. (h ≡ c.deref-in-Ok-Some.result.now) × (o ≡ (search_text found, search_status found)))
    (λ h o. IsLeftBy found modulus entries h o × (o.1 ≡ BadInput → h ≡ [])) _ _ _ _ c.put_search.result
    (λ h o left. (
      subst (λ f. IsLeftBy f modulus entries h o) (sym c.in-Reached.is)
          (is_kept is.0 (left.0 ∙ c.deref-in-Ok-Some.ensures.value ∙ is.1)
          (left.1 ∙ ap (λ f. (search_text f, search_status f)) c.in-Reached.is)),
      λ bad. absurd (good_input found (sym (ap (λ (p : List ℕ × Status). p.1) left.1) ∙ bad)),
    ))
    c.put_search.ensures

pub returns-in-Ok-None : goal.returns-in-Ok-None
returns-in-Ok-None g c =
    let m =
    meaning_of g.P.Application.app g.P.Application.text g.P.Application.from_text g.P.Application.names
    g.P.Invariant.counts in
    let modulus = c.args.opening.now.modulus in
    let entries = entries_of_lines m c.args.opening.now 1 (lines_of c.args.script.now) in
    let found = c.args.found.now in
    let many : 1000000 < length entries + length c.in-Reached.events.items =
    subst (λ es. 1000000 < length entries + length es) c.deref.ensures.value
    (subst (IsHistoryOf modulus entries c.deref.result.now) c.in-Ok-None.field-0-is c.in-Ok-None.ensures) in
    record_alone (λ h o. IsLeftBy found modulus entries h o × (o.1 ≡ BadInput → h ≡ []))
    (λ o. o ≡ (long_history_text, BadInput))
    (λ o is. (subst (λ f. IsLeftBy f modulus entries [] o) (sym c.in-Reached.is) (long many refl is), λ _. refl))
    (g.H.Write.contents c.args.history.now) _ _ c.answer_long_history.result c.answer_long_history.ensures.stop
    c.answer_long_history.ensures.leaves

pub returns-in-Unreached : goal.returns-in-Unreached
returns-in-Unreached g c =
    let m =
    meaning_of g.P.Application.app g.P.Application.text g.P.Application.from_text g.P.Application.names
    g.P.Invariant.counts in
    let modulus = c.args.opening.now.modulus in
    let entries = entries_of_lines m c.args.opening.now 1 (lines_of c.args.script.now) in
    let found = c.args.found.now in
    record_alone (λ h o. IsLeftBy found modulus entries h o × (o.1 ≡ BadInput → h ≡ []))
    (λ o. o ≡ (search_text found, search_status found))
    (λ o is. (
      subst (λ f. IsLeftBy f modulus entries [] o) (sym c.in-Unreached.is)
          (refl, is ∙ ap (λ f. (search_text f, search_status f)) c.in-Unreached.is),
      λ _. refl,
    ))
    (g.H.Write.contents c.args.history.now) _ _ c.answer_search.result c.answer_search.ensures.stop
    c.answer_search.ensures.leaves
