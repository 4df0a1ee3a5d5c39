use Rattle.std.proofs.Common.{◌≡◌, ap, ℕ, List, ◌<◌, ◌≤◌, ◌∙◌, [], None, Some, length, refl, rules, subst, sym}
use Rattle.reset_model.specs.Configuration.{Configuration}
use Rattle.applications.specs.Meaning.{meaning_of}
use Rattle.script_replay.specs.Left.{bad_line_of, left_by}
use Rattle.script_replay.specs.Lines.{lines_of}
use Rattle.script_replay.specs.Output.{bad_line_text, too_long_text}
use Rattle.script_replay.specs.Recorded.{entries_of_lines}
use Rattle.script_replay.specs.declared.status.Status.{Status}
use Rattle.script_replay.specs.declared.status.Status.TheVariants.{BadInput}
use Rattle.script_replay.proofs.LeftRecords.{record_alone, record_weaker}
use Rattle.reset_service.specs.Shown.{IsFoundBy, IsShown}
use Rattle.reset_service.specs.Shown.IsShown.{bad_line, explored, too_long}
use Rattle.reset_service.proofs.shown.show_after.Goals as goal

pub returns-then-script-gt-MAX_TEXT : goal.returns-then-script-gt-MAX_TEXT
returns-then-script-gt-MAX_TEXT g c =
    let m =
    meaning_of g.P.Application.app g.P.Application.text g.P.Application.from_text g.P.Application.names
    g.P.Invariant.counts in
    let script = c.args.script.now in
    let long : 1048576 < length script = search rules in
    record_alone (λ h o. IsShown m c.args.run c.args.opening.now script h o × (o.1 ≡ BadInput → h ≡ []))
    (λ o. o ≡ (too_long_text, BadInput)) (λ o is. (too_long long refl is, λ _. refl))
    (g.H.Write.contents c.args.history.now) _ _ c.refuse_input.result c.refuse_input.ensures.stop
    c.refuse_input.ensures.leaves

pub returns-in-Ok-None : goal.returns-in-Ok-None
returns-in-Ok-None g c =
    let m =
    meaning_of g.P.Application.app g.P.Application.text g.P.Application.from_text g.P.Application.names
    g.P.Invariant.counts in
    let script = c.args.script.now in
    let opening = c.args.opening.now in
    let short : length script ≤ 1048576 = search rules in
    let good : bad_line_of m.names script ≡ None = sym c.in-Ok-None.ensures.bad ∙ c.in-Ok-None.field-0-is in
    let after : c.leave_script.new.config ≡ left_by m opening script =
    c.in-Ok-None.ensures.left ∙ ap (λ d. left_by m d script) c.in_ok-left.ensures in
    let Left : Configuration g.row.P-Local.Denot → List ℕ → List ℕ × Status → Type 0 =
    λ left h o. IsFoundBy m c.args.run opening.modulus (entries_of_lines m opening 1 (lines_of script)) left h o in
    record_weaker (λ h o. Left c.leave_script.new.config h o × (o.1 ≡ BadInput → h ≡ []))
    (λ h o. IsShown m c.args.run opening script h o × (o.1 ≡ BadInput → h ≡ [])) _ _ _ _ c.show_here.result
    (λ h o is. (explored short good (subst (λ left. Left left h o) after is.0), is.1))
    c.show_here.ensures

pub returns-in-Ok-Some : goal.returns-in-Ok-Some
returns-in-Ok-Some g c =
    let m =
    meaning_of g.P.Application.app g.P.Application.text g.P.Application.from_text g.P.Application.names
    g.P.Invariant.counts in
    let script = c.args.script.now in
    let short : length script ≤ 1048576 = search rules in
    let number = c.in-Ok-Some.number in
    let bad : bad_line_of m.names script ≡ Some number = sym c.in-Ok-Some.ensures.bad ∙ c.in-Ok-Some.field-0-is in
    record_alone (λ h o. IsShown m c.args.run c.args.opening.now script h o × (o.1 ≡ BadInput → h ≡ []))
    (λ o. o ≡ (bad_line_text number, BadInput)) (λ o is. (bad_line number short bad refl is, λ _. refl))
    (g.H.Write.contents c.args.history.now) _ _ c.refuse_line.result c.refuse_line.ensures.stop
    c.refuse_line.ensures.leaves
