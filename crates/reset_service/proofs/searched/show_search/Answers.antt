use Rattle.std.proofs.Common.{◌≡◌, [], refl}
use Rattle.applications.specs.Meaning.{meaning_of}
use Rattle.script_replay.specs.Lines.{lines_of}
use Rattle.script_replay.specs.Recorded.{entries_of_lines}
use Rattle.script_replay.specs.declared.status.Status.TheVariants.{BadInput}
use Rattle.script_replay.proofs.LeftRecords.{record_alone, record_weaker}
use Rattle.reset_service.specs.Explorations.{too_many_text}
use Rattle.reset_service.specs.Shown.{IsFoundBy, IsLeftBy}
use Rattle.reset_service.specs.Shown.IsFoundBy.{searched, too_many}
use Rattle.reset_service.proofs.searched.show_search.Goals as goal

pub returns-in-Ok : goal.returns-in-Ok
returns-in-Ok g c =
    let m =
    meaning_of g.P.Application.app g.P.Application.text g.P.Application.from_text g.P.Application.names
    g.P.Invariant.counts in
    let modulus = c.args.opening.now.modulus in
    let entries = entries_of_lines m c.args.opening.now 1 (lines_of c.args.script.now) in
    let found = c.in-Ok.found in
    record_weaker (λ h o. IsLeftBy found modulus entries h o × (o.1 ≡ BadInput → h ≡ []))
    (λ h o. IsFoundBy m c.args.run modulus entries c.args.left.now h o × (o.1 ≡ BadInput → h ≡ [])) _ _ _ _
    c.show_found.result
    (λ h o is. (searched c.args.target found c.requires.target c.in-Ok.ensures.exact c.in-Ok.ensures.few is.0, is.1))
    c.show_found.ensures

pub returns-in-Err-TooMany : goal.returns-in-Err-TooMany
returns-in-Err-TooMany g c =
    let m =
    meaning_of g.P.Application.app g.P.Application.text g.P.Application.from_text g.P.Application.names
    g.P.Invariant.counts in
    let modulus = c.args.opening.now.modulus in
    let entries = entries_of_lines m c.args.opening.now 1 (lines_of c.args.script.now) in
    record_alone
    (λ h o. IsFoundBy m c.args.run modulus entries c.args.left.now h o × (o.1 ≡ BadInput → h ≡ []))
    (λ o. o ≡ (too_many_text c.args.run.most, BadInput))
    (λ o is. (too_many (c.in-Err-TooMany.ensures.too_many c.in-Err-TooMany.field-0-is) refl is, λ _. refl))
    (g.H.Write.contents c.args.history.now) _ _ c.answer_too_many.result c.answer_too_many.ensures.stop
    c.answer_too_many.ensures.leaves
