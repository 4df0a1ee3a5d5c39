use Rattle.std.proofs.Common.{◌≡◌, ◌++◌, ◌∙◌, ℕ, List, Ok, ap, ap₂, append-nil, subst, sym, take}
use Rattle.history.specs.HistoryText.{IsReadAs}
use Rattle.history.specs.declared.entry.Entry.{Entry}
use Rattle.history.proofs.Verified.{judgement}
use Rattle.history.proofs.verification.verdict.Goals as goal

pub returns-in-Ok : goal.returns-in-Ok
returns-in-Ok g c here n es text modulus verified played read =
    let is = c.in-Ok.ensures.ok es text read in
    let all : es ++ c.args.reading.now.lines.entries.items ≡ es = ap (λ l. es ++ l) c.requires ∙ append-nil es in
    let same : c.in-Ok.other ≡ here.modulus = c.if-other-modulus.true ∙ sym modulus in
    let pair : ℕ → List Entry → ℕ × List Entry = λ m l. (m, l) in
    judgement (take n) g.P.Application.app g.P.Application.from_text here es text c.judged.result
    (subst (λ p. IsReadAs text (Ok p)) (ap₂ pair same all) is)
    (c.judged.ensures here (take n es) verified played)
