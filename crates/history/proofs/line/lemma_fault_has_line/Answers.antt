use Rattle.std.proofs.Common.{subst}
use Rattle.app_interface.specs.PrintableWord.{IsPrintableWord}
use Rattle.history.proofs.ShortLines.{down_has, local_done, off_has, on_has, up_has}
use Rattle.history.proofs.line.lemma_fault_has_line.Goals as goal

-- the laws of the application: a text that is read is that of a local state, which is one printable word
pub returns-in-SetLocal : goal.returns-in-SetLocal
returns-in-SetLocal g c =
    let laws = g.met.P.Application g.world.𝓛 g.world.𝓜 g.world.𝓡 ((λ s x. x), (λ x. x), (λ x. x), λ x. x) in
    λ before left done.
    rw c.in-SetLocal.is
    (local_done g.P.Application.app g.P.Application.from_text before left c.in-SetLocal.at
    (λ text local read.
    let own = (laws.one_text text local).0 read in
    subst IsPrintableWord own.1 (laws.one_word local own.0))
    c.in-SetLocal.text c.lemma_is_number.ensures (rw c.in-SetLocal.is at done))

pub returns-in-LinkDown : goal.returns-in-LinkDown
returns-in-LinkDown g c = λ before left done.
    let fit = c.lemma_are_numbers.ensures in
    rw c.in-LinkDown.is (down_has c.in-LinkDown.a c.in-LinkDown.b (fit.first, fit.second))

pub returns-in-LinkUp : goal.returns-in-LinkUp
returns-in-LinkUp g c = λ before left done.
    let fit = c.lemma_are_numbers-in-LinkUp.ensures in
    rw c.in-LinkUp.is (up_has c.in-LinkUp.a c.in-LinkUp.b (fit.first, fit.second))

pub returns-in-NodeDown : goal.returns-in-NodeDown
returns-in-NodeDown g c = λ before left done.
    rw c.in-NodeDown.is (off_has c.in-NodeDown.at c.lemma_is_number-in-NodeDown.ensures)

pub returns-in-NodeUp : goal.returns-in-NodeUp
returns-in-NodeUp g c = λ before left done. rw c.in-NodeUp.is (on_has c.in-NodeUp.at c.lemma_is_number-in-NodeUp.ensures)
