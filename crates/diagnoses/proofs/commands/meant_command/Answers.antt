use Rattle.std.proofs.Common.{All, Bor, List, ℕ, map, option_map, subst, sym}
use Rattle.diagnoses.specs.Commands.{IsCommandName}
use Rattle.diagnoses.specs.Nearest.{IsMeant}
use Rattle.diagnoses.proofs.HelpLines.{meant}
use Rattle.diagnoses.proofs.commands.meant_command.Goals as goal

pub returns-in-Some : goal.returns-in-Some
returns-in-Some c =
    let text : Bor (List ℕ) → List ℕ = λ name. name.now in
    let names = c.deref.result.now in
    meant names c.args.word.now c.in-Some.name.now
    (subst (All (λ (name : Bor (List ℕ)). IsCommandName name.now)) (sym c.deref.ensures.value) c.in_ok-names.ensures)
    (subst (λ found. IsMeant (map text names) c.args.word.now (option_map text found)) c.in-Some.is
    c.in_ok-name.ensures)
