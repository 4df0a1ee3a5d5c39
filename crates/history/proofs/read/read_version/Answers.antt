use Rattle.std.proofs.Common.{◌≡◌, sym, ◌∙◌, arith}
use Rattle.std.proofs.lemmas.Fmt.{decimal_injective}
use Rattle.history.proofs.read.read_version.Goals as goal

pub returns-clause-only : goal.returns-clause-only
returns-clause-only c v which spelled =
    let other = c.in-Some.version in
    let same : v ≡ other =
    decimal_injective v other (omega (arith, which.1)) (omega (arith, c.in-Some.ensures.small))
    (sym spelled ∙ c.in-Some.ensures.found) in
    omega (arith, same, which.0, which.1, c.if-version-eq2.false, c.if-version-eq3.false)
