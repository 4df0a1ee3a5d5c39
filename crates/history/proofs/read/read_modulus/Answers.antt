use Rattle.std.proofs.Common.{◌≡◌, ◌≢◌, ⊎_elim, sym, ap, ◌∙◌, arith, true≢false}
use Rattle.std.specs.Prelude.{codes}
use Rattle.std.specs.Fmt.{decimal}
use Rattle.std.proofs.lemmas.Bool.{cases_eq}
use Rattle.std.proofs.lemmas.Fmt.{decimal_injective}
use Rattle.std.proofs.lemmas.Slice.Eq.{bytes_eq-Decides}
use Rattle.history.proofs.FirstLines.{decimal_wide}
use Rattle.history.proofs.read.read_modulus.Goals as goal

pub returns-then-eq-clause-found : goal.returns-then-eq-clause-found
returns-then-eq-clause-found c = (
  record { two = omega arith; wide = omega arith },
  (bytes_eq-Decides c.args.word.now (codes "4294967296")).0 (sym (rw c.as_slice.ensures at c.if-eq.ensures))
      ∙ sym decimal_wide,
)

pub returns-in_default-clause-only : goal.returns-in_default-clause-only
returns-in_default-clause-only c m counted spelled =
    let same : m ≡ c.in-Some.value =
    decimal_injective m c.in-Some.value (omega (arith, counted.wide)) (omega (arith, c.in-Some.ensures.small))
    (sym spelled ∙ c.in-Some.ensures.found) in
    omega (arith, counted.two, c.if-value-ge2.false, same)

pub returns-in_default-2-clause-only : goal.returns-in_default-2-clause-only
returns-in_default-2-clause-only c m counted spelled =
    ⊎_elim
    (λ (wide : m ≡ 4294967296). true≢false
    (sym ((bytes_eq-Decides c.args.word.now (codes "4294967296")).1
    (spelled ∙ ap decimal wide ∙ decimal_wide)) ∙ sym (rw c.as_slice.ensures at c.if-eq.ensures)))
    (λ (other : m ≢ 4294967296). c.in_default.ensures.only m (omega (arith, counted.wide, other)) spelled)
    (cases_eq m 4294967296)
