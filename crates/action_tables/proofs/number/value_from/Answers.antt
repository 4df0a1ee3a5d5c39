use Rattle.std.proofs.Common.{◌+◌, ◌*◌, ◌-◌, ◌<◌, ◌^◌, ◌∷◌, arith, drop, length, take}
use Rattle.std.specs.Char.{digit_char}
use Rattle.action_tables.proofs.LeadingDigits.{led_by_digit, led_next, too_large}
use Rattle.action_tables.proofs.number.value_from.Goals.{else-value-ge429496729-via-then-value-ge429496729+else-value-digit}
use Rattle.action_tables.proofs.number.value_from.Goals.{else-value-ge429496729-via-else-value-ge429496729}
use Rattle.action_tables.proofs.number.value_from.Goals as goal

pub loop-rest-init : goal.loop-rest-init
loop-rest-init c = (led_by_digit c.args.first c.args.text.now c.requires, omega (arith, c.requires))

pub returns-then-value-digit-clause-only : goal.returns-then-value-digit-clause-only
returns-then-value-digit-clause-only c =
    let left = c.loop-rest.rest.now in
    too_large (digit_char c.args.first ∷ c.args.text.now) (take (length left - 1) (drop 1 left))
    (c.loop-rest.value * 10 + c.in-Some.digit)
    (led_next (digit_char c.args.first ∷ c.args.text.now) left c.loop-rest.value c.in-Some.digit
    c.loop-rest.invariant.0 c.in-len1-up.len_at_least c.in-Some.ensures.found.0 c.in-Some.ensures.found.1)
    (omega (arith, c.if-value-digit.true, c.from.ensures))

pub loop-rest-preserved : goal.loop-rest-preserved
loop-rest-preserved c =
    let small : c.loop-rest.value * 10 + c.in-Some.digit < 2 ^ 32 =
    elim c.else-value-ge429496729.branch [
      | else-value-ge429496729-via-then-value-ge429496729+else-value-digit w ↦
          omega (arith, w.if-value-digit.false, w.from.ensures)
      | else-value-ge429496729-via-else-value-ge429496729 w ↦
          omega (arith, w.if-value-ge429496729.false, c.in-Some.ensures.found.1)
    ] in (
      led_next (digit_char c.args.first ∷ c.args.text.now) c.loop-rest.rest.now c.loop-rest.value c.in-Some.digit
          c.loop-rest.invariant.0 c.in-len1-up.len_at_least c.in-Some.ensures.found.0 c.in-Some.ensures.found.1,
      small,
    )
