use Rattle.std.proofs.Common.{◌-◌, ◌≡◌, ◌∷◌, ◌∙◌, drop, length, subst, sym, take}
use Rattle.std.specs.Char.{digit_char}
use Rattle.action_tables.specs.Cuts.{AreLeadingDigits}
use Rattle.action_tables.proofs.LeadingDigits.{begins_with_digit, found_ended, none_begun, none_ended, none_leads}
use Rattle.action_tables.proofs.LeadingDigits.{none_padded, one_digit}
use Rattle.action_tables.proofs.number.split_number.Goals as goal

pub returns-in_err-digit-clause-only : goal.returns-in_err-digit-clause-only
returns-in_err-digit-clause-only c =
    rw c.from_residual.ensures (none_begun c.args.text.now c.args.end c.in_err-digit.ensures.only)

pub returns-in-Some-clause-found : goal.returns-in-Some-clause-found
returns-in-Some-clause-found c =
    let text = c.args.text.now in
    let found = c.in_ok-digit.ensures.found in
    let digit = c.in_ok-digit.digit in
    let rest = take (length text - 1) (drop 1 text) in
    begins_with_digit text digit c.in-len1-up.len_at_least found.0 found.1 ∙
    one_digit digit c.args.end rest c.in-Some.after.now found.1 c.in-Some.ensures.found

pub returns-then-digit-eq0-clause-only : goal.returns-then-digit-eq0-clause-only
returns-then-digit-eq0-clause-only c =
    let text = c.args.text.now in
    let rest = take (length text - 1) (drop 1 text) in
    let found = c.in_ok-digit.ensures.found in
    let led = begins_with_digit text c.in_ok-digit.digit c.in-len1-up.len_at_least found.0 found.1 in
    λ n after small is. none_padded rest c.args.end c.in_default-after_byte.ensures.only n after small
    (sym (subst (λ d. text ≡ digit_char d ∷ rest) c.if-digit-eq0.true led) ∙ is)

pub returns-in_err-value-clause-only : goal.returns-in_err-value-clause-only
returns-in_err-value-clause-only c =
    let text = c.args.text.now in
    let found = c.in_ok-digit.ensures.found in
    let led = begins_with_digit text c.in_ok-digit.digit c.in-len1-up.len_at_least found.0 found.1 in
    rw c.from_residual-in_err-value.ensures (
    none_leads text c.args.end c.requires
    (λ n left small leading. c.in_err-value.ensures.only n left small
    (subst (λ t. AreLeadingDigits t n left) led leading))
    )

pub returns-in_err-after-clause-only : goal.returns-in_err-after-clause-only
returns-in_err-after-clause-only c =
    let text = c.args.text.now in
    let found = c.in_ok-digit.ensures.found in
    let led = begins_with_digit text c.in_ok-digit.digit c.in-len1-up.len_at_least found.0 found.1 in
    let value = c.in_ok-value.value in
    let left = c.in_ok-value.left.now in
    rw c.from_residual-in_err-after.ensures (
    none_ended text c.args.end value left c.requires
    (subst (λ t. AreLeadingDigits t value left) (sym led) c.in_ok-value.ensures.found) c.in_err-after.ensures.only
    )

pub returns-clause-found : goal.returns-clause-found
returns-clause-found c =
    let text = c.args.text.now in
    let found = c.in_ok-digit.ensures.found in
    let digit = c.in_ok-digit.digit in
    begins_with_digit text digit c.in-len1-up.len_at_least found.0 found.1 ∙
    found_ended digit c.args.end c.in_ok-value.value (take (length text - 1) (drop 1 text)) c.in_ok-value.left.now
    c.in_ok-after.after.now found.1 c.if-digit-eq0.false c.requires c.in_ok-value.ensures.small
    c.in_ok-value.ensures.found c.in_ok-after.ensures.found
