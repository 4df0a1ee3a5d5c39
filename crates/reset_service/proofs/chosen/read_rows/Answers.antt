use Rattle.std.proofs.Common.{ℕ, arith, rules}
use Rattle.reset_service.specs.Chosen.{AreRows, NamesRows}
use Rattle.reset_service.proofs.Choosing.{IfNone-always, rows_cut, rows_known, rows_last}
use Rattle.reset_service.proofs.chosen.read_rows.Goals as goal

pub returns-in_err-after_dot-clause-only : goal.returns-in_err-after_dot-clause-only
returns-in_err-after_dot-clause-only c =
    IfNone-always _ ((rows : ℕ × ℕ) → NamesRows c.args.text.now rows → ⊥) (λ rows named.
    let (is, more) = rows_cut c.args.text.now c.in_ok-first.rest.now c.in_ok-first.first rows
    c.in_ok-first.ensures.small c.in_ok-first.ensures.found named in
    c.in_err-after_dot.ensures.only _ more)

pub returns-in_err-last-clause-only : goal.returns-in_err-last-clause-only
returns-in_err-last-clause-only c =
    IfNone-always _ ((rows : ℕ × ℕ) → NamesRows c.args.text.now rows → ⊥) (λ rows named.
    let (is, more) = rows_last c.args.text.now c.in_ok-first.rest.now c.in_ok-after_dot.field-0.now
    c.in_ok-first.first rows c.in_ok-first.ensures.small c.in_ok-first.ensures.found c.in_ok-after_dot.ensures.found named in
    c.in_err-last.ensures.only rows.1 (let small = named.valid.small in omega (arith, small)) more)

pub returns-else-are_rows-clause-only : goal.returns-else-are_rows-clause-only
returns-else-are_rows-clause-only c = λ rows named.
    let first = c.in_ok-first.first in
    let last = c.in_ok-last.last in
    let none : AreRows (first, last) → ⊥ = search rules in
    none
    (rows_known c.args.text.now c.in_ok-first.rest.now c.in_ok-after_dot.field-0.now first last rows
    c.in_ok-first.ensures.small c.in_ok-last.ensures.small c.in_ok-first.ensures.found c.in_ok-after_dot.ensures.found
    c.in_ok-last.ensures.found named)
