use Rattle.std.proofs.Common.{sym, subst}
use Rattle.action_tables.specs.Cuts.{HasNo}
use Rattle.action_tables.specs.LawsOfCuts.{has_byte}
use Rattle.app_routes.specs.LawsOfText.{parts_of, two_colons}
use Rattle.app_routes.proofs.read.read_entry.Goals as goal

pub returns-in_err-destination-clause-only : goal.returns-in_err-destination-clause-only
returns-in_err-destination-clause-only c =
    rw c.from_residual.ensures
    (λ e is spelled. has_byte 58 _ _ (subst (HasNo 58) spelled c.in_err-destination.ensures.none))

pub returns-in_err-hops-clause-only : goal.returns-in_err-hops-clause-only
returns-in_err-hops-clause-only c =
    let first = c.in_ok-destination in
    rw c.from_residual-in_err-hops.ensures (λ e is spelled.
    two_colons e is c.args.text.now first.destination.now first.rest.now (sym spelled) first.ensures.found
    first.ensures.first c.in_err-hops.ensures.none)

pub returns-in_err-read_id-clause-only : goal.returns-in_err-read_id-clause-only
returns-in_err-read_id-clause-only c =
    let first = c.in_ok-destination in
    let second = c.in_ok-hops in
    rw c.from_residual-in_err-read_id.ensures (λ e is spelled.
    let parts =
    parts_of e is c.args.text.now first.destination.now first.rest.now (sym spelled) first.ensures.found
    first.ensures.first second.hops.now second.next.now second.ensures.found second.ensures.first in
    c.in_err-read_id.ensures.only e.destination is.destination (sym parts.first))

pub returns-in_err-read_number-clause-only : goal.returns-in_err-read_number-clause-only
returns-in_err-read_number-clause-only c =
    let first = c.in_ok-destination in
    let second = c.in_ok-hops in
    rw c.from_residual-in_err-read_number.ensures (λ e is spelled.
    let parts =
    parts_of e is c.args.text.now first.destination.now first.rest.now (sym spelled) first.ensures.found
    first.ensures.first second.hops.now second.next.now second.ensures.found second.ensures.first in
    c.in_err-read_number.ensures.only e.hops is.hops (sym parts.second))

pub returns-in_err-read_id-2-clause-only : goal.returns-in_err-read_id-2-clause-only
returns-in_err-read_id-2-clause-only c =
    let first = c.in_ok-destination in
    let second = c.in_ok-hops in
    rw c.from_residual-in_err-read_id-2.ensures (λ e is spelled.
    let parts =
    parts_of e is c.args.text.now first.destination.now first.rest.now (sym spelled) first.ensures.found
    first.ensures.first second.hops.now second.next.now second.ensures.found second.ensures.first in
    c.in_err-read_id-2.ensures.only e.next is.next (sym parts.third))
