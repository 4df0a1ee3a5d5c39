use Rattle.std.proofs.Common.{◌≢◌, [], ◌∷◌, ◌++◌, ap, ◌∙◌, rules}
use Rattle.std.specs.Fmt.{decimal}
use Rattle.std.proofs.lemmas.Result.{err_from_is_err_and}
use Rattle.app_interface.proofs.Refusals.{other_ok}
use Rattle.app_interface.proofs.ListingLaws.{bad_next, bad_last, read_on, read_last, with_commas}
use Rattle.app_token.specs.LawsOfText.{ids_spelled}
use Rattle.app_token.proofs.Listing.{bits_prefixes}
use Rattle.app_token.proofs.read.read_ids.Goals as goal

pub returns-in_err-push_id-clause-bad : goal.returns-in_err-push_id-clause-bad
returns-in_err-push_id-clause-bad c =
    let ids = c.loop-piece.ids.items in
    let no_dash : c.args.text.now ≢ 45 ∷ [] = search rules in
    let p = err_from_is_err_and c.from_residual.result c.from_residual.ensures.1 in
    rw (p.1, p.2)
    (λ bad. bad_next ids_spelled bits_prefixes c.args.text.now ids c.loop-piece.invariant.0 no_dash c.in-Some.piece.now
    c.in-Some.more.now
    (c.loop-piece.invariant.1 ∙ ap (λ l. with_commas decimal ids ++ l) c.in-Some.ensures.found) c.in-Some.ensures.first
    (c.in_err-push_id.ensures.bad (other_ok _ _ bad)))

pub loop-piece-preserved : goal.loop-piece-preserved
loop-piece-preserved c =
    let ids = c.loop-piece.ids.items in
    let on = c.in_ok-push_id.ensures.ok in (
      on.are,
      read_on decimal c.args.text.now ids c.in-Some.piece.now c.push_id.new.ids.items on c.in-Some.more.now
          (c.loop-piece.invariant.1 ∙ ap (λ l. with_commas decimal ids ++ l) c.in-Some.ensures.found),
    )

pub returns-in_err-push_id-2-clause-bad : goal.returns-in_err-push_id-2-clause-bad
returns-in_err-push_id-2-clause-bad c =
    let no_dash : c.args.text.now ≢ 45 ∷ [] = search rules in
    let p = err_from_is_err_and c.from_residual-in_err-push_id-2.result c.from_residual-in_err-push_id-2.ensures.1 in
    rw (p.1, p.2)
    (λ bad. bad_last ids_spelled bits_prefixes c.args.text.now c.loop-piece.ids.items c.loop-piece.invariant.0 no_dash
    c.loop-piece.rest.now c.loop-piece.invariant.1 c.in_default.ensures.none
    (c.in_err-push_id-2.ensures.bad (other_ok _ _ bad)))

pub returns-clause-ok : goal.returns-clause-ok
returns-clause-ok c =
    rw c.from_ascending.ensures
    (read_last decimal c.args.text.now c.loop-piece.ids.items c.loop-piece.rest.now c.push_id-2.new.ids.items
    c.in_ok-push_id-2.ensures.ok c.loop-piece.invariant.1)
