use Rattle.std.proofs.Common.{◌≢◌, [], ◌∷◌, ◌++◌, ap, ◌∙◌, rules}
use Rattle.std.proofs.lemmas.Result.{err_from_is_err_and}
use Rattle.app_interface.proofs.Refusals.{other_ok}
use Rattle.app_interface.proofs.ListingLaws.{bad_next, bad_last, read_on, read_last, with_commas}
use Rattle.app_routes.specs.LocalText.{entry_text}
use Rattle.app_routes.specs.LawsOfText.{entries_spelled}
use Rattle.app_routes.proofs.Listing.{routes_prefixes}
use Rattle.app_routes.proofs.read.read_local.Goals as goal

pub returns-in_err-push_entry-clause-bad : goal.returns-in_err-push_entry-clause-bad
returns-in_err-push_entry-clause-bad c =
    let es = c.loop-piece.entries.items in
    let no_dash : c.args.text.now ≢ 45 ∷ [] = search rules in
    let p = err_from_is_err_and c.from_residual.result c.from_residual.ensures.1 in
    rw (p.1, p.2)
    (λ bad. bad_next entries_spelled routes_prefixes c.args.text.now es c.loop-piece.invariant.0 no_dash
    c.in-Some.piece.now c.in-Some.more.now
    (c.loop-piece.invariant.1 ∙ ap (λ l. with_commas entry_text es ++ l) c.in-Some.ensures.found)
    c.in-Some.ensures.first (c.in_err-push_entry.ensures.bad (other_ok _ _ bad)))

pub loop-piece-preserved : goal.loop-piece-preserved
loop-piece-preserved c =
    let es = c.loop-piece.entries.items in
    let on = c.in_ok-push_entry.ensures.ok in (
      on.are,
      read_on entry_text c.args.text.now es c.in-Some.piece.now c.push_entry.new.entries.items on c.in-Some.more.now
          (c.loop-piece.invariant.1 ∙ ap (λ l. with_commas entry_text es ++ l) c.in-Some.ensures.found),
    )

pub returns-in_err-push_entry-2-clause-bad : goal.returns-in_err-push_entry-2-clause-bad
returns-in_err-push_entry-2-clause-bad c =
    let no_dash : c.args.text.now ≢ 45 ∷ [] = search rules in
    let p = err_from_is_err_and c.from_residual-in_err-push_entry-2.result c.from_residual-in_err-push_entry-2.ensures.1
    in
    rw (p.1, p.2)
    (λ bad. bad_last entries_spelled routes_prefixes c.args.text.now c.loop-piece.entries.items c.loop-piece.invariant.0
    no_dash c.loop-piece.rest.now c.loop-piece.invariant.1 c.in_default.ensures.none
    (c.in_err-push_entry-2.ensures.bad (other_ok _ _ bad)))

pub returns-clause-ok : goal.returns-clause-ok
returns-clause-ok c =
    rw c.from_ascending.ensures
    (read_last entry_text c.args.text.now c.loop-piece.entries.items c.loop-piece.rest.now
    c.push_entry-2.new.entries.items c.in_ok-push_entry-2.ensures.ok c.loop-piece.invariant.1)
