use Rattle.std.proofs.Common.{◌≡◌, [], ◌∷◌, ◌++◌, true≢false, refl, sym, ◌∙◌, subst}
use Rattle.app_interface.specs.Listing.{EndsBelow}
use Rattle.app_interface.proofs.ListEnds.{item_at_seam}
use Rattle.app_routes.specs.Entries.{AreRoutes, IsEntry}
use Rattle.app_routes.specs.LawsOfText.{entries_spelled}
use Rattle.app_routes.proofs.Listing.{destinations, routes_end_below, routes_push}
use Rattle.app_routes.proofs.read.push_entry.Goals as goal

pub returns-then-not-is_above-clause-bad : goal.returns-then-not-is_above-clause-bad
returns-then-not-is_above-clause-bad c = λ _ e spelled all.
    let es = c.args.entries.now.items in
    let entry = c.in-Some.entry in
    let same : e ≡ entry =
    entries_spelled.one e entry (item_at_seam IsEntry es e [] all.are_entries) c.in-Some.ensures.entry
    (sym spelled ∙ c.in-Some.ensures.found) in
    let above : EndsBelow (destinations es) entry.destination =
    subst (λ f. EndsBelow (destinations es) f.destination) same (routes_end_below es e all) in
    true≢false
    (sym (c.if-not-is_above.ensures.1
    (subst (λ l. EndsBelow (destinations l) entry.destination) (sym c.as_slice.ensures) above)))

pub returns-clause-ok : goal.returns-clause-ok
returns-clause-ok c =
    let es = c.args.entries.now.items in
    let entry = c.in-Some.entry in
    let pushed : c.push.new.self.items ≡ es ++ entry ∷ [] = c.in_ok-push.ensures.ok in
    let above : EndsBelow (destinations es) entry.destination =
    subst (λ l. EndsBelow (destinations l) entry.destination) c.as_slice.ensures (c.if-not-is_above.ensures.0 refl)
    in
    record {
      item = entry;
      spelled = c.in-Some.ensures.found;
      pushed = pushed;
      are = subst AreRoutes (sym pushed) (routes_push es entry c.requires c.in-Some.ensures.entry above);
    }
