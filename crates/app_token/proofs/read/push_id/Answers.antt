use Rattle.std.proofs.Common.{◌≡◌, [], ◌∷◌, ◌++◌, true≢false, refl, sym, ap, ◌∙◌, subst}
use Rattle.app_interface.specs.Listing.{EndsBelow}
use Rattle.app_interface.proofs.ListEnds.{ends_below, item_at_seam}
use Rattle.topology.specs.Id.{IsId}
use Rattle.app_token.specs.Bits.{IsBits}
use Rattle.app_token.specs.LawsOfText.{ids_spelled}
use Rattle.app_token.proofs.Listing.{bits_push}
use Rattle.app_token.proofs.read.push_id.Goals as goal

pub returns-then-not-is_above-clause-bad : goal.returns-then-not-is_above-clause-bad
returns-then-not-is_above-clause-bad c = λ _ id e bits.
    let ids = c.args.ids.now.items in
    let same : id ≡ c.in-Some.id =
    ids_spelled.one id c.in-Some.id (item_at_seam IsId ids id [] bits.are_ids) c.in-Some.ensures.id
    (sym e ∙ c.in-Some.ensures.found) in
    let above : EndsBelow ids c.get.result =
    subst (EndsBelow ids) (same ∙ sym c.get.ensures.number) (ends_below ids id bits.ascending) in
    true≢false
    (sym (c.if-not-is_above.ensures.1 (subst (λ l. EndsBelow l c.get.result) (sym c.as_slice.ensures) above)))

pub returns-clause-ok : goal.returns-clause-ok
returns-clause-ok c =
    let ids = c.args.ids.now.items in
    let id = c.in-Some.id in
    let pushed : c.push.new.self.items ≡ ids ++ id ∷ [] =
    c.in_ok-push.ensures.ok ∙ ap (λ n. ids ++ n ∷ []) c.get-2.ensures.number in
    let above : EndsBelow ids id =
    subst (EndsBelow ids) c.get.ensures.number
    (subst (λ l. EndsBelow l c.get.result) c.as_slice.ensures (c.if-not-is_above.ensures.0 refl)) in
    record {
      item = id;
      spelled = c.in-Some.ensures.found;
      pushed = pushed;
      are = subst IsBits (sym pushed) (bits_push ids id c.requires c.in-Some.ensures.id above);
    }
