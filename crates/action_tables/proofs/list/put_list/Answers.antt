use Rattle.std.proofs.Common.{◌∷◌, ◌++◌, ◌-◌, length, take, drop, sym, ap, ◌∙◌}
use Rattle.std.specs.List.{flat_map}
use Rattle.action_tables.specs.Lists.{list_text}
use Rattle.action_tables.proofs.Prefixes.{OnErr-then, OnOk-then}
use Rattle.action_tables.proofs.ListTexts.{list_text-some}
use Rattle.action_tables.proofs.list.put_list.Goals as goal

pub returns-in_ok-put-in-len1-up-clause-ok : goal.returns-in_ok-put-in-len1-up-clause-ok
returns-in_ok-put-in-len1-up-clause-ok g c =
    let text = g.T.ListItem.text in
    let items = c.args.items.now in
    let first = c.first-item.result in
    let rest = flat_map (λ x. 44 ∷ text x) (take (length items - 1) (drop 1 items)) in
    OnOk-then _ _ _ _ (text first) rest (list_text text items)
    (list_text-some text items first c.in-len1-up.len_at_least ∙ ap (λ x. text x ++ rest) (sym c.first-item.is))
    c.in_ok-put-in-len1-up.ensures.ok c.put_more.ensures.ok

pub returns-in_ok-put-in-len1-up-clause-err : goal.returns-in_ok-put-in-len1-up-clause-err
returns-in_ok-put-in-len1-up-clause-err g c =
    let text = g.T.ListItem.text in
    let items = c.args.items.now in
    let first = c.first-item.result in
    let rest = flat_map (λ x. 44 ∷ text x) (take (length items - 1) (drop 1 items)) in
    OnErr-then _ _ _ _ (text first) rest (list_text text items)
    (list_text-some text items first c.in-len1-up.len_at_least ∙ ap (λ x. text x ++ rest) (sym c.first-item.is))
    c.in_ok-put-in-len1-up.ensures.ok c.put_more.ensures.err
