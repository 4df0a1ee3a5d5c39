use Rattle.std.proofs.Common.{rules, nat_lt}
use Rattle.std.proofs.lemmas.List.Sorted.{answers_always}
use Rattle.action_tables.proofs.Ascending.{ascends_from_answer}
use Rattle.action_tables.proofs.nodes.ids_ascend.Goals as goal

pub returns : goal.returns
returns g c =
    ascends_from_answer c.args.nodes.now _
    (c.is_sorted_by.ensures.cases (λ one next. nat_lt one.0 next.0)
    (answers_always _ _ _ (λ f a r g h. search rules)))
