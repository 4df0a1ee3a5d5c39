use Rattle.std.proofs.Common.{◌≡◌, Some, slice_get}
use Rattle.std.specs.Fmt.{decimal}
use Rattle.std.specs.List.{flat_map}
use Rattle.action_tables.specs.RowText.{case_above, set_text}
use Rattle.action_tables.proofs.Prefixes.{OnOk-then, OnErr-then}
use Rattle.action_tables.proofs.SetTexts.{spelled, cases_spelled, text_from}
use Rattle.action_tables.proofs.part.put_set.Goals as goal

pub returns-in_ok-put_number-in-Some-clause-ok : goal.returns-in_ok-put_number-in-Some-clause-ok
returns-in_ok-put_number-in-Some-clause-ok g c =
    let n = c.in-Some.first in
    let first : slice_get c.args.set 0 ≡ Some n = cc in
    OnOk-then c.put_cases_above.result (g.W.Write.contents c.args.out.now) (g.W.Write.contents c.put_number.new.out)
    (g.W.Write.contents c.put_cases_above.new.out)
    (decimal n) (flat_map (case_above c.args.set n) spelled) (set_text c.args.set)
    (text_from c.args.set spelled n cases_spelled c.lemma_is_listed.ensures first)
    (rw (← c.from.ensures) c.in_ok-put_number-in-Some.ensures.ok) c.put_cases_above.ensures.ok

pub returns-in_ok-put_number-in-Some-clause-err : goal.returns-in_ok-put_number-in-Some-clause-err
returns-in_ok-put_number-in-Some-clause-err g c =
    let n = c.in-Some.first in
    let first : slice_get c.args.set 0 ≡ Some n = cc in
    OnErr-then c.put_cases_above.result (g.W.Write.contents c.args.out.now) (g.W.Write.contents c.put_number.new.out)
    (g.W.Write.contents c.put_cases_above.new.out)
    (decimal n) (flat_map (case_above c.args.set n) spelled) (set_text c.args.set)
    (text_from c.args.set spelled n cases_spelled c.lemma_is_listed.ensures first)
    (rw (← c.from.ensures) c.in_ok-put_number-in-Some.ensures.ok) c.put_cases_above.ensures.err
