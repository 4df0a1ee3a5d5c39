use Rattle.std.proofs.lemmas.Bool.{ltb-true}
use Rattle.link_predicates.proofs.QuietRows.{no_own_row}
use Rattle.link_predicates.proofs.quiet.is_settled.Goals as goal

pub returns-then-own-id-2 : goal.returns-then-own-id-2
returns-then-own-id-2 c = λ near up.
    let own = c.args.own in
    no_own_row c.args.k c.args.id own up c.if-own-id-2.true.0 c.if-own-id-2.true.1 (ltb-true own.dist c.args.k near)
