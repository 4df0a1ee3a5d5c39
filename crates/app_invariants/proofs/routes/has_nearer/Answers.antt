use Rattle.std.proofs.Common.{rules}
use Rattle.std.proofs.lemmas.Fn.{always_returns_same}
use Rattle.app_invariants.proofs.Nearer.{found_nearer, none_nearer, some_entry}
use Rattle.app_invariants.proofs.routes.has_nearer.Goals as goal

pub returns-in-Ok : goal.returns-in-Ok
returns-in-Ok c =
    found_nearer c.args.entries.now c.args.destination c.requires c.args.hops some_entry c.in-Ok.place c.in-Ok.ensures.bound
    (c.in-Ok.ensures.position (λ e. e.destination) (always_returns_same _ _ _ (λ a r f k. search rules)))

pub returns-in-Err : goal.returns-in-Err
returns-in-Err c =
    none_nearer c.args.entries.now c.args.destination c.requires c.args.hops some_entry c.in-Err.field-0 c.in-Err.ensures.bound
    (c.in-Err.ensures.position (λ e. e.destination) (always_returns_same _ _ _ (λ a r f k. search rules)))
