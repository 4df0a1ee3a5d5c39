use Rattle.std.proofs.Common.{◌≡◌, ℕ, List, [], Option, subst, sym, ap, ◌∙◌, rules}
use Rattle.link_predicates.specs.Faults.{end_faults}
use Rattle.history_page.specs.Known.{StaysQuiet}
use Rattle.history_page.proofs.changes.is_quiet.Goals as goal

pub returns : goal.returns
returns g c =
    let app = g.P.Application.app in
    let config = c.args.config.now in
    let Quiet : Option ℕ → Type 0 = λ o. StaysQuiet app config o c.args.node.now in
    let End : ℕ → Type 0 = λ i. end_faults app config i c.in-Some.at ≡ [] in
    λ empty. subst Quiet c.in-Some.is c.requires (c.was_quiet.ensures.rows (search rules))
    (c.was_quiet.ensures.other (search rules))
    (subst End (ap (λ (n : ℕ × List ℕ). n.0) c.node.view_is)
    (sym (c.deref.ensures.value ∙ c.in_ok-faults.ensures) ∙ c.is_none.ensures empty))
