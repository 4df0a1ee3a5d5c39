use Rattle.std.proofs.Common.{All, Bor, List, ℕ, subst, sym, ◌∙◌}
use Rattle.std.proofs.lemmas.List.Elements.{All-push}
use Rattle.diagnoses.specs.Commands.{IsCommandName}
use Rattle.diagnoses.proofs.HelpLines.{all_left, left_after, named, none_named}
use Rattle.diagnoses.proofs.commands.command_names.Goals as goal

pub loop-help-init : goal.loop-help-init
loop-help-init c =
    (none_named c.new-names.result.items c.new-names.ensures.items, all_left c.as_bytes-rest.result.now (c.as_bytes-rest.ensures.value ∙ c.command_lines.ensures))

pub loop-help-preserved-in_ok-push : goal.loop-help-preserved-in_ok-push
loop-help-preserved-in_ok-push c =
    let (all, left) = c.loop-help.invariant in
    let rest = c.loop-help.rest.now in
    let help = c.in-Some.help.now in
    let after = c.in-Some.after.now in
    let name = c.in-Some-sought_name.name in (
      subst (λ names. All (λ (n : Bor (List ℕ)). IsCommandName n.now) names) (sym c.in_ok-push.ensures.items)
          (All-push (λ (n : Bor (List ℕ)). IsCommandName n.now) c.loop-help.names.items name all
          (named rest help after c.in-Some.ensures.found left name.now c.in-Some-sought_name.ensures)),
      left_after rest help after c.in-Some.ensures.found left,
    )

pub loop-help-preserved : goal.loop-help-preserved
loop-help-preserved c =
    let (all, left) = c.loop-help.invariant in
    (all, left_after c.loop-help.rest.now c.in-Some.help.now c.in-Some.after.now c.in-Some.ensures.found left)
