use Rattle.std.proofs.Common.{ap, ◌∙◌, cond}
use Rattle.tree_layer.specs.TreeRows.{claimed}
use Rattle.wave_layer.specs.declared.regs.Phase.TheVariants.{Normal}
use Rattle.reset_model.specs.Configuration.{local_of, tree_of, wave_of}
use Rattle.reset_model.proofs.OtherGraphs.{local_there, tree_there, wave_there}
use Rattle.reset_model.proofs.laws.states_stay.Goals as goal

pub returns-clause-kept : goal.returns-clause-kept
returns-clause-kept g c = λ d h i shaped same there stays.
    let app = g.P.Application.app in (
      tree_there app d h same shaped i there ∙ ap (λ b. cond b (claimed i) (tree_of d i)) stays,
      wave_there app d h same shaped i there
          ∙ ap (λ b. cond b (record { phase = Normal; session = 0 }) (wave_of d i)) stays,
      local_there app d h same shaped i there ∙ ap (λ b. cond b (app.start h i) (local_of app d i)) stays,
    )

pub returns-clause-anew : goal.returns-clause-anew
returns-clause-anew g c = λ d h i shaped same there comes.
    let app = g.P.Application.app in (
      tree_there app d h same shaped i there ∙ ap (λ b. cond b (claimed i) (tree_of d i)) comes,
      wave_there app d h same shaped i there
          ∙ ap (λ b. cond b (record { phase = Normal; session = 0 }) (wave_of d i)) comes,
      local_there app d h same shaped i there ∙ ap (λ b. cond b (app.start h i) (local_of app d i)) comes,
    )
