use Rattle.std.proofs.Common.{refl, ap, ◌∙◌, ◌≡◌, []}
use Rattle.std.specs.Prelude.{slice_get}
use Rattle.action_tables.proofs.EnabledSets.{with_rows, with_rows-enabled}
use Rattle.app_token.specs.TokenLinks.{token_links}
use Rattle.app_token.proofs.links.link_ok.Goals as goal

pub returns : goal.returns
returns c =
    let rows = token_links c.args.id c.args.other c.args.own.now c.args.theirs.now in
    let chain : c.enabled_cases.result ≡ with_rows [] rows = cc in
    c.first.ensures ∙ ap (λ ns. slice_get ns 0) (chain ∙ with_rows-enabled rows refl)
