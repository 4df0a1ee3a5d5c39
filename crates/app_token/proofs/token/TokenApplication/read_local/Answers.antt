use Rattle.app_interface.proofs.OneText.{none_is, read_is}
use Rattle.app_token.specs.LawsOfText.{one_token_text}
use Rattle.app_token.proofs.token.TokenApplication.read_local.Goals as goal

pub returns-clause-ok : goal.returns-clause-ok
returns-clause-ok c =
    read_is one_token_text c.args.bytes.now c.read_local.result c.read_local.ensures.local c.read_local.ensures.ok

pub returns-clause-bad : goal.returns-clause-bad
returns-clause-bad c = λ refused. none_is one_token_text c.args.bytes.now (c.read_local.ensures.bad refused)
