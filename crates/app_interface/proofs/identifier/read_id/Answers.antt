use Rattle.app_interface.proofs.IdTexts.{no_id}
use Rattle.app_interface.proofs.identifier.read_id.Goals as goal

pub returns-clause-only : goal.returns-clause-only
returns-clause-only c =
    no_id c.new.result c.args.text.now c.in_ok-read_number.field-0 c.in_ok-read_number.ensures.small
    c.in_ok-read_number.ensures.found c.new.ensures.valid
