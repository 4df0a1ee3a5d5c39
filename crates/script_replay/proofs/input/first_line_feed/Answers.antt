use Rattle.script_replay.proofs.TextLines.{first_place}
use Rattle.script_replay.proofs.input.first_line_feed.Goals as goal

pub returns : goal.returns
returns c = first_place c.args.text.now c.memchr.result c.memchr.ensures
