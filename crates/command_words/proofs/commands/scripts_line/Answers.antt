use Rattle.command_words.proofs.commands.scripts_line.Goals as goal

pub returns : goal.returns
returns c =
    let one = c.with_command-line.ensures _ _ c.program_words.ensures c.replay_words.ensures in
    let two = c.with_command-line-2.ensures _ _ one c.check_words.ensures in
    let three = c.with_command-line-3.ensures _ _ two c.plan_words.ensures in
    let four = c.with_command-line-4.ensures _ _ three c.explore_words.ensures in
    c.with_command.ensures _ _ four c.session_words.ensures
