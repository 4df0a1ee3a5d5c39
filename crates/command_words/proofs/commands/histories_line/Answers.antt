use Rattle.command_words.proofs.commands.histories_line.Goals as goal

pub returns : goal.returns
returns c =
    let one = c.with_command-line.ensures _ _ c.texts_line.ensures c.record_words.ensures in
    let two = c.with_command-line-2.ensures _ _ one c.threads_words.ensures in
    c.with_command.ensures _ _ two c.drive_words.ensures
