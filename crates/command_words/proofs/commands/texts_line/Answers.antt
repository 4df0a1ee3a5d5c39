use Rattle.command_words.proofs.commands.texts_line.Goals as goal

pub returns : goal.returns
returns c =
    let one = c.with_command-line.ensures _ _ c.scripts_line.ensures c.verify_words.ensures in
    let two = c.with_command-line-2.ensures _ _ one c.picture_words.ensures in
    c.with_command.ensures _ _ two c.page_words.ensures
