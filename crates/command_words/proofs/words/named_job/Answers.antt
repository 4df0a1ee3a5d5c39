use Rattle.std.proofs.Common.{Some, ap, codes, sym, ◌∙◌}
use Rattle.clap.specs.Words.{found_of, rows_of}
use Rattle.clap.proofs.WalkLemmas.{first_value-rows}
use Rattle.command_words.proofs.JobValues.{drive_of, verify_of}
use Rattle.command_words.proofs.words.named_job.Goals as goal

pub verify_words_of-requires : goal.verify_words_of-requires
verify_words_of-requires c =
    verify_of c.args.name.now (rows_of (found_of c.args.values.now)) c.requires c.in-verify.is

pub drive_words_of-requires : goal.drive_words_of-requires
drive_words_of-requires c = drive_of c.args.name.now (rows_of (found_of c.args.values.now)) c.requires c.in-drive.is

pub returns-in-explain : goal.returns-in-explain
returns-in-explain c = (
  ap Some c.in-explain.is,
  sym (first_value-rows (found_of c.args.values.now) (codes "WORD")) ∙ sym c.get_str.ensures,
)
