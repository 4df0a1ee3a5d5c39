use Rattle.std.specs.Box.{box_value}
use Rattle.clap.specs.Words.{found_of, rows_of}
use Rattle.clap.specs.declared.parser.matches.ArgMatches.TheViews.{out-ArgMatches, out-SubCommand}
use Rattle.command_words.proofs.Jobs.{met_rows}
use Rattle.command_words.proofs.words.job_of.Goals as goal

pub named_job-requires : goal.named_job-requires
named_job-requires c =
    met_rows (λ b. (out-SubCommand (box_value b)).name.now) (λ b. rows_of (found_of (out-SubCommand (box_value b)).matches))
    c.in-Some.name.now (rows_of (found_of c.in-Some.values.now)) (out-ArgMatches c.args.matches.now).subcommand
    c.in-Some.ensures.name c.in-Some.ensures.rows c.requires
