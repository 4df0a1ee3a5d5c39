use Rattle.std.proofs.Common.{◌≡◌, ◌∙◌, [], Err, map, sym, subst}
use Rattle.clap.specs.Words.{HasKind, app_of, fault_of, subcommand_of, subcommand_rows_of}
use Rattle.command_words.specs.Faults.{lacks_history}
use Rattle.command_words.specs.Words.{AskedBy, HasJob, program}
use Rattle.command_words.proofs.Jobs.{fault_is}
use Rattle.command_words.proofs.MissingHistory.{first_kinds, lack_kinds, no_kinds, same_lack}
use Rattle.command_words.proofs.Subcommands.{faults_are, found_is, has_job}
use Rattle.command_words.proofs.words.read_words.Goals as goal

pub job_of-job-requires : goal.job_of-job-requires
job_of-job-requires g c =
    let words = map g.S.AsStr.text c.args.words.now in
    let app = app_of c.in_ok-command_line.field-0 in
    let taken = faults_are app words (λ k. k ≡ []) c.in_ok-command_line.ensures c.in_ok-matches.ensures.kinds in
    let found =
    found_is app words _ (subcommand_rows_of c.in_ok-matches.matches) c.in_ok-command_line.ensures
    c.in_ok-matches.ensures.matches in
    subst HasJob (sym found) (has_job words taken)

pub returns-in_err-matches-clause-fault : goal.returns-in_err-matches-clause-fault
returns-in_err-matches-clause-fault g c =
    let words = map g.S.AsStr.text c.args.words.now in
    let app = app_of c.in_ok-command_line.field-0 in
    let kind =
    faults_are app words (λ k. HasKind k c.in_err-matches.field-0.0) c.in_ok-command_line.ensures
    c.in_err-matches.ensures.kinds in
    fault_is words c.in_err-matches.field-0.0 _ (first_kinds (fault_of program words) _ c.in_err-matches.field-0.0 kind)
    c.from_residual-in_err-matches.ensures.1

pub returns-then-is_without_history-clause-fault : goal.returns-then-is_without_history-clause-fault
returns-then-is_without_history-clause-fault g c =
    let words = map g.S.AsStr.text c.args.words.now in
    let app = app_of c.in_ok-command_line.field-0 in
    let taken = faults_are app words (λ k. k ≡ []) c.in_ok-command_line.ensures c.in_ok-matches.ensures.kinds in
    let found =
    found_is app words _ (subcommand_rows_of c.in_ok-matches.matches) c.in_ok-command_line.ensures
    c.in_ok-matches.ensures.matches in
    let asked : AskedBy (subcommand_of program words) c.job_of-job.result =
    subst (λ f. AskedBy f c.job_of-job.result) found c.job_of-job.ensures in
    let lacks =
    sym (same_lack (subcommand_of program words) c.job_of-job.result asked) ∙ sym c.is_without_history.ensures
    ∙ c.if-is_without_history.true in
    fault_is words c.in_ok-error.error (Err c.from.result)
    (lack_kinds (fault_of program words) (lacks_history (subcommand_of program words)) c.in_ok-error.error taken lacks
    c.in_ok-error.ensures) c.from.ensures

pub returns-clause-taken : goal.returns-clause-taken
returns-clause-taken g c =
    let words = map g.S.AsStr.text c.args.words.now in
    let app = app_of c.in_ok-command_line.field-0 in
    let taken = faults_are app words (λ k. k ≡ []) c.in_ok-command_line.ensures c.in_ok-matches.ensures.kinds in
    let found =
    found_is app words _ (subcommand_rows_of c.in_ok-matches.matches) c.in_ok-command_line.ensures
    c.in_ok-matches.ensures.matches in
    let asked : AskedBy (subcommand_of program words) c.job_of-job.result =
    subst (λ f. AskedBy f c.job_of-job.result) found c.job_of-job.ensures in
    let lacks =
    sym (same_lack (subcommand_of program words) c.job_of-job.result asked) ∙ sym c.is_without_history.ensures
    ∙ c.if-is_without_history.false in
    no_kinds (fault_of program words) (lacks_history (subcommand_of program words)) taken lacks

pub returns-clause-job : goal.returns-clause-job
returns-clause-job g c =
    let words = map g.S.AsStr.text c.args.words.now in
    let app = app_of c.in_ok-command_line.field-0 in
    let found =
    found_is app words _ (subcommand_rows_of c.in_ok-matches.matches) c.in_ok-command_line.ensures
    c.in_ok-matches.ensures.matches in
    subst (λ f. AskedBy f c.job_of-job.result) found c.job_of-job.ensures
