-- The values of the subcommands `replay` and `check`, in words in which clap finds no fault.
use Rattle.std.proofs.Common.{List, [], codes, false, refl, inl, inr}
use Rattle.std.specs.List.{slice_index_or}
use Rattle.clap.specs.Words.{Row, Rule, Shape, Text, built, new_rule}
use Rattle.clap.specs.Simple.{rows_at}
use Rattle.clap.specs.Takes.{is_given}
use Rattle.clap.specs.ValueTests.{accepts}
use Rattle.clap.specs.Faults.{values_fault}
use Rattle.clap.specs.declared.builder.value_parser.ValueParser.TheVariants.{Bool as Flags}
use Rattle.clap.specs.declared.error.ErrorKind.TheVariants.{MissingRequiredArgument}
use Rattle.command_words.specs.Words.{HasCheck, HasReplay, check_command}
use Rattle.command_words.specs.Words.{drive_command, explain_command, explore_command, page_command, plan_command}
use Rattle.command_words.specs.Words.{picture_command}
use Rattle.command_words.specs.Words.{program, record_command, session_command, tables_command, texts_command}
use Rattle.command_words.specs.Words.{replay_command, threads_command, topology_command, verify_command}
use Rattle.command_words.proofs.PathRows.{AllFit, TakesWords, checked, or_else-nil, rows_taken}
use Rattle.command_words.proofs.Values.{IsOfFlags, both_given, flag_found, is_accepted, text_found}

abbrev pub the_replay : Shape
the_replay = slice_index_or (built program).subs 0 replay_command.top

-- the rows of the words after the subcommand
abbrev rows_of_words : Shape → List Text → List Row
rows_of_words s words = (rows_at s words).1

replay_fit : AllFit the_replay.rules the_replay.rules
unfolding program plan_command record_command threads_command drive_command topology_command explain_command texts_command
    tables_command session_command page_command picture_command explore_command verify_command replay_command check_command
replay_fit = (
  inl (refl, refl, refl, refl),
  (
    inl (refl, refl, refl, refl),
    (
      inl (refl, refl, refl, refl),
      (
        inr (inr (refl, refl, refl, refl)),
        (inr (inr (refl, refl, refl, refl)), (inr (inl (refl, refl)), tt)),
      ),
    ),
  ),
)

abbrev the_number : Rule
the_number = slice_index_or the_replay.rules 3 (new_rule [])

abbrev the_strict : Rule
the_strict = slice_index_or the_replay.rules 4 (new_rule [])

numbers_are_flags : IsOfFlags the_number
unfolding program plan_command record_command threads_command drive_command topology_command explain_command texts_command
    tables_command session_command page_command picture_command explore_command verify_command replay_command check_command
numbers_are_flags = record {
  passes = λ v vs e. is_accepted (accepts false Flags v) _ (or_else-nil _ (values_fault the_number vs) e).0;
  reading = refl;
}

stricts_are_flags : IsOfFlags the_strict
unfolding program plan_command record_command threads_command drive_command topology_command explain_command texts_command
    tables_command session_command page_command picture_command explore_command verify_command replay_command check_command
stricts_are_flags = record {
  passes = λ v vs e. is_accepted (accepts false Flags v) _ (or_else-nil _ (values_fault the_strict vs) e).0;
  reading = refl;
}

-- where clap finds no fault in the words, they have a topology and a script, and what they say of the flags can be read
pub has_replay : (words : List Text) → TakesWords the_replay words → HasReplay (rows_of_words the_replay words)
unfolding program plan_command record_command threads_command drive_command topology_command explain_command texts_command
    tables_command session_command page_command picture_command explore_command verify_command replay_command check_command
has_replay words e =
    let rows = rows_of_words the_replay words in
    let given =
    both_given (is_given (codes "TOPOLOGY") rows) (is_given (codes "SCRIPT") rows) MissingRequiredArgument
    (checked the_replay words e) in
    let taken = rows_taken the_replay replay_fit words e in (
      (
        text_found the_replay.rules (codes "TOPOLOGY") _ rows refl taken given.0,
        text_found the_replay.rules (codes "SCRIPT") _ rows refl taken given.1,
      ),
      flag_found the_replay.rules (codes "number") the_number rows numbers_are_flags refl taken,
      flag_found the_replay.rules (codes "strict") the_strict rows stricts_are_flags refl taken,
    )

-- ---- the subcommand `check`

abbrev pub the_check : Shape
the_check = slice_index_or (built program).subs 1 check_command.top

check_fit : AllFit the_check.rules the_check.rules
unfolding program plan_command record_command threads_command drive_command topology_command explain_command texts_command
    tables_command session_command page_command picture_command explore_command verify_command replay_command check_command
check_fit = (
  inl (refl, refl, refl, refl),
  (
    inl (refl, refl, refl, refl),
    (
      inl (refl, refl, refl, refl),
      (
        inr (inr (refl, refl, refl, refl)),
        (inr (inr (refl, refl, refl, refl)), (inr (inl (refl, refl)), tt)),
      ),
    ),
  ),
)

abbrev the_repair : Rule
the_repair = slice_index_or the_check.rules 3 (new_rule [])

repairs_are_flags : IsOfFlags the_repair
unfolding program plan_command record_command threads_command drive_command topology_command explain_command texts_command
    tables_command session_command page_command picture_command explore_command verify_command replay_command check_command
repairs_are_flags = record {
  passes = λ v vs e. is_accepted (accepts false Flags v) _ (or_else-nil _ (values_fault the_repair vs) e).0;
  reading = refl;
}

abbrev the_whole : Rule
the_whole = slice_index_or the_check.rules 4 (new_rule [])

wholes_are_flags : IsOfFlags the_whole
unfolding program plan_command record_command threads_command drive_command topology_command explain_command texts_command
    tables_command session_command page_command picture_command explore_command verify_command replay_command check_command
wholes_are_flags = record {
  passes = λ v vs e. is_accepted (accepts false Flags v) _ (or_else-nil _ (values_fault the_whole vs) e).0;
  reading = refl;
}

-- where clap finds no fault in the words, they have a topology and a script, and what they say of the flags can be read
pub has_check : (words : List Text) → TakesWords the_check words → HasCheck (rows_of_words the_check words)
unfolding program plan_command record_command threads_command drive_command topology_command explain_command texts_command
    tables_command session_command page_command picture_command explore_command verify_command replay_command check_command
has_check words e =
    let rows = rows_of_words the_check words in
    let given =
    both_given (is_given (codes "TOPOLOGY") rows) (is_given (codes "SCRIPT") rows) MissingRequiredArgument
    (checked the_check words e) in
    let taken = rows_taken the_check check_fit words e in (
      (
        text_found the_check.rules (codes "TOPOLOGY") _ rows refl taken given.0,
        text_found the_check.rules (codes "SCRIPT") _ rows refl taken given.1,
      ),
      flag_found the_check.rules (codes "repair") the_repair rows repairs_are_flags refl taken,
      flag_found the_check.rules (codes "whole") the_whole rows wholes_are_flags refl taken,
    )
