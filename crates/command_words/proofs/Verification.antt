-- The values of the subcommand `verify`, in words in which clap finds no fault.
use Rattle.std.proofs.Common.{List, [], codes, false, refl, inl, inr}
use Rattle.std.specs.List.{slice_index_or}
use Rattle.clap.specs.Words.{Row, Rule, Shape, Text, built, new_rule}
use Rattle.clap.specs.Simple.{rows_at}
use Rattle.clap.specs.Takes.{is_given}
use Rattle.clap.specs.ValueTests.{accepts}
use Rattle.clap.specs.Faults.{values_fault}
use Rattle.clap.specs.declared.builder.value_parser.ValueParser.TheVariants.{Bool as Flags, Unsigned}
use Rattle.clap.specs.declared.error.ErrorKind.TheVariants.{MissingRequiredArgument}
use Rattle.command_words.specs.Words.{HasVerify}
use Rattle.command_words.specs.Words.{drive_command, explain_command, explore_command, page_command, plan_command}
use Rattle.command_words.specs.Words.{picture_command}
use Rattle.command_words.specs.Words.{program, record_command, session_command, tables_command, texts_command}
use Rattle.command_words.specs.Words.{threads_command, topology_command, verify_command, replay_command, check_command}
use Rattle.command_words.proofs.PathRows.{AllFit, TakesWords, checked, or_else-nil, rows_taken}
use Rattle.command_words.proofs.Values.{IsOfFlags, IsOfNumbers, both_given, flag_found, is_accepted, number_or_none}
use Rattle.command_words.proofs.Values.{text_found}

abbrev pub the_verify : Shape
the_verify = slice_index_or (built program).subs 5 verify_command.top

-- the rows of the words after the subcommand
abbrev rows_of_words : Shape → List Text → List Row
rows_of_words s words = (rows_at s words).1

verify_fit : AllFit the_verify.rules the_verify.rules
unfolding program plan_command record_command threads_command drive_command topology_command explain_command texts_command
    tables_command session_command page_command picture_command explore_command verify_command replay_command check_command
verify_fit = (
  inl (refl, refl, refl, refl),
  (
    inl (refl, refl, refl, refl),
    (
      inl (refl, refl, refl, refl),
      (inr (inr (refl, refl, refl, refl)), (inl (refl, refl, refl, refl), (inr (inl (refl, refl)), tt))),
    ),
  ),
)

abbrev the_why : Rule
the_why = slice_index_or the_verify.rules 3 (new_rule [])

whys_are_flags : IsOfFlags the_why
unfolding program plan_command record_command threads_command drive_command topology_command explain_command texts_command
    tables_command session_command page_command picture_command explore_command verify_command replay_command check_command
whys_are_flags = record {
  passes = λ v vs e. is_accepted (accepts false Flags v) _ (or_else-nil _ (values_fault the_why vs) e).0;
  reading = refl;
}

abbrev the_at : Rule
the_at = slice_index_or the_verify.rules 4 (new_rule [])

places_are_numbers : IsOfNumbers 0 1000000 the_at
unfolding program plan_command record_command threads_command drive_command topology_command explain_command texts_command
    tables_command session_command page_command picture_command explore_command verify_command replay_command check_command
places_are_numbers = record {
  passes =
      λ v vs e. is_accepted (accepts false (Unsigned 0 1000000) v) _ (or_else-nil _ (values_fault the_at vs) e).0;
  reading = refl;
}

-- where clap finds no fault in the words, they have a topology and a history, and what they say of the flag and the number
-- can be read
pub has_verify : (words : List Text) → TakesWords the_verify words → HasVerify (rows_of_words the_verify words)
unfolding program plan_command record_command threads_command drive_command topology_command explain_command texts_command
    tables_command session_command page_command picture_command explore_command verify_command replay_command check_command
has_verify words e =
    let rows = rows_of_words the_verify words in
    let given =
    both_given (is_given (codes "TOPOLOGY") rows) (is_given (codes "HISTORY") rows) MissingRequiredArgument
    (checked the_verify words e) in
    let taken = rows_taken the_verify verify_fit words e in (
      (
        text_found the_verify.rules (codes "TOPOLOGY") _ rows refl taken given.0,
        text_found the_verify.rules (codes "HISTORY") _ rows refl taken given.1,
      ),
      flag_found the_verify.rules (codes "why") the_why rows whys_are_flags refl taken,
      number_or_none 0 1000000 the_verify.rules (codes "at") the_at rows places_are_numbers refl taken,
    )
