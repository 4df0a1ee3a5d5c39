-- The values of the subcommand `explore`, in words in which clap finds no fault.
use Rattle.std.proofs.Common.{List, [], codes, false, refl, inl, inr}
use Rattle.std.specs.List.{slice_index_or}
use Rattle.clap.specs.Words.{Row, Rule, Shape, Text, built, new_rule}
use Rattle.clap.specs.Simple.{rows_at}
use Rattle.clap.specs.Takes.{is_given}
use Rattle.clap.specs.ValueTests.{accepts}
use Rattle.clap.specs.Faults.{values_fault}
use Rattle.clap.specs.declared.builder.value_parser.ValueParser.TheVariants.{Bool as Flags, Unsigned}
use Rattle.clap.specs.declared.error.ErrorKind.TheVariants.{MissingRequiredArgument}
use Rattle.command_words.specs.Words.{HasExplore}
use Rattle.command_words.specs.Words.{drive_command, explain_command, explore_command, page_command, plan_command}
use Rattle.command_words.specs.Words.{picture_command}
use Rattle.command_words.specs.Words.{program, record_command, session_command, tables_command, texts_command}
use Rattle.command_words.specs.Words.{threads_command, topology_command, verify_command, replay_command, check_command}
use Rattle.command_words.proofs.PathRows.{AllFit, TakesWords, checked, or_else-nil, rows_taken}
use Rattle.command_words.proofs.Values.{IsOfFlags, IsOfNumbers, flag_found, is_accepted, number_or_none, one_given}
use Rattle.command_words.proofs.Values.{text_found}

abbrev pub the_explore : Shape
the_explore = slice_index_or (built program).subs 3 explore_command.top

-- the rows of the words after the subcommand
abbrev rows_of_words : Shape → List Text → List Row
rows_of_words s words = (rows_at s words).1

explore_fit : AllFit the_explore.rules the_explore.rules
unfolding program plan_command record_command threads_command drive_command topology_command explain_command texts_command
    tables_command session_command page_command picture_command explore_command verify_command replay_command check_command
explore_fit = (
  inl (refl, refl, refl, refl),
  (
    inl (refl, refl, refl, refl),
    (
      inl (refl, refl, refl, refl),
      (
        inr (inr (refl, refl, refl, refl)),
        (
          inl (refl, refl, refl, refl),
          (inl (refl, refl, refl, refl), (inl (refl, refl, refl, refl), (inr (inl (refl, refl)), tt))),
        ),
      ),
    ),
  ),
)

abbrev the_acts : Rule
the_acts = slice_index_or the_explore.rules 3 (new_rule [])

abbrev the_most : Rule
the_most = slice_index_or the_explore.rules 4 (new_rule [])

acts_are_flags : IsOfFlags the_acts
unfolding program plan_command record_command threads_command drive_command topology_command explain_command texts_command
    tables_command session_command page_command picture_command explore_command verify_command replay_command check_command
acts_are_flags = record {
  passes = λ v vs e. is_accepted (accepts false Flags v) _ (or_else-nil _ (values_fault the_acts vs) e).0;
  reading = refl;
}

most_are_numbers : IsOfNumbers 1 100000000 the_most
unfolding program plan_command record_command threads_command drive_command topology_command explain_command texts_command
    tables_command session_command page_command picture_command explore_command verify_command replay_command check_command
most_are_numbers = record {
  passes =
      λ v vs e. is_accepted (accepts false (Unsigned 1 100000000) v) _
      (or_else-nil _ (values_fault the_most vs) e).0;
  reading = refl;
}

-- where clap finds no fault in the words, they have a topology, and what they say of the flag and the number can be read
pub has_explore : (words : List Text) → TakesWords the_explore words → HasExplore (rows_of_words the_explore words)
unfolding program plan_command record_command threads_command drive_command topology_command explain_command texts_command
    tables_command session_command page_command picture_command explore_command verify_command replay_command check_command
has_explore words e =
    let c = the_explore.rules in
    let rows = rows_of_words the_explore words in
    let taken = rows_taken the_explore explore_fit words e in (
      text_found c (codes "TOPOLOGY") _ rows refl taken
          (one_given (is_given (codes "TOPOLOGY") rows) MissingRequiredArgument (checked the_explore words e)),
      flag_found c (codes "acts") the_acts rows acts_are_flags refl taken,
      number_or_none 1 100000000 c (codes "most") the_most rows most_are_numbers refl taken,
    )
