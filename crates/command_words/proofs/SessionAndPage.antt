-- The values of the subcommands `session`, `page` and `picture`, in words in which clap finds no fault.
use Rattle.std.proofs.Common.{List, [], codes, false, refl, inl, inr}
use Rattle.std.specs.List.{slice_index_or}
use Rattle.clap.specs.Words.{Row, Rule, Shape, Text, built, new_rule}
use Rattle.clap.specs.Simple.{rows_at}
use Rattle.clap.specs.Takes.{is_given}
use Rattle.clap.specs.ValueTests.{accepts}
use Rattle.clap.specs.Faults.{values_fault}
use Rattle.clap.specs.declared.builder.value_parser.ValueParser.TheVariants.{Bool as Flags}
use Rattle.clap.specs.declared.error.ErrorKind.TheVariants.{MissingRequiredArgument}
use Rattle.command_words.specs.Words.{HasSession, HasTexts}
use Rattle.command_words.specs.Words.{drive_command, explain_command, explore_command, page_command, plan_command}
use Rattle.command_words.specs.Words.{picture_command}
use Rattle.command_words.specs.Words.{program}
use Rattle.command_words.specs.Words.{record_command, session_command, tables_command, texts_command}
use Rattle.command_words.specs.Words.{threads_command, topology_command, verify_command, replay_command, check_command}
use Rattle.command_words.proofs.PathRows.{AllFit, TakesWords, checked, or_else-nil, rows_taken}
use Rattle.command_words.proofs.Values.{IsOfFlags, both_given, flag_found, is_accepted, one_given, text_found}

abbrev pub the_session : Shape
the_session = slice_index_or (built program).subs 4 session_command.top

abbrev pub the_page : Shape
the_page = slice_index_or (built program).subs 7 page_command.top

abbrev pub the_picture : Shape
the_picture = slice_index_or (built program).subs 6 picture_command.top

-- the rows of the words after the subcommand
abbrev rows_of_words : Shape → List Text → List Row
rows_of_words s words = (rows_at s words).1

-- ---- the subcommand `session`

session_fit : AllFit the_session.rules the_session.rules
unfolding program plan_command record_command threads_command drive_command topology_command explain_command texts_command
    tables_command session_command page_command picture_command explore_command verify_command replay_command check_command
session_fit = (
  inl (refl, refl, refl, refl),
  (
    inl (refl, refl, refl, refl),
    (
      inl (refl, refl, refl, refl),
      (inr (inr (refl, refl, refl, refl)), (inr (inl (refl, refl)), tt)),
    ),
  ),
)

abbrev the_sync : Rule
the_sync = slice_index_or the_session.rules 3 (new_rule [])

syncs_are_flags : IsOfFlags the_sync
unfolding program plan_command record_command threads_command drive_command topology_command explain_command texts_command
    tables_command session_command page_command picture_command explore_command verify_command replay_command check_command
syncs_are_flags = record {
  passes = λ v vs e. is_accepted (accepts false Flags v) _ (or_else-nil _ (values_fault the_sync vs) e).0;
  reading = refl;
}

-- where clap finds no fault in the words, they have a topology, and what they say of the flag can be read
pub has_session : (words : List Text) → TakesWords the_session words → HasSession (rows_of_words the_session words)
unfolding program plan_command record_command threads_command drive_command topology_command explain_command texts_command
    tables_command session_command page_command picture_command explore_command verify_command replay_command check_command
has_session words e =
    let rows = rows_of_words the_session words in
    let taken = rows_taken the_session session_fit words e in (
      text_found the_session.rules (codes "TOPOLOGY") _ rows refl taken
          (one_given (is_given (codes "TOPOLOGY") rows) MissingRequiredArgument (checked the_session words e)),
      flag_found the_session.rules (codes "no-sync") the_sync rows syncs_are_flags refl taken,
    )

-- ---- the subcommand `page`

page_fit : AllFit the_page.rules the_page.rules
unfolding program plan_command record_command threads_command drive_command topology_command explain_command texts_command
    tables_command session_command page_command picture_command explore_command verify_command replay_command check_command
page_fit = (
  inl (refl, refl, refl, refl),
  (
    inl (refl, refl, refl, refl),
    (
      inl (refl, refl, refl, refl),
      (inl (refl, refl, refl, refl), (inr (inl (refl, refl)), tt)),
    ),
  ),
)

-- where clap finds no fault in the words, they have a topology and a history
pub has_page : (words : List Text) → TakesWords the_page words → HasTexts (codes "HISTORY") (rows_of_words the_page words)
unfolding program plan_command record_command threads_command drive_command topology_command explain_command texts_command
    tables_command session_command page_command picture_command explore_command verify_command replay_command check_command
has_page words e =
    let rows = rows_of_words the_page words in
    let given =
    both_given (is_given (codes "TOPOLOGY") rows) (is_given (codes "HISTORY") rows) MissingRequiredArgument
    (checked the_page words e) in
    let taken = rows_taken the_page page_fit words e in (
      text_found the_page.rules (codes "TOPOLOGY") _ rows refl taken given.0,
      text_found the_page.rules (codes "HISTORY") _ rows refl taken given.1,
    )

-- ---- the subcommand `picture`

picture_fit : AllFit the_picture.rules the_picture.rules
unfolding program plan_command record_command threads_command drive_command topology_command explain_command texts_command
    tables_command session_command page_command picture_command explore_command verify_command replay_command check_command
picture_fit = (
  inl (refl, refl, refl, refl),
  (
    inl (refl, refl, refl, refl),
    (
      inl (refl, refl, refl, refl),
      (inl (refl, refl, refl, refl), (inl (refl, refl, refl, refl), (inr (inl (refl, refl)), tt))),
    ),
  ),
)

-- where clap finds no fault in the words, they have a topology and a history
pub has_picture : (words : List Text) → TakesWords the_picture words → HasTexts (codes "HISTORY") (rows_of_words the_picture words)
unfolding program plan_command record_command threads_command drive_command topology_command explain_command texts_command
    tables_command session_command page_command picture_command explore_command verify_command replay_command check_command
has_picture words e =
    let rows = rows_of_words the_picture words in
    let given =
    both_given (is_given (codes "TOPOLOGY") rows) (is_given (codes "HISTORY") rows) MissingRequiredArgument
    (checked the_picture words e) in
    let taken = rows_taken the_picture picture_fit words e in (
      text_found the_picture.rules (codes "TOPOLOGY") _ rows refl taken given.0,
      text_found the_picture.rules (codes "HISTORY") _ rows refl taken given.1,
    )
