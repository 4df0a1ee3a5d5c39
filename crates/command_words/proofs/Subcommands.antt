-- The subcommand of words in which clap finds no fault is one of the program's own, with its values.
use Rattle.std.proofs.Common.{◌≡◌, ◌∙◌, ◌||◌, ℕ, Bool, cond, true, false, refl, sym, ap, subst}
use Rattle.std.proofs.Common.{List, [], codes, Option, Some, None, inl, inr, true≢false}
use Rattle.std.specs.List.{slice_index_or}
use Rattle.std.specs.Option.{option_map_or}
use Rattle.std.specs.Str.{bytes_eq}
use Rattle.std.specs.Prelude.{option_map}
use Rattle.std.proofs.lemmas.Slice.Eq.{bytes_eq-Decides}
use Rattle.clap.specs.Words.{App, Kinds, Row, Rule, Shape, Text, built, fault_of, is_simple}
use Rattle.clap.specs.Words.{is_simple_and_free, new_rule, subcommand_of}
use Rattle.clap.specs.Simple.{argument_words, entered, label_of, names_of, rows_at}
use Rattle.clap.specs.Takes.{is_given}
use Rattle.clap.specs.ValueTests.{accepts}
use Rattle.clap.specs.Faults.{entered_fault, level_fault, values_fault}
use Rattle.clap.specs.Faults.{walk_fault}
use Rattle.clap.specs.declared.builder.value_parser.ValueParser.TheVariants.{Unsigned}
use Rattle.clap.specs.declared.error.ErrorKind.TheVariants.{MissingRequiredArgument}
use Rattle.clap.specs.Walk.{answers_to}
use Rattle.clap.specs.Walk.{nothing_held}
use Rattle.clap.specs.Walk.{walk}
use Rattle.clap.specs.Walk.{walk_from}
use Rattle.clap.proofs.OnLiterals.{clap_on_literals}
use Rattle.command_words.specs.Words.{HasDrive, HasJob, HasPlan, HasRecord, HasShape, HasThreads}
use Rattle.command_words.specs.Words.{drive_command, explain_command, explore_command}
use Rattle.command_words.specs.Words.{page_command, picture_command, plan_command, program, record_command}
use Rattle.command_words.specs.Words.{session_command}
use Rattle.command_words.specs.Words.{tables_command, texts_command, threads_command, topology_command, verify_command, replay_command, check_command}
use Rattle.command_words.proofs.NoHelp.{IsNoHelp, walk-stop}
use Rattle.command_words.proofs.PathRows.{AllFit, TakesWords, checked, or_else-nil}
use Rattle.command_words.proofs.PathRows.{rows_taken}
use Rattle.command_words.proofs.Exploring.{has_explore, the_explore}
use Rattle.command_words.proofs.SessionAndPage.{has_page, has_picture, has_session, the_page, the_picture, the_session}
use Rattle.command_words.proofs.Replaying.{has_check, has_replay, the_check, the_replay}
use Rattle.command_words.proofs.Verification.{has_verify, the_verify}
use Rattle.command_words.proofs.Values.{IsOfNumbers, both_given, four_given, is_accepted, number_found, number_or_none}
use Rattle.command_words.proofs.Values.{one_given, text_found, three_given}

-- ---- the program

abbrev the_plan : Shape
the_plan = slice_index_or (built program).subs 2 plan_command.top

abbrev the_record : Shape
the_record = slice_index_or (built program).subs 8 record_command.top

abbrev the_threads : Shape
the_threads = slice_index_or (built program).subs 9 threads_command.top

abbrev the_drive : Shape
the_drive = slice_index_or (built program).subs 10 drive_command.top

abbrev the_topology : Shape
the_topology = slice_index_or (built program).subs 11 topology_command.top

abbrev the_explain : Shape
the_explain = slice_index_or (built program).subs 12 explain_command.top

abbrev the_tables : Shape
the_tables = slice_index_or (built program).subs 13 tables_command.top

abbrev the_help : Shape
the_help = slice_index_or (built program).subs 14 tables_command.top

-- the rows of the words after the subcommand
abbrev rows_of_words : Shape → List Text → List Row
rows_of_words s words = (rows_at s words).1

-- ---- the subcommand `plan`

plan_fit : AllFit the_plan.rules the_plan.rules
unfolding program plan_command record_command threads_command drive_command topology_command explain_command texts_command
    tables_command session_command page_command picture_command explore_command verify_command replay_command check_command
plan_fit = (
  inl (refl, refl, refl, refl),
  (
    inl (refl, refl, refl, refl),
    (inl (refl, refl, refl, refl), (inr (inl (refl, refl)), tt)),
  ),
)

-- where clap finds no fault in the words, they have a topology
has_plan : (words : List Text) → TakesWords the_plan words → HasPlan (rows_of_words the_plan words)
unfolding program plan_command record_command threads_command drive_command topology_command explain_command texts_command
    tables_command session_command page_command picture_command explore_command verify_command replay_command check_command
has_plan words e =
    let rows = rows_of_words the_plan words in
    text_found the_plan.rules (codes "TOPOLOGY") _ rows refl (rows_taken the_plan plan_fit words e)
    (one_given (is_given (codes "TOPOLOGY") rows) MissingRequiredArgument (checked the_plan words e))

-- ---- the subcommand `record`

record_fit : AllFit the_record.rules the_record.rules
unfolding program plan_command record_command threads_command drive_command topology_command explain_command texts_command
    tables_command session_command page_command picture_command explore_command verify_command replay_command check_command
record_fit = (
  inl (refl, refl, refl, refl),
  (
    inl (refl, refl, refl, refl),
    (
      inl (refl, refl, refl, refl),
      (inl (refl, refl, refl, refl), (inr (inl (refl, refl)), tt)),
    ),
  ),
)

-- where clap finds no fault in the words, they have a value for each argument
has_record : (words : List Text) → TakesWords the_record words → HasRecord (rows_of_words the_record words)
unfolding program plan_command record_command threads_command drive_command topology_command explain_command texts_command
    tables_command session_command page_command picture_command explore_command verify_command replay_command check_command
has_record words e =
    let c = the_record.rules in
    let rows = rows_of_words the_record words in
    let given =
    three_given (is_given (codes "TOPOLOGY") rows) (is_given (codes "SCRIPT") rows) (is_given (codes "history") rows)
    MissingRequiredArgument (checked the_record words e) in
    let taken = rows_taken the_record record_fit words e in (
      (
        text_found c (codes "TOPOLOGY") _ rows refl taken given.0,
        text_found c (codes "SCRIPT") _ rows refl taken given.1,
      ),
      text_found c (codes "history") _ rows refl taken given.2,
    )

-- ---- the subcommand `threads`

threads_fit : AllFit the_threads.rules the_threads.rules
unfolding program plan_command record_command threads_command drive_command topology_command explain_command texts_command
    tables_command session_command page_command picture_command explore_command verify_command replay_command check_command
threads_fit = (
  inl (refl, refl, refl, refl),
  (
    inl (refl, refl, refl, refl),
    (
      inl (refl, refl, refl, refl),
      (
        inl (refl, refl, refl, refl),
        (
          inl (refl, refl, refl, refl),
          (
            inl (refl, refl, refl, refl),
            (inl (refl, refl, refl, refl), (inr (inl (refl, refl)), tt)),
          ),
        ),
      ),
    ),
  ),
)

abbrev the_turns : Rule
the_turns = slice_index_or the_threads.rules 1 (new_rule [])

turns_are_numbers : IsOfNumbers 1 100000 the_turns
unfolding program plan_command record_command threads_command drive_command topology_command explain_command texts_command
    tables_command session_command page_command picture_command explore_command verify_command replay_command check_command
turns_are_numbers = record {
  passes =
      λ v vs e. is_accepted (accepts false (Unsigned 1 100000) v) _
      (or_else-nil _ (values_fault the_turns vs) e).0;
  reading = refl;
}

abbrev the_select : Rule
the_select = slice_index_or the_threads.rules 3 (new_rule [])

abbrev the_resets : Rule
the_resets = slice_index_or the_threads.rules 4 (new_rule [])

selected_are_numbers : IsOfNumbers 1 65535 the_select
unfolding program plan_command record_command threads_command drive_command topology_command explain_command texts_command
    tables_command session_command page_command picture_command explore_command verify_command replay_command check_command
selected_are_numbers = record {
  passes =
      λ v vs e. is_accepted (accepts false (Unsigned 1 65535) v) _
      (or_else-nil _ (values_fault the_select vs) e).0;
  reading = refl;
}

resets_are_numbers : IsOfNumbers 1 100000 the_resets
unfolding program plan_command record_command threads_command drive_command topology_command explain_command texts_command
    tables_command session_command page_command picture_command explore_command verify_command replay_command check_command
resets_are_numbers = record {
  passes =
      λ v vs e. is_accepted (accepts false (Unsigned 1 100000) v) _
      (or_else-nil _ (values_fault the_resets vs) e).0;
  reading = refl;
}

has_threads : (words : List Text) → TakesWords the_threads words → HasThreads (rows_of_words the_threads words)
unfolding program plan_command record_command threads_command drive_command topology_command explain_command texts_command
    tables_command session_command page_command picture_command explore_command verify_command replay_command check_command
has_threads words e =
    let c = the_threads.rules in
    let rows = rows_of_words the_threads words in
    let given =
    both_given (is_given (codes "TOPOLOGY") rows) (is_given (codes "history") rows) MissingRequiredArgument
    (checked the_threads words e) in
    let taken = rows_taken the_threads threads_fit words e in (
      (
        text_found c (codes "TOPOLOGY") _ rows refl taken given.0,
        text_found c (codes "history") _ rows refl taken given.1,
      ),
      number_or_none 1 100000 c (codes "turns") the_turns rows turns_are_numbers refl taken,
      number_or_none 1 65535 c (codes "select") the_select rows selected_are_numbers refl taken,
      number_or_none 1 100000 c (codes "resets") the_resets rows resets_are_numbers refl taken,
    )

-- ---- the subcommand `drive`

drive_fit : AllFit the_drive.rules the_drive.rules
unfolding program plan_command record_command threads_command drive_command topology_command explain_command texts_command
    tables_command session_command page_command picture_command explore_command verify_command replay_command check_command
drive_fit = (
  inl (refl, refl, refl, refl),
  (
    inl (refl, refl, refl, refl),
    (
      inl (refl, refl, refl, refl),
      (
        inl (refl, refl, refl, refl),
        (
          inl (refl, refl, refl, refl),
          (inl (refl, refl, refl, refl), (inr (inl (refl, refl)), tt)),
        ),
      ),
    ),
  ),
)

abbrev the_steps : Rule
the_steps = slice_index_or the_drive.rules 1 (new_rule [])

abbrev the_drive_seed : Rule
the_drive_seed = slice_index_or the_drive.rules 2 (new_rule [])

abbrev the_faults : Rule
the_faults = slice_index_or the_drive.rules 4 (new_rule [])

steps_are_numbers : IsOfNumbers 1 1000000 the_steps
unfolding program plan_command record_command threads_command drive_command topology_command explain_command texts_command
    tables_command session_command page_command picture_command explore_command verify_command replay_command check_command
steps_are_numbers = record {
  passes =
      λ v vs e. is_accepted (accepts false (Unsigned 1 1000000) v) _
      (or_else-nil _ (values_fault the_steps vs) e).0;
  reading = refl;
}

drive_seeds_are_numbers : IsOfNumbers 0 4294967295 the_drive_seed
unfolding program plan_command record_command threads_command drive_command topology_command explain_command texts_command
    tables_command session_command page_command picture_command explore_command verify_command replay_command check_command
drive_seeds_are_numbers = record {
  passes =
      λ v vs e. is_accepted (accepts false (Unsigned 0 4294967295) v) _
      (or_else-nil _ (values_fault the_drive_seed vs) e).0;
  reading = refl;
}

faults_are_numbers : IsOfNumbers 0 1000 the_faults
unfolding program plan_command record_command threads_command drive_command topology_command explain_command texts_command
    tables_command session_command page_command picture_command explore_command verify_command replay_command check_command
faults_are_numbers = record {
  passes =
      λ v vs e. is_accepted (accepts false (Unsigned 0 1000) v) _
      (or_else-nil _ (values_fault the_faults vs) e).0;
  reading = refl;
}

has_drive : (words : List Text) → TakesWords the_drive words → HasDrive (rows_of_words the_drive words)
unfolding program plan_command record_command threads_command drive_command topology_command explain_command texts_command
    tables_command session_command page_command picture_command explore_command verify_command replay_command check_command
has_drive words e =
    let c = the_drive.rules in
    let rows = rows_of_words the_drive words in
    let given =
    four_given (is_given (codes "TOPOLOGY") rows) (is_given (codes "steps") rows) (is_given (codes "seed") rows)
    (is_given (codes "history") rows) MissingRequiredArgument (checked the_drive words e) in
    let taken = rows_taken the_drive drive_fit words e in (
      (
        text_found c (codes "TOPOLOGY") _ rows refl taken given.0,
        text_found c (codes "history") _ rows refl taken given.3,
      ),
      number_found 1 1000000 c (codes "steps") the_steps rows steps_are_numbers refl taken given.1,
      number_found 0 4294967295 c (codes "seed") the_drive_seed rows drive_seeds_are_numbers refl taken given.2,
      number_or_none 0 1000 c (codes "faults") the_faults rows faults_are_numbers refl taken,
    )

-- ---- the subcommand `topology`

topology_fit : AllFit the_topology.rules the_topology.rules
unfolding program plan_command record_command threads_command drive_command topology_command explain_command texts_command
    tables_command session_command page_command picture_command explore_command verify_command replay_command check_command
topology_fit = (
  inl (refl, refl, refl, refl),
  (
    inl (refl, refl, refl, refl),
    (
      inl (refl, refl, refl, refl),
      (inl (refl, refl, refl, refl), (inr (inl (refl, refl)), tt)),
    ),
  ),
)

abbrev the_nodes : Rule
the_nodes = slice_index_or the_topology.rules 1 (new_rule [])

abbrev the_shape_seed : Rule
the_shape_seed = slice_index_or the_topology.rules 2 (new_rule [])

nodes_are_numbers : IsOfNumbers 1 1024 the_nodes
unfolding program plan_command record_command threads_command drive_command topology_command explain_command texts_command
    tables_command session_command page_command picture_command explore_command verify_command replay_command check_command
nodes_are_numbers = record {
  passes =
      λ v vs e. is_accepted (accepts false (Unsigned 1 1024) v) _
      (or_else-nil _ (values_fault the_nodes vs) e).0;
  reading = refl;
}

shape_seeds_are_numbers : IsOfNumbers 0 4294967295 the_shape_seed
unfolding program plan_command record_command threads_command drive_command topology_command explain_command texts_command
    tables_command session_command page_command picture_command explore_command verify_command replay_command check_command
shape_seeds_are_numbers = record {
  passes =
      λ v vs e. is_accepted (accepts false (Unsigned 0 4294967295) v) _
      (or_else-nil _ (values_fault the_shape_seed vs) e).0;
  reading = refl;
}

has_shape : (words : List Text) → TakesWords the_topology words → HasShape (rows_of_words the_topology words)
unfolding program plan_command record_command threads_command drive_command topology_command explain_command texts_command
    tables_command session_command page_command picture_command explore_command verify_command replay_command check_command
has_shape words e =
    let c = the_topology.rules in
    let rows = rows_of_words the_topology words in
    let given =
    both_given (is_given (codes "SHAPE") rows) (is_given (codes "N") rows) MissingRequiredArgument
    (checked the_topology words e) in
    let taken = rows_taken the_topology topology_fit words e in (
      text_found c (codes "SHAPE") _ rows refl taken given.0,
      number_found 1 1024 c (codes "N") the_nodes rows nodes_are_numbers refl taken given.1,
      number_or_none 0 4294967295 c (codes "seed") the_shape_seed rows shape_seeds_are_numbers refl taken,
    )

-- ---- the job

-- `==` of texts reads both ways
bytes_eq-swap : (xs ys : List ℕ) → bytes_eq xs ys ≡ false → (bytes_eq ys xs || false) ≡ true → ⊥
bytes_eq-swap xs ys differs same =
    true≢false
    (sym ((bytes_eq-Decides xs ys).1 (sym ((bytes_eq-Decides ys xs).0 (go (bytes_eq ys xs) same)))) ∙ differs)
  where
    go : (b : Bool) → (b || false) ≡ true → b ≡ true
    go true e = refl
    go false e = e

abbrev fault_at : List Text → Option Shape → Kinds
fault_at words sub = option_map_or (λ s. level_fault s [] nothing_held words false []) sub []

-- words at which clap finds no fault in the subcommand that was met ask for a job
abbrev AsksJob : List Text → Option Shape → Type 0
AsksJob words sub = fault_at words sub ≡ [] → HasJob (option_map (λ s. rows_at s words) sub)

asks-met : (words : List Text) (b : Bool) (s : Shape) (below : Option Shape) → AsksJob words (Some s)
    → AsksJob words below → AsksJob words (cond b (Some s) below)
asks-met words true s below here there = here
asks-met words false s below here there = there

-- `help` isn't met, and where none is met, the words are the program's own
no_help_met : (p : Text × List Text) → bytes_eq p.0 (codes "help") ≡ false → (h : Bool)
    → answers_to p.0 (label_of the_help) ≡ h → AsksJob p.1 (cond h (Some the_help) None)
unfolding program plan_command record_command threads_command drive_command topology_command explain_command texts_command
    tables_command session_command page_command picture_command explore_command verify_command replay_command check_command
no_help_met p no_help true a = absurd (bytes_eq-swap p.0 (codes "help") no_help a)
no_help_met p no_help false a = λ f. tt

job_at : (stop : Option (Text × List Text)) → IsNoHelp stop → entered_fault (built program) stop ≡ []
    → HasJob (entered (built program) stop)
unfolding program plan_command record_command threads_command drive_command topology_command explain_command texts_command
    tables_command session_command page_command picture_command explore_command verify_command replay_command check_command
job_at None no_help e = tt
job_at (Some p) no_help e =
    asks-met p.1 (answers_to p.0 (label_of the_replay)) the_replay _
    (λ f. inl (inl (refl, has_replay p.1 f)))
    (asks-met p.1 (answers_to p.0 (label_of the_check)) the_check _
    (λ f. inl (inr (refl, has_check p.1 f)))
    (asks-met p.1 (answers_to p.0 (label_of the_plan)) the_plan _
    (λ f. inr (inr (inr (inr (inr (inr (inr (inr (inl (refl, has_plan p.1 f))))))))))
    (asks-met p.1 (answers_to p.0 (label_of the_explore)) the_explore _
    (λ f. inr (inr (inr (inr (inr (inr (inr (inr (inr (inr (inl (refl, has_explore p.1 f))))))))))))
    (asks-met p.1 (answers_to p.0 (label_of the_session)) the_session _
    (λ f. inr (inr (inr (inr (inr (inr (inr (inr (inr (inl (refl, has_session p.1 f)))))))))))
    (asks-met p.1 (answers_to p.0 (label_of the_verify)) the_verify _
    (λ f. inr (inr (inr (inr (inr (inr (inr (inr (inr (inr (inr (inr (refl, has_verify p.1 f)))))))))))))
    (asks-met p.1 (answers_to p.0 (label_of the_picture)) the_picture _
    (λ f. inr (inl (refl, has_picture p.1 f)))
    (asks-met p.1 (answers_to p.0 (label_of the_page)) the_page _
    (λ f. inr (inr (inr (inr (inr (inr (inr (inr (inr (inr (inr (inl (refl, has_page p.1 f)))))))))))))
    (asks-met p.1 (answers_to p.0 (label_of the_record)) the_record _ (λ f. inr (inr (inl (refl, has_record p.1 f))))
    (asks-met p.1 (answers_to p.0 (label_of the_threads)) the_threads _
    (λ f. inr (inr (inr (inl (refl, has_threads p.1 f)))))
    (asks-met p.1 (answers_to p.0 (label_of the_drive)) the_drive _
    (λ f. inr (inr (inr (inr (inl (refl, has_drive p.1 f))))))
    (asks-met p.1 (answers_to p.0 (label_of the_topology)) the_topology _
    (λ f. inr (inr (inr (inr (inr (inl (refl, has_shape p.1 f)))))))
    (asks-met p.1 (answers_to p.0 (label_of the_explain)) the_explain _
    (λ f. inr (inr (inr (inr (inr (inr (inl refl)))))))
    (asks-met p.1 (answers_to p.0 (label_of the_tables)) the_tables _
    (λ f. inr (inr (inr (inr (inr (inr (inr (inl refl))))))))
    (no_help_met p no_help (answers_to p.0 (label_of the_help)) refl)))))))))))))) e

-- words in which clap finds no fault ask for a job
pub has_job : (words : List Text) → fault_of program words ≡ [] → HasJob (subcommand_of program words)
unfolding program plan_command record_command threads_command drive_command topology_command explain_command texts_command
    tables_command session_command page_command picture_command explore_command verify_command replay_command check_command
has_job words e =
    let a : App = built program in
    let given : List Text = argument_words program words in
    let stop : Option (Text × List Text) =
    (walk (built program).top.rules (names_of (built program)) nothing_held given).stopped in
    let walked_well =
    or_else-nil (walk_fault (built program).top (names_of (built program)) (walk_from nothing_held) given) _ e in
    let entered_well = or_else-nil (entered_fault (built program) stop) _ walked_well.1 in
    job_at stop
    (walk-stop (built program).top refl (names_of (built program)) (walk_from nothing_held) given walked_well.0 tt)
    entered_well.0

-- ---- the answer of clap for a command that is the program

program_is_simple : is_simple program ≡ true
unfolding program plan_command record_command threads_command drive_command topology_command explain_command texts_command
    tables_command session_command page_command picture_command explore_command verify_command replay_command check_command
    clap_on_literals
program_is_simple = refl

program_is_free : is_simple_and_free program ≡ true
unfolding program plan_command record_command threads_command drive_command topology_command explain_command texts_command
    tables_command session_command page_command picture_command explore_command verify_command replay_command check_command
    clap_on_literals
program_is_free = refl

pub faults_are : (a : App) (words : List Text) (P : Kinds → Type 0) → a ≡ program
    → (is_simple_and_free a ≡ true → P (fault_of a words)) → P (fault_of program words)
faults_are a words P is kinds =
    subst P (ap (λ (x : App). fault_of x words) is) (kinds (ap is_simple_and_free is ∙ program_is_free))

pub found_is : (a : App) (words : List Text) (P : Type 0) (found : Option (Text × List Row)) → a ≡ program
    → (is_simple a ≡ true → P × (found ≡ subcommand_of a words))
    → found ≡ subcommand_of program words
found_is a words P found is matches =
    (matches (ap is_simple is ∙ program_is_simple)).1 ∙ ap (λ (x : App). subcommand_of x words) is
