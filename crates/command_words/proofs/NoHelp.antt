-- The walk of words in which clap finds no fault meets no `help`.
use Rattle.std.proofs.Common.{◌≡◌, ◌&&◌, ℕ, Bool, cond, true, false, refl}
use Rattle.std.proofs.Common.{List, [], ◌∷◌, codes, Option, Some, None}
use Rattle.std.specs.List.{fold}
use Rattle.std.specs.Str.{bytes_eq}
use Rattle.std.specs.Prelude.{⊤, is_some}
use Rattle.clap.specs.Lexer.{long_of, short_of}
use Rattle.clap.specs.Words.{Kinds, Rule, Shape, Text}
use Rattle.clap.specs.Kinds.{or_else}
use Rattle.clap.specs.Faults.{other_fault, step_fault, turn_fault}
use Rattle.clap.specs.Faults.{walk_fault, word_fault}
use Rattle.clap.specs.declared.error.ErrorKind.TheVariants.{DisplayHelp, InvalidSubcommand}
use Rattle.clap.specs.Walk.{Held, Names, Outcome, Step, Waiting, Walk, after_flag, after_step}
use Rattle.clap.specs.Walk.{arg_by_index, arg_by_long, bundle, long_met, long_or_other, plain_word}
use Rattle.clap.specs.Walk.{short_or_plain, subcommand_met, subcommand_or_other, to_positional}
use Rattle.clap.specs.Walk.{walked, walked_from, word_met, done, waits, plain, refused, idle, option}
use Rattle.clap.specs.Walk.{positional, next, trailing, subcommand, value}
use Rattle.command_words.proofs.PathRows.{or_else-nil}

-- where the walk stopped it wasn't at `help`
abbrev pub IsNoHelp : Option (Text × List Text) → Type 0
IsNoHelp None = ⊤
IsNoHelp (Some p) = bytes_eq p.0 (codes "help") ≡ false

abbrev StepsToNoHelp : Step → Type 0
StepsToNoHelp (subcommand name) = bytes_eq name (codes "help") ≡ false
StepsToNoHelp (next waiting) = ⊤
StepsToNoHelp (trailing position) = ⊤
StepsToNoHelp value = ⊤

plain_word-step : (c : List Rule) (waiting : Waiting) (word : Text) (h : Held)
    → StepsToNoHelp (plain_word c waiting word h).1
plain_word-step c idle word h = tt
plain_word-step c (option id) word h = tt
plain_word-step c positional word h = tt

after_flag-step : (c : List Rule) (waiting : Waiting) (word : Text) (h : Held) (o : Outcome)
    → StepsToNoHelp (after_flag c waiting word h o).1
after_flag-step c waiting word h done = tt
after_flag-step c waiting word h (waits id) = tt
after_flag-step c waiting word h plain = plain_word-step c waiting word h
after_flag-step c waiting word h refused = plain_word-step c waiting word h

short_or_plain-step : (c : List Rule) (waiting : Waiting) (word : Text) (o : Option Text) (h : Held)
    → StepsToNoHelp (short_or_plain c waiting word o h).1
short_or_plain-step c waiting word None h = plain_word-step c waiting word h
short_or_plain-step c waiting word (Some flags) h =
    after_flag-step c waiting word (bundle c flags h).0 (bundle c flags h).1

long_or_other-step : (c : List Rule) (waiting : Waiting) (word : Text) (o : Option (Text × Option Text)) (h : Held)
    → StepsToNoHelp (long_or_other c waiting word o h).1
long_or_other-step c waiting word None h = short_or_plain-step c waiting word (short_of word) h
long_or_other-step c waiting word (Some p) h =
    after_flag-step c waiting word (long_met c (arg_by_long c p.0) p.1 h).0 (long_met c (arg_by_long c p.0) p.1 h).1

-- the fault of a turn that goes on
abbrev plain_fault : Shape → Names → Walk → Text → Kinds
plain_fault s names w word =
    let met = word_met s.rules names w.is_trailing w.waiting w.position word w.held in
    or_else (word_fault s names w.is_trailing w.waiting word w.held) (step_fault s w.position met.0 met.1)

module _ (s : Shape) (has_help : s.disable_help_subcommand ≡ false) where
  subcommand_or_other-step : (o : Option Text) (waiting : Waiting) (position : ℕ) (word : Text) (h : Held)
      → other_fault s o word h ≡ []
      → StepsToNoHelp (subcommand_or_other s.rules o waiting position word h).1
  subcommand_or_other-step (Some name) waiting position word h e = go (bytes_eq name (codes "help")) (rw has_help at e)
    where
      go : (b : Bool) → cond (b && true) (DisplayHelp ∷ InvalidSubcommand ∷ []) [] ≡ [] → b ≡ false
      go true e = absurd (cc)
      go false e = refl
  subcommand_or_other-step None waiting position word h e = go (bytes_eq word (45 ∷ 45 ∷ []))
    where
      go : (b : Bool)
          → StepsToNoHelp (cond b (h, trailing position) (long_or_other s.rules waiting word (long_of word) h)).1
      go true = tt
      go false = long_or_other-step s.rules waiting word (long_of word) h

  word_met-step : (names : Names) (is_trailing : Bool) (waiting : Waiting) (position : ℕ) (word : Text) (h : Held)
      → word_fault s names is_trailing waiting word h ≡ []
      → StepsToNoHelp (word_met s.rules names is_trailing waiting position word h).1
  word_met-step names true waiting position word h e = tt
  word_met-step names false waiting position word h e =
      subcommand_or_other-step (subcommand_met names waiting word) waiting position word h e

  to_positional-stop : (found : Option Rule) (word : Text) (w : Walk) (h : Held) → IsNoHelp w.stopped
      → IsNoHelp (to_positional s.rules found word w h).stopped
  to_positional-stop None word w h n = n
  to_positional-stop (Some a) word w h n = tt

  after_step-stop : (word : Text) (w : Walk) (h : Held) (step : Step) → StepsToNoHelp step → IsNoHelp w.stopped
      → IsNoHelp (after_step s.rules word w h step).stopped
  after_step-stop word w h (next waiting) ok n = n
  after_step-stop word w h (trailing position) ok n = n
  after_step-stop word w h (subcommand name) ok n = ok
  after_step-stop word w h value ok n = to_positional-stop (arg_by_index s.rules w.position) word w h n

  walked_from-stop : (names : Names) (stop : Option (Text × List Text)) (w : Walk) (word : Text)
      → cond (is_some stop) [] (plain_fault s names w word) ≡ []
      → IsNoHelp stop → IsNoHelp w.stopped → IsNoHelp (walked_from s.rules names stop w word).stopped
  walked_from-stop names (Some p) w word e m n = m
  walked_from-stop names None w word e m n =
      let met = word_met s.rules names w.is_trailing w.waiting w.position word w.held in
      after_step-stop word w met.0 met.1
      (word_met-step names w.is_trailing w.waiting w.position word w.held (or_else-nil _ _ e).0) n

  walked-stop : (names : Names) (w : Walk) (word : Text) → turn_fault s names w word ≡ [] → IsNoHelp w.stopped
      → IsNoHelp (walked s.rules names w word).stopped
  unfolding walked
  walked-stop names w word e n = walked_from-stop names w.stopped w word e n n

  pub walk-stop : (names : Names) (w : Walk) (words : List Text) → walk_fault s names w words ≡ [] → IsNoHelp w.stopped
      → IsNoHelp (fold (walked s.rules names) w words).stopped
  unfolding walk_fault
  walk-stop names w [] e n = n
  walk-stop names w (word ∷ words) e n =
      let parts = or_else-nil (turn_fault s names w word) (walk_fault s names (walked s.rules names w word) words) e in
      walk-stop names (walked s.rules names w word) words parts.1 (walked-stop names w word parts.0 n)
