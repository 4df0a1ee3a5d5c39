-- Lines that are run for what they leave.
use Rattle.std.proofs.Common.{◌≡◌, ◌≢◌, ◌+◌, ◌∙◌, ◌++◌, ℕ, Bool, true, false, List, [], ◌∷◌, Option, None, Some, ap, refl}
use Rattle.std.proofs.Common.{sym, true≢false}
use Rattle.reset_model.specs.Configuration.{Configuration}
use Rattle.applications.specs.Meaning.{Meaning}
use Rattle.script_replay.specs.Left.{first_bad, unless_bad}
use Rattle.script_replay.specs.Output.{Answer, answer_to, answers, answers_by, if_good, line_answer, told_after}
use Rattle.script_replay.specs.Parts.{IsPassed}
use Rattle.script_replay.specs.Script.{line_of}
use Rattle.script_replay.specs.declared.script.Line.{Line}
use Rattle.script_replay.specs.declared.script.Line.TheVariants.{Silent, Asks, Bad}
use Rattle.script_replay.specs.declared.status.Status.{Status}
use Rattle.script_replay.specs.declared.status.Status.TheVariants.{Good, FaultsFound, NotEnabled, BadInput}
use Rattle.script_replay.proofs.Runs.{left_bad, left_good}

-- ---- one line

when_good : {A : Type 0} (line : Line) (next last : A) → true ≡ unless_bad line true false
    → unless_bad line next last ≡ next
when_good Silent next last good = refl
when_good (Asks command) next last good = refl
when_good Bad next last good = absurd (true≢false good)

when_bad : {A : Type 0} (line : Line) (next last : A) → false ≡ unless_bad line true false
    → unless_bad line next last ≡ last
when_bad Silent next last bad = absurd (true≢false (sym bad))
when_bad (Asks command) next last bad = absurd (true≢false (sym bad))
when_bad Bad next last bad = refl

good_status : {L : Type 0} (m : Meaning L) (c : Configuration L) (n : ℕ) (line : Line)
    → true ≡ unless_bad line true false → (answer_to m c n line).status ≡ Good
good_status m c n Silent good = refl
good_status m c n (Asks command) good = refl
good_status m c n Bad good = absurd (true≢false good)

bad_status : {L : Type 0} (m : Meaning L) (c : Configuration L) (n : ℕ) (line : Line)
    → false ≡ unless_bad line true false → (answer_to m c n line).status ≢ Good
bad_status m c n Silent bad = absurd (true≢false (sym bad))
bad_status m c n (Asks command) bad = absurd (true≢false (sym bad))
bad_status m c n Bad bad = λ good. cc

-- ---- the lines that are left

one_left : {L : Type 0} (m : Meaning L) (c : Configuration L) (n : ℕ) (line : List ℕ)
    → (answers m c n (line ∷ [])).config ≡ (answer_to m c n (line_of m.names line)).config
unfolding answers_by
one_left {L = L} m c n line = go (answer_to m c n (line_of m.names line)).status
  where
    a : Answer L
    a = answer_to m c n (line_of m.names line)

    go : (s : Status)
        → (if_good s (told_after a.text (record { config = a.config; text = []; status = Good })) a).config ≡ a.config
    go Good = refl
    go FaultsFound = refl
    go NotEnabled = refl
    go BadInput = refl

first_bad-more : (names : ℕ → Option (List ℕ)) (n : ℕ) (line : List ℕ) (lines : List (List ℕ))
    → first_bad names n (line ∷ lines) ≡ unless_bad (line_of names line) (first_bad names (n + 1) lines) (Some n)
unfolding first_bad
first_bad-more names n line lines = refl

first_bad-none : (names : ℕ → Option (List ℕ)) (n : ℕ) → first_bad names n [] ≡ None
unfolding first_bad
first_bad-none names n = refl

-- where all lines lead, after those that were passed
abbrev pub LeadsOn : {L : Type 0} → Meaning L → Answer L → Configuration L → ℕ → List (List ℕ) → Type 0
LeadsOn m all c n lines = (done : List ℕ) × (all ≡ told_after done (answers m c n lines))

module _ {L : Type 0} (m : Meaning L) (all : Answer L) (bad : Option ℕ) (c c' : Configuration L) (n : ℕ)
    (lines later : List (List ℕ)) (line : List ℕ) (is_good : Bool) (leads : LeadsOn m all c n lines)
    (first : bad ≡ first_bad m.names n lines) (cut : lines ≡ line ∷ later)
    (passed : IsPassed m (line_of m.names line) c c' is_good) where
  bad_is : bad ≡ unless_bad (line_of m.names line) (first_bad m.names (n + 1) later) (Some n)
  bad_is = first ∙ ap (first_bad m.names n) cut ∙ first_bad-more m.names n line later

  -- a good line
  pub passed_on : is_good ≡ true → LeadsOn m all c' (n + 1) later
  passed_on good =
      let status = good_status m c n (line_of m.names line) (sym good ∙ passed.good) in (
        leads.0 ++ (answer_to m c n (line_of m.names line)).text,
        left_good (line_answer m) all leads.0 c c' n lines later line leads.1 cut status (passed.config n),
      )

  pub passed_bad : is_good ≡ true → bad ≡ first_bad m.names (n + 1) later
  passed_bad good =
      bad_is ∙ when_good (line_of m.names line) (first_bad m.names (n + 1) later) (Some n) (sym good ∙ passed.good)

  -- a bad line
  pub stopped_at : is_good ≡ false → c' ≡ all.config
  stopped_at bad_line =
      let status = bad_status m c n (line_of m.names line) (sym bad_line ∙ passed.good) in
      passed.config n
      ∙ sym
      (ap (λ (a : Answer L). a.config) (left_bad (line_answer m) all leads.0 c n lines later line leads.1 cut status))

  pub stopped_bad : is_good ≡ false → bad ≡ Some n
  stopped_bad bad_line =
      bad_is ∙ when_bad (line_of m.names line) (first_bad m.names (n + 1) later) (Some n) (sym bad_line ∙ passed.good)

  -- the last line
  module _ (last : later ≡ []) where
    pub left_last : c' ≡ all.config
    left_last =
        passed.config n ∙ sym (one_left m c n line)
        ∙ sym
        (ap (λ (a : Answer L). a.config) leads.1
        ∙ ap (λ ls. (answers m c n ls).config) (cut ∙ ap (λ ls. line ∷ ls) last))

    pub good_last : is_good ≡ true → bad ≡ None
    good_last good =
        passed_bad good ∙ ap (first_bad m.names (n + 1)) last ∙ first_bad-none m.names (n + 1)
