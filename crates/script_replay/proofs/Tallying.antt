-- A tally that goes on from line to line.
use Rattle.std.proofs.Common.{◌≡◌, ◌≢◌, ℕ, ◌+◌, ◌<◌, ◌≤◌, List, [], ◌∷◌, ◌++◌, refl, sym, ap, ◌∙◌, arith, Bool, true, false}
use Rattle.std.proofs.Common.{if◌then◌else◌, filter, Option, Some, None, Result, Ok, Err, OnOk, append-nil, length}
use Rattle.std.specs.List.{find}
use Rattle.std.specs.Option.{option_map, option_or}
use Rattle.reset_model.specs.Configuration.{Configuration}
use Rattle.applications.specs.Meaning.{Meaning}
use Rattle.script_replay.specs.Marked.{is_refused, marked_answer}
use Rattle.script_replay.specs.Output.{if_good, line_answer}
use Rattle.script_replay.specs.Script.{is_silent}
use Rattle.script_replay.specs.Tallies.{Answered, answered, answered_at, answered_in, counted}
use Rattle.script_replay.specs.declared.marked.Marks.{Marks}
use Rattle.script_replay.specs.declared.status.RunStop.{RunStop}
use Rattle.script_replay.specs.declared.status.Status.{Status}
use Rattle.script_replay.specs.declared.status.Status.TheVariants.{Good, FaultsFound, NotEnabled, BadInput}
use Rattle.script_replay.specs.declared.tally.Tally.{Tally}
use Rattle.script_replay.proofs.Runs.{if_bad}

-- ---- counting

abbrev tally : ℕ → ℕ → Option ℕ → Tally
tally n r f = record { commands = n; refused = r; first_refused = f }

same_tally : (n n' r r' : ℕ) (f f' : Option ℕ) → n ≡ n' → r ≡ r' → f ≡ f' → tally n r f ≡ tally n' r' f'
same_tally n n' r r' f f' p q s = ap (λ x. tally x r f) p ∙ ap (λ x. tally n' x f) q ∙ ap (λ x. tally n' r' x) s

or_none : (f : Option ℕ) → option_or f None ≡ f
or_none None = refl
or_none (Some x) = refl

or_more : (f g h : Option ℕ) → option_or f (option_or g h) ≡ option_or (option_or f g) h
or_more None g h = refl
or_more (Some x) g h = refl

pub counted_none : (t : Tally) → counted t [] ≡ t
counted_none t =
    same_tally (t.commands + 0) t.commands (t.refused + 0) t.refused _ _ (omega arith) (omega arith)
    (or_none t.first_refused)

-- one and then others
counted_one : (t : Tally) (a : Answered) (given : List Answered) → counted t (a ∷ given) ≡ counted (counted t (a ∷ [])) given
counted_one t a given = by a.refused refl
  where
    refusals : ℕ
    refusals = length (filter (λ x. x.refused) given)

    first : Option ℕ
    first = option_map (λ x. x.line) (find (λ x. x.refused) given)

    by : (b : Bool) → a.refused ≡ b → counted t (a ∷ given) ≡ counted (counted t (a ∷ [])) given
    by true is = rw is
        (same_tally (t.commands + length (a ∷ given)) (t.commands + 1 + length given) _ (t.refused + 1 + refusals) _ _
        (omega arith) (omega arith) (or_more t.first_refused (Some a.line) first))
    by false is = rw is
        (same_tally (t.commands + length (a ∷ given)) (t.commands + 1 + length given) _ (t.refused + 0 + refusals) _ _
        (omega arith) (omega arith) (or_more t.first_refused None first))

-- the command of one line, if it has one, and then others
counted_more : (t : Tally) (n : ℕ) (line : List ℕ) (s : Status) (b : Bool) (given : List Answered)
    → counted t (answered_at n line s b ++ given) ≡ counted (counted t (answered_at n line s b)) given
counted_more t n line s b given = by (is_silent line) s
  where
    none : counted t given ≡ counted (counted t []) given
    none = ap (λ u. counted u given) (sym (counted_none t))

    one : List Answered
    one = record { line = n; refused = b } ∷ []

    by : (silent : Bool) (s : Status)
        → counted t ((if silent then [] else if_good s one []) ++ given)
        ≡ counted (counted t (if silent then [] else if_good s one [])) given
    by true s = none
    by false Good = counted_one t (record { line = n; refused = b }) given
    by false FaultsFound = none
    by false NotEnabled = none
    by false BadInput = none

-- as many commands are counted as lines were answered, at most, and no more refusals than commands
abbrev pub IsSmall : Tally → ℕ → Type 0
IsSmall t n = (t.commands < n) × (t.refused ≤ t.commands)

pub counted_small : (t : Tally) (n : ℕ) (line : List ℕ) (s : Status) (b : Bool) → IsSmall t n
    → IsSmall (counted t (answered_at n line s b)) (n + 1)
counted_small t n line s b (room, few) = by (is_silent line) s b
  where
    still : IsSmall (counted t []) (n + 1)
    still = (omega (arith, room), omega (arith, few))

    by : (silent : Bool) (s : Status) (b : Bool)
        → IsSmall (counted t (if silent then [] else if_good s (record { line = n; refused = b } ∷ []) [])) (n + 1)
    by true s b = still
    by false Good true = (omega (arith, room), omega (arith, few))
    by false Good false = (omega (arith, room), omega (arith, few))
    by false FaultsFound b = still
    by false NotEnabled b = still
    by false BadInput b = still

-- ---- from line to line

if_good_same : {A : Type 0} (s : Status) (next last : A) → next ≡ last → if_good s next last ≡ last
if_good_same Good next last same = same
if_good_same FaultsFound next last same = refl
if_good_same NotEnabled next last same = refl
if_good_same BadInput next last same = refl

module _ {L : Type 0} (m : Meaning L) (marks : Marks) where
  answered-none : (c : Configuration L) (n : ℕ) → answered m marks c n [] ≡ []
  unfolding answered
  answered-none c n = refl

  answered-more : (c : Configuration L) (n : ℕ) (line : List ℕ) (lines : List (List ℕ))
      → answered m marks c n (line ∷ lines)
      ≡ answered_in m c n line
      ++ if_good (marked_answer m marks c n line).status
      (answered m marks (line_answer m c n line).config (n + 1) lines) []
  unfolding answered
  answered-more c n line lines = refl

  -- a good line is counted, and the others follow
  pub tally_goes_on : (all t t' : Tally) (c c' : Configuration L) (n : ℕ) (lines later : List (List ℕ)) (line : List ℕ)
      → all ≡ counted t (answered m marks c n lines) → lines ≡ line ∷ later
      → (marked_answer m marks c n line).status ≡ Good → c' ≡ (marked_answer m marks c n line).config
      → t' ≡ counted t (answered_in m c n line) → all ≡ counted t' (answered m marks c' (n + 1) later)
  tally_goes_on all t t' c c' n lines later line is first good left counts =
      let a = line_answer m c n line in
      let others = answered m marks a.config (n + 1) later in
      is ∙ ap (λ ls. counted t (answered m marks c n ls)) first ∙ ap (counted t) (answered-more c n line later)
      ∙ ap (λ s. counted t (answered_in m c n line ++ if_good s others [])) good
      ∙ counted_more t n line a.status (is_refused a.text) others
      ∙ ap (λ x. counted x others) (sym counts) ∙ ap (λ x. counted t' (answered m marks x (n + 1) later)) (sym left)

  -- another is the last that is counted
  pub tally_ends : (all t t' : Tally) (c : Configuration L) (n : ℕ) (lines later : List (List ℕ)) (line : List ℕ)
      → all ≡ counted t (answered m marks c n lines) → lines ≡ line ∷ later
      → (marked_answer m marks c n line).status ≢ Good → t' ≡ counted t (answered_in m c n line) → t' ≡ all
  tally_ends all t t' c n lines later line is first bad counts =
      let others = answered m marks (line_answer m c n line).config (n + 1) later in
      let s = (marked_answer m marks c n line).status in
      counts
      ∙ sym (is ∙ ap (λ ls. counted t (answered m marks c n ls)) first ∙ ap (counted t) (answered-more c n line later)
      ∙ ap (λ more. counted t (answered_in m c n line ++ more)) (if_bad s others [] bad)
      ∙ ap (counted t) (append-nil (answered_in m c n line)))

  -- nothing follows the last line
  last_tally : (all t t' : Tally) (c : Configuration L) (n : ℕ) (lines : List (List ℕ)) (line : List ℕ)
      → all ≡ counted t (answered m marks c n lines) → lines ≡ line ∷ []
      → t' ≡ counted t (answered_in m c n line) → t' ≡ all
  last_tally all t t' c n lines line is first counts =
      let a = line_answer m c n line in
      let s = (marked_answer m marks c n line).status in
      counts
      ∙ sym (is ∙ ap (λ ls. counted t (answered m marks c n ls)) first ∙ ap (counted t) (answered-more c n line [])
      ∙ ap (λ more. counted t (answered_in m c n line ++ more))
      (if_good_same s (answered m marks a.config (n + 1) []) [] (answered-none a.config (n + 1)))
      ∙ ap (counted t) (append-nil (answered_in m c n line)))

  pub tally_result : (all t t' : Tally) (c : Configuration L) (n : ℕ) (lines : List (List ℕ)) (line : List ℕ)
      (r : Result Status RunStop) → all ≡ counted t (answered m marks c n lines) → lines ≡ line ∷ []
      → OnOk r (t' ≡ counted t (answered_in m c n line)) → OnOk r (t' ≡ all)
  tally_result all t t' c n lines line (Ok s) is first counts = last_tally all t t' c n lines line is first counts
  tally_result all t t' c n lines line (Err s) is first counts = tt
