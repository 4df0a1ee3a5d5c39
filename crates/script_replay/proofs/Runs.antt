-- A run that goes on from line to line.
use Rattle.std.proofs.Common.{◌≡◌, ◌≢◌, ℕ, ◌+◌, List, [], ◌∷◌, ◌++◌, refl, sym, ap, ap₂, ◌∙◌, subst, append_assoc}
use Rattle.std.proofs.Common.{append-nil, inl, inr, Option, Result, Ok, Err, IfOk, IfErr, OnErr, OnOk, ◌≤◌, length}
use Rattle.std.proofs.Common.{le-ltb, Bool, if◌then◌else◌}
use Rattle.std.specs.Prelude.{IsErrAnd}
use Rattle.std.specs.Io.KnownBytes.{Appends}
use Rattle.std.proofs.KnownBytes.{Appends-trans, Keeps-refl}
use Rattle.action_tables.specs.Written.{AppendsPrefix}
use Rattle.action_tables.proofs.Prefixes.{AppendsPrefix-first, AppendsPrefix-then}
use Rattle.reset_model.specs.Configuration.{Configuration}
use Rattle.applications.specs.Meaning.{Meaning}
use Rattle.script_replay.specs.Lines.{lines_of}
use Rattle.script_replay.specs.Output.{answers, answers_by, ending, if_good, output_for, script_output, told_after}
use Rattle.script_replay.specs.Output.{too_long_text, Answer, Answering, Leaves, HasPrefix}
use Rattle.script_replay.specs.declared.status.Status.{Status}
use Rattle.script_replay.specs.declared.status.Status.TheVariants.{Good, FaultsFound, NotEnabled, BadInput}
use Rattle.script_replay.specs.declared.status.Purpose.{Purpose}
use Rattle.script_replay.specs.declared.status.RunStop.{RunStop}
use Rattle.script_replay.specs.declared.status.RunStop.TheVariants.{ReadFailed, WriteFailed, NoMemory}
use Rattle.script_replay.specs.declared.status.RunStop.TheVariants.{ThreadFailed, NotClosed}
use Rattle.script_replay.specs.Stops.{IsInputStop, IsOutputStop}

abbrev Output : Type 0
Output = List ℕ × Status

-- what is written, and the status
abbrev pub output_of : {L : Type 0} → Answer L → Output
output_of a = (a.text, a.status)

-- ---- one line

-- the answer to a line, and those to the lines after it
abbrev more : {L : Type 0} → Answering L → Configuration L → ℕ → List ℕ → List (List ℕ) → Answer L
more f c n line lines =
    let a = f c n line in if_good a.status
    (told_after a.text (answers_by f a.config (n + 1) lines)) a

answers-more : {L : Type 0} (f : Answering L) (c : Configuration L) (n : ℕ) (line : List ℕ) (lines : List (List ℕ))
    → answers_by f c n (line ∷ lines) ≡ more f c n line lines
unfolding answers_by
answers-more {L = L} f c n line lines = refl

abbrev nothing : {L : Type 0} → Configuration L → Answer L
nothing c = record { config = c; text = []; status = Good }

answers-none : {L : Type 0} (f : Answering L) (c : Configuration L) (n : ℕ) → answers_by f c n [] ≡ nothing c
unfolding answers_by
answers-none {L = L} f c n = refl

told_twice : {L : Type 0} (done text : List ℕ) (a : Answer L)
    → told_after done (told_after text a) ≡ told_after (done ++ text) a
told_twice {L = L} done text a =
    let with : List ℕ → Answer L = λ t. record { config = a.config; text = t; status = a.status } in
    ap with (sym (append_assoc done text a.text))

pub if_bad : {A : Type 0} (s : Status) (next last : A) → s ≢ Good → if_good s next last ≡ last
if_bad Good next last bad = absurd (bad refl)
if_bad FaultsFound next last bad = refl
if_bad NotEnabled next last bad = refl
if_bad BadInput next last bad = refl

-- nothing follows the last line
last_answer : {L : Type 0} (c : Configuration L) (text : List ℕ) (s : Status) (a : Answer L)
    → a ≡ record { config = c; text = text; status = s }
    → if_good s (told_after text (nothing c)) a ≡ a
last_answer {L = L} c text Good a is =
    let with : List ℕ → Answer L = λ t. record { config = c; text = t; status = Good } in
    ap with (append-nil text) ∙ sym is
last_answer c text FaultsFound a is = refl
last_answer c text NotEnabled a is = refl
last_answer c text BadInput a is = refl

-- what was written at first is a prefix of the whole
prefix_of : {L : Type 0} (done : List ℕ) (a rest : Answer L) (s : Status)
    → (tail : List ℕ) × (done ++ (if_good s (told_after a.text rest) a).text ≡ (done ++ a.text) ++ tail)
prefix_of done a rest Good = (rest.text, sym (append_assoc done a.text rest.text))
prefix_of done a rest FaultsFound = ([], sym (append-nil (done ++ a.text)))
prefix_of done a rest NotEnabled = ([], sym (append-nil (done ++ a.text)))
prefix_of done a rest BadInput = ([], sym (append-nil (done ++ a.text)))

-- ---- the lines that are left, after `done` was written

one_more : {L : Type 0} (f : Answering L) (all : Answer L) (done : List ℕ) (c : Configuration L) (n : ℕ)
    (lines later : List (List ℕ)) (line : List ℕ)
    → all ≡ told_after done (answers_by f c n lines) → lines ≡ line ∷ later → all ≡ told_after done (more f c n line later)
one_more {L = L} f all done c n lines later line p q =
    p ∙ ap (λ ls. told_after done (answers_by f c n ls)) q ∙ ap (told_after done) (answers-more f c n line later)

pub left_good : {L : Type 0} (f : Answering L) (all : Answer L) (done : List ℕ) (c after : Configuration L) (n : ℕ)
    (lines later : List (List ℕ)) (line : List ℕ)
    → all ≡ told_after done (answers_by f c n lines) → lines ≡ line ∷ later
    → (f c n line).status ≡ Good → after ≡ (f c n line).config
    → all ≡ told_after (done ++ (f c n line).text) (answers_by f after (n + 1) later)
left_good {L = L} f all done c after n lines later line p q good same =
    let a = f c n line in
    let rest : Answer L = answers_by f a.config (n + 1) later in
    one_more f all done c n lines later line p q ∙ ap (λ s. told_after done (if_good s (told_after a.text rest) a)) good
    ∙ told_twice done a.text rest ∙ ap (λ x. told_after (done ++ a.text) (answers_by f x (n + 1) later)) (sym same)

pub left_bad : {L : Type 0} (f : Answering L) (all : Answer L) (done : List ℕ) (c : Configuration L) (n : ℕ)
    (lines later : List (List ℕ)) (line : List ℕ)
    → all ≡ told_after done (answers_by f c n lines) → lines ≡ line ∷ later
    → (f c n line).status ≢ Good
    → all ≡ told_after done (f c n line)
left_bad {L = L} f all done c n lines later line p q bad =
    let a = f c n line in
    one_more f all done c n lines later line p q
    ∙ ap (told_after done) (if_bad a.status (told_after a.text (answers_by f a.config (n + 1) later)) a bad)

left_last : {L : Type 0} (f : Answering L) (all : Answer L) (done : List ℕ) (c : Configuration L) (n : ℕ)
    (lines : List (List ℕ)) (line : List ℕ)
    → all ≡ told_after done (answers_by f c n lines) → lines ≡ line ∷ []
    → all ≡ told_after done (f c n line)
left_last {L = L} f all done c n lines line p q =
    let a = f c n line in
    one_more f all done c n lines [] line p q
    ∙ ap (λ o. told_after done (if_good a.status (told_after a.text o) a)) (answers-none f a.config (n + 1))
    ∙ ap (told_after done) (last_answer a.config a.text a.status a refl)

-- ---- what is left by a stop

pub leaves_stop : (O : Output → Type 0) (a b : Option (List ℕ)) (s : RunStop) → IsOutputStop s → HasPrefix O a b
    → Leaves O a b (Err s)
leaves_stop O a b ReadFailed other h = absurd other
leaves_stop O a b WriteFailed other h = h
leaves_stop O a b NoMemory other h = inr h
leaves_stop O a b ThreadFailed other h = absurd other
leaves_stop O a b NotClosed other h = absurd other

-- an answer failed, after `done`
prefix_whole : (all : Output) (a b d : Option (List ℕ)) (done text tail : List ℕ) → all.0 ≡ (done ++ text) ++ tail
    → Appends a b done → AppendsPrefix b d text → AppendsPrefix a d all.0
prefix_whole all a b d done text tail e p q =
    let P : List ℕ → Type 0 = λ l. AppendsPrefix a d l in
    subst P (sym e) (AppendsPrefix-first a d (done ++ text) tail (AppendsPrefix-then a b d done text p q))

pub left_stop : {L : Type 0} (f : Answering L) (all : Answer L) (a b d : Option (List ℕ)) (done : List ℕ)
    (c : Configuration L) (n : ℕ) (lines later : List (List ℕ)) (line : List ℕ) (s : RunStop)
    → all ≡ told_after done (answers_by f c n lines) → lines ≡ line ∷ later → Appends a b done
    → AppendsPrefix b d (f c n line).text → IsOutputStop s
    → Leaves (λ o. o ≡ output_of all) a d (Err s)
left_stop {L = L} f all a b d done c n lines later line s p q before here other =
    let x = f c n line in
    let tail = prefix_of done x (answers_by f x.config (n + 1) later) x.status in
    leaves_stop (λ o. o ≡ output_of all) a d s other (
      output_of all,
      refl,
      prefix_whole (output_of all) a b d done x.text tail.0
          (ap (λ (y : Answer L). y.text) (one_more f all done c n lines later line p q) ∙ tail.1) before here,
    )

-- an answer ended the lines
pub left_ended : {L : Type 0} (all x : Answer L) (a b d : Option (List ℕ)) (done : List ℕ) (s : Status)
    → all ≡ told_after done x → s ≡ x.status
    → Appends a b done → Appends b d x.text → Leaves (λ o. o ≡ output_of all) a d (Ok s)
left_ended {L = L} all x a b d done s is status before here = (
  done ++ x.text,
  ap (λ (t : Status). (done ++ x.text, t)) status
      ∙ sym (ap output_of is),
  Appends-trans a b d done x.text before here,
)

pub left_result : {L : Type 0} (f : Answering L) (all : Answer L) (a b d : Option (List ℕ)) (done : List ℕ)
    (c c' : Configuration L) (n : ℕ) (lines : List (List ℕ)) (line : List ℕ) (r : Result Status RunStop)
    → all ≡ told_after done (answers_by f c n lines) → lines ≡ line ∷ [] → Appends a b done
    → IfOk r
    (λ s. (s ≡ (f c n line).status)
    × (c' ≡ (f c n line).config)
    × Appends b d (f c n line).text)
    → OnErr r (AppendsPrefix b d (f c n line).text) → IfErr r IsOutputStop
    → Leaves (λ o. o ≡ output_of all) a d r
left_result {L = L} f all a b d done c c' n lines line (Ok s) p q before ok err other =
    left_ended all (f c n line) a b d done s (left_last f all done c n lines line p q) ok.0
    before ok.2
left_result {L = L} f all a b d done c c' n lines line (Err s) p q before ok err other =
    left_stop f all a b d done c n lines [] line s p q before err other

-- the configuration that the last line leaves
pub last_config : {L : Type 0} (f : Answering L) (all : Answer L) (b d : Option (List ℕ)) (done : List ℕ)
    (c c' : Configuration L) (n : ℕ) (lines : List (List ℕ)) (line : List ℕ) (r : Result Status RunStop)
    → all ≡ told_after done (answers_by f c n lines) → lines ≡ line ∷ []
    → IfOk r
    (λ s. (s ≡ (f c n line).status)
    × (c' ≡ (f c n line).config)
    × Appends b d (f c n line).text)
    → OnOk r (c' ≡ all.config)
last_config {L = L} f all b d done c c' n lines line (Ok s) p q ok =
    ok.1 ∙ sym (ap (λ (x : Answer L). x.config) (left_last f all done c n lines line p q))
last_config {L = L} f all b d done c c' n lines line (Err s) p q ok = tt

-- ---- what follows the last line

-- the answers are a prefix of the output
pub prefix_for : {L : Type 0} (m : Meaning L) (why : Purpose) (a : Answer L) (old new : Option (List ℕ)) (s : RunStop)
    → Leaves (λ o. o ≡ output_of a) old new (Err s) → Leaves (λ o. o ≡ output_for m why a) old new (Err s)
prefix_for m why a old new s = go s
  where
    more_of : HasPrefix (λ o. o ≡ output_of a) old new → HasPrefix (λ o. o ≡ output_for m why a) old new
    more_of (o, is, prefix) =
        let P : List ℕ → Type 0 = λ l. AppendsPrefix old new l in (
          output_for m why a,
          refl,
          AppendsPrefix-first old new a.text (ending m why a.config a.status).0
              (subst P (ap (λ (x : Output). x.0) is) prefix),
        )

    go : (s : RunStop) → Leaves (λ o. o ≡ output_of a) old new (Err s)
        → Leaves (λ o. o ≡ output_for m why a) old new (Err s)
    go ReadFailed h = h
    go WriteFailed h = more_of h
    go NoMemory (inl h) = inl h
    go NoMemory (inr h) = inr (more_of h)
    go ThreadFailed h = h
    go NotClosed h = h

-- the answers, and then what follows them
pub ended_run : {L : Type 0} (m : Meaning L) (why : Purpose) (a : Answer L) (c : Configuration L)
    (old mid new : Option (List ℕ)) (answered : Status) (r : Result Status RunStop)
    → Leaves (λ o. o ≡ output_of a) old mid (Ok answered) → c ≡ a.config
    → IfOk r (λ s. (s ≡ (ending m why c answered).1) × Appends mid new (ending m why c answered).0)
    → OnErr r (AppendsPrefix mid new (ending m why c answered).0) → IfErr r IsOutputStop
    → Leaves (λ o. o ≡ output_for m why a) old new r
ended_run {L = L} m why a c old mid new answered r (written, is, wrote) same = go r
  where
    last : Output
    last = ending m why a.config a.status

    last_is : ending m why c answered ≡ last
    last_is = ap₂ (ending m why) same (ap (λ (o : Output). o.1) is)

    before : Appends old mid a.text
    before = let P : List ℕ → Type 0 = λ l. Appends old mid l in subst P (ap (λ (o : Output). o.0) is) wrote

    go : (r : Result Status RunStop)
        → IfOk r (λ s. (s ≡ (ending m why c answered).1) × Appends mid new (ending m why c answered).0)
        → OnErr r (AppendsPrefix mid new (ending m why c answered).0) → IfErr r IsOutputStop
        → Leaves (λ o. o ≡ output_for m why a) old new r
    go (Ok s) ok err other =
        let P : List ℕ → Type 0 = λ l. Appends mid new l in (
          a.text ++ last.0,
          ap (λ (t : Status). (a.text ++ last.0, t)) (ok.0 ∙ ap (λ (o : Output). o.1) last_is),
          Appends-trans old mid new a.text last.0 before (subst P (ap (λ (o : Output). o.0) last_is) ok.1),
        )
    go (Err s) ok err other =
        let P : List ℕ → Type 0 = λ l. AppendsPrefix mid new l in
        leaves_stop (λ o. o ≡ output_for m why a) old new s other (
          output_for m why a,
          refl,
          AppendsPrefix-then old mid new a.text last.0 before
              (subst P (ap (λ (o : Output). o.0) last_is) err),
        )

-- a script that isn't too long is answered line by line
pub short_output : {L : Type 0} (m : Meaning L) (why : Purpose) (c : Configuration L) (script : List ℕ)
    (old new : Option (List ℕ)) (r : Result Status RunStop)
    → length script ≤ 1048576 → Leaves (λ o. o ≡ output_for m why (answers m c 1 (lines_of script))) old new r
    → Leaves (λ o. o ≡ script_output m why c script) old new r
short_output {L = L} m why c script old new r short left =
    let judged : Bool → Output =
    λ b. if b then (too_long_text, BadInput) else output_for m why (answers m c 1 (lines_of script)) in
    let P : Output → Type 0 = λ x. Leaves (λ o. o ≡ x) old new r in
    subst P (sym (ap judged (le-ltb 1048576 (length script) short))) left

-- writing failed
pub leaves_fault : (O : Output → Type 0) (a b : Option (List ℕ)) (r : Result Status RunStop)
    → IsErrAnd r (λ s. s ≡ WriteFailed) → HasPrefix O a b → Leaves O a b r
leaves_fault O a b (Ok s) is h = absurd is
leaves_fault O a b (Err ReadFailed) is h = absurd (cc)
leaves_fault O a b (Err WriteFailed) is h = h
leaves_fault O a b (Err NoMemory) is h = inr h
leaves_fault O a b (Err ThreadFailed) is h = absurd (cc)
leaves_fault O a b (Err NotClosed) is h = absurd (cc)

-- ---- what a run leaves, said of another output

pub leaves_weaker : (O P : Output → Type 0) (a b : Option (List ℕ)) (r : Result Status RunStop)
    → ((o : Output) → O o → P o) → Leaves O a b r → Leaves P a b r
leaves_weaker O P a b (Ok s) f h = (h.0, f (h.0, s) h.1, h.2)
leaves_weaker O P a b (Err ReadFailed) f h = h
leaves_weaker O P a b (Err WriteFailed) f h = (h.0, f h.0 h.1, h.2)
leaves_weaker O P a b (Err NoMemory) f (inl h) = inl h
leaves_weaker O P a b (Err NoMemory) f (inr h) = inr (h.0, f h.0 h.1, h.2)
leaves_weaker O P a b (Err ThreadFailed) f h = h
leaves_weaker O P a b (Err NotClosed) f h = h

-- a reading was cut short, before anything was written
pub leaves_unread : (O : Output → Type 0) (a : Option (List ℕ)) (s : RunStop) → IsInputStop s → Leaves O a a (Err s)
leaves_unread O a ReadFailed other = Keeps-refl a
leaves_unread O a WriteFailed other = absurd other
leaves_unread O a NoMemory other = inl (Keeps-refl a)
leaves_unread O a ThreadFailed other = absurd other
leaves_unread O a NotClosed other = absurd other

-- what holds however a call ends
pub OnOk-always : {A B : Type 0} {P : Type 0} (r : Result A B) → P → OnOk r P
OnOk-always (Ok a) h = h
OnOk-always (Err b) h = tt
