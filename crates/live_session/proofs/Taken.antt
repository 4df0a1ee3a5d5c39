-- A session that takes lines: whole ones, one that was begun, and the last one.
use Rattle.std.proofs.Common.{◌≡◌, ℕ, ◌+◌, Bool, true, false, List, [], ◌∷◌, ◌++◌, refl, sym, ap, ◌∙◌, subst, append-nil}
use Rattle.std.proofs.Common.{append_assoc, Option, Some, None}
use Rattle.std.specs.Io.KnownBytes.{Appends}
use Rattle.std.proofs.KnownBytes.{Appends-nil}
use Rattle.action_tables.specs.Cuts.{HasNo}
use Rattle.reset_model.specs.EventText.{Fits, event_line}
use Rattle.reset_model.specs.declared.event.Event.{Event}
use Rattle.applications.specs.Meaning.{Meaning}
use Rattle.history.specs.HistoryText.{ended}
use Rattle.history.specs.declared.entry.Entry.{Entry}
use Rattle.script_replay.specs.Lines.{lines_of}
use Rattle.script_replay.specs.Script.{line_of}
use Rattle.script_replay.specs.declared.script.Command.TheVariants.{Step}
use Rattle.script_replay.specs.declared.script.Line.TheVariants.{Asks}
use Rattle.live_session.specs.Course.{course, course_of, exchange, kept_lines, kept_text, led_by}
use Rattle.live_session.specs.Course.{rested, room_after}
use Rattle.live_session.specs.Progress.{Comes, Goes, HasEnded, HasEndedWith, HasTaken, IsAt, IsCut, IsFront, IsUncommitted}
use Rattle.live_session.specs.Progress.{IsAnswered, IsWithin, Start, after}
use Rattle.live_session.specs.declared.batch.Batch.{Batch}
use Rattle.live_session.specs.declared.session.Session.{Session}
use Rattle.script_replay.proofs.CommandOf.{event_asked}
use Rattle.script_replay.proofs.TextLines.{first_line}
use Rattle.live_session.proofs.Courses.{course_none, event_stays, front_none}
use Rattle.live_session.proofs.Going.{cut_here, cut_writing, goes_as, goes_given, goes_on_by, goes_out, goes_written}
use Rattle.live_session.proofs.LineBreaks.{line_ends, line_unbroken, rest_unbroken, unbroken_on, whole_line}

-- the line of an event that was answered where the history had this room, and then that
pub event_taken : {P L : Type 0} (m : Meaning L) (e : Event) (room left : Option ℕ) (old new : Session P L) → Fits e
    → new.number ≡ old.number + 1 → old.room ≡ room → new.room ≡ left
    → ((n : ℕ) (text : List ℕ) → IsAnswered m room old.config n text (Asks (Step e)) left new.config old.batch new.batch)
    → HasTaken m (event_line e) false old new
event_taken m e room left old new fits number had has answered = record {
  exits = sym (event_stays e);
  same_config = λ ends. absurd (cc);
  same_batch = λ ends. absurd (cc);
  number_is = λ stays. number;
  answered = λ stays.
      let line = event_line e in
      subst (λ r. IsAnswered m r old.config old.number line (line_of m.names line) new.room new.config old.batch new.batch)
      (sym had)
      (subst (λ r. IsAnswered m room old.config old.number line (line_of m.names line) r new.config old.batch new.batch)
      (sym has)
      (subst (λ l. IsAnswered m room old.config old.number line l left new.config old.batch new.batch)
      (sym (event_asked m.names line e fits refl)) (answered old.number line)));
}

still_alike : (room room' : Option ℕ) (es : List Entry) → room' ≡ room_after room es → (xs : List Entry)
    → kept_lines room' xs ≡ kept_lines room xs
still_alike None room' es is xs = ap (λ r. kept_lines r xs) is
still_alike (Some n) room' es is xs = ap (λ r. kept_lines r xs) is

same_text : (given passed rest bytes : List ℕ) → bytes ≡ passed ++ rest → (given ++ passed) ++ rest ≡ given ++ bytes
same_text given passed rest bytes split = append_assoc given passed rest ∙ ap (λ t. given ++ t) (sym split)

-- the bytes after one more line
pub split_on : (passed rest bytes text next : List ℕ) → bytes ≡ passed ++ rest → lines_of rest ≡ text ∷ lines_of next
    → bytes ≡ (passed ++ ended text) ++ next
split_on passed rest bytes text next split found =
    split ∙ ap (λ t. passed ++ t) (first_line rest text next found) ∙ sym (append_assoc passed (ended text) next)

-- a line that was begun before these bytes, and those after it
line_and_rest : (given bytes end next : List ℕ) → lines_of bytes ≡ end ∷ lines_of next
    → (given ++ ended end) ++ next ≡ given ++ bytes
line_and_rest given bytes end next found =
    append_assoc given (ended end) next ∙ ap (λ t. given ++ t) (sym (first_line bytes end next found))

pub begun_cut : {L : Type 0} (m : Meaning L) (s : Start L) (log out : Option (List ℕ))
    (given bytes end next more : List ℕ) → lines_of bytes ≡ end ∷ lines_of next
    → IsCut m s (((given ++ ended end) ++ next) ++ more) log out → IsCut m s ((given ++ bytes) ++ more) log out
begun_cut m s log out given bytes end next more found cut =
    subst (λ t. IsCut m s (t ++ more) log out) (line_and_rest given bytes end next found) cut

-- a session that has written what it held back
abbrev pub committed : {P L : Type 0} → Session P L → Batch → Session P L
committed now batch = record {
  config = now.config;
  room = now.room;
  number = now.number;
  partial = now.partial;
  batch = batch;
}

module _ {P L : Type 0} (m : Meaning L) (s : Start L) (log out : Option (List ℕ)) where
  abbrev Alike : Session P L → Type 0
  Alike now = (entries : List Entry) → kept_lines now.room entries ≡ kept_lines s.room entries

  alike_on : (line : List ℕ) (ends : Bool) (old new : Session P L) → HasTaken m line ends old new → ends ≡ false
      → Alike old → Alike new
  alike_on line ends old new taken stays alike xs =
      still_alike old.room new.room (exchange m old.room old.config old.number line (line_of m.names line)).entries
      (taken.answered stays).acted.room_is xs
      ∙ alike xs

  -- a line was taken that doesn't end the session, and one that does
  stays_on : {F : Type 0} (text : F → List ℕ) (line : List ℕ) (lines : F → List (List ℕ)) (ends : Bool)
      (old new : Session P L) → HasTaken m line ends old new → ends ≡ false → Alike old
      → Goes m s text (λ more. course_of m old.room old.config old.number (line ∷ lines more)) old.batch log out
      → Goes m s text (λ more. course_of m new.room new.config new.number (lines more)) new.batch log out
  stays_on text line lines ends old new taken stays alike goes =
      goes_as m s text (λ more. course_of m new.room new.config (old.number + 1) (lines more))
      (λ more. course_of m new.room new.config new.number (lines more)) new.batch log out
      (λ more. ap (λ n. course_of m new.room new.config n (lines more)) (sym (taken.number_is stays)))
      (goes_on_by m s text line old.room new.room old.config new.config old.number lines old.batch new.batch log out
      (sym taken.exits ∙ stays) alike (taken.answered stays) goes)

  goes_off : {F : Type 0} (text : F → List ℕ) (line : List ℕ) (lines : F → List (List ℕ)) (ends : Bool)
      (old new : Session P L) → HasTaken m line ends old new → ends ≡ true
      → Goes m s text (λ more. course_of m old.room old.config old.number (line ∷ lines more)) old.batch log out
      → Goes m s text (λ more. rested new.config) new.batch log out
  goes_off text line lines ends old new taken exits goes =
      let left : Goes m s text (λ more. rested old.config) old.batch log out =
      goes_out m s text line old.room old.config old.number lines old.batch log out (sym taken.exits ∙ exits) goes in
      subst (λ b. Goes m s text (λ more. rested new.config) b log out) (sym (taken.same_batch exits))
      (subst (λ c. Goes m s text (λ more. rested c) old.batch log out) (sym (taken.same_config exits)) left)

  -- a line ends that was begun
  begun_line : (given line end : List ℕ) (now : Session P L) → HasNo 10 end → IsWithin m s given line now log out
      → Goes m s (after (given ++ ended end))
      (λ more. course_of m now.room now.config now.number ((line ++ end) ∷ lines_of more)) now.batch log out
  begun_line given line end now none within =
      goes_as m s (after (given ++ ended end))
      (λ more. course_of m now.room now.config now.number (lines_of (line ++ (ended end ++ more))))
      (λ more. course_of m now.room now.config now.number ((line ++ end) ∷ lines_of more)) now.batch log out
      (λ more. ap (course_of m now.room now.config now.number) (line_ends line end more within.unbroken none))
      (goes_given m s given (ended end)
      (λ more. course_of m now.room now.config now.number (lines_of (line ++ more))) now.batch log out within.goes)

  pub line_goes_on : (given line end : List ℕ) (ends : Bool) (old new : Session P L) → HasNo 10 end → ends ≡ false
      → HasTaken m (line ++ end) ends old new → new.partial.items ≡ [] → IsWithin m s given line old log out
      → IsWithin m s (given ++ ended end) [] new log out
  line_goes_on given line end ends old new none stays taken fresh within = record {
    front = fresh;
    unbroken = tt;
    alike = alike_on (line ++ end) ends old new taken stays within.alike;
    goes = stays_on (after (given ++ ended end)) (line ++ end) (λ more. lines_of more) ends old new taken stays
        within.alike (begun_line given line end old none within);
  }

  pub line_ends_it : (given line end : List ℕ) (ends : Bool) (old new : Session P L) → HasNo 10 end → ends ≡ true
      → HasTaken m (line ++ end) ends old new → IsWithin m s given line old log out
      → HasEnded m s (given ++ ended end) new log out
  line_ends_it given line end ends old new none exits taken within =
      goes_off (after (given ++ ended end)) (line ++ end) (λ more. lines_of more) ends old new taken exits
      (begun_line given line end old none within)

  -- what comes after the end changes nothing
  pub ended_on : (given bytes : List ℕ) (now : Session P L) → HasEnded m s given now log out
      → HasEnded m s (given ++ bytes) now log out
  ended_on given bytes now goes = goes_given m s given bytes (λ more. rested now.config) now.batch log out goes

  pub ended_with : (given more : List ℕ) (now : Session P L) → HasEnded m s given now log out
      → HasEndedWith m s (given ++ more) now log out
  ended_with given more now goes = record {
    sent = goes.sent;
    held = goes.held;
    goes_on = λ only. goes.goes_on more;
    kept = goes.kept;
    answered = goes.answered;
    entries = goes.entries;
    answers = goes.answers;
  }

  -- a line goes on
  pub begun_on : (given line bytes : List ℕ) (old new : Session P L) → HasNo 10 bytes
      → IsFront new.partial.items (line ++ bytes) → new.config ≡ old.config → new.room ≡ old.room
      → new.number ≡ old.number → new.batch ≡ old.batch → IsWithin m s given line old log out
      → IsAt m s (given ++ bytes) new log out
  begun_on given line bytes old new none front same_config same_room same_number same_batch within = (
    line ++ bytes,
    record {
      front = front;
      unbroken = unbroken_on line bytes within.unbroken none;
      alike = λ entries. ap (λ r. kept_lines r entries) same_room ∙ within.alike entries;
      goes =
          subst (λ b. Goes m s (after (given ++ bytes))
          (λ more. course_of m new.room new.config new.number (lines_of ((line ++ bytes) ++ more))) b log out)
          (sym same_batch)
          (goes_as m s (after (given ++ bytes))
          (λ more. course_of m old.room old.config old.number (lines_of (line ++ (bytes ++ more))))
          (λ more. course_of m new.room new.config new.number (lines_of ((line ++ bytes) ++ more))) old.batch log out
          (λ more. same_course (line ++ (bytes ++ more)) ((line ++ bytes) ++ more) (sym (append_assoc line bytes more)))
          (goes_given m s given bytes
          (λ more. course_of m old.room old.config old.number (lines_of (line ++ more))) old.batch log out within.goes));
    },
  )
    where
      same_course : (xs ys : List ℕ) → xs ≡ ys
          → course_of m old.room old.config old.number (lines_of xs)
          ≡ course_of m new.room new.config new.number (lines_of ys)
      same_course xs ys is =
          ap (λ t. course_of m old.room old.config old.number (lines_of t)) is
          ∙ ap (λ r. course_of m r old.config old.number (lines_of ys)) (sym same_room)
          ∙ ap (λ c. course_of m new.room c old.number (lines_of ys)) (sym same_config)
          ∙ ap (λ n. course_of m new.room new.config n (lines_of ys)) (sym same_number)

  -- the last line ends with the input
  last_line : (given line : List ℕ) (now : Session P L) → IsWithin m s given line now log out
      → Goes {F = Unit {0}} m s (λ only. given)
      (λ only. course_of m now.room now.config now.number (line ∷ [])) now.batch log out
  last_line given line now within = record {
    sent = within.goes.sent;
    held = within.goes.held;
    goes_on = λ only.
        ap (course m s.room s.config) (sym (append-nil given)) ∙ within.goes.goes_on []
        ∙ ap (λ ls. led_by (within.goes.sent ++ within.goes.held) (course_of m now.room now.config now.number ls))
        (ap lines_of (append-nil line) ∙ whole_line line within.unbroken);
    kept = within.goes.kept;
    answered = within.goes.answered;
    entries = within.goes.entries;
    answers = within.goes.answers;
  }

  pub last_taken : (given line : List ℕ) (ends : Bool) (old new : Session P L) → HasTaken m line ends old new
      → IsWithin m s given line old log out → HasEndedWith m s given new log out
  last_taken given line true old new taken within =
      goes_off (λ only. given) line (λ only. []) true old new taken refl (last_line given line old within)
  last_taken given line false old new taken within =
      goes_as m s (λ only. given) (λ only. course_of m new.room new.config new.number []) (λ only. rested new.config)
      new.batch log out (λ only. course_none m new.room new.config new.number)
      (stays_on (λ only. given) line (λ only. []) false old new taken refl within.alike
      (last_line given line old within))

  pub cut_within : (given line more : List ℕ) (now : Session P L) → IsWithin m s given line now log out
      → IsCut m s (given ++ more) log out
  cut_within given line more now within =
      cut_here m s (after given) more (λ more. course_of m now.room now.config now.number (lines_of (line ++ more)))
      now.batch log out within.goes

  pub cut_within_commit : (given line more : List ℕ) (log' out' : Option (List ℕ)) (now : Session P L)
      → IsWithin m s given line now log out → IsUncommitted now.batch log log' out out'
      → IsCut m s (given ++ more) log' out'
  cut_within_commit given line more log' out' now within failed =
      cut_writing m s (after given) more
      (λ more. course_of m now.room now.config now.number (lines_of (line ++ more))) now.batch log log' out out'
      within.goes failed

  pub written_within : (given line : List ℕ) (log' out' : Option (List ℕ)) (old new : Session P L)
      → Appends log log' old.batch.entries.items → Appends out out' old.batch.answers.items
      → new.batch.entries.items ≡ [] → new.batch.answers.items ≡ [] → new.partial ≡ old.partial
      → new.config ≡ old.config → new.room ≡ old.room → new.number ≡ old.number
      → IsWithin m s given line old log out → IsWithin m s given line new log' out'
  written_within given line log' out' old new wrote answered no_entries no_answers same_partial same_config same_room
      same_number within = record {
        front = ap (λ p. p.items) same_partial ∙ within.front;
        unbroken = within.unbroken;
        alike = λ entries. ap (λ r. kept_lines r entries) same_room ∙ within.alike entries;
        goes =
            goes_as m s (after given) (λ more. course_of m old.room old.config old.number (lines_of (line ++ more)))
            (λ more. course_of m new.room new.config new.number (lines_of (line ++ more))) new.batch log' out'
            (λ more.
            ap (λ r. course_of m r old.config old.number (lines_of (line ++ more))) (sym same_room)
            ∙ ap (λ c. course_of m new.room c old.number (lines_of (line ++ more))) (sym same_config)
            ∙ ap (λ n. course_of m new.room new.config n (lines_of (line ++ more))) (sym same_number))
            (goes_written m s (after given) (λ more. course_of m old.room old.config old.number (lines_of (line ++ more)))
            old.batch new.batch log log' out out' wrote answered no_entries no_answers within.goes);
      }

  -- ---- the lines of some bytes, one after the other

  pub lines_begin : (given line : List ℕ) (now : Session P L) → now.partial.items ≡ [] → IsWithin m s given line now log out
      → IsWithin m s (given ++ []) [] now log out
  lines_begin given line now fresh within =
      subst (λ t. IsWithin m s t [] now log out) (sym (append-nil given))
      (subst (λ l. IsWithin m s given l now log out) (front_none line (sym fresh ∙ within.front)) within)

  module _ (given passed rest bytes : List ℕ) (split : bytes ≡ passed ++ rest) where
    pub lines_cut_short : (more : List ℕ) (now : Session P L) → IsWithin m s (given ++ passed) [] now log out
        → IsCut m s ((given ++ bytes) ++ more) log out
    lines_cut_short more now within =
        subst (λ t. IsCut m s t log out)
        (sym (append_assoc (given ++ passed) rest more) ∙ ap (λ t. t ++ more) (same_text given passed rest bytes split))
        (cut_within (given ++ passed) [] (rest ++ more) now within)

    pub lines_cut_commit : (more : List ℕ) (log' out' : Option (List ℕ)) (now : Session P L)
        → IsWithin m s (given ++ passed) [] now log out → IsUncommitted now.batch log log' out out'
        → IsCut m s ((given ++ bytes) ++ more) log' out'
    lines_cut_commit more log' out' now within failed =
        subst (λ t. IsCut m s t log' out')
        (sym (append_assoc (given ++ passed) rest more) ∙ ap (λ t. t ++ more) (same_text given passed rest bytes split))
        (cut_within_commit (given ++ passed) [] (rest ++ more) log' out' now within failed)

    pub lines_rest : (old new : Session P L) → lines_of rest ≡ rest ∷ [] → IsFront new.partial.items rest
        → new.config ≡ old.config → new.room ≡ old.room → new.number ≡ old.number → new.batch ≡ old.batch
        → IsWithin m s (given ++ passed) [] old log out → IsAt m s (given ++ bytes) new log out
    lines_rest old new only front same_config same_room same_number same_batch within =
        subst (λ t. IsAt m s t new log out) (same_text given passed rest bytes split)
        (begun_on (given ++ passed) [] rest old new (rest_unbroken rest only) front same_config same_room same_number
        same_batch within)

    module _ (text next : List ℕ) (found : lines_of rest ≡ text ∷ lines_of next) where
      pub lines_end : (ends : Bool) (old new : Session P L) → ends ≡ true → HasTaken m text ends old new
          → IsWithin m s (given ++ passed) [] old log out → HasEnded m s (given ++ bytes) new log out
      lines_end ends old new exits taken within =
          let whole : ((given ++ passed) ++ ended text) ++ next ≡ given ++ bytes =
          append_assoc (given ++ passed) (ended text) next
          ∙ ap (λ t. (given ++ passed) ++ t) (sym (first_line rest text next found))
          ∙ same_text given passed rest bytes split in
          subst (λ t. HasEnded m s t new log out) whole
          (ended_on ((given ++ passed) ++ ended text) next new
          (line_ends_it (given ++ passed) [] text ends old new (line_unbroken rest text next found) exits taken within))

      pub lines_go_on : (ends : Bool) (old new : Session P L) → ends ≡ false → HasTaken m text ends old new
          → new.partial.items ≡ [] → IsWithin m s (given ++ passed) [] old log out
          → IsWithin m s (given ++ (passed ++ ended text)) [] new log out
      lines_go_on ends old new stays taken fresh within =
          subst (λ t. IsWithin m s t [] new log out) (append_assoc given passed (ended text))
          (line_goes_on (given ++ passed) [] text ends old new (line_unbroken rest text next found) stays taken fresh
          within)

  -- before the first read
  pub begins : (now : Session P L) → now.room ≡ s.room → now.config ≡ s.config → now.number ≡ 1
      → now.partial.items ≡ [] → now.batch.entries.items ≡ [] → now.batch.answers.items ≡ [] → s.log ≡ log → s.out ≡ out
      → IsWithin m s [] [] now log out
  begins now room config number fresh entries answers same_log same_out = record {
    front = fresh;
    unbroken = tt;
    alike = λ es. ap (λ r. kept_lines r es) room;
    goes = record {
      sent = [];
      held = [];
      goes_on = λ more.
          ap (λ r. course_of m r s.config 1 (lines_of more)) (sym room)
          ∙ ap (λ c. course_of m now.room c 1 (lines_of more)) (sym config)
          ∙ ap (λ n. course_of m now.room now.config n (lines_of more)) (sym number);
      kept = subst (λ b. Appends s.log b (kept_text s.room [])) same_log (nothing_kept s.room s.log);
      answered = subst (λ b. Appends s.out b []) same_out (Appends-nil s.out);
      entries = entries ∙ sym (kept_nothing s.room);
      answers = answers;
    };
  }
    where
      kept_nothing : (room : Option ℕ) → kept_text room [] ≡ []
      kept_nothing None = refl
      kept_nothing (Some n) = refl

      nothing_kept : (room : Option ℕ) (a : Option (List ℕ)) → Appends a a (kept_text room [])
      nothing_kept None a = Appends-nil a
      nothing_kept (Some n) a = Appends-nil a

  -- ---- a line that was begun before these bytes

  module _ (given bytes end next : List ℕ) (found : lines_of bytes ≡ end ∷ lines_of next) where
    pub begun_ends_it : (line : List ℕ) (ends : Bool) (old new : Session P L) → ends ≡ true
        → HasTaken m (line ++ end) ends old new → IsWithin m s given line old log out
        → HasEnded m s (given ++ bytes) new log out
    begun_ends_it line ends old new exits taken within =
        subst (λ t. HasEnded m s t new log out) (line_and_rest given bytes end next found)
        (ended_on (given ++ ended end) next new
        (line_ends_it given line end ends old new (line_unbroken bytes end next found) exits taken within))

    pub begun_goes_on : (line : List ℕ) (ends : Bool) (old new : Session P L) → ends ≡ false
        → HasTaken m (line ++ end) ends old new → new.partial.items ≡ [] → IsWithin m s given line old log out
        → IsAt m s (given ++ ended end) new log out
    begun_goes_on line ends old new stays taken fresh within = (
      [],
      line_goes_on given line end ends old new (line_unbroken bytes end next found) stays taken fresh within,
    )

    pub begun_comes : (ends : Bool) (now : Session P L) (log' out' : Option (List ℕ))
        → Comes ends m s ((given ++ ended end) ++ next) now log' out' → Comes ends m s (given ++ bytes) now log' out'
    begun_comes ends now log' out' come = subst (λ t. Comes ends m s t now log' out')
        (line_and_rest given bytes end next found) come

  pub cut_before : (given line bytes more : List ℕ) (now : Session P L) → IsWithin m s given line now log out
      → IsCut m s ((given ++ bytes) ++ more) log out
  cut_before given line bytes more now within =
      subst (λ t. IsCut m s t log out) (sym (append_assoc given bytes more))
      (cut_within given line (bytes ++ more) now within)
