-- A session that goes on: from line to line, from commit to commit, and where it is cut short.
use Rattle.std.proofs.Common.{◌≡◌, ℕ, ◌+◌, true, false, List, [], ◌∷◌, ◌++◌, refl, sym, ap, ap₂, ◌∙◌, subst}
use Rattle.std.proofs.Common.{append-nil, append_assoc, Option, Some, None}
use Rattle.std.specs.Io.KnownBytes.{Appends}
use Rattle.std.proofs.KnownBytes.{Appends-trans, Appends-kept}
use Rattle.reset_model.specs.Configuration.{Configuration}
use Rattle.applications.specs.Meaning.{Meaning}
use Rattle.history.specs.declared.entry.Entry.{Entry}
use Rattle.script_replay.specs.Script.{line_of}
use Rattle.live_session.specs.Course.{Course, Exchange, IsCutShort, answers_text, config_after, course, course_of}
use Rattle.live_session.specs.Course.{exchange, is_exit, kept_lines, kept_text, led_by, rested, room_after}
use Rattle.live_session.specs.Progress.{Goes, HasDone, after, IsAnswered, IsUncommitted, Start}
use Rattle.live_session.specs.Progress.IsUncommitted.{entries_failed, answers_failed}
use Rattle.live_session.specs.declared.batch.Batch.{Batch}
use Rattle.live_session.proofs.Courses.{answers_on, course_exit, course_more, kept_on}

abbrev led_on : {L : Type 0} (xs ys : List Exchange) (course : Course L)
    → led_by xs (led_by ys course) ≡ led_by (xs ++ ys) course
led_on {L = L} xs ys course =
    let with : List Exchange → Course L = λ es. record { exchanges = es; config = course.config } in
    ap with (sym (append_assoc xs ys course.exchanges))

module _ {L : Type 0} (m : Meaning L) (s : Start L) where
  -- it goes on as another course does that is the same
  pub goes_as : {F : Type 0} (text : F → List ℕ) (on other : F → Course L) (batch : Batch) (log out : Option (List ℕ))
      → ((more : F) → on more ≡ other more) → Goes m s text on batch log out → Goes m s text other batch log out
  goes_as text on other batch log out same goes = record {
    sent = goes.sent;
    held = goes.held;
    goes_on = λ more. goes.goes_on more ∙ ap (led_by (goes.sent ++ goes.held)) (same more);
    kept = goes.kept;
    answered = goes.answered;
    entries = goes.entries;
    answers = goes.answers;
  }

  -- some of the bytes that come were given
  pub goes_given : (given bytes : List ℕ) (on : List ℕ → Course L) (batch : Batch) (log out : Option (List ℕ))
      → Goes m s (after given) on batch log out
      → Goes m s (after (given ++ bytes)) (λ more. on (bytes ++ more)) batch log out
  goes_given given bytes on batch log out goes = record {
    sent = goes.sent;
    held = goes.held;
    goes_on = λ more.
        ap (course m s.room s.config) (append_assoc given bytes more) ∙ goes.goes_on (bytes ++ more);
    kept = goes.kept;
    answered = goes.answered;
    entries = goes.entries;
    answers = goes.answers;
  }

  -- a line that ends the session
  pub goes_out : {F : Type 0} (text : F → List ℕ) (line : List ℕ) (room : Option ℕ) (c : Configuration L) (n : ℕ)
      (lines : F → List (List ℕ)) (batch : Batch) (log out : Option (List ℕ)) → is_exit line ≡ true
      → Goes m s text (λ more. course_of m room c n (line ∷ lines more)) batch log out
      → Goes m s text (λ more. rested c) batch log out
  goes_out text line room c n lines batch log out ends goes =
      goes_as text (λ more. course_of m room c n (line ∷ lines more)) (λ more. rested c) batch log out
      (λ more. course_exit m room c n line (lines more) ends) goes

  -- a line that was answered
  pub goes_on_by : {F : Type 0} (text : F → List ℕ) (line : List ℕ) (room left : Option ℕ) (c c' : Configuration L) (n : ℕ)
      (lines : F → List (List ℕ)) (old new : Batch) (log out : Option (List ℕ)) → is_exit line ≡ false
      → ((entries : List Entry) → kept_lines room entries ≡ kept_lines s.room entries)
      → IsAnswered m room c n line (line_of m.names line) left c' old new
      → Goes m s text (λ more. course_of m room c n (line ∷ lines more)) old log out
      → Goes m s text (λ more. course_of m left c' (n + 1) (lines more)) new log out
  goes_on_by {F = F} text line room left c c' n lines old new log out stays alike done goes =
      let e : Exchange = exchange m room c n line (line_of m.names line) in
      let next : F → Course L =
      λ more. course_of m (room_after room e.entries) (config_after m room c n (line_of m.names line)) (n + 1)
      (lines more) in
      let same : (more : F) → next more ≡ course_of m left c' (n + 1) (lines more) =
      λ more. ap₂ (λ r x. course_of m r x (n + 1) (lines more)) (sym done.acted.room_is) (sym done.config_is) in
      record {
        sent = goes.sent;
        held = goes.held ++ (e ∷ []);
        goes_on = λ more.
            goes.goes_on more
            ∙ ap (led_by (goes.sent ++ goes.held)) (course_more m room c n line (lines more) stays)
            ∙ led_on (goes.sent ++ goes.held) (e ∷ []) (next more)
            ∙ ap (λ es. led_by es (next more)) (append_assoc goes.sent goes.held (e ∷ []))
            ∙ ap (led_by (goes.sent ++ (goes.held ++ (e ∷ [])))) (same more);
        kept = goes.kept;
        answered = goes.answered;
        entries =
            done.acted.entries_are
            ∙ ap₂ (λ xs ys. xs ++ ys) goes.entries
            (alike e.entries ∙ ap (kept_lines s.room) (sym (append-nil e.entries)))
            ∙ sym (kept_on s.room goes.held (e ∷ []));
        answers =
            done.acted.answers_are
            ∙ ap₂ (λ xs ys. xs ++ ys) goes.answers (sym (append-nil e.answer))
            ∙ sym (answers_on goes.held (e ∷ []));
      }

  -- what was held back was written
  pub goes_written : {F : Type 0} (text : F → List ℕ) (on : F → Course L) (old new : Batch) (log log' out out' : Option (List ℕ))
      → Appends log log' old.entries.items → Appends out out' old.answers.items
      → new.entries.items ≡ [] → new.answers.items ≡ []
      → Goes m s text on old log out → Goes m s text on new log' out'
  goes_written text on old new log log' out out' wrote answered no_entries no_answers goes = record {
    sent = goes.sent ++ goes.held;
    held = [];
    goes_on = λ more.
        goes.goes_on more ∙ ap (λ es. led_by es (on more)) (sym (append-nil (goes.sent ++ goes.held)));
    kept =
        subst (Appends s.log log')
        (ap (λ t. kept_text s.room goes.sent ++ t) goes.entries ∙ sym (kept_on s.room goes.sent goes.held))
        (Appends-trans s.log log log' (kept_text s.room goes.sent) old.entries.items goes.kept wrote);
    answered =
        subst (Appends s.out out')
        (ap (λ t. answers_text goes.sent ++ t) goes.answers ∙ sym (answers_on goes.sent goes.held))
        (Appends-trans s.out out out' (answers_text goes.sent) old.answers.items goes.answered answered);
    entries = no_entries ∙ sym (kept_none s.room);
    answers = no_answers;
  }
    where
      kept_none : (room : Option ℕ) → kept_text room [] ≡ []
      kept_none None = refl
      kept_none (Some room) = refl

  -- ---- where it is cut short

  exchanges_are : {F : Type 0} (text : F → List ℕ) (more : F) (on : F → Course L) (batch : Batch) (log out : Option (List ℕ))
      (goes : Goes m s text on batch log out)
      → (course m s.room s.config (text more)).exchanges ≡ (goes.sent ++ goes.held) ++ (on more).exchanges
  exchanges_are text more on batch log out goes = ap (λ (x : Course L). x.exchanges) (goes.goes_on more)

  -- nothing was written since
  pub cut_here : {F : Type 0} (text : F → List ℕ) (more : F) (on : F → Course L) (batch : Batch) (log out : Option (List ℕ))
      → Goes m s text on batch log out
      → IsCutShort s.room (course m s.room s.config (text more)).exchanges s.log log s.out out
  cut_here text more on batch log out goes =
      let rest : List Exchange = goes.held ++ (on more).exchanges in
      record {
        first = goes.sent;
        rest = rest;
        split =
            exchanges_are text more on batch log out goes
            ∙ append_assoc goes.sent goes.held (on more).exchanges;
        answered = record {
          prefix = answers_text goes.sent;
          rest = [];
          cut = sym (append-nil (answers_text goes.sent));
          appended = goes.answered;
        };
        more = [];
        last = kept_text s.room rest;
        kept = subst (Appends s.log log) (sym (append-nil (kept_text s.room goes.sent))) goes.kept;
        within = refl;
      }

  -- what was held back couldn't be written
  pub cut_writing : {F : Type 0} (text : F → List ℕ) (more : F) (on : F → Course L) (batch : Batch) (log log' out out' : Option (List ℕ))
      → Goes m s text on batch log out → IsUncommitted batch log log' out out'
      → IsCutShort s.room (course m s.room s.config (text more)).exchanges s.log log' s.out out'
  cut_writing text more on batch log log' out out' goes (entries_failed wrote same) =
      let later : List Exchange = (on more).exchanges in
      record {
        first = goes.sent;
        rest = goes.held ++ later;
        split =
            exchanges_are text more on batch log out goes ∙ append_assoc goes.sent goes.held later;
        answered = record {
          prefix = answers_text goes.sent;
          rest = [];
          cut = sym (append-nil (answers_text goes.sent));
          appended = Appends-kept s.out out out' (answers_text goes.sent) goes.answered same;
        };
        more = wrote.prefix;
        last = wrote.rest ++ kept_text s.room later;
        kept = Appends-trans s.log log log' (kept_text s.room goes.sent) wrote.prefix goes.kept wrote.appended;
        within =
            kept_on s.room goes.held later
            ∙ ap (λ t. t ++ kept_text s.room later) (sym goes.entries ∙ wrote.cut)
            ∙ append_assoc wrote.prefix wrote.rest (kept_text s.room later);
      }
  cut_writing text more on batch log log' out out' goes (answers_failed wrote told) =
      let first : List Exchange = goes.sent ++ goes.held in
      let kept : Appends s.log log' (kept_text s.room first) =
      subst (Appends s.log log')
      (ap (λ t. kept_text s.room goes.sent ++ t) goes.entries ∙ sym (kept_on s.room goes.sent goes.held))
      (Appends-trans s.log log log' (kept_text s.room goes.sent) batch.entries.items goes.kept wrote) in
      record {
        first = first;
        rest = (on more).exchanges;
        split = exchanges_are text more on batch log out goes;
        answered = record {
          prefix = answers_text goes.sent ++ told.prefix;
          rest = told.rest;
          cut =
              answers_on goes.sent goes.held
              ∙ ap (λ t. answers_text goes.sent ++ t) (sym goes.answers ∙ told.cut)
              ∙ sym (append_assoc (answers_text goes.sent) told.prefix told.rest);
          appended = Appends-trans s.out out out' (answers_text goes.sent) told.prefix goes.answered told.appended;
        };
        more = [];
        last = kept_text s.room (on more).exchanges;
        kept = subst (Appends s.log log') (sym (append-nil (kept_text s.room first))) kept;
        within = refl;
      }

  -- ---- the end

  -- nothing is held back, and nothing follows
  pub goes_done : {F : Type 0} (text : F → List ℕ) (more : F) (c left : Configuration L) (batch : Batch) (log out : Option (List ℕ))
      → left ≡ c → batch.entries.items ≡ [] → batch.answers.items ≡ []
      → (goes : Goes m s text (λ more. rested c) batch log out) → goes.held ≡ []
      → HasDone m s (text more) left log out
  goes_done text more c left batch log out same no_entries no_answers goes none =
      let is : course m s.room s.config (text more) ≡ record { exchanges = goes.sent; config = c } =
      goes.goes_on more
      ∙ ap (λ es. led_by es (rested c)) (ap (λ es. goes.sent ++ es) none ∙ append-nil goes.sent)
      ∙ ap (λ es. record { exchanges = es; config = c }) (append-nil goes.sent) in
      record {
        left_is = same ∙ sym (ap (λ (x : Course L). x.config) is);
        done = record {
          kept =
              subst (λ (x : Course L). Appends s.log log (kept_text s.room x.exchanges)) (sym is) goes.kept;
          answered = subst (λ (x : Course L). Appends s.out out (answers_text x.exchanges)) (sym is) goes.answered;
        };
      }

  -- what is held back is written at the end
  pub goes_out_done : {F : Type 0} (text : F → List ℕ) (more : F) (c left : Configuration L) (old new : Batch)
      (log log' out out' : Option (List ℕ)) → left ≡ c
      → Appends log log' old.entries.items → Appends out out' old.answers.items
      → new.entries.items ≡ [] → new.answers.items ≡ []
      → Goes m s text (λ more. rested c) old log out → HasDone m s (text more) left log' out'
  unfolding goes_written
  goes_out_done text more c left old new log log' out out' same wrote answered no_entries no_answers goes =
      goes_done text more c left new log' out' same no_entries no_answers
      (goes_written text (λ more. rested c) old new log log' out out' wrote answered no_entries no_answers goes) refl
