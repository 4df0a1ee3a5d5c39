-- Lines that aren't refused, and lines of which the first bytes are kept.
use Rattle.std.proofs.Common.{◌≡◌, ℕ, Bool, true, false, ◌&&◌, if◌then◌else◌, List, [], ◌++◌, refl, sym, ap, ◌∙◌, subst, Option, unwrap_or}
use Rattle.explanations.specs.Help.{helped}
use Rattle.reset_model.specs.Configuration.{Configuration}
use Rattle.applications.specs.Meaning.{Meaning}
use Rattle.script_replay.specs.Output.{answer_to, answered, bad_line_text}
use Rattle.script_replay.specs.Recorded.{line_entries}
use Rattle.script_replay.specs.Script.{line_of}
use Rattle.script_replay.specs.declared.script.Command.{Command}
use Rattle.script_replay.specs.declared.script.Command.TheVariants.{Step, Inject, Draw, Show, ShowNode, Newest, Enabled}
use Rattle.script_replay.specs.declared.script.Command.TheVariants.{Ready, Check, CheckNode, Alarm, Watch, Moves}
use Rattle.script_replay.specs.declared.script.Command.TheVariants.{MovesOf, Snapshot, Invariant}
use Rattle.script_replay.specs.declared.script.Line.{Line}
use Rattle.script_replay.specs.declared.script.Line.TheVariants.{Asks, Bad, Silent}
use Rattle.live_session.specs.Course.{Exchange, asks_for_change, full_text, is_full, is_refused, reply_text}
use Rattle.live_session.specs.Course.{unread_text}
use Rattle.live_session.specs.Progress.{HasActed, HasTaken, IsAnswered, IsFront}
use Rattle.live_session.specs.declared.batch.Batch.{Batch}
use Rattle.live_session.specs.declared.session.Session.{Session}
use Rattle.live_session.proofs.Courses.{front_exit, front_helped, front_line}
use Rattle.live_session.proofs.Watched.{acted_none}

and_false : (b : Bool) → (b && false) ≡ false
and_false true = refl
and_false false = refl

module _ {L : Type 0} (m : Meaning L) (room : Option ℕ) (c : Configuration L) (n : ℕ) (text : List ℕ) (line : Line) where
  abbrev exchange_if : Bool → Exchange
  exchange_if b =
      if b then record { answer = full_text; entries = [] }
      else record { answer = reply_text m c n text line; entries = line_entries m c line }

  abbrev config_if : Bool → Configuration L
  config_if b = if b then c else (answer_to m c n line).config

  pub unrefused : (left : Option ℕ) (c' : Configuration L) (old new : Batch) → is_refused room line ≡ false
      → c' ≡ (answer_to m c n line).config
      → HasActed room (reply_text m c n text line) (line_entries m c line) left old new
      → IsAnswered m room c n text line left c' old new
  unrefused left c' old new free same acted = record {
    config_is = same ∙ ap config_if (sym free);
    acted =
        subst (λ b. HasActed room (exchange_if b).answer (exchange_if b).entries left old new) (sym free) acted;
  }

-- two texts that ask for the same help are answered alike where they are read as the same line
module _ {L : Type 0} (m : Meaning L) (room : Option ℕ) (c : Configuration L) (n : ℕ) (text text' : List ℕ) where
  same_reply : helped text ≡ helped text' → (line : Line) → reply_text m c n text line ≡ reply_text m c n text' line
  same_reply same Silent = refl
  same_reply same (Asks command) = refl
  same_reply same Bad = ap (λ help. unwrap_or help (bad_line_text n)) same

  abbrev exchange_as : Line → List ℕ → Exchange
  exchange_as line reply =
      if is_refused room line then record { answer = full_text; entries = [] }
      else record { answer = reply; entries = line_entries m c line }

  pub same_answered : (line : Line) (left : Option ℕ) (c' : Configuration L) (old new : Batch) → helped text ≡ helped text'
      → IsAnswered m room c n text line left c' old new → IsAnswered m room c n text' line left c' old new
  same_answered line left c' old new same done = record {
    config_is = done.config_is;
    acted =
        subst (λ reply. HasActed room (exchange_as line reply).answer (exchange_as line reply).entries left old new)
        (same_reply same line) done.acted;
  }

-- a line that is no line of a script
module _ {L : Type 0} (m : Meaning L) (room : Option ℕ) (c : Configuration L) (n : ℕ) (text : List ℕ) where
  pub unread_answered : (c' : Configuration L) (old new : Batch) → c' ≡ c
      → new.answers.items ≡ old.answers.items ++ unread_text n text → new.entries.items ≡ old.entries.items
      → IsAnswered m room c n text Bad room c' old new
  unread_answered c' old new same wrote kept =
      unrefused m room c n text Bad room c' old new (and_false (is_full room)) same
      (acted_none room (unread_text n text) [] old new refl wrote kept)

module _ {L : Type 0} (m : Meaning L) (c : Configuration L) where
  question_entries : (command : Command) → asks_for_change (Asks command) ≡ false
      → line_entries m c (Asks command) ≡ []
  question_entries (Step e) is = absurd (cc)
  question_entries (Inject f) is = absurd (cc)
  question_entries (Draw seed) is = absurd (cc)
  question_entries Show is = refl
  question_entries (ShowNode i) is = refl
  question_entries Newest is = refl
  question_entries (Enabled i) is = refl
  question_entries Ready is = refl
  question_entries Check is = refl
  question_entries (CheckNode i) is = refl
  question_entries (Alarm i) is = refl
  question_entries (Watch i) is = absurd (cc)
  question_entries Moves is = refl
  question_entries (MovesOf i) is = refl
  question_entries Snapshot is = refl
  question_entries Invariant is = refl

  pub question_answered : (room : Option ℕ) (n : ℕ) (text : List ℕ) (command : Command) (c' : Configuration L) (old new : Batch)
      → asks_for_change (Asks command) ≡ false → c' ≡ (answered m c command).0
      → new.answers.items ≡ old.answers.items ++ (answered m c command).1 → new.entries.items ≡ old.entries.items
      → IsAnswered m room c n text (Asks command) room c' old new
  question_answered room n text command c' old new asks same wrote kept =
      unrefused m room c n text (Asks command) room c' old new
      (ap (λ b. is_full room && b) asks ∙ and_false (is_full room)) same
      (acted_none room (answered m c command).1 (line_entries m c (Asks command)) old new
      (question_entries command asks) wrote kept)

module _ {P L : Type 0} (m : Meaning L) where
  -- a line is answered as its first bytes are
  pub front_taken : (kept line : List ℕ) (ends : Bool) (old mid new : Session P L) → IsFront kept line
      → mid ≡ record {
        config = old.config;
        room = old.room;
        number = old.number;
        partial = mid.partial;
        batch = old.batch;
      }
      → HasTaken m kept ends mid new → HasTaken m line ends old new
  front_taken kept line ends old mid new front is taken =
      let with = subst (λ (x : Session P L). HasTaken m kept ends x new) is taken in
      record {
        exits = with.exits ∙ front_exit kept line front;
        same_config = with.same_config;
        same_batch = with.same_batch;
        number_is = with.number_is;
        answered = λ stays.
            same_answered m old.room old.config old.number kept line (line_of m.names line) new.room new.config old.batch
            new.batch (front_helped kept line front)
            (subst (λ l. IsAnswered m old.room old.config old.number kept l new.room new.config old.batch new.batch)
            (front_line m.names kept line front) (with.answered stays));
      }

  pub same_taken : (line : List ℕ) (ends : Bool) (old mid new : Session P L)
      → mid ≡ record {
        config = old.config;
        room = old.room;
        number = old.number;
        partial = mid.partial;
        batch = old.batch;
      }
      → HasTaken m line ends mid new → HasTaken m line ends old new
  same_taken line ends old mid new is taken =
      let with = subst (λ (x : Session P L). HasTaken m line ends x new) is taken in
      record {
        exits = with.exits;
        same_config = with.same_config;
        same_batch = with.same_batch;
        number_is = with.number_is;
        answered = with.answered;
      }
