-- Sessions with a new history, and with one that goes on.
use Rattle.std.proofs.Common.{◌≡◌, ℕ, ◌-◌, List, subst, length, Option, Some, None}
use Rattle.std.proofs.Common.{Result, Ok, Err, IfOk, OnErr}
use Rattle.std.specs.Io.KnownBytes.{Appends, Keeps}
use Rattle.std.proofs.KnownBytes.{Appends-trans}
use Rattle.reset_model.specs.Configuration.{Configuration}
use Rattle.applications.specs.Meaning.{Meaning}
use Rattle.history.specs.HistoryText.{IsReadWhole, ended, entries_text, first_line}
use Rattle.history.specs.Reports.{reports_of}
use Rattle.history.specs.declared.entry.Entry.{Entry}
use Rattle.live_session.specs.Course.{IsCutShort, IsDone, answers_text, course, entries_of}
use Rattle.live_session.specs.Kept.{HasBegun, HasGoneOn, HasResumed, IsCutAtBeginning, IsCutGoingOn, IsCutOnItsWay, IsPast}
use Rattle.live_session.specs.Kept.{exchanges_of, resumed_text}
use Rattle.live_session.specs.Kept.IsCutAtBeginning.{later as cut_later}
use Rattle.live_session.specs.Kept.IsCutGoingOn.{within_line, after_line}
use Rattle.live_session.specs.Kept.IsCutOnItsWay.{in_its_line, later}

kept_then : (a b c : Option (List ℕ)) (bs : List ℕ) → Keeps a b → Appends b c bs → Appends a c bs
kept_then None b c bs same grown = tt
kept_then (Some xs) None c bs same grown = absurd same
kept_then (Some xs) (Some ys) c bs same grown = subst (λ z. Appends (Some z) c bs) same grown

module _ {L : Type 0} (m : Meaning L) (room : ℕ) (c : Configuration L) (known log log' out out' : Option (List ℕ)) where
  -- what a run from there leaves to its writers
  abbrev IsRunTo : Option (List ℕ) → Option (List ℕ) → Configuration L → Type 0
  IsRunTo held begun left =
      (text : List ℕ) × IsReadWhole known text × (left ≡ (course m (Some room) c text).config)
      × IsDone (Some room) (course m (Some room) c text).exchanges held log' begun out'

  abbrev IsRunCut : Option (List ℕ) → Option (List ℕ) → Type 0
  IsRunCut held begun =
      (text : List ℕ) × IsReadWhole known text
      × IsCutShort (Some room) (course m (Some room) c text).exchanges held log' begun out'

  pub gone_on : {E : Type 0} (r : Result (Configuration L) E) (line : List ℕ) (held begun : Option (List ℕ)) → Keeps log held
      → Appends out begun line → IfOk r (IsRunTo held begun) → IfOk r (HasGoneOn m room c line known log log' out out')
  gone_on (Err e) line held begun same wrote run = tt
  gone_on (Ok left) line held begun same wrote (text, read, left_is, done) = record {
    text = text;
    read = read;
    left_is = left_is;
    kept = kept_then log held log' (entries_text (entries_of (exchanges_of m room c text))) same done.kept;
    answered = Appends-trans out begun out' line (answers_text (exchanges_of m room c text)) wrote done.answered;
  }

  pub cut_going_on : {E : Type 0} (r : Result (Configuration L) E) (line : List ℕ) (held begun : Option (List ℕ)) → Keeps log held
      → Appends out begun line → OnErr r (IsRunCut held begun)
      → OnErr r (IsCutGoingOn m room c line known log log' out out')
  cut_going_on (Ok left) line held begun same wrote run = tt
  cut_going_on (Err e) line held begun same wrote (text, read, cut) = after_line begun held text wrote same read cut

module _ {L : Type 0} (m : Meaning L) (c : Configuration L) (known log log' out out' : Option (List ℕ)) where
  pub begun : {E : Type 0} (r : Result (Configuration L) E) (modulus : ℕ) (held : Option (List ℕ)) → modulus ≡ c.modulus
      → Appends log held (ended (first_line modulus)) → IfOk r (IsRunTo m 1000000 c known log log' out out' held out)
      → IfOk r (HasBegun m c known log log' out out')
  begun (Err e) modulus held is wrote run = tt
  begun (Ok left) modulus held is wrote (text, read, left_is, done) = record {
    text = text;
    read = read;
    left_is = left_is;
    kept =
        Appends-trans log held log' (ended (first_line c.modulus))
        (entries_text (entries_of (exchanges_of m 1000000 c text)))
        (subst (λ n. Appends log held (ended (first_line n))) is wrote) done.kept;
    answered = done.answered;
  }

  pub cut_beginning : {E : Type 0} (r : Result (Configuration L) E) (modulus : ℕ) (held : Option (List ℕ)) → modulus ≡ c.modulus
      → Appends log held (ended (first_line modulus)) → OnErr r (IsRunCut m 1000000 c known log log' out out' held out)
      → OnErr r (IsCutAtBeginning m c known log log' out out')
  cut_beginning (Ok left) modulus held is wrote run = tt
  cut_beginning (Err e) modulus held is wrote (text, read, cut) =
      cut_later held text (subst (λ n. Appends log held (ended (first_line n))) is wrote) read cut

module _ {L : Type 0} (m : Meaning L) (opening c : Configuration L) (past known log log' out out' : Option (List ℕ))
    (es : List Entry) (n k : ℕ) (n_is : n ≡ length es) (k_is : k ≡ length (reports_of m.app m.from_text opening es))
    (past_is : IsPast m opening past es c) where
  pub resumed_on : (left : Configuration L)
      → HasGoneOn m (1000000 - n) c (resumed_text n k) known log log' out out' left
      → HasResumed m opening past known log log' out out' left
  resumed_on left went =
      let reports = length (reports_of m.app m.from_text opening es) in
      let on =
      subst (λ x. HasGoneOn m (1000000 - x) c (resumed_text x reports) known log log' out out' left) n_is
      (subst (λ y. HasGoneOn m (1000000 - n) c (resumed_text n y) known log log' out out' left) k_is went) in
      record {
        entries = es;
        config = c;
        past_is = past_is;
        text = on.text;
        read = on.read;
        left_is = on.left_is;
        kept = on.kept;
        answered = on.answered;
      }

  pub cut_resumed : IsCutGoingOn m (1000000 - n) c (resumed_text n k) known log log' out out'
      → IsCutOnItsWay m opening past known log log' out out'
  cut_resumed cut =
      let reports = length (reports_of m.app m.from_text opening es) in
      go
      (subst (λ x. IsCutGoingOn m (1000000 - x) c (resumed_text x reports) known log log' out out') n_is
      (subst (λ y. IsCutGoingOn m (1000000 - n) c (resumed_text n y) known log log' out out') k_is cut))
    where
      go : IsCutGoingOn m (1000000 - length es) c
          (resumed_text (length es) (length (reports_of m.app m.from_text opening es))) known log log' out out'
          → IsCutOnItsWay m opening past known log log' out out'
      go (within_line same wrote) = in_its_line es c past_is same wrote
      go (after_line begun held text wrote same read cut) = later es c begun held text past_is wrote same read cut
