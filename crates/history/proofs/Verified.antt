-- Entries that are played up to the first that isn't allowed where it stands.
use Rattle.std.proofs.Common.{◌≡◌, ◌≢◌, ℕ, zero, suc, ◌-◌, true, false, true≢false, sym, List, [], ◌∷◌, ◌++◌, Option, None}
use Rattle.std.proofs.Common.{Some, refl, ap, ◌∙◌, append_assoc, arith, length, take, Result, Ok, Err, OnOk, IfErr}
use Rattle.std.proofs.lemmas.List.{take_all}
use Rattle.std.specs.Option.{is_none}
use Rattle.std.specs.Result.{result_err}
use Rattle.app_interface.specs.Application.{App}
use Rattle.reset_model.specs.Configuration.{Configuration}
use Rattle.history.specs.declared.entry.Entry.{Entry}
use Rattle.history.specs.declared.player.PlayFault.{PlayFault}
use Rattle.history.specs.declared.player.PlayFault.TheVariants.{Refused, NoMemory}
use Rattle.history.specs.declared.player.Player.{Player}
use Rattle.history.specs.declared.verifier.Stop.{Stop}
use Rattle.history.specs.declared.verifier.Stop.TheVariants as stop
use Rattle.history.specs.declared.verification.JudgeFault.{JudgeFault}
use Rattle.history.specs.declared.verification.JudgeFault.TheVariants as judge
use Rattle.history.specs.declared.verification.Resumed.{Resumed}
use Rattle.history.specs.Entries.{IsRefusal}
use Rattle.history.specs.declared.text.BookFault.{BookFault}
use Rattle.history.specs.declared.text.BookFault.TheVariants as book
use Rattle.history.specs.declared.verification.ReaderFault.TheVariants as reader
use Rattle.history.specs.HistoryText.{IsReadAs, IsReadWhole, history}
use Rattle.history.specs.Played.{HasPlayed, IsKept, IsPlayedTo, IsStoppedBy}
use Rattle.history.specs.Verdict.{IsEnd, IsJudgement, IsJudgementOf, IsJudgementOfFirst, IsVerdict, reader_fault_of}
use Rattle.history.proofs.ReadLines.{some_whole}

-- the first of a list that goes on, of which the first were taken already
pub take_more : {X : Type 0} (n : ℕ) (xs more : List X)
    → take n (xs ++ more) ≡ take n xs ++ take (n - length (take n xs)) more
take_more zero xs more = refl
take_more {X} (suc n) [] more =
    let nothing : List X = [] in
    let none : take (suc n) nothing ≡ nothing = take_all (suc n) nothing (omega arith) in
    let whole : suc n ≡ suc n - 0 = omega arith in
    ap (λ k. take k more) whole ∙ ap (λ (l : List X). l ++ take (suc n - length l) more) (sym none)
take_more (suc n) (x ∷ xs) more =
    let same : n - length (take n xs) ≡ suc n - suc (length (take n xs)) = omega arith in
    ap (λ l. x ∷ l) (take_more n xs more) ∙ ap (λ k. x ∷ (take n xs ++ take k more)) same

-- a history has few entries
all_first : (text : List ℕ) (m : ℕ) (es : List Entry) → IsReadAs text (Ok (m, es)) → take 1000000 es ≡ es
all_first text m es (history v k ds begins) = take_all 1000000 es begins.few

module _ {L : Type 0} (app : App L) (from_text : List ℕ → Option L) (c : Configuration L) where
  -- what follows the first refused entry changes nothing
  refused_on : (es more : List Entry) (position : ℕ) (entry : Entry) (left : Configuration L)
      → IsRefusal app from_text c es position entry left → IsRefusal app from_text c (es ++ more) position entry left
  refused_on es more position entry left refusal =
      let first = refusal.first in
      record {
        first = record {
          before = first.before;
          entry = first.entry;
          rest = first.rest ++ more;
          left = first.left;
          split = ap (λ l. l ++ more) first.split ∙ append_assoc first.before (first.entry ∷ first.rest) more;
          allowed = first.allowed;
          refused = first.refused;
          place = first.place;
        };
        entry_is = refusal.entry_is;
        left_is = refusal.left_is;
      }

module _ {L : Type 0} (app : App L) (from_text : List ℕ → Option L) (c : Configuration L) where
  abbrev IsTold : Option (List ℕ) → BookFault → Type 0
  IsTold a fault =
      (text : List ℕ) × IsReadWhole a text × IsVerdict app from_text c text (Err (reader.Text fault))

  -- of any text, as the fault tells nothing of it
  untold : (a : Option (List ℕ)) (fault : BookFault)
      → ((text : List ℕ) → IsVerdict app from_text c text (Err (reader.Text fault))) → IsTold a fault
  untold a fault anyway = let (text, whole) = some_whole a in (text, whole, anyway text)

  -- a fault of the text is told as it is
  pub fault_verdict : (a : Option (List ℕ)) (fault : BookFault)
      → (fault ≢ book.NoMemory → fault ≢ book.ReadFailed
      → (text : List ℕ) × IsReadWhole a text × IsReadAs text (Err fault))
      → IsTold a fault
  fault_verdict a (book.BadLine n) read = read (λ e. cc) (λ e. cc)
  fault_verdict a book.BadVersion read = read (λ e. cc) (λ e. cc)
  fault_verdict a book.TooLong read = read (λ e. cc) (λ e. cc)
  fault_verdict a book.NoMemory read = untold a book.NoMemory (λ text. tt)
  fault_verdict a book.ReadFailed read = untold a book.ReadFailed (λ text. tt)

module _ {P L : Type 0} (app : App L) (from_text : List ℕ → Option L) (c : Configuration L) where
  -- after a fault no entry is played
  played_past : (es more : List Entry) (p : Player P L) (s : Stop)
      → IsPlayedTo app from_text c es p (Some s) → IsPlayedTo app from_text c (es ++ more) p (Some s)
  played_past es more p (stop.Refused position entry) refusal =
      refused_on app from_text c es more position entry p.config refusal
  played_past es more p stop.NoMemory played = tt

  pub played_on : (es more : List Entry) (p : Player P L) (s : Option Stop) → is_none s ≡ false
      → IsPlayedTo app from_text c es p s → IsPlayedTo app from_text c (es ++ more) p s
  played_on es more p None some played = absurd (true≢false some)
  played_on es more p (Some s) some played = played_past es more p s played

  -- where nothing stopped it, all were played
  pub all_played : (es : List Entry) (p : Player P L) (s : Option Stop) → is_none s ≡ true
      → IsPlayedTo app from_text c es p s → HasPlayed app from_text c es p
  all_played es p None none played = played
  all_played es p (Some s) none played = absurd (true≢false (sym none))

  -- what a verifier keeps of entries of which one is refused
  pub stopped_at : (es : List Entry) (new : Player P L) (f : PlayFault) (s : Stop)
      → IsStoppedBy app from_text c es new.config f → IsKept f s → IsPlayedTo app from_text c es new (Some s)
  stopped_at es new (Refused position entry) (stop.Refused at own) refusal kept =
      rw kept.0 (rw kept.1 refusal)
  stopped_at es new NoMemory (stop.Refused at own) refusal kept = absurd kept
  stopped_at es new f stop.NoMemory refusal kept = tt

  -- a judgement without what its fault has of an entry
  pub resumption : (text : List ℕ) (f : JudgeFault P L) → IsJudgement app from_text c text (Err f)
      → IsVerdict app from_text c text (Err (reader_fault_of f))
  resumption text (judge.Text f) is = is
  resumption text (judge.OtherModulus m) is = is
  resumption text (judge.Refused r) (es, read, refusal) = (es, read, refusal.first)
  resumption text judge.NoMemory is = tt

  -- the first entries, as many as a history may have, are all
  pub of_all : (text : List ℕ) (r : Result (Resumed P L) (JudgeFault P L))
      → IsJudgementOfFirst 1000000 app from_text c text r → IsJudgement app from_text c text r
  of_all text (Ok r) (es, read, is) = (es, read, rw (all_first text c.modulus es read) at is)
  of_all text (Err (judge.Refused r)) (es, read, is) = (es, read, rw (all_first text c.modulus es read) at is)
  of_all text (Err (judge.Text f)) is = is
  of_all text (Err (judge.OtherModulus m)) is = is
  of_all text (Err judge.NoMemory) is = is

module _ {P L : Type 0} (part : List Entry → List Entry) (app : App L) (from_text : List ℕ → Option L)
    (c : Configuration L) where
  -- what a part of the entries comes to, where a text reads so
  pub judgement : (es : List Entry) (text : List ℕ) (r : Result (Resumed P L) (JudgeFault P L))
      → IsReadAs text (Ok (c.modulus, es)) → IsEnd app from_text c (part es) r
      → IsJudgementOf part app from_text c text r
  judgement es text (Ok r) read end = (es, read, end)
  judgement es text (Err (judge.Refused r)) read end = (es, read, end)
  judgement es text (Err judge.NoMemory) read end = tt
  judgement es text (Err (judge.Text f)) read end = absurd end
  judgement es text (Err (judge.OtherModulus m)) read end = absurd end
