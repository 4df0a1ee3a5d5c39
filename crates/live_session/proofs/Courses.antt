-- The course of a session, line by line.
use Rattle.std.proofs.Common.{◌≡◌, ℕ, ◌+◌, ◌≤◌, ◌<◌, Bool, true, false, if◌then◌else◌, List, [], ◌∷◌, ◌++◌, refl}
use Rattle.std.proofs.Common.{sym, ap, ◌∙◌, append-nil, length, take, codes, arith, Option}
use Rattle.std.proofs.Common.{Some, None, ◌⊎◌, inl, inr, ◌-◌, min, Result, Ok, Err, OnOk, is_ok}
use Rattle.std.specs.Prelude.{nat_lt}
use Rattle.std.proofs.lemmas.Bool.Decides.{nat_tests}
use Rattle.std.proofs.lemmas.Grind.{flat_map-append}
use Rattle.std.proofs.lemmas.Bool.{cases_lt}
use Rattle.std.proofs.lemmas.List.{length-take-le, take_all, take-append-le}
use Rattle.std.proofs.lemmas.Slice.Eq.{bytes_eq-Decides}
use Rattle.std.proofs.Math.Seq.{take-append-add}
use Rattle.explanations.specs.Help.{helped}
use Rattle.explanations.proofs.Asked.{long_asks_nothing}
use Rattle.reset_model.specs.Configuration.{Configuration}
use Rattle.reset_model.specs.EventText.{event_line}
use Rattle.reset_model.specs.declared.event.Event.{Event}
use Rattle.reset_model.specs.declared.event.Event.TheVariants.{Claim, Follow, Adopt, Request, Relay, Open, Join, Finish}
use Rattle.reset_model.specs.declared.event.Event.TheVariants.{Mend, Act}
use Rattle.applications.specs.Meaning.{Meaning}
use Rattle.history.specs.HistoryText.{ended, entries_text, entry_line}
use Rattle.history.specs.declared.entry.Entry.{Entry}
use Rattle.script_replay.specs.Script.{line_of}
use Rattle.script_replay.specs.declared.script.Line.TheVariants.{Bad}
use Rattle.live_session.specs.Course.{Course, Exchange, answers_text, config_after, course_of, entries_of, exchange}
use Rattle.live_session.specs.Course.{is_exit, kept_text, led_by, rested, room_after}
use Rattle.live_session.specs.Progress.{IsFront}

-- ---- the next line

module _ {L : Type 0} (m : Meaning L) (room : Option ℕ) (c : Configuration L) (n : ℕ) where
  pub course_none : course_of m room c n [] ≡ rested c
  unfolding course_of
  course_none = refl

  -- the course after a line that doesn't end the session
  abbrev next : List ℕ → List (List ℕ) → Course L
  next line lines =
      let e = exchange m room c n line (line_of m.names line) in led_by (e ∷ [])
      (course_of m (room_after room e.entries) (config_after m room c n (line_of m.names line)) (n + 1) lines)

  abbrev next_if : Bool → List ℕ → List (List ℕ) → Course L
  next_if ends line lines = if ends then rested c else next line lines

  course_line : (line : List ℕ) (lines : List (List ℕ))
      → course_of m room c n (line ∷ lines) ≡ next_if (is_exit line) line lines
  unfolding course_of
  course_line line lines = refl

  pub course_exit : (line : List ℕ) (lines : List (List ℕ)) → is_exit line ≡ true
      → course_of m room c n (line ∷ lines) ≡ rested c
  course_exit line lines ends = course_line line lines ∙ ap (λ b. next_if b line lines) ends

  pub course_more : (line : List ℕ) (lines : List (List ℕ)) → is_exit line ≡ false
      → course_of m room c n (line ∷ lines) ≡ next line lines
  course_more line lines goes = course_line line lines ∙ ap (λ b. next_if b line lines) goes

-- no event is spelled as the line that ends a session
pub event_stays : (e : Event) → is_exit (event_line e) ≡ false
event_stays (Claim at) = refl
event_stays (Follow at) = refl
event_stays (Adopt at from) = refl
event_stays (Request at) = refl
event_stays (Relay at child) = refl
event_stays (Open at) = refl
event_stays (Join at) = refl
event_stays (Finish at) = refl
event_stays (Mend at) = refl
event_stays (Act at case None) = refl
event_stays (Act at case (Some with)) = refl

-- ---- what is written of exchanges

pub answers_on : (xs ys : List Exchange) → answers_text (xs ++ ys) ≡ answers_text xs ++ answers_text ys
answers_on xs ys = flat_map-append (λ (e : Exchange). e.answer) xs ys

pub kept_on : (room : Option ℕ) (xs ys : List Exchange) → kept_text room (xs ++ ys) ≡ kept_text room xs ++ kept_text room ys
kept_on None xs ys = refl
kept_on (Some room) xs ys =
    ap entries_text (flat_map-append (λ (e : Exchange). e.entries) xs ys)
    ∙ flat_map-append (λ (entry : Entry). ended (entry_line entry)) (entries_of xs) (entries_of ys)

-- ---- a line of which only the first bytes are kept

pub front_on : (kept line bytes : List ℕ) (n : ℕ) → kept ≡ take n line
    → kept ++ take (n - length kept) bytes ≡ take n (line ++ bytes)
front_on kept line bytes n is = rw is (go (cases_lt (length line) n))
  where
    go : (length line < n) ⊎ (n ≤ length line)
        → take n line ++ take (n - length (take n line)) bytes ≡ take n (line ++ bytes)
    go (inl short) =
        let all : take n line ≡ line = take_all n line (omega (arith, short)) in
        let sum : length line + (n - length line) ≡ n = omega (arith, short) in
        rw all
        (sym (ap (λ k. take k (line ++ bytes)) (sym sum) ∙ take-append-add line bytes (n - length line)))
    go (inr long) =
        let none : n - length (take n line) ≡ 0 = omega (arith, length-take-le n line long) in
        rw none (append-nil (take n line) ∙ sym (take-append-le n line bytes long))

-- no more can be taken than there is
taken_at_most : (n : ℕ) (bytes : List ℕ) → take (min n (length bytes)) bytes ≡ take n bytes
taken_at_most n bytes = go (cases_lt n (length bytes))
  where
    go : (n < length bytes) ⊎ (length bytes ≤ n) → take (min n (length bytes)) bytes ≡ take n bytes
    go (inl some) = let least : min n (length bytes) ≡ n = omega (arith, some) in ap (λ k. take k bytes) least
    go (inr all) =
        let least : min n (length bytes) ≡ length bytes = omega (arith, all) in
        ap (λ k. take k bytes) least ∙ take_all (length bytes) bytes (omega arith) ∙ sym (take_all n bytes all)

pub front_grown : (old new line bytes : List ℕ) (room count : ℕ) → room ≡ 257 - length old
    → count ≡ min room (length bytes) → new ≡ old ++ take count bytes → IsFront old line → IsFront new (line ++ bytes)
front_grown old new line bytes room count room_is count_is new_is front =
    new_is
    ∙ ap (λ k. old ++ take k bytes) (count_is ∙ ap (λ k. min k (length bytes)) room_is)
    ∙ ap (λ l. old ++ l) (taken_at_most (257 - length old) bytes)
    ∙ front_on old line bytes 257 front

pub front_if_ok : {D E : Type 0} (r : Result D E) (old new bytes : List ℕ) (room count : ℕ)
    → room ≡ 257 - length old → count ≡ min room (length bytes)
    → new ≡ (if is_ok r then old ++ take count bytes else old)
    → OnOk r ((line : List ℕ) → IsFront old line → IsFront new (line ++ bytes))
front_if_ok (Ok done) old new bytes room count room_is count_is is =
    λ line front. front_grown old new line bytes room count room_is count_is is front
front_if_ok (Err fault) old new bytes room count room_is count_is is = tt

pub front_none : (line : List ℕ) → IsFront [] line → line ≡ []
front_none [] is = refl
front_none (b ∷ bs) is = absurd (cc)

-- it is answered as the whole line
module _ (names : ℕ → Option (List ℕ)) where
  too_long : (line : List ℕ) → 256 < length line → line_of names line ≡ Bad
  too_long line long =
      let over : nat_lt 256 (length line) ≡ true = grind (arith, nat_tests) in
      rw over refl

  pub front_line : (kept line : List ℕ) → IsFront kept line → line_of names kept ≡ line_of names line
  front_line kept line is = rw is (go (cases_lt (length line) 257))
    where
      go : (length line < 257) ⊎ (257 ≤ length line) → line_of names (take 257 line) ≡ line_of names line
      go (inl short) = ap (line_of names) (take_all 257 line (omega (arith, short)))
      go (inr long) =
          too_long (take 257 line) (omega (arith, length-take-le 257 line long))
          ∙ sym (too_long line (omega (arith, long)))

pub front_helped : (kept line : List ℕ) → IsFront kept line → helped kept ≡ helped line
front_helped kept line is = rw is (go (cases_lt (length line) 257))
  where
    go : (length line < 257) ⊎ (257 ≤ length line) → helped (take 257 line) ≡ helped line
    go (inl short) = ap helped (take_all 257 line (omega (arith, short)))
    go (inr long) =
        long_asks_nothing (take 257 line) (omega (arith, length-take-le 257 line long))
        ∙ sym (long_asks_nothing line (omega (arith, long)))

not_exit : (line : List ℕ) → 4 < length line → is_exit line ≡ false
not_exit line long = go (is_exit line) refl
  where
    go : (b : Bool) → is_exit line ≡ b → is_exit line ≡ false
    go true ends =
        let same : line ≡ codes "exit" = (bytes_eq-Decides line (codes "exit")).0 ends in
        absurd (omega (arith, long, ap length same))
    go false goes = goes

pub front_exit : (kept line : List ℕ) → IsFront kept line → is_exit kept ≡ is_exit line
front_exit kept line is = rw is (go (cases_lt (length line) 257))
  where
    go : (length line < 257) ⊎ (257 ≤ length line) → is_exit (take 257 line) ≡ is_exit line
    go (inl short) = ap is_exit (take_all 257 line (omega (arith, short)))
    go (inr long) =
        not_exit (take 257 line) (omega (arith, length-take-le 257 line long))
        ∙ sym (not_exit line (omega (arith, long)))
