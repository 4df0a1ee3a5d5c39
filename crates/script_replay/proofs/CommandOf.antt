-- The command of a line is the one that it spells.
use Rattle.std.proofs.Common.{◌≡◌, ◌≢◌, IsTrue, Result, Ok, Err, IfOk, ℕ, zero, suc, ◌<◌, ◌≤◌, ◌*◌, ◌^◌, ◌%◌, nat_lt}
use Rattle.std.proofs.Common.{le-ltb, Bool, true, false, ◌⊎◌, inl, inr, List, [], ◌∷◌, ◌++◌, map, refl, sym, ap, ap₂}
use Rattle.std.proofs.Common.{◌∙◌, true≢false, arith, length, slice_get, Option, Some, None, IfSome, IfNone, cond}
use Rattle.std.proofs.Common.{option_map, if◌then◌else◌}
use Rattle.std.specs.Fmt.{decimal}
use Rattle.std.specs.Char.{is_ascii_graphic}
use Rattle.std.specs.List.{find, join_with_byte, list_all}
use Rattle.std.proofs.lemmas.Bool.{and_parts}
use Rattle.std.specs.Str.{bytes_eq}
use Rattle.std.specs.Str.Parse.{digits_value}
use Rattle.std.proofs.Math.Nat.{mod-eq_of_lt}
use Rattle.std.proofs.lemmas.Fmt.{length-decimal-le}
use Rattle.std.proofs.lemmas.List.{length-append}
use Rattle.std.proofs.lemmas.Nat.{mod_below}
use Rattle.std.proofs.lemmas.Slice.Eq.{bytes_eq-Decides}
use Rattle.app_interface.specs.FromText.{number_of}
use Rattle.app_interface.proofs.FromTextLaws.{number_of-decimal as value}
use Rattle.reset_model.specs.EventText.{Fits, event_line, event_words}
use Rattle.reset_model.specs.Words.{words_of}
use Rattle.reset_model.specs.declared.event.Event.{Event}
use Rattle.reset_model.specs.declared.event.Event.TheVariants.{Claim, Follow, Adopt, Request, Relay, Open, Join, Finish}
use Rattle.reset_model.specs.declared.event.Event.TheVariants.{Mend, Act}
use Rattle.reset_model.proofs.EventLines.{action_small, first_bytes, one_event, same_number}
use Rattle.script_replay.specs.declared.script.Line.TheVariants.{Asks}
use Rattle.script_replay.specs.declared.script.Command.{Command}
use Rattle.script_replay.specs.declared.script.Command.TheVariants.{Step, Inject, Draw, Show, ShowNode, Newest, Enabled}
use Rattle.script_replay.specs.declared.script.Command.TheVariants.{Ready, Check, CheckNode, Alarm, Watch, Moves}
use Rattle.script_replay.specs.declared.script.Command.TheVariants.{MovesOf, Snapshot, Invariant}
use Rattle.script_replay.specs.Script.{case_named, command_words, command_line, command_of, commands_with, faults_with}
use Rattle.script_replay.specs.Script.{in_words, is_silent, line_of, local_faults_with, own_commands, with_name}
use Rattle.script_replay.specs.Script.{is_name, is_text, actions_with, named_words, number_at, spellings, word_at}
use Rattle.script_replay.specs.Script.{CommandFits, IsPlain, Spelling, Spells}
use Rattle.script_replay.specs.Script.Spells.{by_words, by_name}
use Rattle.script_replay.proofs.CommandLines.{words_of_line, event_is_no_fault, no_event, no_fault, none_of_both}
use Rattle.fault_inject.specs.FaultText as fault
use Rattle.fault_inject.proofs.FaultLines.{one_fault}
use Rattle.fault_inject.specs.declared.fault.Fault.{Fault}
use Rattle.fault_inject.specs.declared.fault.Fault.TheVariants.{SetTree, SetWave, SetLocal, LinkDown, LinkUp}
use Rattle.fault_inject.specs.declared.fault.Fault.TheVariants.{NodeDown, NodeUp}
use Rattle.wave_layer.specs.declared.regs.Phase.{Phase}
use Rattle.wave_layer.specs.declared.regs.Phase.TheVariants.{Normal, Initiate, Reset}
use Rattle.action_tables.specs.Cuts.{HasNo}
use Rattle.script_replay.proofs.CaseNames.{words_of-named, IsNotNamed, named_apart, one_named}

-- ---- no two commands have one line

one_by_words : (c d : Command) → CommandFits c → CommandFits d → command_words c ≡ command_words d → c ≡ d
one_by_words (Step e) (Step f) p q h = ap Step (one_event e f p q (ap (join_with_byte 32) h))
one_by_words (Inject f) (Inject g) p q h = ap Inject (one_fault f g p.0 q.0 (ap (join_with_byte 32) h))
one_by_words (Step e) (Inject f) p q h = absurd (event_is_no_fault e f h)
one_by_words (Inject f) (Step e) p q h = absurd (event_is_no_fault e f (sym h))
one_by_words (Inject f) d p q h = absurd (no_fault f h (λ first. absurd (omega (arith, first))))
one_by_words c (Inject f) p q h = absurd (no_fault f (sym h) (λ first. absurd (omega (arith, first))))
one_by_words (Step e) d p q h = absurd (no_event e h refl)
one_by_words c (Step f) p q h = absurd (no_event f (sym h) refl)
one_by_words (Draw a) (Draw b) p q h = ap Draw (same_number a b p q (cc))
one_by_words Show Show p q h = refl
one_by_words (ShowNode a) (ShowNode b) p q h = ap ShowNode (same_number a b p q (cc))
one_by_words Newest Newest p q h = refl
one_by_words (Enabled a) (Enabled b) p q h = ap Enabled (same_number a b p q (cc))
one_by_words Ready Ready p q h = refl
one_by_words Check Check p q h = refl
one_by_words (CheckNode a) (CheckNode b) p q h = ap CheckNode (same_number a b p q (cc))
one_by_words (Alarm a) (Alarm b) p q h = ap Alarm (same_number a b p q (cc))
one_by_words (Watch a) (Watch b) p q h = ap Watch (same_number a b p q (cc))
one_by_words Moves Moves p q h = refl
one_by_words (MovesOf a) (MovesOf b) p q h = ap MovesOf (same_number a b p q (cc))
one_by_words Snapshot Snapshot p q h = refl
one_by_words Invariant Invariant p q h = refl
one_by_words c d p q h = absurd (omega (arith, ap first_bytes h, ap length h))

spelled_once : (names : ℕ → Option (List ℕ)) (line : List ℕ) (c d : Command) → Spells names line c → Spells names line d
    → c ≡ d
spelled_once names line c d (by_words p is) (by_words q is_too) =
    one_by_words c d p q (words_of_line line c p is ∙ sym (words_of_line line d q is_too))
spelled_once names line c d (by_words p is) (by_name m w v fits name is_too made) =
    absurd (named_apart c p m w v fits name (words_of_line line c p is ∙ words_of-named line m w v fits name is_too))
spelled_once names line c d (by_name m w v fits name is made) (by_words q is_too) =
    absurd (named_apart d q m w v fits name (words_of_line line d q is_too ∙ words_of-named line m w v fits name is))
spelled_once names line c d (by_name m w v fits name is made) (by_name n x u fits_too name_too is_too made_too) =
    made ∙ one_named names m n w x v u fits fits_too
    (sym (words_of-named line m w v fits name is) ∙ words_of-named line n x u fits_too name_too is_too)
    ∙ sym made_too

-- ---- what the search for a line finds

-- one of the spellings is the command's, and has the line's words
abbrev Has : List ℕ → Command → List Spelling → Type 0
Has line c [] = ⊥
Has line c (s ∷ ss) = ((line ≡ join_with_byte 32 s.words) × (s.command ≡ c)) ⊎ Has line c ss

-- each spelling that has the line's words is a spelling of the line
abbrev AllSpell : (ℕ → Option (List ℕ)) → List ℕ → List Spelling → Type 0
AllSpell names line [] = Unit {0}
AllSpell names line (s ∷ ss) = (line ≡ join_with_byte 32 s.words → Spells names line s.command) × AllSpell names line ss

abbrev search_for : List ℕ → List Spelling → Option Command
search_for line ss = option_map (λ s. s.command) (find (λ s. bytes_eq line (join_with_byte 32 s.words)) ss)

here_or : (b : Bool) (s : Spelling) (rest : Option Spelling) (c : Command) → (b ≡ true → s.command ≡ c)
    → (b ≡ false → option_map (λ s. s.command) rest ≡ Some c)
    → option_map (λ s. s.command) (cond b (Some s) rest) ≡ Some c
here_or true s rest c p q = ap Some (p refl)
here_or false s rest c p q = q refl

none_or : (b : Bool) (s : Spelling) (rest : Option Spelling) → (b ≡ true → ⊥) → option_map (λ s. s.command) rest ≡ None
    → option_map (λ s. s.command) (cond b (Some s) rest) ≡ None
none_or true s rest p q = absurd (p refl)
none_or false s rest p q = q

search-some : (names : ℕ → Option (List ℕ)) (line : List ℕ) (ss : List Spelling) (c : Command) → AllSpell names line ss
    → Has line c ss → Spells names line c
    → search_for line ss ≡ Some c
search-some names line [] c spell has spelled = absurd has
search-some names line (s ∷ ss) c spell (inl here) spelled =
    here_or (bytes_eq line (join_with_byte 32 s.words)) s _ c (λ _. here.1)
    (λ off. absurd (cc ((bytes_eq-Decides line (join_with_byte 32 s.words)).1 here.0, off)))
search-some names line (s ∷ ss) c spell (inr later) spelled =
    here_or (bytes_eq line (join_with_byte 32 s.words)) s _ c
    (λ here. spelled_once names line s.command c (spell.0 ((bytes_eq-Decides line (join_with_byte 32 s.words)).0 here))
    spelled)
    (λ _. search-some names line ss c spell.1 later spelled)

search-none : (names : ℕ → Option (List ℕ)) (line : List ℕ) (ss : List Spelling) → AllSpell names line ss
    → ((c : Command) → Spells names line c → ⊥) → search_for line ss ≡ None
search-none names line [] spell none = refl
search-none names line (s ∷ ss) spell none =
    none_or (bytes_eq line (join_with_byte 32 s.words)) s _
    (λ here. none s.command (spell.0 ((bytes_eq-Decides line (join_with_byte 32 s.words)).0 here)))
    (search-none names line ss spell.1 none)

-- ---- the spellings with the numbers and the name of a line's words spell it

both_spell : (names : ℕ → Option (List ℕ)) (line : List ℕ) (ss ts : List Spelling) → AllSpell names line ss
    → AllSpell names line ts → AllSpell names line (ss ++ ts)
both_spell names line [] ts p q = q
both_spell names line (s ∷ ss) ts p q = (p.0, both_spell names line ss ts p.1 q)

words_spell : (names : ℕ → Option (List ℕ)) (line : List ℕ) (m n k : ℕ) → m < 2 ^ 32 → n < 2 ^ 32 → k < 2 ^ 32
    → AllSpell names line (map in_words (commands_with m n k))
words_spell names line m n k p q r =
    let case : n % 2 ^ 8 < 2 ^ 8 = mod_below n (2 ^ 8) (omega arith) in (
      by_words tt,
      (
        by_words p,
        (
          by_words tt,
          (
            by_words p,
            (
              by_words tt,
              (
                by_words p,
                (
                  by_words p,
                  (
                    by_words (p, q),
                    (
                      by_words p,
                      (
                        by_words (p, q),
                        (
                          by_words p,
                          (
                            by_words p,
                            (
                              by_words p,
                              (
                                by_words p,
                                (
                                  by_words (p, case),
                                  (
                                    by_words (p, case, r),
                                    (
                                      by_words tt,
                                      (
                                        by_words p,
                                        (
                                          by_words p,
                                          (by_words p, (by_words p, (by_words tt, (by_words p, (by_words tt, (by_words tt, tt)))))),
                                        ),
                                      ),
                                    ),
                                  ),
                                ),
                              ),
                            ),
                          ),
                        ),
                      ),
                    ),
                  ),
                ),
              ),
            ),
          ),
        ),
      ),
    )

-- a text of printable bytes is one word
one_text : (text : List ℕ) → is_text text ≡ true → fault.IsOneWord text × IsTrue (list_all is_ascii_graphic text)
one_text [] h = absurd (true≢false (sym h))
one_text (byte ∷ bytes) h = (((λ is. absurd (cc)), no_space (byte ∷ bytes) h), h)
  where
    no_space : (xs : List ℕ) → list_all is_ascii_graphic xs ≡ true → HasNo 32 xs
    no_space [] all = tt
    no_space (x ∷ xs) all = (
      (λ is. absurd (true≢false (sym (and_parts _ _ all).0 ∙ ap is_ascii_graphic is))),
      no_space xs
          (and_parts _ _ all).1,
    )

is_text-from : (text : List ℕ) → text ≢ [] → IsTrue (list_all is_ascii_graphic text) → is_text text ≡ true
is_text-from [] some all = absurd (some refl)
is_text-from (byte ∷ bytes) some all = all

faults_spell : (names : ℕ → Option (List ℕ)) (line : List ℕ) (m n k l : ℕ) → m < 2 ^ 32 → n < 2 ^ 32 → k < 2 ^ 32
    → l < 2 ^ 32
    → AllSpell names line (map in_words (faults_with m n k l))
faults_spell names line m n k l p q r s = (
  by_words ((p, q, r, s), tt),
  (
    by_words ((p, r), tt),
    (
      by_words ((p, r), tt),
      (
        by_words ((p, r), tt),
        (by_words ((p, q), tt), (by_words ((p, q), tt), (by_words (p, tt), (by_words (p, tt), tt)))),
      ),
    ),
  ),
)

local_spells : (names : ℕ → Option (List ℕ)) (line : List ℕ) (m : ℕ) (text : List ℕ) → m < 2 ^ 32 → (b : Bool)
    → is_text text ≡ b
    → AllSpell names line (map in_words (if b then Inject (SetLocal m text) ∷ [] else []))
local_spells names line m text p true is = (by_words ((p, (one_text text is).0), (one_text text is).1), tt)
local_spells names line m text p false is = tt

name_spells : (names : ℕ → Option (List ℕ)) (line : List ℕ) (m : ℕ) (w : List ℕ) (k : ℕ) → m < 2 ^ 32 → k < 2 ^ 32
    → (b : Bool) → is_name w ≡ b
    → AllSpell names line (if b then with_name names m w None ∷ with_name names m w (Some k) ∷ [] else [])
name_spells names line m w k p r true name = (
  (λ is. by_name m w None (p, omega arith) name is refl),
  ((λ is. by_name m w (Some k) (p, omega arith, r) name is refl), tt),
)
name_spells names line m w k p r false name = tt

small : (ws : List (List ℕ)) (i : ℕ) → number_at ws i < 2 ^ 32
small ws i = mod_below (digits_value 10 (word_at ws i)) (2 ^ 32) (omega arith)

all_spell : (names : ℕ → Option (List ℕ)) (line : List ℕ) (ws : List (List ℕ))
    → AllSpell names line (spellings names ws)
all_spell names line ws =
    let m = number_at ws 2 in
    let n = number_at ws 3 in
    let k = number_at ws 4 in
    let l = number_at ws 5 in
    both_spell names line (actions_with names (number_at ws 1) (word_at ws 2) n) (map in_words (own_commands ws))
    (name_spells names line (number_at ws 1) (word_at ws 2) n (small ws 1) (small ws 3) (is_name (word_at ws 2)) refl)
    (both_spell names line (map in_words (commands_with (number_at ws 1) m n))
    (map in_words (faults_with m n k l ++ local_faults_with m (word_at ws 3)))
    (words_spell names line (number_at ws 1) m n (small ws 1) (small ws 2) (small ws 3))
    (both_spell names line (map in_words (faults_with m n k l)) (map in_words (local_faults_with m (word_at ws 3)))
    (faults_spell names line m n k l (small ws 2) (small ws 3) (small ws 4) (small ws 5))
    (local_spells names line m (word_at ws 3) (small ws 2) (is_text (word_at ws 3)) refl)))

-- ---- the command that a line spells is among them

has_first : (line : List ℕ) (c : Command) (ss ts : List Spelling) → Has line c ss → Has line c (ss ++ ts)
has_first line c [] ts h = absurd h
has_first line c (s ∷ ss) ts (inl here) = inl here
has_first line c (s ∷ ss) ts (inr later) = inr (has_first line c ss ts later)

has_later : (line : List ℕ) (c : Command) (ss ts : List Spelling) → Has line c ts → Has line c (ss ++ ts)
has_later line c [] ts h = h
has_later line c (s ∷ ss) ts h = inr (has_later line c ss ts h)

case_value : (n : ℕ) → n < 2 ^ 8 → number_of (decimal n) % 2 ^ 8 ≡ n
case_value n h = ap (λ v. v % 2 ^ 8) (value n (omega (arith, h))) ∙ mod-eq_of_lt h

-- a command that stands at a place
has_in : (line : List ℕ) (c : Command) (cs : List Command) (n : ℕ) → line ≡ command_line c → slice_get cs n ≡ Some c
    → Has line c (map in_words cs)
has_in line c [] n is at = absurd (cc)
has_in line c (d ∷ ds) zero is at = let same : d ≡ c = cc in inl (is ∙ ap command_line (sym same), same)
has_in line c (d ∷ ds) (suc n) is at = inr (has_in line c ds n is at)

-- a command has a place among those with its words
abbrev IsPlaced : Command → Type 0
IsPlaced c = (n : ℕ) × (slice_get (own_commands (command_words c)) n ≡ Some c)

wave_among : (at session : ℕ) (phase : Phase) → at < 2 ^ 32 → session < 2 ^ 32
    → IsPlaced (Inject (SetWave at (record { phase = phase; session = session })))
wave_among at session Normal p q = (26, rw (value at p, value session q) refl)
wave_among at session Initiate p q = (27, rw (value at p, value session q) refl)
wave_among at session Reset p q = (28, rw (value at p, value session q) refl)

-- the place of a command with its own numbers
among : (c : Command) → CommandFits c → IsPlaced c
among (Inject (SetTree a regs)) h =
    (25, rw (value a h.0.0, value regs.root h.0.1, value regs.father h.0.2, value regs.dist h.0.3) refl)
among (Inject (SetWave a regs)) h = wave_among a regs.session regs.phase h.0.0 h.0.1
among (Inject (SetLocal a text)) h = (33, rw (value a h.0.0, is_text-from text h.0.1.0 h.1) refl)
among (Inject (LinkDown a b)) h = (29, rw (value a h.0.0, value b h.0.1) refl)
among (Inject (LinkUp a b)) h = (30, rw (value a h.0.0, value b h.0.1) refl)
among (Inject (NodeDown a)) h = (31, rw (value a h.0) refl)
among (Inject (NodeUp a)) h = (32, rw (value a h.0) refl)
among (Draw seed) h = (20, ap (λ n. Some (Draw n)) (value seed h))
among Show h = (0, refl)
among (ShowNode a) h = (1, ap (λ n. Some (ShowNode n)) (value a h))
among Newest h = (2, refl)
among (Enabled a) h = (3, ap (λ n. Some (Enabled n)) (value a h))
among Ready h = (4, refl)
among (Step (Claim a)) h = (5, ap (λ n. Some (Step (Claim n))) (value a h))
among (Step (Follow a)) h = (6, ap (λ n. Some (Step (Follow n))) (value a h))
among (Step (Adopt a b)) h = (7, ap₂ (λ m n. Some (Step (Adopt m n))) (value a h.0) (value b h.1))
among (Step (Request a)) h = (8, ap (λ n. Some (Step (Request n))) (value a h))
among (Step (Relay a b)) h = (9, ap₂ (λ m n. Some (Step (Relay m n))) (value a h.0) (value b h.1))
among (Step (Open a)) h = (10, ap (λ n. Some (Step (Open n))) (value a h))
among (Step (Join a)) h = (11, ap (λ n. Some (Step (Join n))) (value a h))
among (Step (Finish a)) h = (12, ap (λ n. Some (Step (Finish n))) (value a h))
among (Step (Mend a)) h = (13, ap (λ n. Some (Step (Mend n))) (value a h))
among (Step (Act a b None)) h = (14, ap₂ (λ m n. Some (Step (Act m n None))) (value a h.0) (case_value b h.1))
among (Step (Act a b (Some j))) h = (15, rw (value a h.0, case_value b h.1, value j h.2) refl)
among Check h = (16, refl)
among (CheckNode a) h = (17, ap (λ n. Some (CheckNode n)) (value a h))
among (Alarm a) h = (18, ap (λ n. Some (Alarm n)) (value a h))
among (Watch a) h = (19, ap (λ n. Some (Watch n)) (value a h))
among Moves h = (21, refl)
among (MovesOf a) h = (22, ap (λ n. Some (MovesOf n)) (value a h))
among Snapshot h = (23, refl)
among Invariant h = (24, refl)

names_among : (names : ℕ → Option (List ℕ)) (line : List ℕ) (at : ℕ) (w : List ℕ) (with : Option ℕ) (c : Command)
    → Fits (Act at 0 with) → (b : Bool) → b ≡ true
    → line ≡ join_with_byte 32 (named_words at w with) → c ≡ Step (Act at (case_named names w) with) → (m k : ℕ)
    → m ≡ at → IfSome with (λ j. k ≡ j)
    → Has line c (if b then with_name names m w None ∷ with_name names m w (Some k) ∷ [] else [])
names_among names line at w with c fits false name is made m k same near = absurd (true≢false (sym name))
names_among names line at w None c fits true name is made m k same near = inl (rw same is, rw same (sym made))
names_among names line at w (Some j) c fits true name is made m k same near =
    inr (inl (rw (same, near) is, rw (same, near) (sym made)))

near_value : (at : ℕ) (w : List ℕ) (with : Option ℕ) → Fits (Act at 0 with)
    → IfSome with (λ j. number_at (named_words at w with) 3 ≡ j)
near_value at w None fits = tt
near_value at w (Some j) fits = value j fits.2

spelled_among : (names : ℕ → Option (List ℕ)) (line : List ℕ) (c : Command) → Spells names line c
    → Has line c (spellings names (words_of line))
spelled_among names line c (by_words fits is) =
    let ws = command_words c in
    rw (← words_of_line line c fits is)
    (has_later line c (actions_with names (number_at ws 1) (word_at ws 2) (number_at ws 3)) _
    (has_in line c (own_commands ws) (among c fits).0 is (among c fits).1))
spelled_among names line c (by_name at w with fits name is made) =
    let ws = named_words at w with in
    rw (words_of-named line at w with fits name is)
    (has_first line c (actions_with names (number_at ws 1) (word_at ws 2) (number_at ws 3))
    (map in_words (own_commands ws))
    (names_among names line at w with c fits (is_name w) name is made (number_at ws 1) (number_at ws 3)
    (value at (action_small at 0 with fits).0) (near_value at w with fits)))

-- ---- so the command that a line spells is the one that is found

pub command_of-is : (names : ℕ → Option (List ℕ)) (line : List ℕ) (o : Option Command) → IfSome o (Spells names line)
    → IfNone o ((c : Command) → Spells names line c → ⊥)
    → o ≡ command_of names line
unfolding command_of
command_of-is names line (Some c) found none =
    sym (search-some names line (spellings names (words_of line)) c (all_spell names line (words_of line))
    (spelled_among names line c found) found)
command_of-is names line None found none =
    sym (search-none names line (spellings names (words_of line)) (all_spell names line (words_of line)) none)

-- ---- a line that is no action with a name for its case is a command in its own words or none

pub own_words_found : (names : ℕ → Option (List ℕ)) (line : List ℕ) (o : Option Command)
    → IfSome o (λ c. line ≡ command_line c) → IfSome o CommandFits → IfSome o (Spells names line)
own_words_found names line None found fits = tt
own_words_found names line (Some c) found fits = by_words fits found

-- nothing in its own words, nothing with a name, and no fault: no command
pub nothing_spelled : (names : ℕ → Option (List ℕ)) (line : List ℕ) → IsNotNamed line
    → ((f : Fault) → CommandFits (Inject f) → line ≡ command_line (Inject f) → ⊥)
    → ((c : Command) → IsPlain c → line ≡ command_line c → ⊥) → (c : Command) → Spells names line c → ⊥
nothing_spelled names line apart fault plain c (by_words fits is) = none_of_both line fault plain c fits is
nothing_spelled names line apart fault plain c (by_name at word with fits name is made) =
    apart at word with fits name is

pub own_words_only : (names : ℕ → Option (List ℕ)) (line : List ℕ) (o : Option Command) → IsNotNamed line
    → IfNone o ((c : Command) → CommandFits c → line ≡ command_line c → ⊥)
    → IfNone o ((c : Command) → Spells names line c → ⊥)
own_words_only names line (Some c) apart only = tt
own_words_only names line None apart only = none
  where
    none : (c : Command) → Spells names line c → ⊥
    none c (by_words fits is) = only c fits is
    none c (by_name at word with fits name is made) = apart at word with fits name is

-- what is read of a line that is neither plain nor named is the fault that it spells
pub fault_read : {E : Type 0} (names : ℕ → Option (List ℕ)) (line : List ℕ) (r : Result (Option Command) E)
    → IsNotNamed line
    → ((c : Command) → IsPlain c → line ≡ command_line c → ⊥)
    → IfOk r (λ read. IfSome read (λ c. line ≡ command_line c)) → IfOk r (λ read. IfSome read CommandFits)
    → IfOk r (λ read. IfNone read ((f : Fault) → CommandFits (Inject f) → line ≡ command_line (Inject f) → ⊥))
    → IfOk r (λ read. read ≡ command_of names line)
fault_read names line (Ok (Some c)) apart plain found fits none =
    command_of-is names line (Some c) (by_words fits found) tt
fault_read names line (Ok None) apart plain found fits none =
    command_of-is names line None tt (nothing_spelled names line apart none plain)
fault_read names line (Err e) apart plain found fits none = tt

-- ---- the line of an event asks for it

abbrev AreShort : List (List ℕ) → Type 0
AreShort [] = Unit {0}
AreShort (word ∷ words) = (length word ≤ 10) × AreShort words

join_short : (words : List (List ℕ)) → AreShort words → length (join_with_byte 32 words) ≤ 11 * length words
join_short [] short = omega arith
join_short (word ∷ []) short = omega (arith, short.0)
join_short (word ∷ next ∷ words) short =
    omega (
      arith,
      short.0,
      join_short (next ∷ words) short.1,
      length-append word
          (32 ∷ join_with_byte 32 (next ∷ words)),
    )

number_short : (n : ℕ) → n < 2 ^ 32 → length (decimal n) ≤ 10
number_short n small = length-decimal-le 10 n (omega arith) (omega (arith, small)) (omega (arith, small))

event_is_short : (e : Event) → Fits e → length (event_line e) ≤ 256
event_is_short e fits = omega (arith, join_short (event_words e) (words_short e fits), few_words e)
  where
    words_short : (e : Event) → Fits e → AreShort (event_words e)
    words_short (Claim at) h = (omega arith, (number_short at h, tt))
    words_short (Follow at) h = (omega arith, (number_short at h, tt))
    words_short (Adopt at from) h = (omega arith, (number_short at h.0, (number_short from h.1, tt)))
    words_short (Request at) h = (omega arith, (number_short at h, tt))
    words_short (Relay at child) h = (omega arith, (number_short at h.0, (number_short child h.1, tt)))
    words_short (Open at) h = (omega arith, (number_short at h, tt))
    words_short (Join at) h = (omega arith, (number_short at h, tt))
    words_short (Finish at) h = (omega arith, (number_short at h, tt))
    words_short (Mend at) h = (omega arith, (number_short at h, tt))
    words_short (Act at case None) h =
        (omega arith, (number_short at h.0, (number_short case (omega (arith, h.1)), tt)))
    words_short (Act at case (Some j)) h =
        (omega arith, (number_short at h.0, (number_short case (omega (arith, h.1)), (number_short j h.2, tt))))

    few_words : (e : Event) → length (event_words e) ≤ 4
    few_words (Adopt at from) = omega arith
    few_words (Relay at child) = omega arith
    few_words (Act at case None) = omega arith
    few_words (Act at case (Some j)) = omega arith
    few_words e = omega arith

event_is_loud : (e : Event) → is_silent (event_line e) ≡ false
event_is_loud (Claim at) = refl
event_is_loud (Follow at) = refl
event_is_loud (Adopt at from) = refl
event_is_loud (Request at) = refl
event_is_loud (Relay at child) = refl
event_is_loud (Open at) = refl
event_is_loud (Join at) = refl
event_is_loud (Finish at) = refl
event_is_loud (Mend at) = refl
event_is_loud (Act at case with) = refl

pub event_asked : (names : ℕ → Option (List ℕ)) (line : List ℕ) (e : Event) → Fits e → line ≡ event_line e
    → line_of names line ≡ Asks (Step e)
event_asked names line e fits is =
    let short : nat_lt 256 (length line) ≡ false =
    ap (λ l. nat_lt 256 (length l)) is ∙ le-ltb 256 (length (event_line e)) (event_is_short e fits) in
    let loud : is_silent line ≡ false = ap is_silent is ∙ event_is_loud e in
    rw (short, loud, ← command_of-is names line (Some (Step e)) (by_words fits is) tt) refl
