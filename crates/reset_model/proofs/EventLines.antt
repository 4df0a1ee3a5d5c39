-- An event's line has the event's words, and no other event has them.
use Rattle.std.proofs.Common.{◌≡◌, ℕ, ◌+◌, ◌*◌, ◌<◌, ◌^◌, ◌≤◌, Bool, true, not, nat_eq, ◌||◌, true≢false, List, [], ◌∷◌}
use Rattle.std.proofs.Common.{◌++◌, refl, sym, ap, ◌∙◌, subst, append_assoc, arith, length, get_or, Option, None, Some}
use Rattle.std.proofs.Common.{IfSome}
use Rattle.std.specs.Fmt.{decimal}
use Rattle.std.specs.Io.KnownBytes.{Appends}
use Rattle.std.proofs.lemmas.Fmt.{decimal_injective}
use Rattle.action_tables.specs.Written.{AppendsPrefix}
use Rattle.action_tables.proofs.Prefixes.{AppendsPrefix-first, AppendsPrefix-then}
use Rattle.reset_model.specs.EventCommands.{command_of}
use Rattle.reset_model.specs.EventText.{event_words, event_line, neighbour_words, Fits}
use Rattle.reset_model.specs.Words.{words_of}
use Rattle.reset_model.specs.declared.event_kind.EventKind.{EventKind}
use Rattle.reset_model.specs.declared.event.Event.{Event}
use Rattle.reset_model.specs.declared.event.Event.TheVariants.{Claim, Follow, Adopt, Request, Relay, Open, Join, Finish}
use Rattle.reset_model.specs.declared.event.Event.TheVariants.{Mend, Act}
use Rattle.reset_model.proofs.WordLines.{words_of-word, words_of-more, words_of-some, line-words, IsWord-decimal}

pub words_of-decimal : (n : ℕ) → n < 2 ^ 32 → words_of (decimal n) ≡ decimal n ∷ []
words_of-decimal n h = words_of-word (decimal n) (IsWord-decimal n h)

words_of-decimals : (m n : ℕ) → m < 2 ^ 32 → n < 2 ^ 32
    → words_of (decimal m ++ (32 ∷ decimal n)) ≡ decimal m ∷ decimal n ∷ []
words_of-decimals m n p q =
    words_of-more (decimal m) (decimal n) (IsWord-decimal m p) ∙ ap (λ ws. decimal m ∷ ws) (words_of-decimal n q)

pub words_of-event_line : (e : Event) → Fits e → words_of (event_line e) ≡ event_words e
words_of-event_line (Claim at) h = ap (λ ws. command_of EventKind.Claim ∷ ws) (words_of-decimal at h)
words_of-event_line (Follow at) h = ap (λ ws. command_of EventKind.Follow ∷ ws) (words_of-decimal at h)
words_of-event_line (Adopt at from) h = ap (λ ws. command_of EventKind.Adopt ∷ ws) (words_of-decimals at from h.0 h.1)
words_of-event_line (Request at) h = ap (λ ws. command_of EventKind.Request ∷ ws) (words_of-decimal at h)
words_of-event_line (Relay at child) h = ap (λ ws. command_of EventKind.Relay ∷ ws) (words_of-decimals at child h.0 h.1)
words_of-event_line (Open at) h = ap (λ ws. command_of EventKind.Open ∷ ws) (words_of-decimal at h)
words_of-event_line (Join at) h = ap (λ ws. command_of EventKind.Join ∷ ws) (words_of-decimal at h)
words_of-event_line (Finish at) h = ap (λ ws. command_of EventKind.Finish ∷ ws) (words_of-decimal at h)
words_of-event_line (Mend at) h = ap (λ ws. command_of EventKind.Mend ∷ ws) (words_of-decimal at h)
words_of-event_line (Act at case None) h =
    ap (λ ws. command_of EventKind.Act ∷ ws) (words_of-decimals at case h.0 (omega (arith, h.1)))
words_of-event_line (Act at case (Some j)) h =
    ap (λ ws. command_of EventKind.Act ∷ ws)
    (words_of-more (decimal at) _ (IsWord-decimal at h.0)
    ∙ ap (λ ws. decimal at ∷ ws) (words_of-decimals case j (omega (arith, h.1)) h.2))

pub same_number : (m n : ℕ) → m < 2 ^ 32 → n < 2 ^ 32 → decimal m ≡ decimal n → m ≡ n
same_number m n p q h = decimal_injective m n (omega arith) (omega arith) h

-- the first and the third byte of a command tell commands apart, also from those of a script
abbrev pub two_bytes : List ℕ → ℕ
two_bytes w = 1000 * get_or w 0 0 + get_or w 2 0

-- and with the number of words those of the first word tell events apart
abbrev pub first_bytes : List (List ℕ) → ℕ
first_bytes [] = 0
first_bytes (w ∷ ws) = two_bytes w

-- an event whose words begin with `act` is an action
pub record IsAction (ws : List (List ℕ)) : Type 0 where
  pub at : ℕ
  pub case : ℕ
  pub with : Option ℕ
  pub fits : Fits (Act at case with)
  pub words : ws ≡ decimal at ∷ decimal case ∷ neighbour_words with

pub action_words : (e : Event) (ws : List (List ℕ)) → Fits e → command_of EventKind.Act ∷ ws ≡ event_words e
    → IsAction ws
action_words (Act at case with) ws fits is = record { at = at; case = case; with = with; fits = fits; words = cc }
action_words e ws fits is = absurd (omega (arith, ap first_bytes is))

pub action_small : (at case : ℕ) (with : Option ℕ) → Fits (Act at case with)
    → (at < 2 ^ 32) × (case < 2 ^ 8) × IfSome with (λ j. j < 2 ^ 32)
action_small at case None fits = (fits.0, fits.1, tt)
action_small at case (Some j) fits = (fits.0, fits.1, fits.2)

same_words : (e f : Event) → Fits e → Fits f → event_words e ≡ event_words f → e ≡ f
same_words (Claim a) (Claim b) p q h = ap Claim (same_number a b p q (cc))
same_words (Follow a) (Follow b) p q h = ap Follow (same_number a b p q (cc))
same_words (Adopt a c) (Adopt b d) p q h =
    ap (λ n. Adopt n c) (same_number a b p.0 q.0 (cc)) ∙ ap (λ n. Adopt b n) (same_number c d p.1 q.1 (cc))
same_words (Request a) (Request b) p q h = ap Request (same_number a b p q (cc))
same_words (Open a) (Open b) p q h = ap Open (same_number a b p q (cc))
same_words (Join a) (Join b) p q h = ap Join (same_number a b p q (cc))
same_words (Finish a) (Finish b) p q h = ap Finish (same_number a b p q (cc))
same_words (Mend a) (Mend b) p q h = ap Mend (same_number a b p q (cc))
same_words (Act a c None) (Act b d None) p q h =
    ap (λ n. Act n c None) (same_number a b p.0 q.0 (cc))
    ∙ ap (λ n. Act b n None) (same_number c d (omega (arith, p.1)) (omega (arith, q.1)) (cc))
same_words (Act a c (Some x)) (Act b d (Some y)) p q h =
    ap (λ n. Act n c (Some x)) (same_number a b p.0 q.0 (cc))
    ∙ ap (λ n. Act b n (Some x)) (same_number c d (omega (arith, p.1)) (omega (arith, q.1)) (cc))
    ∙ ap (λ n. Act b d (Some n)) (same_number x y p.2 q.2 (cc))
same_words (Relay a c) (Relay b d) p q h =
    ap (λ n. Relay n c) (same_number a b p.0 q.0 (cc)) ∙ ap (λ n. Relay b n) (same_number c d p.1 q.1 (cc))
same_words e f p q h = absurd (omega (arith, ap first_bytes h, ap length h))

pub one_event : (e f : Event) → Fits e → Fits f → event_line e ≡ event_line f → e ≡ f
one_event e f p q h = same_words e f p q (sym (words_of-event_line e p) ∙ ap words_of h ∙ words_of-event_line f q)

-- ---- the command that a line begins with

pub words_of-command : (kind : EventKind) (rest : List ℕ)
    → words_of (command_of kind ++ 32 ∷ rest) ≡ command_of kind ∷ words_of rest
words_of-command EventKind.Claim rest = refl
words_of-command EventKind.Follow rest = refl
words_of-command EventKind.Adopt rest = refl
words_of-command EventKind.Request rest = refl
words_of-command EventKind.Relay rest = refl
words_of-command EventKind.Open rest = refl
words_of-command EventKind.Join rest = refl
words_of-command EventKind.Finish rest = refl
words_of-command EventKind.Mend rest = refl
words_of-command EventKind.Act rest = refl

pub begun : (line : List ℕ) (kind : EventKind) (rest : List ℕ) → line ≡ command_of kind ++ 32 ∷ rest
    → words_of line ≡ command_of kind ∷ words_of rest
begun line kind rest is = ap words_of is ∙ words_of-command kind rest

-- the line of an event begins with the command of its kind
pub begins : (e : Event) → (kind : EventKind) × (rest : List ℕ) × (event_line e ≡ command_of kind ++ 32 ∷ rest)
begins (Claim at) = (EventKind.Claim, decimal at, refl)
begins (Follow at) = (EventKind.Follow, decimal at, refl)
begins (Adopt at from) = (EventKind.Adopt, decimal at ++ 32 ∷ decimal from, refl)
begins (Request at) = (EventKind.Request, decimal at, refl)
begins (Relay at child) = (EventKind.Relay, decimal at ++ 32 ∷ decimal child, refl)
begins (Open at) = (EventKind.Open, decimal at, refl)
begins (Join at) = (EventKind.Join, decimal at, refl)
begins (Finish at) = (EventKind.Finish, decimal at, refl)
begins (Mend at) = (EventKind.Mend, decimal at, refl)
begins (Act at case None) = (EventKind.Act, decimal at ++ 32 ∷ decimal case, refl)
begins (Act at case (Some j)) = (EventKind.Act, decimal at ++ (32 ∷ (decimal case ++ (32 ∷ decimal j))), refl)

-- so a line that begins with none is no event's
pub none_begins : (line : List ℕ)
    → ((kind : EventKind) (rest : List ℕ) → line ≡ command_of kind ++ 32 ∷ rest → ⊥)
    → (e : Event) → Fits e → line ≡ event_line e → ⊥
none_begins line none e fits is = let (kind, rest, same) = begins e in none kind rest (is ∙ same)

-- ---- the words of a line that was cut at its first space, and again

pub cut_twice : (line command numbers : List ℕ) (ws : List (List ℕ)) → words_of line ≡ command ∷ words_of numbers
    → words_of numbers ≡ ws → words_of line ≡ command ∷ ws
cut_twice line command numbers ws p q = p ∙ ap (λ rest. command ∷ rest) q

-- ---- the words of a command and of what follows it

pub both_found : (command rest name : List ℕ) (ws : List (List ℕ)) → command ≡ name → words_of rest ≡ ws
    → command ∷ words_of rest ≡ name ∷ ws
both_found command rest name ws is more = cc

pub one_found : (command rest name : List ℕ) (n : ℕ) → command ≡ name → rest ≡ decimal n → n < 2 ^ 32
    → command ∷ words_of rest ≡ name ∷ decimal n ∷ []
one_found command rest name n is number small =
    both_found command rest name (decimal n ∷ []) is (ap words_of number ∙ words_of-decimal n small)

-- the command is not one of those that take more than one number
abbrev pub takes_one : List ℕ → Bool
takes_one w =
    not (nat_eq (two_bytes w) (two_bytes (command_of EventKind.Adopt))
    || nat_eq (two_bytes w) (two_bytes (command_of EventKind.Relay))
    || nat_eq (two_bytes w) (two_bytes (command_of EventKind.Act)))

one_number_of : (e : Event) (name : List ℕ) (ws : List (List ℕ)) → takes_one name ≡ true → Fits e
    → name ∷ ws ≡ event_words e → (n : ℕ) × (n < 2 ^ 32) × (ws ≡ decimal n ∷ [])
one_number_of (Claim at) name ws one fits is = (at, fits, cc)
one_number_of (Follow at) name ws one fits is = (at, fits, cc)
one_number_of (Request at) name ws one fits is = (at, fits, cc)
one_number_of (Open at) name ws one fits is = (at, fits, cc)
one_number_of (Join at) name ws one fits is = (at, fits, cc)
one_number_of (Finish at) name ws one fits is = (at, fits, cc)
one_number_of (Mend at) name ws one fits is = (at, fits, cc)
one_number_of (Adopt at from) name ws one fits is = let same : name ≡ command_of EventKind.Adopt =
    cc in absurd (true≢false (sym one ∙ ap takes_one same))
one_number_of (Relay at child) name ws one fits is = let same : name ≡ command_of EventKind.Relay =
    cc in absurd (true≢false (sym one ∙ ap takes_one same))
one_number_of (Act at case with) name ws one fits is = let same : name ≡ command_of EventKind.Act =
    cc in absurd (true≢false (sym one ∙ ap takes_one same))

-- where no number follows such a command, it is no event
pub one_only : (command rest name : List ℕ) → takes_one name ≡ true → command ≡ name
    → ((n : ℕ) → n < 2 ^ 32 → rest ≡ decimal n → ⊥)
    → (e : Event) → Fits e → command ∷ words_of rest ≡ event_words e → ⊥
one_only command rest name one is none e fits words =
    let number = one_number_of e name (words_of rest) one fits (sym (ap (λ w. w ∷ words_of rest) is) ∙ words) in
    none number.0 number.1 (line-words rest (decimal number.0 ∷ []) number.2)

-- ---- a word and perhaps a number

pub one_and_none : (text word last : List ℕ) → words_of text ≡ word ∷ words_of last
    → ((n : ℕ) → n < 2 ^ 32 → last ≡ decimal n → ⊥)
    → (w : List ℕ) (with : Option ℕ) → IfSome with (λ j. j < 2 ^ 32) → words_of text ≡ w ∷ neighbour_words with → ⊥
one_and_none text word last first none w None near is = let same = sym first ∙ is in words_of-some last (cc)
one_and_none text word last first none w (Some j) near is = let same =
    sym first ∙ is in none j near (line-words last (decimal j ∷ []) (cc))

-- ---- the words of an action after the first

-- where no case and perhaps a neighbour follows the node, there is no action
pub end_only : (text at rest : List ℕ) → words_of text ≡ at ∷ words_of rest
    → ((word : List ℕ) (with : Option ℕ) → IfSome with (λ j. j < 2 ^ 32)
    → words_of rest ≡ word ∷ neighbour_words with → ⊥)
    → (e : Event) → Fits e → command_of EventKind.Act ∷ words_of text ≡ event_words e → ⊥
end_only text at rest split none e fits is =
    let action = action_words e (words_of text) fits is in
    let same = sym split ∙ action.words in
    none (decimal action.case) action.with (action_small action.at action.case action.with action.fits).2 (cc)

-- nor where the case has more than 8 bits
pub case_only : (text at rest word : List ℕ) (with : Option ℕ) (n : ℕ) → words_of text ≡ at ∷ words_of rest
    → words_of rest ≡ word ∷ neighbour_words with → word ≡ decimal n → n < 2 ^ 32 → 256 ≤ n
    → (e : Event) → Fits e → command_of EventKind.Act ∷ words_of text ≡ event_words e → ⊥
case_only text at rest word with n first second number small large e fits is =
    let action = action_words e (words_of text) fits is in
    let parts = action_small action.at action.case action.with action.fits in
    let split = sym (cut_twice text at rest (word ∷ neighbour_words with) first second) ∙ action.words in
    let same : action.case ≡ n = same_number action.case n (omega (arith, parts.1)) small (cc) in
    omega (arith, parts.1, same, large)

-- ---- the text of an action, where its neighbour is written last

pub act_line : (at case b : ℕ) (with : Option ℕ) (j k : ℕ) → b ≡ case → with ≡ Some j → k ≡ j
    → event_line (Act at case with)
    ≡ ((command_of EventKind.Act ++ (32 ∷ decimal at)) ++ (32 ∷ decimal b)) ++ (32 ∷ decimal k)
act_line at case b with j k same is near =
    rw (is, same, near)
    (ap (λ l. 97 ∷ 99 ∷ 116 ∷ 32 ∷ l) (sym (append_assoc (decimal at) (32 ∷ decimal case) (32 ∷ decimal j))))

-- what is written of a text that an action's line begins with is written of the line
pub act_begun : (x y : Option (List ℕ)) (at case b : ℕ) (with : Option ℕ) → b ≡ case
    → AppendsPrefix x y ((command_of EventKind.Act ++ (32 ∷ decimal at)) ++ (32 ∷ decimal b))
    → AppendsPrefix x y (event_line (Act at case with))
act_begun x y at case b None same h = rw (← same) h
act_begun x y at case b (Some j) same h =
    let P : List ℕ → Type 0 = λ l. AppendsPrefix x y l in
    subst P (sym (act_line at case b (Some j) j j same refl refl))
    (AppendsPrefix-first x y ((command_of EventKind.Act ++ (32 ∷ decimal at)) ++ (32 ∷ decimal b)) (32 ∷ decimal j) h)

-- so is what is written of the neighbour after that text
pub act_ended : (x y z : Option (List ℕ)) (at case b : ℕ) (with : Option ℕ) (j k : ℕ) → b ≡ case → with ≡ Some j → k ≡ j
    → Appends x y ((command_of EventKind.Act ++ (32 ∷ decimal at)) ++ (32 ∷ decimal b))
    → AppendsPrefix y z (32 ∷ decimal k)
    → AppendsPrefix x z (event_line (Act at case with))
act_ended x y z at case b with j k same is near first h =
    let P : List ℕ → Type 0 = λ l. AppendsPrefix x z l in
    subst P (sym (act_line at case b with j k same is near))
    (AppendsPrefix-then x y z ((command_of EventKind.Act ++ (32 ∷ decimal at)) ++ (32 ∷ decimal b)) (32 ∷ decimal k)
    first h)
