-- A command's line has the command's words, and no other command has them.
use Rattle.std.specs.Prelude.{codes}
use Rattle.std.proofs.Common.{◌≡◌, ◌≢◌, inl, inr, ℕ, ◌<◌, ◌≤◌, ◌^◌, List, [], ◌∷◌, refl, sym, ap, ◌∙◌, Option, None}
use Rattle.std.proofs.Common.{Some, IfNone, Bool, true, false, ◌==◌, ◌||◌, true≢false, arith, length}
use Rattle.std.specs.Fmt.{decimal}
use Rattle.reset_model.specs.EventText.{event_words, Fits}
use Rattle.reset_model.specs.Words.{words_of}
use Rattle.reset_model.specs.declared.event.Event.{Event}
use Rattle.reset_model.specs.declared.event.Event.TheVariants.{Claim, Follow, Adopt, Request, Relay, Open, Join, Finish}
use Rattle.reset_model.specs.declared.event.Event.TheVariants.{Mend, Act}
use Rattle.reset_model.proofs.EventLines.{first_bytes, two_bytes, words_of-decimal, words_of-event_line}
use Rattle.reset_model.proofs.WordLines.{words_of-some, line-words}
use Rattle.fault_inject.proofs.FaultLines.{words_of-fault_line}
use Rattle.fault_inject.specs.FaultText.{fault_words}
use Rattle.fault_inject.specs.declared.fault.Fault.{Fault}
use Rattle.fault_inject.specs.declared.fault.Fault.TheVariants.{SetTree, SetWave, SetLocal, LinkDown, LinkUp}
use Rattle.fault_inject.specs.declared.fault.Fault.TheVariants.{NodeDown, NodeUp}
use Rattle.script_replay.specs.declared.script.Command.{Command}
use Rattle.script_replay.specs.declared.script.Command.TheVariants.{Step, Inject, Draw, Show, ShowNode, Newest, Enabled}
use Rattle.script_replay.specs.declared.script.Command.TheVariants.{Ready, Check, CheckNode, Alarm, Watch, Moves}
use Rattle.script_replay.specs.declared.script.Command.TheVariants.{MovesOf, Snapshot, Invariant}
use Rattle.script_replay.specs.Script.{command_words, command_line, AsksAbout, CommandFits, IsPlain}

pub words_of-command_line : (c : Command) → CommandFits c → words_of (command_line c) ≡ command_words c
words_of-command_line (Step e) h = words_of-event_line e h
words_of-command_line (Inject f) h = words_of-fault_line f h.0
words_of-command_line (Draw seed) h = ap (λ ws. codes "draw" ∷ ws) (words_of-decimal seed h)
words_of-command_line Show h = refl
words_of-command_line (ShowNode at) h = ap (λ ws. codes "show" ∷ ws) (words_of-decimal at h)
words_of-command_line Newest h = refl
words_of-command_line (Enabled at) h = ap (λ ws. codes "enabled" ∷ ws) (words_of-decimal at h)
words_of-command_line Ready h = refl
words_of-command_line Check h = refl
words_of-command_line (CheckNode at) h = ap (λ ws. codes "check" ∷ ws) (words_of-decimal at h)
words_of-command_line (Alarm at) h = ap (λ ws. codes "alarm" ∷ ws) (words_of-decimal at h)
words_of-command_line (Watch at) h = ap (λ ws. codes "watch" ∷ ws) (words_of-decimal at h)
words_of-command_line Moves h = refl
words_of-command_line (MovesOf at) h = ap (λ ws. codes "moves" ∷ ws) (words_of-decimal at h)
words_of-command_line Snapshot h = refl
words_of-command_line Invariant h = refl

-- a command that fits and is no fault fits
pub plain_fits : (c : Command) → IsPlain c → CommandFits c
plain_fits (Step e) h = h
plain_fits (Inject f) h = absurd h
plain_fits (Draw seed) h = h
plain_fits Show h = h
plain_fits (ShowNode at) h = h
plain_fits Newest h = h
plain_fits (Enabled at) h = h
plain_fits Ready h = h
plain_fits Check h = h
plain_fits (CheckNode at) h = h
plain_fits (Alarm at) h = h
plain_fits (Watch at) h = h
plain_fits Moves h = h
plain_fits (MovesOf at) h = h
plain_fits Snapshot h = h
plain_fits Invariant h = h

pub words_of-plain_line : (c : Command) → IsPlain c → words_of (command_line c) ≡ command_words c
words_of-plain_line c h = words_of-command_line c (plain_fits c h)

-- where a line is that of no fault and of no other command, it is that of none
pub none_of_both : (line : List ℕ) → ((f : Fault) → CommandFits (Inject f) → line ≡ command_line (Inject f) → ⊥)
    → ((c : Command) → IsPlain c → line ≡ command_line c → ⊥) → (c : Command) → CommandFits c → line ≡ command_line c
    → ⊥
none_of_both line fault plain (Step e) h = plain (Step e) h
none_of_both line fault plain (Inject f) h = fault f h
none_of_both line fault plain (Draw seed) h = plain (Draw seed) h
none_of_both line fault plain Show h = plain Show h
none_of_both line fault plain (ShowNode at) h = plain (ShowNode at) h
none_of_both line fault plain Newest h = plain Newest h
none_of_both line fault plain (Enabled at) h = plain (Enabled at) h
none_of_both line fault plain Ready h = plain Ready h
none_of_both line fault plain Check h = plain Check h
none_of_both line fault plain (CheckNode at) h = plain (CheckNode at) h
none_of_both line fault plain (Alarm at) h = plain (Alarm at) h
none_of_both line fault plain (Watch at) h = plain (Watch at) h
none_of_both line fault plain Moves h = plain Moves h
none_of_both line fault plain (MovesOf at) h = plain (MovesOf at) h
none_of_both line fault plain Snapshot h = plain Snapshot h
none_of_both line fault plain Invariant h = plain Invariant h

-- the words of a command's line
pub words_of_line : (line : List ℕ) (c : Command) → CommandFits c → line ≡ command_line c
    → command_words c ≡ words_of line
words_of_line line c fits is = sym (words_of-command_line c fits) ∙ ap words_of (sym is)

-- the words begin as those of a command that is no event
abbrev pub begins_no_event : List (List ℕ) → Bool
begins_no_event ws =
    first_bytes ws == two_bytes (codes "show") || first_bytes ws == two_bytes (codes "newest")
    || first_bytes ws == two_bytes (codes "enabled") || first_bytes ws == two_bytes (codes "ready")
    || first_bytes ws == two_bytes (codes "check") || first_bytes ws == two_bytes (codes "alarm")
    || first_bytes ws == two_bytes (codes "watch") || first_bytes ws == two_bytes (codes "draw")
    || first_bytes ws == two_bytes (codes "fault") || first_bytes ws == two_bytes (codes "moves")
    || first_bytes ws == two_bytes (codes "snapshot") || first_bytes ws == two_bytes (codes "invariant")

event_begins : (e : Event) → begins_no_event (event_words e) ≡ false
event_begins (Claim at) = refl
event_begins (Follow at) = refl
event_begins (Adopt at from) = refl
event_begins (Request at) = refl
event_begins (Relay at child) = refl
event_begins (Open at) = refl
event_begins (Join at) = refl
event_begins (Finish at) = refl
event_begins (Mend at) = refl
event_begins (Act at case with) = refl

pub no_event : (e : Event) {ws : List (List ℕ)} → event_words e ≡ ws → begins_no_event ws ≡ true → ⊥
no_event e is other = true≢false (sym other ∙ ap begins_no_event (sym is) ∙ event_begins e)

-- a fault begins with its command
pub fault_begins : (f : Fault) → first_bytes (fault_words f) ≡ two_bytes (codes "fault")
fault_begins (SetTree at regs) = refl
fault_begins (SetWave at regs) = refl
fault_begins (SetLocal at text) = refl
fault_begins (LinkDown a b) = refl
fault_begins (LinkUp a b) = refl
fault_begins (NodeDown at) = refl
fault_begins (NodeUp at) = refl

pub no_fault : (f : Fault) {ws : List (List ℕ)} → fault_words f ≡ ws → (first_bytes ws ≡ two_bytes (codes "fault") → ⊥)
    → ⊥
no_fault f is other = other (ap first_bytes (sym is) ∙ fault_begins f)

pub event_is_no_fault : (e : Event) (f : Fault) → event_words e ≡ fault_words f → ⊥
event_is_no_fault e f is = no_event e is (begins_fault f)
  where
    begins_fault : (f : Fault) → begins_no_event (fault_words f) ≡ true
    begins_fault (SetTree at regs) = refl
    begins_fault (SetWave at regs) = refl
    begins_fault (SetLocal at text) = refl
    begins_fault (LinkDown a b) = refl
    begins_fault (LinkUp a b) = refl
    begins_fault (NodeDown at) = refl
    begins_fault (NodeUp at) = refl

-- ---- one word

two_words : (e : Event) → 2 ≤ length (event_words e)
two_words (Adopt at from) = omega arith
two_words (Relay at child) = omega arith
two_words (Act at case None) = omega arith
two_words (Act at case (Some j)) = omega arith
two_words e = omega arith

-- what is none of these words is no command of one word
pub no_word : (word : List ℕ) (o : Option Command)
    → (word ≢ codes "show") × (word ≢ codes "newest") × (word ≢ codes "snapshot")
    → IfNone o
    ((word ≢ codes "ready") × (word ≢ codes "check") × (word ≢ codes "moves") × (word ≢ codes "invariant"))
    → IfNone o ((c : Command) → IsPlain c → word ∷ [] ≡ command_words c → ⊥)
no_word word (Some c) state rules = tt
no_word word None state rules = none
  where
    none : (c : Command) → IsPlain c → word ∷ [] ≡ command_words c → ⊥
    none (Step e) fits is = absurd (omega (arith, ap length is, two_words e))
    none (Inject f) fits is = absurd fits
    none Show fits is = state.0 (cc)
    none Newest fits is = state.1 (cc)
    none Snapshot fits is = state.2 (cc)
    none Ready fits is = rules.0 (cc)
    none Check fits is = rules.1 (cc)
    none Moves fits is = rules.2 (cc)
    none Invariant fits is = rules.3 (cc)
    none c fits is = absurd (omega (arith, ap length is))

-- ---- a word and more

-- a question of which no number follows the word is none
pub no_question : (word rest : List ℕ) → ((n : ℕ) → n < 2 ^ 32 → rest ≡ decimal n → ⊥) → (at : ℕ) → at < 2 ^ 32
    → AsksAbout at (word ∷ words_of rest) → ⊥
no_question word rest none at small (inl is) = none at small (line-words rest (decimal at ∷ []) (cc))
no_question word rest none at small (inr (inl is)) = none at small (line-words rest (decimal at ∷ []) (cc))
no_question word rest none at small (inr (inr (inl is))) = none at small (line-words rest (decimal at ∷ []) (cc))
no_question word rest none at small (inr (inr (inr (inl is)))) = none at small (line-words rest (decimal at ∷ []) (cc))
no_question word rest none at small (inr (inr (inr (inr (inl is))))) =
    none at small (line-words rest (decimal at ∷ []) (cc))
no_question word rest none at small (inr (inr (inr (inr (inr (inl is)))))) =
    none at small (line-words rest (decimal at ∷ []) (cc))
no_question word rest none at small (inr (inr (inr (inr (inr (inr is)))))) =
    none at small (line-words rest (decimal at ∷ []) (cc))

-- what is neither an event nor a question is no command of a word and more
pub no_command : (word rest : List ℕ) (o : Option Command)
    → ((e : Event) → Fits e → word ∷ words_of rest ≡ event_words e → ⊥)
    → IfNone o ((at : ℕ) → at < 2 ^ 32 → AsksAbout at (word ∷ words_of rest) → ⊥)
    → IfNone o ((c : Command) → IsPlain c → word ∷ words_of rest ≡ command_words c → ⊥)
no_command word rest (Some c) event question = tt
no_command word rest None event question = none
  where
    none : (c : Command) → IsPlain c → word ∷ words_of rest ≡ command_words c → ⊥
    none (Step e) fits is = event e fits is
    none (Inject f) fits is = absurd fits
    none (Draw seed) fits is = question seed fits (inr (inr (inr (inr (inr (inl is))))))
    none Show fits is = words_of-some rest (cc)
    none (ShowNode at) fits is = question at fits (inl is)
    none Newest fits is = words_of-some rest (cc)
    none (Enabled at) fits is = question at fits (inr (inl is))
    none Ready fits is = words_of-some rest (cc)
    none Check fits is = words_of-some rest (cc)
    none (CheckNode at) fits is = question at fits (inr (inr (inl is)))
    none (Alarm at) fits is = question at fits (inr (inr (inr (inl is))))
    none (Watch at) fits is = question at fits (inr (inr (inr (inr (inl is)))))
    none Moves fits is = words_of-some rest (cc)
    none (MovesOf at) fits is = question at fits (inr (inr (inr (inr (inr (inr is))))))
    none Snapshot fits is = words_of-some rest (cc)
    none Invariant fits is = words_of-some rest (cc)
