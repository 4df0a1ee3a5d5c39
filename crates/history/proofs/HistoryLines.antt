-- The line of an entry is its own, and has no line feed.
use Rattle.std.proofs.Common.{◌≡◌, ℕ, All, true, true≢false, List, [], ◌∷◌, get_or, slice_index_or, refl, sym, ap, ◌∙◌}
use Rattle.std.proofs.Common.{arith}
use Rattle.std.specs.Prelude.{codes}
use Rattle.std.specs.Char.{is_ascii_graphic}
use Rattle.std.specs.Fmt.{decimal}
use Rattle.std.specs.List.{list_all}
use Rattle.std.proofs.lemmas.Bool.{and_parts}
use Rattle.action_tables.specs.Cuts.{HasNo}
use Rattle.wave_layer.specs.Names.{phase_name}
use Rattle.wave_layer.specs.declared.regs.Phase.{Phase}
use Rattle.wave_layer.specs.declared.regs.Phase.TheVariants.{Normal, Initiate, Reset}
use Rattle.reset_model.specs.EventText as event
use Rattle.reset_model.specs.declared.event.Event.{Event}
use Rattle.reset_model.specs.declared.event.Event.TheVariants.{Claim, Follow, Adopt, Request, Relay, Open, Join, Finish}
use Rattle.reset_model.specs.declared.event.Event.TheVariants.{Mend, Act}
use Rattle.reset_model.proofs.EventLines.{one_event}
use Rattle.reset_model.proofs.PlainLines.{event_plain, joined, letters, number}
use Rattle.fault_inject.specs.FaultText as fault
use Rattle.fault_inject.specs.declared.fault.Fault.{Fault}
use Rattle.fault_inject.specs.declared.fault.Fault.TheVariants.{SetTree, SetWave, SetLocal, LinkDown, LinkUp}
use Rattle.fault_inject.specs.declared.fault.Fault.TheVariants.{NodeDown, NodeUp}
use Rattle.fault_inject.proofs.FaultLines.{one_fault}
use Rattle.history.specs.declared.entry.Entry.{Entry}
use Rattle.history.specs.declared.entry.Entry.TheVariants.{Step, Disturbed}
use Rattle.history.specs.HistoryText.{Fits, HasLine, HasLineIn, IsInVersion, IsPrintable, entry_line}

-- ---- no line feed

printed : (word : List ℕ) → list_all is_ascii_graphic word ≡ true → HasNo 10 word
printed [] h = tt
printed (b ∷ word) h =
    let parts = and_parts (is_ascii_graphic b) (list_all is_ascii_graphic word) h in
    ((λ is. true≢false (sym parts.0 ∙ ap is_ascii_graphic is)), printed word parts.1)

-- nor a space
pub printed_word : (word : List ℕ) → list_all is_ascii_graphic word ≡ true → HasNo 32 word
printed_word [] h = tt
printed_word (b ∷ word) h =
    let parts = and_parts (is_ascii_graphic b) (list_all is_ascii_graphic word) h in
    ((λ is. true≢false (sym parts.0 ∙ ap is_ascii_graphic is)), printed_word word parts.1)

phase_plain : (phase : Phase) → HasNo 10 (phase_name phase)
phase_plain Normal = letters (codes "normal") refl
phase_plain Initiate = letters (codes "initiate") refl
phase_plain Reset = letters (codes "reset") refl

fault_plain : (f : Fault) → fault.Fits f → IsPrintable f → HasNo 10 (fault.fault_line f)
fault_plain (SetTree at regs) h p =
    joined (codes "fault")
    (codes "tree" ∷ decimal at ∷ decimal regs.root ∷ decimal regs.father ∷ decimal regs.dist ∷ []) (
      letters (codes "fault") refl,
      (
        letters (codes "tree") refl,
        (number at h.0, (number regs.root h.1, (number regs.father h.2, (number regs.dist h.3, tt)))),
      ),
    )
fault_plain (SetWave at regs) h p =
    joined (codes "fault") (codes "wave" ∷ decimal at ∷ phase_name regs.phase ∷ decimal regs.session ∷ []) (
      letters (codes "fault") refl,
      (letters (codes "wave") refl, (number at h.0, (phase_plain regs.phase, (number regs.session h.1, tt)))),
    )
fault_plain (SetLocal at text) h p =
    joined (codes "fault") (codes "local" ∷ decimal at ∷ text ∷ [])
    (letters (codes "fault") refl, (letters (codes "local") refl, (number at h.0, (printed text p, tt))))
fault_plain (LinkDown a b) h p =
    joined (codes "fault") (codes "down" ∷ decimal a ∷ decimal b ∷ [])
    (letters (codes "fault") refl, (letters (codes "down") refl, (number a h.0, (number b h.1, tt))))
fault_plain (LinkUp a b) h p =
    joined (codes "fault") (codes "up" ∷ decimal a ∷ decimal b ∷ [])
    (letters (codes "fault") refl, (letters (codes "up") refl, (number a h.0, (number b h.1, tt))))
fault_plain (NodeDown at) h p =
    joined (codes "fault") (codes "off" ∷ decimal at ∷ [])
    (letters (codes "fault") refl, (letters (codes "off") refl, (number at h, tt)))
fault_plain (NodeUp at) h p =
    joined (codes "fault") (codes "on" ∷ decimal at ∷ [])
    (letters (codes "fault") refl, (letters (codes "on") refl, (number at h, tt)))

pub entry_plain : (entry : Entry) → Fits entry → HasNo 10 (entry_line entry)
entry_plain (Step e) h = event_plain e h
entry_plain (Disturbed f) h = fault_plain f h.0 h.1

-- ---- its own

-- the second byte of a fault's line is that of no event's
event_second : (e : Event) → get_or (event.event_line e) 1 0 ≡ 97 → ⊥
event_second (Claim at) is = omega (arith, is)
event_second (Follow at) is = omega (arith, is)
event_second (Adopt at from) is = omega (arith, is)
event_second (Request at) is = omega (arith, is)
event_second (Relay at child) is = omega (arith, is)
event_second (Open at) is = omega (arith, is)
event_second (Join at) is = omega (arith, is)
event_second (Finish at) is = omega (arith, is)
event_second (Mend at) is = omega (arith, is)
event_second (Act at case with) is = omega (arith, is)

fault_second : (f : Fault) → get_or (fault.fault_line f) 1 0 ≡ 97
fault_second (SetTree at regs) = refl
fault_second (SetWave at regs) = refl
fault_second (SetLocal at text) = refl
fault_second (LinkDown a b) = refl
fault_second (LinkUp a b) = refl
fault_second (NodeDown at) = refl
fault_second (NodeUp at) = refl

pub one_entry : (a b : Entry) → Fits a → Fits b → entry_line a ≡ entry_line b → a ≡ b
one_entry (Step e) (Step f) h k is = ap Step (one_event e f h k is)
one_entry (Disturbed f) (Disturbed g) h k is = ap Disturbed (one_fault f g h.0 k.0 is)
one_entry (Step e) (Disturbed f) h k is = absurd (event_second e (ap (λ line. get_or line 1 0) is ∙ fault_second f))
one_entry (Disturbed f) (Step e) h k is =
    absurd (event_second e (ap (λ line. get_or line 1 0) (sym is) ∙ fault_second f))

-- ---- the version that is written

-- it has all entries
newest_has : (entry : Entry) → IsInVersion 3 entry
newest_has (Step e) = tt
newest_has (Disturbed (SetTree at regs)) = tt
newest_has (Disturbed (SetWave at regs)) = tt
newest_has (Disturbed (SetLocal at text)) = tt
newest_has (Disturbed (LinkDown a b)) = tt
newest_has (Disturbed (LinkUp a b)) = tt
newest_has (Disturbed (NodeDown at)) = omega arith
newest_has (Disturbed (NodeUp at)) = omega arith

pub all_newest : (es : List Entry) → All HasLine es → All (HasLineIn 3) es
all_newest es lines = λ k d short. record { line = lines k d short; known = newest_has (slice_index_or es k d) }
