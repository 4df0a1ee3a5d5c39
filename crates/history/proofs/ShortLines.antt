-- The lines of what happens: they are short, and so a history can have them.
use Rattle.std.proofs.Common.{◌≡◌, ℕ, ◌+◌, ◌*◌, ◌<◌, ◌≤◌, ◌^◌, ◌||◌, Bool, true, false, not, nat_lt, List, [], ◌∷◌}
use Rattle.std.proofs.Common.{Option, Some, None, Result, Ok, Err, length, refl, arith}
use Rattle.std.specs.Prelude.{codes}
use Rattle.std.specs.Fmt.{decimal}
use Rattle.std.specs.List.{AllByRecursion, join_with_byte}
use Rattle.std.specs.Option.{is_none}
use Rattle.std.proofs.lemmas.Bool.{ltb-false}
use Rattle.std.proofs.lemmas.Fmt.{length-decimal-le}
use Rattle.std.proofs.lemmas.List.{length-append}
use Rattle.app_interface.specs.Application.{App}
use Rattle.app_interface.specs.PrintableWord.{IsPrintableWord}
use Rattle.topology.specs.Graph.{is_node}
use Rattle.topology.specs.Changing.{first_of, when}
use Rattle.tree_layer.specs.declared.regs.TreeRegs.{TreeRegs}
use Rattle.wave_layer.specs.Names.{phase_name}
use Rattle.wave_layer.specs.declared.regs.Phase.{Phase}
use Rattle.wave_layer.specs.declared.regs.Phase.TheVariants.{Normal, Initiate, Reset}
use Rattle.wave_layer.specs.declared.regs.WaveRegs.{WaveRegs}
use Rattle.reset_model.specs.Configuration.{Configuration}
use Rattle.reset_model.specs.EventText as event
use Rattle.reset_model.specs.declared.event.Event.{Event}
use Rattle.reset_model.specs.declared.event.Event.TheVariants.{Claim, Follow, Adopt, Request, Relay, Open, Join}
use Rattle.reset_model.specs.declared.event.Event.TheVariants.{Finish, Mend, Act}
use Rattle.fault_inject.specs.Effects.{injected, with_read}
use Rattle.fault_inject.specs.FaultText as fault
use Rattle.fault_inject.specs.declared.fault.Fault.TheVariants.{SetTree, SetWave, SetLocal, LinkDown, LinkUp}
use Rattle.fault_inject.specs.declared.fault.Fault.TheVariants.{NodeDown, NodeUp}
use Rattle.fault_inject.specs.declared.refusal.FaultRefusal.{FaultRefusal}
use Rattle.fault_inject.specs.declared.refusal.FaultRefusal.TheVariants.{StrangeNode, BadLocal}
use Rattle.history.specs.declared.entry.Entry.TheVariants.{Step, Disturbed}
use Rattle.history.specs.HistoryText.{HasLine}
use Rattle.history.proofs.HistoryLines.{printed_word}

-- ---- words

-- a word that is short
abbrev IsShort : List ℕ → Type 0
IsShort word = length word ≤ 10

number : (n : ℕ) → n < 2 ^ 32 → IsShort (decimal n)
number n small = length-decimal-le 10 n (omega arith) (omega (arith, small)) (omega (arith, small))

-- a line with a word more
joined : (word : List ℕ) (words : List (List ℕ)) (a b : ℕ) → length word ≤ a → length (join_with_byte 32 words) ≤ b
    → length (join_with_byte 32 (word ∷ words)) ≤ a + b + 1
joined word [] a b h k = omega (arith, h)
joined word (next ∷ words) a b h k = omega (arith, h, k, length-append word (32 ∷ join_with_byte 32 (next ∷ words)))

joined_short : (words : List (List ℕ)) → AllByRecursion IsShort words
    → length (join_with_byte 32 words) ≤ 11 * length words
joined_short [] all = omega arith
joined_short (word ∷ words) all =
    omega (arith, joined word words 10 (11 * length words) all.0 (joined_short words all.1))

-- a line of few short words
few : (words : List (List ℕ)) → AllByRecursion IsShort words → length words ≤ 6 → length (join_with_byte 32 words) ≤ 256
few words all count = omega (arith, joined_short words all, count)

-- ---- events

one_number : (command : List ℕ) (at : ℕ) → IsShort command → at < 2 ^ 32
    → length (join_with_byte 32 (command ∷ decimal at ∷ [])) ≤ 256
one_number command at word h = few (command ∷ decimal at ∷ []) (word, (number at h, tt)) (omega arith)

two_numbers : (command : List ℕ) (a b : ℕ) → IsShort command → a < 2 ^ 32 → b < 2 ^ 32
    → length (join_with_byte 32 (command ∷ decimal a ∷ decimal b ∷ [])) ≤ 256
two_numbers command a b word h k =
    few (command ∷ decimal a ∷ decimal b ∷ []) (word, (number a h, (number b k, tt))) (omega arith)

event_short : (e : Event) → event.Fits e → length (event.event_line e) ≤ 256
event_short (Claim at) h = one_number (codes "claim") at (omega arith) h
event_short (Follow at) h = one_number (codes "follow") at (omega arith) h
event_short (Adopt at from) h = two_numbers (codes "adopt") at from (omega arith) h.0 h.1
event_short (Request at) h = one_number (codes "request") at (omega arith) h
event_short (Relay at child) h = two_numbers (codes "relay") at child (omega arith) h.0 h.1
event_short (Open at) h = one_number (codes "open") at (omega arith) h
event_short (Join at) h = one_number (codes "join") at (omega arith) h
event_short (Finish at) h = one_number (codes "finish") at (omega arith) h
event_short (Mend at) h = one_number (codes "mend") at (omega arith) h
event_short (Act at case None) h = two_numbers (codes "act") at case (omega arith) h.0 (omega (arith, h.1))
event_short (Act at case (Some j)) h =
    few (codes "act" ∷ decimal at ∷ decimal case ∷ decimal j ∷ [])
    (omega arith, (number at h.0, (number case (omega (arith, h.1)), (number j h.2, tt)))) (omega arith)

pub step_has : (e : Event) → event.Fits e → HasLine (Step e)
step_has e fits = record { fits = fits; short = event_short e fits }

-- ---- faults

phase_short : (phase : Phase) → IsShort (phase_name phase)
phase_short Normal = omega arith
phase_short Initiate = omega arith
phase_short Reset = omega arith

-- a fault's line of few short words
fault_short : (kind : List ℕ) (words : List (List ℕ)) → IsShort kind → AllByRecursion IsShort words
    → length words ≤ 4 → length (join_with_byte 32 (codes "fault" ∷ kind ∷ words)) ≤ 256
fault_short kind words word all count =
    few (codes "fault" ∷ kind ∷ words) (omega arith, (word, all)) (omega (arith, count))

pub tree_has : (at : ℕ) (regs : TreeRegs) → fault.Fits (SetTree at regs) → HasLine (Disturbed (SetTree at regs))
tree_has at regs h = record {
  fits = (h, tt);
  short =
      fault_short (codes "tree") (decimal at ∷ decimal regs.root ∷ decimal regs.father ∷ decimal regs.dist ∷ [])
      (omega arith)
      (number at h.0, (number regs.root h.1, (number regs.father h.2, (number regs.dist h.3, tt)))) (omega arith);
}

pub wave_has : (at : ℕ) (regs : WaveRegs) → fault.Fits (SetWave at regs) → HasLine (Disturbed (SetWave at regs))
wave_has at regs h = record {
  fits = (h, tt);
  short =
      fault_short (codes "wave") (decimal at ∷ phase_name regs.phase ∷ decimal regs.session ∷ []) (omega arith)
      (number at h.0, (phase_short regs.phase, (number regs.session h.1, tt))) (omega arith);
}

link_short : (kind : List ℕ) (a b : ℕ) → IsShort kind → a < 2 ^ 32 → b < 2 ^ 32
    → length (join_with_byte 32 (codes "fault" ∷ kind ∷ decimal a ∷ decimal b ∷ [])) ≤ 256
link_short kind a b word h k =
    fault_short kind (decimal a ∷ decimal b ∷ []) word (number a h, (number b k, tt)) (omega arith)

pub down_has : (a b : ℕ) → fault.Fits (LinkDown a b) → HasLine (Disturbed (LinkDown a b))
down_has a b h = record { fits = (h, tt); short = link_short (codes "down") a b (omega arith) h.0 h.1 }

pub up_has : (a b : ℕ) → fault.Fits (LinkUp a b) → HasLine (Disturbed (LinkUp a b))
up_has a b h = record { fits = (h, tt); short = link_short (codes "up") a b (omega arith) h.0 h.1 }

node_short : (kind : List ℕ) (at : ℕ) → IsShort kind → at < 2 ^ 32
    → length (join_with_byte 32 (codes "fault" ∷ kind ∷ decimal at ∷ [])) ≤ 256
node_short kind at word h = fault_short kind (decimal at ∷ []) word (number at h, tt) (omega arith)

pub off_has : (at : ℕ) → fault.Fits (NodeDown at) → HasLine (Disturbed (NodeDown at))
off_has at h = record { fits = (h, tt); short = node_short (codes "off") at (omega arith) h }

pub on_has : (at : ℕ) → fault.Fits (NodeUp at) → HasLine (Disturbed (NodeUp at))
on_has at h = record { fits = (h, tt); short = node_short (codes "on") at (omega arith) h }

local_has : (at : ℕ) (text : List ℕ) → at < 2 ^ 32 → length text ≤ 200 → IsPrintableWord text
    → HasLine (Disturbed (SetLocal at text))
local_has at text h short word =
    let numbered = joined (decimal at) (text ∷ []) 10 200 (number at h) short in
    let kind = joined (codes "local") (decimal at ∷ text ∷ []) 5 211 (omega arith) numbered in
    record {
      fits = ((h, (word.0, printed_word text word.1)), word.1);
      short = omega (arith, joined (codes "fault") (codes "local" ∷ decimal at ∷ text ∷ []) 5 217 (omega arith) kind);
    }

-- ---- texts of local states

module _ {L : Type 0} (app : App L) (from_text : List ℕ → Option L) (c left : Configuration L) (at : ℕ) where
  abbrev answered : Option FaultRefusal → Configuration L → Result (Configuration L) FaultRefusal
  answered None c = Ok c
  answered (Some refusal) c = Err refusal

  -- a text that isn't refused is that of a local state, and short
  unrefused : (strange long : Bool) (read : Option L)
      → answered (first_of (when strange StrangeNode ∷ when (long || is_none read) BadLocal ∷ [])) (with_read c at read)
      ≡ Ok left
      → (long ≡ false) × ((local : L) × (read ≡ Some local))
  unrefused true long read is = let none : ⊥ = cc in absurd none
  unrefused false true read is = let none : ⊥ = cc in absurd none
  unrefused false false None is = let none : ⊥ = cc in absurd none
  unrefused false false (Some local) is = (refl, (local, refl))

  read_local : (text : List ℕ) → injected app from_text c (SetLocal at text) ≡ Ok left
      → (nat_lt 200 (length text) ≡ false) × ((local : L) × (from_text text ≡ Some local))
  unfolding injected
  read_local text is = unrefused (not (is_node c.graph at)) (nat_lt 200 (length text)) (from_text text) is

  -- such a text is one printable word, where all are
  pub local_done : ((text : List ℕ) (local : L) → from_text text ≡ Some local → IsPrintableWord text)
      → (text : List ℕ) → at < 2 ^ 32 → injected app from_text c (SetLocal at text) ≡ Ok left
      → HasLine (Disturbed (SetLocal at text))
  local_done words text h is =
      let read = read_local text is in
      local_has at text h (ltb-false 200 (length text) read.0) (words text read.1.0 read.1.1)
