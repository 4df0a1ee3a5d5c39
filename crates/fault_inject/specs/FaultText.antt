-- The lines that stand for faults.
use Rattle.std.specs.Prelude.{◌≡◌, ◌≢◌, ℕ, ◌<◌, ◌^◌, List, [], ◌∷◌, Option, Some, None, codes}
use Rattle.std.specs.Fmt.{decimal}
use Rattle.std.specs.List.{join_with_byte}
use Rattle.action_tables.specs.Cuts.{HasNo}
use Rattle.wave_layer.specs.Names.{phase_name}
use Rattle.fault_inject.specs.declared.fault.Fault.{Fault}
use Rattle.fault_inject.specs.declared.fault.Fault.TheVariants.{SetTree, SetWave, SetLocal, LinkDown, LinkUp}
use Rattle.fault_inject.specs.declared.fault.Fault.TheVariants.{NodeDown, NodeUp}

-- the words of a fault that puts a local state with this text at a node
abbrev pub local_words : ℕ → List ℕ → List (List ℕ)
local_words at text = codes "fault" ∷ codes "local" ∷ decimal at ∷ text ∷ []

-- a fault in words: its command, its kind, the nodes that it names, and what it puts there
abbrev pub fault_words : Fault → List (List ℕ)
fault_words (SetTree at regs) =
    codes "fault" ∷ codes "tree" ∷ decimal at ∷ decimal regs.root ∷ decimal regs.father ∷ decimal regs.dist ∷ []
fault_words (SetWave at regs) =
    codes "fault" ∷ codes "wave" ∷ decimal at ∷ phase_name regs.phase ∷ decimal regs.session ∷ []
fault_words (SetLocal at text) = local_words at text
fault_words (LinkDown a b) = codes "fault" ∷ codes "down" ∷ decimal a ∷ decimal b ∷ []
fault_words (LinkUp a b) = codes "fault" ∷ codes "up" ∷ decimal a ∷ decimal b ∷ []
fault_words (NodeDown at) = codes "fault" ∷ codes "off" ∷ decimal at ∷ []
fault_words (NodeUp at) = codes "fault" ∷ codes "on" ∷ decimal at ∷ []

-- the one line of a fault: its words, with a space between each two
abbrev pub fault_line : Fault → List ℕ
fault_line f = join_with_byte 32 (fault_words f)

-- a text that is one word of a line: it isn't empty and has no space
abbrev pub IsOneWord : List ℕ → Type 0
IsOneWord text = (text ≢ []) × HasNo 32 text

-- the numbers of a fault are those of 32 bits, and its text is one word
abbrev pub Fits : Fault → Type 0
Fits (SetTree at regs) = (at < 2 ^ 32) × (regs.root < 2 ^ 32) × (regs.father < 2 ^ 32) × (regs.dist < 2 ^ 32)
Fits (SetWave at regs) = (at < 2 ^ 32) × (regs.session < 2 ^ 32)
Fits (SetLocal at text) = (at < 2 ^ 32) × IsOneWord text
Fits (LinkDown a b) = (a < 2 ^ 32) × (b < 2 ^ 32)
Fits (LinkUp a b) = (a < 2 ^ 32) × (b < 2 ^ 32)
Fits (NodeDown at) = at < 2 ^ 32
Fits (NodeUp at) = at < 2 ^ 32

-- what is read of a line's words: a fault that fits and has them, or none where there is no such fault
abbrev pub IsReadOf : List (List ℕ) → Option Fault → Type 0
IsReadOf words (Some f) = Fits f × (words ≡ fault_words f)
IsReadOf words None = (f : Fault) → Fits f → words ≡ fault_words f → ⊥

-- the words are those of a fault that puts a local state at a node
pub record IsLocalFault (words : List (List ℕ)) : Type 0 where
  pub at : ℕ
  pub text : List ℕ
  pub small : at < 2 ^ 32
  pub word : IsOneWord text
  pub spelt : words ≡ local_words at text
