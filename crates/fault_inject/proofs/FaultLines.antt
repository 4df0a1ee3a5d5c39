-- A fault's line has the fault's words, and no other fault has them.
use Rattle.std.specs.Prelude.{codes}
use Rattle.std.proofs.Common.{◌≡◌, ◌≢◌, ℕ, ◌+◌, ◌<◌, ◌^◌, List, [], ◌∷◌, ◌++◌, refl, sym, ap, ◌∙◌, arith, get_or, Bool, true}
use Rattle.std.proofs.Common.{false, not, true≢false, IsTrue, Bor, Option, None, Some, Result, Ok, Err, IfOk, IfSome}
use Rattle.std.proofs.Common.{IfNone, OnErr}
use Rattle.std.specs.Option.{is_some}
use Rattle.std.specs.Fmt.{decimal}
use Rattle.action_tables.specs.Cuts.{HasNo}
use Rattle.tree_layer.specs.declared.regs.TreeRegs.{TreeRegs}
use Rattle.wave_layer.specs.declared.regs.WaveRegs.{WaveRegs}
use Rattle.wave_layer.specs.declared.regs.Phase.{Phase}
use Rattle.wave_layer.specs.declared.regs.Phase.TheVariants.{Normal, Initiate, Reset}
use Rattle.reset_model.specs.Words.{words_of}
use Rattle.reset_model.proofs.EventLines.{one_found, same_number, words_of-decimal}
use Rattle.reset_model.proofs.WordLines.{IsWord-decimal, line-words, words_of-more, words_of-word}
use Rattle.fault_inject.specs.FaultText.{Fits, IsLocalFault, IsOneWord, IsReadOf, fault_line, fault_words}
use Rattle.wave_layer.specs.Names.{phase_name}
use Rattle.fault_inject.specs.declared.fault.Fault.{Fault}
use Rattle.fault_inject.specs.declared.fault.Fault.TheVariants.{SetTree, SetWave, SetLocal, LinkDown, LinkUp}
use Rattle.fault_inject.specs.declared.fault.Fault.TheVariants.{NodeDown, NodeUp}

-- ---- the words of a line

words_of-number : (n : ℕ) (rest : List ℕ) → n < 2 ^ 32 → words_of (decimal n ++ (32 ∷ rest)) ≡ decimal n ∷ words_of rest
words_of-number n rest small = words_of-more (decimal n) rest (IsWord-decimal n small)

words_of-phase : (phase : Phase) (rest : List ℕ)
    → words_of (phase_name phase ++ (32 ∷ rest)) ≡ phase_name phase ∷ words_of rest
words_of-phase Normal rest = refl
words_of-phase Initiate rest = refl
words_of-phase Reset rest = refl

words_of-two : (m n : ℕ) → m < 2 ^ 32 → n < 2 ^ 32
    → words_of (decimal m ++ (32 ∷ decimal n)) ≡ decimal m ∷ decimal n ∷ []
words_of-two m n p q = words_of-number m (decimal n) p ∙ ap (λ ws. decimal m ∷ ws) (words_of-decimal n q)

pub words_of-fault_line : (f : Fault) → Fits f → words_of (fault_line f) ≡ fault_words f
words_of-fault_line (SetTree at regs) h =
    ap (λ ws. codes "fault" ∷ codes "tree" ∷ ws)
    (words_of-number at _ h.0
    ∙ ap (λ ws. decimal at ∷ ws)
    (words_of-number regs.root _ h.1
    ∙ ap (λ ws. decimal regs.root ∷ ws) (words_of-two regs.father regs.dist h.2 h.3)))
words_of-fault_line (SetWave at regs) h =
    ap (λ ws. codes "fault" ∷ codes "wave" ∷ ws)
    (words_of-number at _ h.0
    ∙ ap (λ ws. decimal at ∷ ws)
    (words_of-phase regs.phase _ ∙ ap (λ ws. phase_name regs.phase ∷ ws) (words_of-decimal regs.session h.1)))
words_of-fault_line (SetLocal at text) h =
    ap (λ ws. codes "fault" ∷ codes "local" ∷ ws)
    (words_of-number at _ h.0 ∙ ap (λ ws. decimal at ∷ ws) (words_of-word text h.1.1))
words_of-fault_line (LinkDown a b) h = ap (λ ws. codes "fault" ∷ codes "down" ∷ ws) (words_of-two a b h.0 h.1)
words_of-fault_line (LinkUp a b) h = ap (λ ws. codes "fault" ∷ codes "up" ∷ ws) (words_of-two a b h.0 h.1)
words_of-fault_line (NodeDown at) h = ap (λ ws. codes "fault" ∷ codes "off" ∷ ws) (words_of-decimal at h)
words_of-fault_line (NodeUp at) h = ap (λ ws. codes "fault" ∷ codes "on" ∷ ws) (words_of-decimal at h)

-- ---- one fault has the words

-- the first two bytes of the second word tell the kinds of faults apart, by their sum
abbrev pub kind_bytes : List (List ℕ) → ℕ
kind_bytes (command ∷ kind ∷ ws) = get_or kind 0 0 + get_or kind 1 0
kind_bytes ws = 0

same_phase : (p q : Phase) → phase_name p ≡ phase_name q → p ≡ q
same_phase Normal Normal is = refl
same_phase Initiate Initiate is = refl
same_phase Reset Reset is = refl
same_phase p q is = absurd (omega (arith, ap (λ w. get_or w 0 0) is))

same_tree : (r s : TreeRegs) → r.root ≡ s.root → r.father ≡ s.father → r.dist ≡ s.dist → r ≡ s
same_tree r s root father dist =
    let at_root : ℕ → TreeRegs = λ n. record { root = n; father = r.father; dist = r.dist } in
    let at_father : ℕ → TreeRegs = λ n. record { root = s.root; father = n; dist = r.dist } in
    let at_dist : ℕ → TreeRegs = λ n. record { root = s.root; father = s.father; dist = n } in
    ap at_root root ∙ ap at_father father ∙ ap at_dist dist

same_wave : (r s : WaveRegs) → r.phase ≡ s.phase → r.session ≡ s.session → r ≡ s
same_wave r s phase session =
    let at_phase : Phase → WaveRegs = λ p. record { phase = p; session = r.session } in
    let at_session : ℕ → WaveRegs = λ n. record { phase = s.phase; session = n } in
    ap at_phase phase ∙ ap at_session session

same_words : (f g : Fault) → Fits f → Fits g → fault_words f ≡ fault_words g → f ≡ g
same_words (SetTree a r) (SetTree b s) p q is =
    ap (λ n. SetTree n r) (same_number a b p.0 q.0 (cc))
    ∙ ap (λ regs. SetTree b regs)
    (same_tree r s (same_number r.root s.root p.1 q.1 (cc)) (same_number r.father s.father p.2 q.2 (cc))
    (same_number r.dist s.dist p.3 q.3 (cc)))
same_words (SetWave a r) (SetWave b s) p q is =
    ap (λ n. SetWave n r) (same_number a b p.0 q.0 (cc))
    ∙ ap (λ regs. SetWave b regs)
    (same_wave r s (same_phase r.phase s.phase (cc)) (same_number r.session s.session p.1 q.1 (cc)))
same_words (SetLocal a v) (SetLocal b w) p q is =
    ap (λ n. SetLocal n v) (same_number a b p.0 q.0 (cc)) ∙ ap (λ t. SetLocal b t) (cc)
same_words (LinkDown a c) (LinkDown b d) p q is =
    ap (λ n. LinkDown n c) (same_number a b p.0 q.0 (cc)) ∙ ap (λ n. LinkDown b n) (same_number c d p.1 q.1 (cc))
same_words (LinkUp a c) (LinkUp b d) p q is =
    ap (λ n. LinkUp n c) (same_number a b p.0 q.0 (cc)) ∙ ap (λ n. LinkUp b n) (same_number c d p.1 q.1 (cc))
same_words (NodeDown a) (NodeDown b) p q is = ap (λ n. NodeDown n) (same_number a b p q (cc))
same_words (NodeUp a) (NodeUp b) p q is = ap (λ n. NodeUp n) (same_number a b p q (cc))
same_words f g p q is = absurd (omega (arith, ap kind_bytes is))

pub one_fault : (f g : Fault) → Fits f → Fits g → fault_line f ≡ fault_line g → f ≡ g
one_fault f g p q is = same_words f g p q (sym (words_of-fault_line f p) ∙ ap words_of is ∙ words_of-fault_line g q)

-- ---- no fault has the words

-- where no number is left of two
pub no_second : (text rest : List ℕ) (first : ℕ) → words_of text ≡ decimal first ∷ words_of rest
    → ((n : ℕ) → n < 2 ^ 32 → rest ≡ decimal n → ⊥)
    → (m n : ℕ) → m < 2 ^ 32 → n < 2 ^ 32 → words_of text ≡ decimal m ∷ decimal n ∷ [] → ⊥
no_second text rest first found only m n p q is =
    let both = sym found ∙ is in
    only n q (line-words rest (decimal n ∷ []) (cc))

pub no_wave : (text rest phase session : List ℕ) (at : ℕ) → words_of text ≡ decimal at ∷ words_of rest
    → words_of rest ≡ phase ∷ words_of session
    → ((n : ℕ) → n < 2 ^ 32 → session ≡ decimal n → ⊥) → IsReadOf (codes "fault" ∷ codes "wave" ∷ words_of text) None
no_wave text rest phase session at first second only (SetWave a r) fits is =
    let same : codes "fault" ∷ codes "wave" ∷ decimal at ∷ phase ∷ words_of session ≡ fault_words (SetWave a r) =
    ap (λ ws. codes "fault" ∷ codes "wave" ∷ ws) (sym (first ∙ ap (λ ws. decimal at ∷ ws) second)) ∙ is in
    only r.session fits.1 (line-words session (decimal r.session ∷ []) (cc))
no_wave text rest phase session at first second only f fits is = absurd (omega (arith, ap kind_bytes is))

pub no_local : (text rest : List ℕ) (at : ℕ) → words_of text ≡ decimal at ∷ words_of rest
    → ((rest ≢ []) × HasNo 32 rest → ⊥) → IsReadOf (codes "fault" ∷ codes "local" ∷ words_of text) None
no_local text rest at first only (SetLocal a v) fits is =
    let same : codes "fault" ∷ codes "local" ∷ decimal at ∷ words_of rest ≡ fault_words (SetLocal a v) =
    ap (λ ws. codes "fault" ∷ codes "local" ∷ ws) (sym first) ∙ is in
    let text : rest ≡ v = line-words rest (v ∷ []) (cc) in
    only (rw text fits.1)
no_local text rest at first only f fits is = absurd (omega (arith, ap kind_bytes is))

pub no_off : (text : List ℕ) → ((n : ℕ) → n < 2 ^ 32 → text ≡ decimal n → ⊥)
    → IsReadOf (codes "fault" ∷ codes "off" ∷ words_of text) None
no_off text only (NodeDown b) fits is = only b fits (line-words text (decimal b ∷ []) (cc))
no_off text only f fits is = absurd (omega (arith, ap kind_bytes is))

pub no_on : (text : List ℕ) → ((n : ℕ) → n < 2 ^ 32 → text ≡ decimal n → ⊥)
    → IsReadOf (codes "fault" ∷ codes "on" ∷ words_of text) None
no_on text only (NodeUp b) fits is = only b fits (line-words text (decimal b ∷ []) (cc))
no_on text only f fits is = absurd (omega (arith, ap kind_bytes is))

-- ---- a fault has the words

pub number_found : (text kind : List ℕ) (n : ℕ) → text ≡ decimal n → n < 2 ^ 32
    → codes "fault" ∷ kind ∷ words_of text ≡ codes "fault" ∷ kind ∷ decimal n ∷ []
number_found text kind n is small =
    ap (λ ws. codes "fault" ∷ kind ∷ ws) (ap words_of is ∙ words_of-decimal n small)

pub wave_found : (text rest word session : List ℕ) (at n : ℕ) (phase : Phase)
    → words_of text ≡ decimal at ∷ words_of rest → words_of rest ≡ word ∷ words_of session
    → word ≡ phase_name phase → session ≡ decimal n → n < 2 ^ 32
    → codes "fault" ∷ codes "wave" ∷ words_of text
    ≡ codes "fault" ∷ codes "wave" ∷ decimal at ∷ phase_name phase ∷ decimal n ∷ []
wave_found text rest word session at n phase first second named number small =
    ap (λ ws. codes "fault" ∷ codes "wave" ∷ ws)
    (first ∙ ap (λ ws. decimal at ∷ ws) (second ∙ one_found word session (phase_name phase) n named number small))

pub local_found : (text rest items : List ℕ) (at : ℕ) → words_of text ≡ decimal at ∷ words_of rest → IsOneWord rest
    → items ≡ rest
    → IsOneWord items
    × (codes "fault" ∷ codes "local" ∷ words_of text ≡ codes "fault" ∷ codes "local" ∷ decimal at ∷ items ∷ [])
local_found text rest items at first word is = (
  rw is word,
  ap (λ ws. codes "fault" ∷ codes "local" ∷ ws)
      (first ∙ ap (λ ws. decimal at ∷ ws) (words_of-word rest word.1 ∙ ap (λ w. w ∷ []) (sym is))),
)

pub local_asked : (text rest : List ℕ) (at : ℕ) → words_of text ≡ decimal at ∷ words_of rest → at < 2 ^ 32
    → IsOneWord rest → IsLocalFault (codes "fault" ∷ codes "local" ∷ words_of text)
local_asked text rest at first small word =
    record {
      at = at;
      text = rest;
      small = small;
      word = word;
      spelt = (local_found text rest rest at first word refl).1;
    }

-- ---- what is read of a line is what is read of its words

module _ (line command rest : List ℕ) (split : words_of line ≡ command ∷ words_of rest)
    (named : command ≡ codes "fault") where
  words_of-line : words_of line ≡ codes "fault" ∷ words_of rest
  words_of-line = split ∙ ap (λ w. w ∷ words_of rest) named

  pub line_found : {E : Type 0} (r : Result (Option Fault) E) → IfOk r (IsReadOf (codes "fault" ∷ words_of rest))
      → IfOk r (λ read. IfSome read (λ f. line ≡ fault_line f))
  line_found (Ok (Some f)) read = line-words line (fault_words f) (words_of-line ∙ read.1)
  line_found (Ok None) read = tt
  line_found (Err e) read = tt

  pub line_only : {E : Type 0} (r : Result (Option Fault) E) → IfOk r (IsReadOf (codes "fault" ∷ words_of rest))
      → IfOk r (λ read. IfNone read ((f : Fault) → Fits f → line ≡ fault_line f → ⊥))
  line_only (Ok (Some f)) read = tt
  line_only (Ok None) read = λ f fits is. read f fits (sym words_of-line ∙ ap words_of is ∙ words_of-fault_line f fits)
  line_only (Err e) read = tt

  pub line_memory : {E : Type 0} (r : Result (Option Fault) E) → OnErr r (IsLocalFault (codes "fault" ∷ words_of rest))
      → OnErr r (IsLocalFault (words_of line))
  line_memory (Ok read) asked = tt
  line_memory (Err e) asked =
      record {
        at = asked.at;
        text = asked.text;
        small = asked.small;
        word = asked.word;
        spelt = words_of-line ∙ asked.spelt;
      }

-- ---- one word

no_space : (w rest : List ℕ) → HasNo 32 (w ++ 32 ∷ rest) → ⊥
no_space [] rest none = none.0 refl
no_space (c ∷ cs) rest none = no_space cs rest none.1

-- a text that isn't empty is one word where it is cut nowhere
pub one_word : (text : List ℕ) (o : Option (Bor (List ℕ) × Bor (List ℕ))) (b : Bool) → text ≢ []
    → IfSome o (λ parts. text ≡ parts.0.now ++ 32 ∷ parts.1.now) → IfNone o (HasNo 32 text)
    → is_some o ≡ not b → (IsTrue b → IsOneWord text) × (IsOneWord text → IsTrue b)
one_word text (Some parts) true some found none is = absurd (true≢false is)
one_word text (Some parts) false some found none is =
    (λ h. absurd (true≢false (sym h)), λ word. absurd (no_space parts.0.now parts.1.now (rw (← found) word.1)))
one_word text None true some found none is = (λ h. (some, none), λ word. refl)
one_word text None false some found none is = absurd (true≢false (sym is))
