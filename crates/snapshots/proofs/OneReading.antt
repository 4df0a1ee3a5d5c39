-- A text says one list of items.
use Rattle.std.proofs.Common.{◌≡◌, ℕ, ◌+◌, false, List, [], ◌∷◌, length, Option, Some, None, refl, sym, ap}
use Rattle.std.proofs.Common.{◌∙◌, subst, true≢false, arith, get_or}
use Rattle.topology.specs.Graph.{Graph}
use Rattle.tree_layer.specs.declared.regs.TreeRegs.{TreeRegs}
use Rattle.wave_layer.specs.declared.regs.Phase.{Phase}
use Rattle.wave_layer.specs.declared.regs.Phase.TheVariants.{Normal, Initiate, Reset}
use Rattle.wave_layer.specs.declared.regs.WaveRegs.{WaveRegs}
use Rattle.wave_layer.specs.Names.{phase_name}
use Rattle.reset_model.specs.Words.{words_of}
use Rattle.reset_model.proofs.EventLines.{same_number}
use Rattle.reset_model.proofs.WordLines.{line-words}
use Rattle.applications.specs.Meaning.{Meaning}
use Rattle.script_replay.specs.Script.{is_silent}
use Rattle.snapshots.specs.Items.{Spells}
use Rattle.snapshots.specs.Reading.{Say, Says, with_said}
use Rattle.snapshots.specs.Reading.Says.{an_item, nothing}
use Rattle.snapshots.specs.Words.{AreNodeWords, AreWordsOf}
use Rattle.snapshots.specs.declared.item.Item.{Item}
use Rattle.snapshots.specs.declared.item.Item.TheVariants.{Version, Node, Link, NoLink}
use Rattle.snapshots.specs.declared.item.NodeState.{NodeState}
use Rattle.snapshots.proofs.ItemWords.{first_byte, words_from_line}

-- ---- one item

same_phase : (p q : Phase) → phase_name p ≡ phase_name q → p ≡ q
same_phase Normal Normal is = refl
same_phase Initiate Initiate is = refl
same_phase Reset Reset is = refl
same_phase p q is = absurd (omega (arith, ap (λ w. get_or w 0 0) is))

same_tree : (r s : TreeRegs) → r.root ≡ s.root → r.father ≡ s.father → r.dist ≡ s.dist → r ≡ s
same_tree r s root father dist =
    let at_root : ℕ → TreeRegs = λ n. record { root = n; father = r.father; dist = r.dist } in
    let at_father : ℕ → TreeRegs = λ n. record { root = s.root; father = n; dist = r.dist } in
    let at_dist : ℕ → TreeRegs = λ n. record { root = s.root; father = s.father; dist = n } in
    ap at_root root ∙ ap at_father father ∙ ap at_dist dist

same_wave : (r s : WaveRegs) → r.phase ≡ s.phase → r.session ≡ s.session → r ≡ s
same_wave r s phase session =
    let at_phase : Phase → WaveRegs = λ p. record { phase = p; session = r.session } in
    let at_session : ℕ → WaveRegs = λ n. record { phase = s.phase; session = n } in
    ap at_phase phase ∙ ap at_session session

-- the first byte of the words of an item
kind_of : {L : Type 0} → Item L → ℕ
kind_of (Version version) = 114
kind_of (Node node) = 110
kind_of (Link a b) = 108
kind_of NoLink = 108

module _ {L : Type 0} (m : Meaning L) where
  same_state : (x y : NodeState L) → x.id ≡ y.id → x.tree ≡ y.tree → x.wave ≡ y.wave → x.local ≡ y.local → x ≡ y
  same_state x y id tree wave local =
      let at_id : ℕ → NodeState L = λ n. record { id = n; tree = x.tree; wave = x.wave; local = x.local } in
      let at_tree : TreeRegs → NodeState L = λ t. record { id = y.id; tree = t; wave = x.wave; local = x.local } in
      let at_wave : WaveRegs → NodeState L = λ w. record { id = y.id; tree = y.tree; wave = w; local = x.local } in
      let at_local : L → NodeState L = λ l. record { id = y.id; tree = y.tree; wave = y.wave; local = l } in
      ap at_id id ∙ ap at_tree tree ∙ ap at_wave wave ∙ ap at_local local

  same_node : (words : List (List ℕ)) (x y : NodeState L) → AreNodeWords m words x → AreNodeWords m words y → x ≡ y
  same_node words x y h k =
      let same = sym h.spelled ∙ k.spelled in
      let rest : words_of h.text ≡ words_of k.text = cc in
      let text : h.text ≡ k.text =
      line-words h.text (words_of k.text) rest ∙ sym (line-words k.text (words_of k.text) refl) in
      let locals : Some x.local ≡ Some y.local = sym h.local ∙ ap m.from_text text ∙ k.local in
      same_state x y (same_number x.id y.id h.fits.0 k.fits.0 (cc))
      (same_tree x.tree y.tree (same_number x.tree.root y.tree.root h.fits.1.0 k.fits.1.0 (cc))
      (same_number x.tree.father y.tree.father h.fits.1.1 k.fits.1.1 (cc))
      (same_number x.tree.dist y.tree.dist h.fits.1.2 k.fits.1.2 (cc)))
      (same_wave x.wave y.wave (same_phase x.wave.phase y.wave.phase (cc))
      (same_number x.wave.session y.wave.session h.fits.2 k.fits.2 (cc)))
      (cc)

  module _ (n : ℕ) where
    kind_is : (words : List (List ℕ)) (x : Item L) → AreWordsOf m n words x → first_byte words ≡ kind_of x
    unfolding kind_of
    kind_is words (Version version) h = ap first_byte h.2
    kind_is words (Node node) h = ap first_byte h.spelled
    kind_is words (Link a b) h = ap first_byte h.2
    kind_is words NoLink h = ap first_byte h

    same_item : (words : List (List ℕ)) (x y : Item L) → AreWordsOf m n words x → AreWordsOf m n words y → x ≡ y
    unfolding kind_of
    same_item words (Version v) (Version w) h k =
        let same = sym h.2 ∙ k.2 in ap Version (same_number v w h.1 k.1 (cc))
    same_item words (Node x) (Node y) h k = ap Node (same_node words x y h k)
    same_item words (Link a b) (Link d e) h k =
        let same = sym h.2 ∙ k.2 in
        ap (λ i. Link i b) (same_number a d h.0 k.0 (cc)) ∙ ap (λ i. Link d i) (same_number b e h.1 k.1 (cc))
    same_item words NoLink NoLink h k = refl
    same_item words (Link a b) NoLink h k = absurd (omega (arith, ap length (sym h.2 ∙ k)))
    same_item words NoLink (Link a b) h k = absurd (omega (arith, ap length (sym h ∙ k.2)))
    same_item words x y h k = absurd (omega (arith, sym (kind_is words x h) ∙ kind_is words y k))

    one_item : (line : List ℕ) (x y : Item L) → Spells m n line x → Spells m n line y → x ≡ y
    one_item line x y h k =
        same_item (words_of line) x y (words_from_line m n line x h) (words_from_line m n line y k)

    not_silent : (line : List ℕ) (x : Item L) → Spells m n line x → is_silent line ≡ false
    not_silent line (Version version) h = ap is_silent h.2
    not_silent line (Node node) h = ap is_silent h.spelled
    not_silent line (Link a b) h = ap is_silent (line-words line _ (words_from_line m n line (Link a b) h).2)
    not_silent line NoLink h = ap is_silent h

    one_said : (line : List ℕ) (s t : Option (Item L)) → Says m n line s → Says m n line t → s ≡ t
    one_said line None None (nothing short silent) (nothing also_short also_silent) = refl
    one_said line (Some x) (Some y) (an_item short x_too x_is) (an_item also_short y_too y_is) =
        ap Some (one_item line x y x_is y_is)
    one_said line None (Some y) (nothing short silent) (an_item also_short y_too y_is) =
        absurd (true≢false (sym silent ∙ not_silent line y y_is))
    one_said line (Some x) None (an_item short x_too x_is) (nothing also_short silent) =
        absurd (true≢false (sym silent ∙ not_silent line x x_is))

  -- ---- one list

  pub one_list : (g : Graph) (n : ℕ) (before : List (Item L)) (lines : List (List ℕ)) (all others : List (Item L))
      → Say m g n before lines all → Say m g n before lines others → all ≡ others
  one_list g n before [] all others h k = sym h ∙ k
  one_list g n before (line ∷ lines) all others h k =
      let P : Option (Item L) → Type 0 = λ s. Say m g (n + 1) (with_said before s) lines others in
      one_list g (n + 1) (with_said before h.0) lines all others h.3 (subst P (sym (one_said n line h.0 k.0 h.1 k.1)) k.3)
