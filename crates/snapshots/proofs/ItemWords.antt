-- The line of an item has the item's words, and what has the words of an item is its line.
use Rattle.std.specs.Prelude.{codes}
use Rattle.std.proofs.Common.{◌≡◌, ℕ, ◌<◌, ◌^◌, List, [], ◌∷◌, ◌++◌, refl, sym, ap, ◌∙◌, append_assoc, arith, get_or}
use Rattle.std.proofs.Common.{Option, Some, None, Result, Ok, Err, IfOk, IfSome, IfNone, length}
use Rattle.std.proofs.lemmas.List.{append_cancel_right}
use Rattle.std.specs.Fmt.{decimal}
use Rattle.std.specs.List.{concat, join_with_byte}
use Rattle.tree_layer.specs.declared.regs.TreeRegs.{TreeRegs}
use Rattle.wave_layer.specs.declared.regs.Phase.{Phase}
use Rattle.wave_layer.specs.declared.regs.Phase.TheVariants.{Normal, Initiate, Reset}
use Rattle.wave_layer.specs.declared.regs.WaveRegs.{WaveRegs}
use Rattle.wave_layer.specs.Names.{phase_name}
use Rattle.reset_model.specs.Words.{words_of}
use Rattle.reset_model.proofs.EventLines.{words_of-decimal}
use Rattle.reset_model.proofs.WordLines.{IsWord-decimal, line-words, words_of-more, words_of-some}
use Rattle.applications.specs.Meaning.{Meaning}
use Rattle.history.specs.HistoryText.{ended}
use Rattle.script_replay.specs.Output.{link_line, node_head}
use Rattle.snapshots.specs.Items.{Spells, TreeFits}
use Rattle.snapshots.specs.Words.{AreWordsOf, IsReadOf, StateFits, state_words, tree_words, wave_words}
use Rattle.snapshots.specs.declared.item.Item.{Item}
use Rattle.snapshots.specs.declared.item.Item.TheVariants.{Version, Node, Link, NoLink}

-- ---- the words of a node's line

-- parts, one after another, before a text
onto : List (List ℕ) → List ℕ → List ℕ
onto [] text = text
onto (part ∷ parts) text = part ++ onto parts text

concat-onto : (parts : List (List ℕ)) (text : List ℕ) → concat parts ++ text ≡ onto parts text
unfolding onto
concat-onto [] text = refl
concat-onto (part ∷ parts) text =
    append_assoc part (concat parts) text ∙ ap (λ t. part ++ t) (concat-onto parts text)

number : (n : ℕ) (rest : List ℕ) → n < 2 ^ 32 → words_of (decimal n ++ (32 ∷ rest)) ≡ decimal n ∷ words_of rest
number n rest small = words_of-more (decimal n) rest (IsWord-decimal n small)

phase : (p : Phase) (rest : List ℕ) → words_of (phase_name p ++ (32 ∷ rest)) ≡ phase_name p ∷ words_of rest
phase Normal rest = refl
phase Initiate rest = refl
phase Reset rest = refl

pub node_words : (id : ℕ) (tree : TreeRegs) (wave : WaveRegs) (text : List ℕ) → StateFits id tree wave
    → words_of (node_head id tree wave ++ text) ≡ codes "node" ∷ (state_words id tree wave ++ words_of text)
unfolding onto
node_words id tree wave text fits =
    ap words_of
    (concat-onto
    (codes "node " ∷ decimal id ∷ codes " tree " ∷ decimal tree.root ∷ codes " " ∷ decimal tree.father
    ∷ codes " " ∷ decimal tree.dist ∷ codes " wave " ∷ phase_name wave.phase ∷ codes " " ∷ decimal wave.session
    ∷ codes " local " ∷ [])
    text)
    ∙ ap (λ ws. codes "node" ∷ ws)
    (number id _ fits.0
    ∙ ap (λ ws. decimal id ∷ codes "tree" ∷ ws)
    (number tree.root _ fits.1.0
    ∙ ap (λ ws. decimal tree.root ∷ ws)
    (number tree.father _ fits.1.1
    ∙ ap (λ ws. decimal tree.father ∷ ws)
    (number tree.dist _ fits.1.2
    ∙ ap (λ ws. decimal tree.dist ∷ codes "wave" ∷ ws)
    (phase wave.phase _ ∙ ap (λ ws. phase_name wave.phase ∷ ws) (number wave.session _ fits.2))))))

-- ---- the line of a link

abbrev pub link_text : ℕ → ℕ → List ℕ
link_text a b = join_with_byte 32 (codes "link" ∷ decimal a ∷ decimal b ∷ [])

pub link_line-ended : (a b : ℕ) → ended (link_text a b) ≡ link_line (a, b)
link_line-ended a b =
    ap (λ t. 108 ∷ 105 ∷ 110 ∷ 107 ∷ 32 ∷ t) (append_assoc (decimal a) (32 ∷ decimal b) (10 ∷ []))

words_of-link : (a b : ℕ) → a < 2 ^ 32 → b < 2 ^ 32 → words_of (link_text a b) ≡ codes "link" ∷ decimal a ∷ decimal b ∷ []
words_of-link a b p q =
    ap (λ ws. codes "link" ∷ ws) (number a (decimal b) p ∙ ap (λ ws. decimal a ∷ ws) (words_of-decimal b q))

-- ---- lines and words

module _ {L : Type 0} (m : Meaning L) (n : ℕ) (line : List ℕ) where
  pub words_from_line : (item : Item L) → Spells m n line item → AreWordsOf m n (words_of line) item
  words_from_line (Version version) h =
      (h.0, h.1, ap words_of h.2 ∙ ap (λ ws. codes "reset-snapshot" ∷ ws) (words_of-decimal version h.1))
  words_from_line (Node node) h =
      let fits : StateFits node.id node.tree node.wave = (h.small, h.tree, h.session) in
      record {
        text = h.text;
        spelled = ap words_of h.spelled ∙ node_words node.id node.tree node.wave h.text fits;
        local = h.local;
        fits = fits;
      }
  words_from_line (Link a b) h =
      let same : line ≡ link_text a b =
      append_cancel_right line (link_text a b) (10 ∷ []) (h.2 ∙ sym (link_line-ended a b)) in
      (h.0, h.1, ap words_of same ∙ words_of-link a b h.0 h.1)
  words_from_line NoLink h = ap words_of h

  pub line_from_words : (item : Item L) → AreWordsOf m n (words_of line) item → Spells m n line item
  line_from_words (Version version) h = (h.0, h.1, line-words line _ h.2)
  line_from_words (Node node) h =
      let words = codes "node" ∷ (state_words node.id node.tree node.wave ++ words_of h.text) in
      record {
        text = h.text;
        spelled = line-words line words h.spelled
            ∙ sym (line-words (node_head node.id node.tree node.wave ++ h.text) words
            (node_words node.id node.tree node.wave h.text h.fits));
        local = h.local;
        small = h.fits.0;
        tree = h.fits.1;
        session = h.fits.2;
      }
  line_from_words (Link a b) h =
      (h.0, h.1, ap ended (line-words line (codes "link" ∷ decimal a ∷ decimal b ∷ []) h.2) ∙ link_line-ended a b)
  line_from_words NoLink h = line-words line _ h

  pub line_found : {E : Type 0} (r : Result (Option (Item L)) E) → IfOk r (IsReadOf m n (words_of line))
      → IfOk r (λ read. IfSome read (Spells m n line))
  line_found (Ok (Some item)) read = line_from_words item read
  line_found (Ok None) read = tt
  line_found (Err e) read = tt

  pub line_only : {E : Type 0} (r : Result (Option (Item L)) E) → IfOk r (IsReadOf m n (words_of line))
      → IfOk r (λ read. IfNone read ((item : Item L) → Spells m n line item → ⊥))
  line_only (Ok (Some item)) read = tt
  line_only (Ok None) read = λ item spells. read item (words_from_line item spells)
  line_only (Err e) read = tt

-- ---- no item has the words

-- the first byte of the first word tells kinds of lines apart
abbrev pub first_byte : List (List ℕ) → ℕ
first_byte [] = 0
first_byte (w ∷ ws) = get_or w 0 0

module _ {L : Type 0} (m : Meaning L) (n : ℕ) where
  -- one word is no item's
  pub no_one_word : (word : List ℕ) (item : Item L) → AreWordsOf m n (word ∷ []) item → ⊥
  no_one_word word (Version version) h = omega (arith, ap length h.2)
  no_one_word word (Node node) h = omega (arith, ap length h.spelled)
  no_one_word word (Link a b) h = omega (arith, ap length h.2)
  no_one_word word NoLink h = omega (arith, ap length h)

  pub no_node : (text : List ℕ)
      → ((id : ℕ) (tree : TreeRegs) (wave : WaveRegs) (word : List ℕ) (words : List (List ℕ)) → StateFits id tree wave
      → words_of text ≡ state_words id tree wave ++ word ∷ words → ⊥)
      → (item : Item L) → AreWordsOf m n (codes "node" ∷ words_of text) item → ⊥
  no_node text only (Node node) h = at (words_of h.text) refl
    where
      at : (ws : List (List ℕ)) → words_of h.text ≡ ws → ⊥
      at [] e = words_of-some h.text e
      at (w ∷ ws) e =
          let same = h.spelled ∙ ap (λ v. codes "node" ∷ (state_words node.id node.tree node.wave ++ v)) e in
          only node.id node.tree node.wave w ws h.fits (cc)
  no_node text only (Version version) h = omega (arith, ap first_byte h.2)
  no_node text only (Link a b) h = omega (arith, ap first_byte h.2)
  no_node text only NoLink h = omega (arith, ap first_byte h)

  -- nor where the application reads no local state
  pub no_local : (text local : List ℕ) (id : ℕ) (tree : TreeRegs) (wave : WaveRegs)
      → words_of text ≡ state_words id tree wave ++ words_of local → m.from_text local ≡ None
      → (item : Item L) → AreWordsOf m n (codes "node" ∷ words_of text) item → ⊥
  no_local text local id tree wave found none (Node node) h =
      let same = sym (ap (λ ws. codes "node" ∷ ws) found) ∙ h.spelled in
      let words : words_of local ≡ words_of h.text = cc in
      let texts : local ≡ h.text =
      line-words local (words_of h.text) words ∙ sym (line-words h.text (words_of h.text) refl) in
      let read : None ≡ Some node.local = sym none ∙ ap m.from_text texts ∙ h.local in
      cc
  no_local text local id tree wave found none (Version version) h = omega (arith, ap first_byte h.2)
  no_local text local id tree wave found none (Link a b) h = omega (arith, ap first_byte h.2)
  no_local text local id tree wave found none NoLink h = omega (arith, ap first_byte h)

  -- no link, neither two numbers nor a dash
  pub no_link : (text : List ℕ) → (text ≡ codes "-" → ⊥)
      → ((a b : ℕ) → a < 2 ^ 32 → b < 2 ^ 32 → words_of text ≡ decimal a ∷ decimal b ∷ [] → ⊥)
      → (item : Item L) → AreWordsOf m n (codes "link" ∷ words_of text) item → ⊥
  no_link text dash only (Link a b) h = only a b h.0 h.1 (cc)
  no_link text dash only NoLink h = dash (line-words text (codes "-" ∷ []) (cc))
  no_link text dash only (Node node) h = omega (arith, ap first_byte h.spelled)
  no_link text dash only (Version version) h = omega (arith, ap first_byte h.2)

  pub no_version : (text : List ℕ) → ((version : ℕ) → n ≡ 1 → version < 2 ^ 32 → text ≡ decimal version → ⊥)
      → (item : Item L) → AreWordsOf m n (codes "reset-snapshot" ∷ words_of text) item → ⊥
  no_version text only (Version version) h =
      only version h.0 h.1 (line-words text (decimal version ∷ []) (cc))
  no_version text only (Node node) h = omega (arith, ap first_byte h.spelled)
  no_version text only (Link a b) h = omega (arith, ap first_byte h.2)
  no_version text only NoLink h = omega (arith, ap first_byte h)

  -- another first word is no item's
  pub no_command : (word : List ℕ) (ws : List (List ℕ)) → (word ≡ codes "node" → ⊥) → (word ≡ codes "link" → ⊥)
      → (word ≡ codes "reset-snapshot" → ⊥) → (item : Item L) → AreWordsOf m n (word ∷ ws) item → ⊥
  no_command word ws node link version (Version v) h = version (cc)
  no_command word ws node link version (Node state) h = let same = h.spelled in node (cc)
  no_command word ws node link version (Link a b) h = link (cc)
  no_command word ws node link version NoLink h = link (cc)

-- ---- no registers

-- where no distance follows a root and a father
pub no_dist : (text a b d : List ℕ) (root father : ℕ) → words_of text ≡ codes "tree" ∷ words_of a
    → words_of a ≡ decimal root ∷ words_of b → words_of b ≡ decimal father ∷ words_of d
    → ((n : ℕ) (word : List ℕ) (words : List (List ℕ)) → n < 2 ^ 32 → words_of d ≡ decimal n ∷ word ∷ words → ⊥)
    → (tree : TreeRegs) (word : List ℕ) (words : List (List ℕ)) → TreeFits tree
    → words_of text ≡ tree_words tree ++ word ∷ words → ⊥
no_dist text a b d root father first second third only tree word words fits is =
    let same =
    sym (first ∙ ap (λ ws. codes "tree" ∷ ws) (second ∙ ap (λ ws. decimal root ∷ ws) third)) ∙ is in
    only tree.dist word words fits.2 (cc)

-- where no local state follows the registers
pub no_local_word : (text a b d : List ℕ) (id : ℕ) (tree : TreeRegs) (wave : WaveRegs)
    → words_of text ≡ decimal id ∷ words_of a → words_of a ≡ tree_words tree ++ words_of b
    → words_of b ≡ wave_words wave ++ words_of d
    → ((next : List ℕ) (words : List (List ℕ)) → words_of d ≡ codes "local" ∷ next ∷ words → ⊥)
    → (i : ℕ) (t : TreeRegs) (w : WaveRegs) (word : List ℕ) (words : List (List ℕ)) → StateFits i t w
    → words_of text ≡ state_words i t w ++ word ∷ words → ⊥
no_local_word text a b d id tree wave first second third only i t w word words fits is =
    let same =
    sym (first ∙ ap (λ ws. decimal id ∷ ws) (second ∙ ap (λ ws. tree_words tree ++ ws) third)) ∙ is in
    only word words (cc)
