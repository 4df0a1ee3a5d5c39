-- The words of the items' lines, as they are read.
use Rattle.std.specs.Prelude.{◌≡◌, ℕ, ◌<◌, ◌^◌, List, [], ◌∷◌, ◌++◌, Option, Some, None, codes}
use Rattle.std.specs.Fmt.{decimal}
use Rattle.tree_layer.specs.declared.regs.TreeRegs.{TreeRegs}
use Rattle.wave_layer.specs.declared.regs.WaveRegs.{WaveRegs}
use Rattle.wave_layer.specs.Names.{phase_name}
use Rattle.reset_model.specs.Words.{words_of}
use Rattle.applications.specs.Meaning.{Meaning}
use Rattle.snapshots.specs.Items.{TreeFits}
use Rattle.snapshots.specs.declared.item.Item.{Item}
use Rattle.snapshots.specs.declared.item.Item.TheVariants.{Version, Node, Link, NoLink}
use Rattle.snapshots.specs.declared.item.NodeState.{NodeState}

abbrev pub tree_words : TreeRegs → List (List ℕ)
tree_words tree = codes "tree" ∷ decimal tree.root ∷ decimal tree.father ∷ decimal tree.dist ∷ []

abbrev pub wave_words : WaveRegs → List (List ℕ)
wave_words wave = codes "wave" ∷ phase_name wave.phase ∷ decimal wave.session ∷ []

-- the words between that of the command and the local state
abbrev pub state_words : ℕ → TreeRegs → WaveRegs → List (List ℕ)
state_words id tree wave = decimal id ∷ (tree_words tree ++ (wave_words wave ++ codes "local" ∷ []))

-- the numbers are those of 32 bits
abbrev pub StateFits : ℕ → TreeRegs → WaveRegs → Type 0
StateFits id tree wave = (id < 2 ^ 32) × TreeFits tree × (wave.session < 2 ^ 32)

-- the words are those of a node, before those of the text of its local state
pub record AreNodeWords {L : Type 0} (m : Meaning L) (words : List (List ℕ)) (node : NodeState L) : Type 0 where
  pub text : List ℕ
  pub spelled : words ≡ codes "node" ∷ (state_words node.id node.tree node.wave ++ words_of text)
  pub local : m.from_text text ≡ Some node.local
  pub fits : StateFits node.id node.tree node.wave

-- the words of the n-th line spell the item
abbrev pub AreWordsOf : {L : Type 0} → Meaning L → ℕ → List (List ℕ) → Item L → Type 0
AreWordsOf m n words (Version version) =
    (n ≡ 1) × (version < 2 ^ 32) × (words ≡ codes "reset-snapshot" ∷ decimal version ∷ [])
AreWordsOf m n words (Node node) = AreNodeWords m words node
AreWordsOf m n words (Link a b) =
    (a < 2 ^ 32) × (b < 2 ^ 32) × (words ≡ codes "link" ∷ decimal a ∷ decimal b ∷ [])
AreWordsOf m n words NoLink = words ≡ codes "link" ∷ codes "-" ∷ []

-- what is read of a line's words: an item that they spell, or none where they spell none
abbrev pub IsReadOf : {L : Type 0} → Meaning L → ℕ → List (List ℕ) → Option (Item L) → Type 0
IsReadOf m n words (Some item) = AreWordsOf m n words item
IsReadOf {L} m n words None = (item : Item L) → AreWordsOf m n words item → ⊥
