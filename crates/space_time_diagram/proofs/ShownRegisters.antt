-- What is seen of a node in a row of a picture is what its wave registers are after the entries down to that row, or
-- that it is down there.
use Rattle.std.proofs.Common.{◌≡◌, ◌≢◌, ℕ, zero, suc, ◌+◌, ◌<◌, ◌≤◌, ◌&&◌, Bool, true, false, cond, nat_eq}
use Rattle.std.proofs.Common.{nat_le, nat_lt, List, [], ◌∷◌, ◌++◌, length, take, map, Contains, Option, Some, None}
use Rattle.std.proofs.Common.{◌⊎◌, inl, inr, refl, sym, ap, subst, ◌∙◌, arith}
use Rattle.std.proofs.lemmas.Bool.{le-leb}
use Rattle.std.proofs.lemmas.Bool.Decides.{eqb_tells, leb_tells}
use Rattle.std.specs.Option.{option_and_then, option_map_or}
use Rattle.app_interface.specs.Application.{App}
use Rattle.topology.specs.Graph.{IsGraph}
use Rattle.topology.proofs.Membership.{has-Contains}
use Rattle.wave_layer.specs.declared.regs.WaveRegs.{WaveRegs}
use Rattle.reset_model.specs.Configuration.{Configuration, IsShaped}
use Rattle.history.specs.declared.entry.Entry.{Entry}
use Rattle.history.specs.Entries.{entered, replayed}
use Rattle.space_time_diagram.specs.declared.band.Band.{Band}
use Rattle.space_time_diagram.specs.Bands.{band, bands_from, bands_of, begun_band, entry_node}
use Rattle.space_time_diagram.specs.Bands.{opening_band, shown_of}
use Rattle.space_time_diagram.specs.Lanes.{lane_of, own_lane}
use Rattle.space_time_diagram.specs.Page.{height_below, row_y}
use Rattle.space_time_diagram.specs.Shown.{covers, seen}
use Rattle.space_time_diagram.proofs.KeptRegisters.{KeepsOthers, entry_keeps, shown_kept}

-- ---- rows

-- a band has some of itself in a row from its own on
reaches : (count p q : ℕ) → p ≤ q → q ≤ count
    → nat_le (row_y p) (row_y q) && nat_lt (row_y q) (row_y p + height_below count p) ≡ true
reaches count p q above within =
    let from : nat_le (row_y p) (row_y q) ≡ true = le-leb (row_y p) (row_y q) (omega arith) in
    let to : nat_lt (row_y q) (row_y p + height_below count p) ≡ true =
    le-leb (suc (row_y q)) (row_y p + height_below count p) (omega arith) in
    rw (from, to) refl

-- and nothing in an earlier one
not_yet : (p q : ℕ) → q < p → nat_le (row_y p) (row_y q) ≡ false
not_yet p q below = elim (leb_tells (row_y p) (row_y q)) [ inl t ↦ absurd (omega (arith, t.1)) | inr t ↦ t.0 ]

-- ---- one band

-- whatever is chosen of two that are the same
either : (b : Bool) (v w : Option WaveRegs) → v ≡ w → cond b v w ≡ w
either true v w same = same
either false v w same = refl

and-false : (b : Bool) → b && false ≡ false
and-false true = refl
and-false false = refl

module _ (i : ℕ) where
  -- a band of another node leaves what is seen
  other_node : (y : ℕ) (b : Band) (w : Option WaveRegs) → nat_eq b.node i ≡ false → cond (covers i y b) b.shown w ≡ w
  other_node y b w other = rw other refl

  -- so does one that begins below the row
  lower_band : (y : ℕ) (b : Band) (w : Option WaveRegs) → nat_le b.y y ≡ false → cond (covers i y b) b.shown w ≡ w
  lower_band y b w below = rw (below, and-false (nat_eq b.node i)) refl

  -- one of the node, with some of it in the row, is seen there
  own_band : (y : ℕ) (b : Band) (w : Option WaveRegs) → nat_eq b.node i ≡ true
      → nat_le b.y y && nat_lt y (b.y + b.height) ≡ true → cond (covers i y b) b.shown w ≡ b.shown
  own_band y b w own there = rw (own, there) refl

-- ---- the opening

module _ {L : Type 0} (nodes : List ℕ) (c : Configuration L) (count q i : ℕ) (within : q ≤ count) where
  opening_kept : (ks : List ℕ) (bs : List Band)
      → seen i (row_y q) (shown_of c i) (map (opening_band nodes c count) ks ++ bs)
      ≡ seen i (row_y q) (shown_of c i) bs
  opening_kept [] bs = refl
  opening_kept (k ∷ ks) bs =
      ap (λ w. seen i (row_y q) w (map (opening_band nodes c count) ks ++ bs)) (at (eqb_tells k i)) ∙ opening_kept ks bs
    where
      at : ((nat_eq k i ≡ true) × (k ≡ i)) ⊎ ((nat_eq k i ≡ false) × (k ≢ i))
          → cond (covers i (row_y q) (opening_band nodes c count k)) (shown_of c k) (shown_of c i) ≡ shown_of c i
      at (inl t) =
          either (covers i (row_y q) (opening_band nodes c count k)) (shown_of c k) (shown_of c i) (ap (shown_of c) t.1)
      at (inr t) = other_node i (row_y q) (opening_band nodes c count k) (shown_of c i) t.0

  opening_seen : (ks : List ℕ) (bs : List Band) (w : Option WaveRegs) → Contains ks i
      → seen i (row_y q) w (map (opening_band nodes c count) ks ++ bs) ≡ seen i (row_y q) (shown_of c i) bs
  opening_seen [] bs w there = absurd (omega (arith, there.1))
  opening_seen (k ∷ ks) bs w there = at (λ more. opening_seen ks bs w more) (eqb_tells k i) there
    where
      at : (Contains ks i → seen i (row_y q) w (map (opening_band nodes c count) ks ++ bs)
          ≡ seen i (row_y q) (shown_of c i) bs)
          → ((nat_eq k i ≡ true) × (k ≡ i)) ⊎ ((nat_eq k i ≡ false) × (k ≢ i)) → Contains (k ∷ ks) i
          → seen i (row_y q) w (map (opening_band nodes c count) (k ∷ ks) ++ bs) ≡ seen i (row_y q) (shown_of c i) bs
      at rest (inl t) there =
          ap (λ v. seen i (row_y q) v (map (opening_band nodes c count) ks ++ bs))
          (own_band i (row_y q) (opening_band nodes c count k) w t.0 (reaches count 0 q (omega arith) within)
          ∙ ap (shown_of c) t.1)
          ∙ opening_kept ks bs
      at rest (inr t) (zero, short, here) = absurd (t.1 here)
      at rest (inr t) (suc n, short, here) =
          ap (λ v. seen i (row_y q) v (map (opening_band nodes c count) ks ++ bs))
          (other_node i (row_y q) (opening_band nodes c count k) w t.0)
          ∙ rest (n, omega (arith, short), here)

-- ---- the entries

module _ (count i : ℕ) where
  -- a band that an entry begins below the row leaves what is seen
  begun_below : (lane : Option ℕ) (at p q : ℕ) (shown w : Option WaveRegs) (bs : List Band) → q < p
      → seen i (row_y q) w (begun_band lane count p at shown ++ bs) ≡ seen i (row_y q) w bs
  begun_below (Some l) at p q shown w bs below =
      ap (λ v. seen i (row_y q) v bs) (lower_band i (row_y q) (band l count p at shown) w (not_yet p q below))
  begun_below None at p q shown w bs below = refl

  -- so does one that is begun at another node
  begun_elsewhere : (lane : Option ℕ) (at p y : ℕ) (shown w : Option WaveRegs) (bs : List Band) → nat_eq at i ≡ false
      → seen i y w (begun_band lane count p at shown ++ bs) ≡ seen i y w bs
  begun_elsewhere (Some l) at p y shown w bs other =
      ap (λ v. seen i y v bs) (other_node i y (band l count p at shown) w other)
  begun_elsewhere None at p y shown w bs other = refl

module _ {L : Type 0} (app : App L) (from_text : List ℕ → Option L) (lane : ℕ → Option ℕ) (count i : ℕ) where
  -- the bands of later entries aren't in the row
  later_unseen : (es : List Entry) (c : Configuration L) (p q : ℕ) (w : Option WaveRegs) → q < p
      → seen i (row_y q) w (bands_from app from_text lane count c p es) ≡ w
  unfolding bands_from
  later_unseen [] c p q w below = refl
  later_unseen (e ∷ es) c p q w below =
      elim (entered app from_text c e) as (λ o. seen i (row_y q) w
      (option_map_or (λ after. begun_band (lane (entry_node e)) count p (entry_node e) (shown_of after (entry_node e))
      ++ bands_from app from_text lane count after (p + 1) es) o []) ≡ w) [
        | None ↦ refl
        | Some after ↦
            begun_below count i (lane (entry_node e)) (entry_node e) p q (shown_of after (entry_node e)) w
            (bands_from app from_text lane count after (p + 1) es) below
            ∙ later_unseen es after (p + 1) q w (omega arith)
      ]

  -- networks stay networks
  abbrev StayNetworks : Type 0
  StayNetworks = (c left : Configuration L) (es : List Entry) → IsGraph c.graph → IsShaped c
      → replayed app from_text c es ≡ Some left → IsGraph left.graph × IsShaped left

  module _ (stay : StayNetworks) (own : ℕ) (has_lane : lane i ≡ Some own) where
    network_after : (c after : Configuration L) (e : Entry) → IsGraph c.graph → IsShaped c
        → entered app from_text c e ≡ Some after
        → IsGraph after.graph × IsShaped after
    unfolding replayed
    network_after c after e graph shaped is =
        stay c after (e ∷ []) graph shaped (ap (λ o. option_and_then (λ left. Some left) o) is)

    -- what is seen of the node after one more entry
    one_more : (c after : Configuration L) (at p q : ℕ) (bs : List Band) → KeepsOthers c at after
        → Contains c.graph.ids i → p ≤ q → q ≤ count
        → seen i (row_y q) (shown_of c i) (begun_band (lane at) count p at (shown_of after at) ++ bs)
        ≡ seen i (row_y q) (shown_of after i) bs
    one_more c after at p q bs keeps node above within = by (eqb_tells at i)
      where
        by : ((nat_eq at i ≡ true) × (at ≡ i)) ⊎ ((nat_eq at i ≡ false) × (at ≢ i))
            → seen i (row_y q) (shown_of c i) (begun_band (lane at) count p at (shown_of after at) ++ bs)
            ≡ seen i (row_y q) (shown_of after i) bs
        by (inl t) =
            ap (λ o. seen i (row_y q) (shown_of c i) (begun_band o count p at (shown_of after at) ++ bs))
            (ap lane t.1 ∙ has_lane)
            ∙ ap (λ v. seen i (row_y q) v bs)
            (own_band i (row_y q) (band own count p at (shown_of after at)) (shown_of c i) t.0
            (reaches count p q above within) ∙ ap (shown_of after) t.1)
        by (inr t) =
            begun_elsewhere count i (lane at) at p (row_y q) (shown_of after at) (shown_of c i) bs t.0
            ∙ ap (λ v. seen i (row_y q) v bs) (sym (shown_kept c at after keeps i node (λ same. t.1 (sym same))))

    entries_seen : (es : List Entry) (c here : Configuration L) (p k : ℕ) → IsGraph c.graph
        → IsShaped c → Contains c.graph.ids i → p + k ≤ count → replayed app from_text c (take k es) ≡ Some here
        → seen i (row_y (p + k)) (shown_of c i) (bands_from app from_text lane count c (p + 1) es) ≡ shown_of here i
    unfolding bands_from replayed
    entries_seen [] c here p zero graph shaped node within is =
        ap (λ (o : Configuration L). shown_of o i) (let same : c ≡ here = cc in same)
    entries_seen [] c here p (suc k) graph shaped node within is =
        ap (λ (o : Configuration L). shown_of o i) (let same : c ≡ here = cc in same)
    entries_seen (e ∷ es) c here p zero graph shaped node within is =
        later_unseen (e ∷ es) c (p + 1) (p + 0) (shown_of c i) (omega arith)
        ∙ ap (λ (o : Configuration L). shown_of o i) (let same : c ≡ here = cc in same)
    entries_seen (e ∷ es) c here p (suc k) graph shaped node within is =
        by_entry
        (λ after graph shaped there rest. entries_seen es after here (p + 1) k graph shaped there
        (omega (arith, within)) rest) (entered app from_text c e) refl is
      where
        by_entry : ((after : Configuration L) → IsGraph after.graph → IsShaped after
            → Contains after.graph.ids i → replayed app from_text after (take k es) ≡ Some here
            → seen i (row_y ((p + 1) + k)) (shown_of after i)
            (bands_from app from_text lane count after (p + 1 + 1) es) ≡ shown_of here i)
            → (o : Option (Configuration L)) → entered app from_text c e ≡ o
            → option_and_then (λ after. replayed app from_text after (take k es)) o ≡ Some here
            → seen i (row_y (p + suc k)) (shown_of c i)
            (option_map_or (λ after. begun_band (lane (entry_node e)) count (p + 1) (entry_node e)
            (shown_of after (entry_node e))
            ++ bands_from app from_text lane count after (p + 1 + 1) es) o []) ≡ shown_of here i
        by_entry later None none is = absurd (cc)
        by_entry later (Some after) some is =
            let keeps = entry_keeps app from_text c after e shaped some in
            let network = network_after c after e graph shaped some in
            let there : Contains after.graph.ids i = subst (λ ids. Contains ids i) (sym keeps.ids) node in
            let row : p + suc k ≡ (p + 1) + k = omega arith in
            one_more c after (entry_node e) (p + 1) (p + suc k)
            (bands_from app from_text lane count after (p + 1 + 1) es) keeps node (omega arith) within
            ∙ ap (λ n. seen i (row_y n) (shown_of after i) (bands_from app from_text lane count after (p + 1 + 1) es))
            row
            ∙ later after network.0 network.1 there is

-- what is seen of a node in the row of a position, whatever was seen there before the bands were painted
pub registers_seen : {L : Type 0} (app : App L) (from_text : List ℕ → Option L)
    → ((c left : Configuration L) (es : List Entry) → IsGraph c.graph → IsShaped c
    → replayed app from_text c es ≡ Some left → IsGraph left.graph × IsShaped left)
    → (c here : Configuration L) (nodes : List ℕ) (es : List Entry) (place i : ℕ) (before : Option WaveRegs)
    → IsGraph c.graph → IsShaped c → Contains nodes i → Contains c.graph.ids i → place ≤ length es
    → replayed app from_text c (take place es) ≡ Some here
    → seen i (row_y place) before (bands_of app from_text nodes c es) ≡ shown_of here i
registers_seen app from_text stay c here nodes es place i before graph shaped drawn node within is =
    let zero_and : 0 + place ≡ place = omega arith in
    let lane = own_lane nodes c in
    let has_lane = ap (λ b. cond b (Some (lane_of nodes c i)) None) (has-Contains nodes i drawn) in
    opening_seen nodes c (length es) place i within nodes
    (bands_from app from_text lane (length es) c 1 es) before drawn
    ∙ ap (λ n. seen i (row_y n) (shown_of c i) (bands_from app from_text lane (length es) c 1 es)) (sym zero_and)
    ∙ entries_seen app from_text lane (length es) i stay (lane_of nodes c i) has_lane es c here 0 place graph shaped
    node (omega (arith, within)) is
