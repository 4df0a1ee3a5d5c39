-- The texts of lists whose items have texts of their own: a list's text determines the list, and is read
-- from its prefix.
use Rattle.std.proofs.Common.{◌≡◌, ◌≢◌, ℕ, ◌<◌, List, [], ◌∷◌, ◌++◌, All, map, length, refl, sym, ap, ap₂, ◌∙◌, subst}
use Rattle.std.proofs.Common.{arith, append_assoc}
use Rattle.std.specs.List.{AllByRecursion, join_with_byte}
use Rattle.std.proofs.lemmas.List.Elements.{recursion_from_All}
use Rattle.action_tables.specs.Cuts.{HasNo}
use Rattle.action_tables.specs.LawsOfCuts.{HasNo-append, SameCut, has_byte, same_cut}
use Rattle.action_tables.specs.Lists.{list_text}
use Rattle.app_interface.specs.Listing.{NoNext, ReadsOn}
use Rattle.app_interface.proofs.ListEnds.{item_at_seam}

-- the text of an item determines the item, and has no byte below the digits, as commas, dashes and slashes are
pub record Spells {X : Type 0} (IsItem : X → Type 0) (text : X → List ℕ) : Type 0 where
  pub high : (byte : ℕ) (x : X) → byte < 48 → IsItem x → HasNo byte (text x)
  pub one : (x y : X) → IsItem x → IsItem y → text x ≡ text y → x ≡ y

-- lists of items whose prefixes are such lists
pub record HasPrefixes {X : Type 0} (IsItem : X → Type 0) (Are : List X → Type 0) : Type 0 where
  pub each : (xs : List X) → Are xs → All IsItem xs
  pub prefix : (xs ys : List X) → Are (xs ++ ys) → Are xs

-- the items' texts, a comma after each
abbrev pub with_commas : {X : Type 0} → (X → List ℕ) → List X → List ℕ
with_commas text [] = []
with_commas text (x ∷ xs) = text x ++ 44 ∷ with_commas text xs

-- ---- what has been read

module _ {X : Type 0} (text : X → List ℕ) where
  with_commas-push : (xs : List X) (x : X)
      → with_commas text (xs ++ x ∷ []) ≡ with_commas text xs ++ (text x ++ 44 ∷ [])
  with_commas-push [] x = refl
  with_commas-push (y ∷ xs) x =
      ap (λ l. text y ++ 44 ∷ l) (with_commas-push xs x)
      ∙ sym (append_assoc (text y) (44 ∷ with_commas text xs) (text x ++ 44 ∷ []))

  list_text-push : (xs : List X) (x : X) → list_text text (xs ++ x ∷ []) ≡ with_commas text xs ++ text x
  list_text-push [] x = refl
  list_text-push (y ∷ []) x = sym (append_assoc (text y) (44 ∷ []) (text x))
  list_text-push (y ∷ z ∷ xs) x =
      ap (λ l. text y ++ 44 ∷ l) (list_text-push (z ∷ xs) x)
      ∙ sym (append_assoc (text y) (44 ∷ with_commas text (z ∷ xs)) (text x))

  module _ {Are : List X → Type 0} (whole : List ℕ) (xs : List X) (piece : List ℕ) (new : List X)
      (on : ReadsOn Are text xs piece new) where
    -- one item and its comma more
    pub read_on : (more : List ℕ) → whole ≡ with_commas text xs ++ (piece ++ 44 ∷ more)
        → whole ≡ with_commas text new ++ more
    read_on more e =
        e
        ∙ ap (λ l. with_commas text xs ++ (l ++ 44 ∷ more)) on.spelled
        ∙ ap (λ l. with_commas text xs ++ l) (sym (append_assoc (text on.item) (44 ∷ []) more))
        ∙ sym (append_assoc (with_commas text xs) (text on.item ++ 44 ∷ []) more)
        ∙ ap (λ l. l ++ more) (sym (ap (with_commas text) on.pushed ∙ with_commas-push xs on.item))

    -- the last item
    pub read_last : whole ≡ with_commas text xs ++ piece → list_text text new ≡ whole
    read_last e =
        ap (list_text text) on.pushed ∙ list_text-push xs on.item ∙ ap (λ l. with_commas text xs ++ l) (sym on.spelled)
        ∙ sym e

-- ---- one list a text

module _ {X : Type 0} {IsItem : X → Type 0} {text : X → List ℕ} (spells : Spells IsItem text) where
  -- texts joined by commas
  abbrev joined : List X → List ℕ
  joined xs = join_with_byte 44 (map text xs)

  no_comma : (x : X) → IsItem x → HasNo 44 (text x)
  no_comma x is = spells.high 44 x (omega arith) is

  HasNo-joined : (byte : ℕ) (xs : List X) → byte < 48 → 44 ≢ byte → AllByRecursion IsItem xs → HasNo byte (joined xs)
  HasNo-joined byte [] low other all = tt
  HasNo-joined byte (x ∷ []) low other all = spells.high byte x low all.0
  HasNo-joined byte (x ∷ y ∷ xs) low other all =
      HasNo-append byte (text x) (44 ∷ joined (y ∷ xs)) (spells.high byte x low all.0)
      (other, HasNo-joined byte (y ∷ xs) low other all.1)

  -- a byte that is none of an item's, no comma and no dash stands in no list's text
  pub HasNo-list : (byte : ℕ) (xs : List X) → byte < 48 → 44 ≢ byte → 45 ≢ byte → All IsItem xs
      → HasNo byte (list_text text xs)
  HasNo-list byte [] low comma dash all = (dash, tt)
  HasNo-list byte (x ∷ xs) low comma dash all =
      HasNo-joined byte (x ∷ xs) low comma (recursion_from_All IsItem (x ∷ xs) all)

  same_joined : (xs ys : List X) → AllByRecursion IsItem xs → AllByRecursion IsItem ys → 0 < length xs → 0 < length ys
      → joined xs ≡ joined ys → xs ≡ ys
  same_joined [] ys all all' some some' e = absurd (omega (arith, some))
  same_joined (a ∷ xs) [] all all' some some' e = absurd (omega (arith, some'))
  same_joined (a ∷ []) (b ∷ []) all all' some some' e = ap (λ x. x ∷ []) (spells.one a b all.0 all'.0 e)
  same_joined (a ∷ []) (b ∷ c ∷ ys) all all' some some' e =
      absurd (has_byte 44 (text b) (joined (c ∷ ys)) (subst (HasNo 44) e (no_comma a all.0)))
  same_joined (a ∷ c ∷ xs) (b ∷ []) all all' some some' e =
      absurd (has_byte 44 (text a) (joined (c ∷ xs)) (subst (HasNo 44) (sym e) (no_comma b all'.0)))
  same_joined (a ∷ c ∷ xs) (b ∷ d ∷ ys) all all' some some' e =
      let cut : SameCut (text a) (text b) (joined (c ∷ xs)) (joined (d ∷ ys)) =
      same_cut 44 (text a) (text b) (joined (c ∷ xs)) (joined (d ∷ ys)) (no_comma a all.0) (no_comma b all'.0) e in
      ap₂ (λ x xs. x ∷ xs) (spells.one a b all.0 all'.0 cut.prefix)
      (same_joined (c ∷ xs) (d ∷ ys) all.1 all'.1 (omega arith) (omega arith) cut.back)

  -- a dash is the text of no list of some items
  dash_apart : (x : X) (xs : List X) → All IsItem (x ∷ xs) → ◌≡◌ {A = List ℕ} (45 ∷ []) (joined (x ∷ xs)) → ⊥
  dash_apart x xs all e =
      let none : HasNo 45 (45 ∷ []) =
      subst (HasNo 45) (sym e)
      (HasNo-joined 45 (x ∷ xs) (omega arith) (λ e. absurd (omega (arith, e)))
      (recursion_from_All IsItem (x ∷ xs) all)) in
      none.0 refl

  pub same_list : (xs ys : List X) → All IsItem xs → All IsItem ys → list_text text xs ≡ list_text text ys → xs ≡ ys
  same_list [] [] all all' e = refl
  same_list [] (b ∷ ys) all all' e = absurd (dash_apart b ys all' e)
  same_list (a ∷ xs) [] all all' e = absurd (dash_apart a xs all (sym e))
  same_list (a ∷ xs) (b ∷ ys) all all' e =
      same_joined (a ∷ xs) (b ∷ ys) (recursion_from_All IsItem (a ∷ xs) all) (recursion_from_All IsItem (b ∷ ys) all')
      (omega arith) (omega arith) e

  -- ---- what else a text could spell

  -- the list goes on after the items that have been read, and what goes on spells the rest
  record GoesOn (list xs : List X) (rest : List ℕ) : Type 0 where
    head : X
    tail : List X
    whole : list ≡ xs ++ head ∷ tail
    spelled : joined (head ∷ tail) ≡ rest

  goes_on : (xs list : List X) (rest : List ℕ) → AllByRecursion IsItem xs → AllByRecursion IsItem list → 0 < length list
      → joined list ≡ with_commas text xs ++ rest → GoesOn list xs rest
  goes_on xs [] rest all all' some e = absurd (omega (arith, some))
  goes_on [] (y ∷ ys) rest all all' some e = record { head = y; tail = ys; whole = refl; spelled = e }
  goes_on (x ∷ xs) (y ∷ []) rest all all' some e =
      absurd (has_byte 44 (text x) (with_commas text xs ++ rest)
      (subst (HasNo 44) (e ∙ append_assoc (text x) (44 ∷ with_commas text xs) rest) (no_comma y all'.0)))
  goes_on (x ∷ xs) (y ∷ z ∷ ys) rest all all' some e =
      let cut : SameCut (text y) (text x) (joined (z ∷ ys)) (with_commas text xs ++ rest) =
      same_cut 44 (text y) (text x) (joined (z ∷ ys)) (with_commas text xs ++ rest) (no_comma y all'.0)
      (no_comma x all.0)
      (e ∙ append_assoc (text x) (44 ∷ with_commas text xs) rest) in
      let on = goes_on xs (z ∷ ys) rest all.1 all'.1 (omega arith) cut.back in
      record {
        head = on.head;
        tail = on.tail;
        whole = ap₂ (λ h t. h ∷ t) (spells.one y x all'.0 all.0 cut.prefix) on.whole;
        spelled = on.spelled;
      }

  next_head : (head : X) (tail : List X) (piece more : List ℕ) → IsItem head → HasNo 44 piece
      → joined (head ∷ tail) ≡ piece ++ 44 ∷ more → text head ≡ piece
  next_head head [] piece more is none e = absurd (has_byte 44 piece more (subst (HasNo 44) e (no_comma head is)))
  next_head head (t ∷ ts) piece more is none e =
      (same_cut 44 (text head) piece (joined (t ∷ ts)) more (no_comma head is) none e).prefix

  last_head : (head : X) (tail : List X) (piece : List ℕ) → HasNo 44 piece → joined (head ∷ tail) ≡ piece
      → text head ≡ piece
  last_head head [] piece none e = e
  last_head head (t ∷ ts) piece none e =
      absurd (has_byte 44 (text head) (joined (t ∷ ts)) (subst (HasNo 44) (sym e) none))

  -- no list is spelled where the next piece spells no item that goes on
  module _ {Are : List X → Type 0} (prefixes : HasPrefixes IsItem Are) (whole : List ℕ) (xs : List X) (are : Are xs)
      (no_dash : whole ≢ 45 ∷ []) where
    going : (list : List X) (rest : List ℕ) → whole ≡ with_commas text xs ++ rest → Are list
        → list_text text list ≡ whole → GoesOn list xs rest
    going [] rest e are' is = absurd (no_dash (sym is))
    going (y ∷ ys) rest e are' is =
        goes_on xs (y ∷ ys) rest (recursion_from_All IsItem xs (prefixes.each xs are))
        (recursion_from_All IsItem (y ∷ ys) (prefixes.each (y ∷ ys) are')) (omega arith) (is ∙ e)

    -- the items that were read and the next one are such a list
    with_next : (list : List X) (rest : List ℕ) → Are list → (on : GoesOn list xs rest) → Are (xs ++ on.head ∷ [])
    with_next list rest are' on =
        prefixes.prefix (xs ++ on.head ∷ []) on.tail
        (subst Are (on.whole ∙ sym (append_assoc xs (on.head ∷ []) on.tail)) are')

    pub bad_next : (piece more : List ℕ) → whole ≡ with_commas text xs ++ (piece ++ 44 ∷ more) → HasNo 44 piece
        → NoNext Are text xs piece →
        (list : List X) → Are list → list_text text list ≢ whole
    bad_next piece more e none refused list are' is =
        let on = going list (piece ++ 44 ∷ more) e are' is in
        let all = with_next list (piece ++ 44 ∷ more) are' on in
        refused on.head
        (sym (next_head on.head on.tail piece more (item_at_seam IsItem xs on.head [] (prefixes.each _ all)) none
        on.spelled)) all

    pub bad_last : (piece : List ℕ) → whole ≡ with_commas text xs ++ piece → HasNo 44 piece → NoNext Are text xs piece
        → (list : List X) → Are list → list_text text list ≢ whole
    bad_last piece e none refused list are' is =
        let on = going list piece e are' is in
        refused on.head (sym (last_head on.head on.tail piece none on.spelled)) (with_next list piece are' on)
