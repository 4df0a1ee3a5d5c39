-- How the lines of a plain text are read, a value at a time.
use Rattle.std.proofs.Common.{◌≡◌, ℕ, ◌-◌, ◌<◌, ◌≤◌, Bool, true, false, List, [], ◌∷◌, ◌++◌, Option, Some, None}
use Rattle.std.proofs.Common.{Result, Ok, Err, codes, bytes_eq, if◌then◌else◌, refl, sym, ap, ap₂, subst, ◌∙◌, arith}
use Rattle.std.proofs.Common.{drop, get_or, length, take}
use Rattle.std.proofs.lemmas.List.{append-nil, append_assoc, take_all}
use Rattle.std.proofs.lemmas.Slice.Eq.{bytes_eq-Decides}
use Rattle.std.specs.List.{flat_map, join_by}
use Rattle.std.specs.declared.alloc.AllocError.{AllocError}
use Rattle.topology.specs.Reading.{HasMaxModulus, IfRead, IsSmallReading, reading_view}
use Rattle.topology.specs.TopologyTable.{app_line, app_word, array_text, description_text, line_text, links_line}
use Rattle.topology.specs.TopologyTable.{documented_text, nodes_line}
use Rattle.topology.specs.TopologyText.{Description, app_named, description_of}
use Rattle.topology.specs.declared.text.AppName.{AppName}
use Rattle.topology.specs.declared.text.AppName.TheVariants.{Idle, Token, Mutex, Routes}
use Rattle.topology.specs.declared.text.ReadFault.{ReadFault}
use Rattle.topology.specs.declared.text.Reading as code
use Rattle.topology.proofs.PlainTexts.{printed_text_described}

-- a text that has two bytes begins with its first two
pub begins_with_two : (text : List ℕ) (a b : ℕ) → 2 ≤ length text → get_or text 0 0 ≡ a → get_or text 1 0 ≡ b
    → text ≡ a ∷ b ∷ take (length text - 2) (drop 2 text)
begins_with_two [] a b some first second = absurd (omega (arith, some))
begins_with_two (c ∷ []) a b some first second = absurd (omega (arith, some))
begins_with_two (c ∷ d ∷ cs) a b some first second =
    ap₂ (λ x y. x ∷ y ∷ cs) first second
    ∙ ap (λ l. a ∷ b ∷ l) (sym (take_all (length (c ∷ d ∷ cs) - 2) cs (omega arith)))

module _ {X : Type 0} (text_of : X → List ℕ) where
  -- values with a comma and a space behind each
  abbrev pub each_ended : List X → List ℕ
  each_ended xs = flat_map (λ x. text_of x ++ codes ", ") xs

  ended-last : (xs : List X) (x : X) → each_ended (xs ++ x ∷ []) ≡ each_ended xs ++ (text_of x ++ codes ", ")
  ended-last [] x = append-nil (text_of x ++ codes ", ")
  ended-last (y ∷ xs) x = rw (ended-last xs x) (simp append_assoc)

  begun-last : (xs : List X) (x : X) → flat_map (λ y. codes ", " ++ text_of y) (xs ++ x ∷ [])
      ≡ codes ", " ++ (each_ended xs ++ text_of x)
  begun-last [] x = append-nil (codes ", " ++ text_of x)
  begun-last (y ∷ xs) x = rw (begun-last xs x) (simp append_assoc)

  join-last : (xs : List X) (x : X) → join_by text_of (codes ", ") (xs ++ x ∷ []) ≡ each_ended xs ++ text_of x
  join-last [] x = append-nil (text_of x)
  join-last (y ∷ xs) x = rw (begun-last xs x) (simp append_assoc)

  -- one value more, which a comma and a space follow
  pub one_more : (text rest next : List ℕ) (xs : List X) (x : X) → text ≡ each_ended xs ++ rest
      → rest ≡ text_of x ++ (codes ", " ++ next) → text ≡ each_ended (xs ++ x ∷ []) ++ next
  one_more text rest next xs x is more = is ∙ rw (more, ended-last xs x) (simp append_assoc)

  -- the last value, which the bracket follows
  pub last_one : (text rest next : List ℕ) (xs : List X) (x : X) → text ≡ each_ended xs ++ rest
      → rest ≡ text_of x ++ (codes "]\n" ++ next)
      → text ≡ join_by text_of (codes ", ") (xs ++ x ∷ []) ++ (codes "]\n" ++ next)
  last_one text rest next xs x is more = is ∙ rw (more, join-last xs x) (simp append_assoc)

  -- the line of an array
  pub array_line : (key text values rest : List ℕ) (xs : List X) → text ≡ (key ++ codes " = [") ++ values
      → values ≡ join_by text_of (codes ", ") xs ++ (codes "]\n" ++ rest)
      → text ≡ line_text key (array_text text_of xs) ++ rest
  array_line key text values rest xs is items = is ∙ rw items (simp append_assoc)

-- the application that a word names
named_if : (b : Bool) (app a : AppName) (word : List ℕ) (other : Result AppName ReadFault)
    → (b ≡ true → word ≡ app_word app) → (other ≡ Ok a → word ≡ app_word a)
    → (if b then Ok app else other) ≡ Ok a → word ≡ app_word a
named_if true app a word other here more is =
    let same : app ≡ a = cc in
    subst (λ x. word ≡ app_word x) same (here refl)
named_if false app a word other here more is = more is

pub named_word : (word : List ℕ) (a : AppName) → app_named word ≡ Ok a → word ≡ app_word a
unfolding app_named
named_word word a is =
    named_if (bytes_eq word (codes "idle")) Idle a word _ (bytes_eq-Decides word (codes "idle")).0
    (named_if (bytes_eq word (codes "token")) Token a word _ (bytes_eq-Decides word (codes "token")).0
    (named_if (bytes_eq word (codes "mutex")) Mutex a word _ (bytes_eq-Decides word (codes "mutex")).0
    (named_if (bytes_eq word (codes "routes")) Routes a word _ (bytes_eq-Decides word (codes "routes")).0
    (λ unknown. cc)))) is

-- the line of the application
pub app_read : (text quoted word behind rest : List ℕ) (app : AppName) → text ≡ codes "app = \"" ++ quoted
    → quoted ≡ word ++ 34 ∷ behind → behind ≡ codes "\n" ++ rest → app_named word ≡ Ok app
    → text ≡ app_line app ++ rest
app_read text quoted word behind rest app is cut ends named =
    is ∙ rw (cut, ends, named_word word app named) (simp append_assoc)

-- ---- what was read is what the text says

nothing_left : (rest : List ℕ) → length rest < 1 → rest ≡ []
nothing_left [] none = refl
nothing_left (b ∷ bs) none = absurd (omega (arith, none))

three_lines : (text a b c rest more left : List ℕ) → text ≡ a ++ rest → rest ≡ b ++ more → more ≡ c ++ left
    → length left < 1 → text ≡ a ++ (b ++ c)
three_lines text a b c rest more left first second third none =
    first ∙ ap (λ t. a ++ t) (second ∙ ap (λ t. b ++ t)
    (third ∙ ap (λ t. c ++ t) (nothing_left left none) ∙ append-nil c))

pub documented_whole : (text rest more left : List ℕ) (d : Description) → text ≡ nodes_line d.nodes ++ rest
    → rest ≡ links_line d.links ++ more → more ≡ app_line d.app ++ left → length left < 1 → text ≡ documented_text d
unfolding documented_text
documented_whole text rest more left d =
    three_lines text (nodes_line d.nodes) (links_line d.links) (app_line d.app) rest more left

pub printed_whole : (text rest more left : List ℕ) (d : Description) → text ≡ app_line d.app ++ rest
    → rest ≡ links_line d.links ++ more → more ≡ nodes_line d.nodes ++ left → length left < 1
    → text ≡ description_text d
unfolding description_text
printed_whole text rest more left d =
    three_lines text (app_line d.app) (links_line d.links) (nodes_line d.nodes) rest more left

pub printed_read : (text : List ℕ) → length text ≤ 1048576 → (r : Result (Option code.Reading) AllocError)
    → IfRead r (λ reading. text ≡ description_text (reading_view reading)) → IfRead r IsSmallReading
    → IfRead r HasMaxModulus → IfRead r (λ reading. description_of text ≡ Ok (reading_view reading))
printed_read text short (Err e) is small whole = tt
printed_read text short (Ok None) is small whole = tt
printed_read text short (Ok (Some r)) is small whole =
    printed_text_described text (reading_view r) short is small.0 small.1 whole
