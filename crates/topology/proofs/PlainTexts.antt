-- A text of three plain lines is the TOML document of a description.
use Rattle.std.proofs.Common.{◌≡◌, ℕ, suc, ◌<◌, ◌≤◌, ◌^◌, Bool, true, false, List, [], ◌∷◌, ◌++◌, map, length, All}
use Rattle.std.proofs.Common.{IsAscii, IsUtf8, nat_lt, Some, Ok, codes, decimal, refl, sym, subst, ◌∙◌, arith}
use Rattle.std.proofs.lemmas.Bool.{and_parts, ltb-true}
use Rattle.std.proofs.lemmas.Fmt.{IsAscii-decimal}
use Rattle.std.proofs.lemmas.List.{append-nil, append_assoc}
use Rattle.std.proofs.lemmas.List.Elements.{All-cons, All-head, All-nil, All-tail, All-weaker}
use Rattle.std.proofs.lemmas.Str.{IsUtf8-append, IsUtf8-from_ascii}
use Rattle.std.proofs.lemmas.Str.Ascii.{IsAscii-cons, IsAscii-nil}
use Rattle.std.specs.List.{flat_map, join_by, list_all}
use Rattle.toml.specs.Data.{Data, Items, item, no_items, string}
use Rattle.toml.specs.Parse.{parse_document, skip_bom}
use Rattle.toml.specs.Tables.{Document, Expression, along_dots, along_header, at_key, define, key_value, no_nodes, node}
use Rattle.toml.specs.Tables.{value}
use Rattle.toml.specs.Text.{IsItemsText, IsLineText, IsLinesText, IsValueText, breaks_lines}
use Rattle.toml.specs.View.{items_of}
use Rattle.toml.proofs.ReadLines.{AllPrinted, read_lines, run}
use Rattle.toml.proofs.Turns.{document_some}
use Rattle.toml_writer.specs.Text.{encoding_of, escaped, key_text, needs_escape, quotes_after, string_text}
use Rattle.topology.specs.TopologyTable.{IsSmall, IsSmallLink, app_line, app_word, array_data, array_text}
use Rattle.topology.specs.TopologyTable.{description_members, description_text, line_text, link_data, link_text}
use Rattle.topology.specs.TopologyTable.{links_line, documented_text, nodes_line, number_data}
use Rattle.action_tables.specs.Modulus.{max_modulus}
use Rattle.topology.specs.TopologyText.{Description, description_of}
use Rattle.topology.specs.declared.text.AppName.{AppName}
use Rattle.topology.specs.declared.text.AppName.TheVariants.{Idle, Token, Mutex, Routes}
use Rattle.topology.proofs.Described.{items_dates-map, items_depth-map, text_described}

-- ---- values as the printer writes them

pub no_breaks : (ds : Items) → breaks_lines false ds ≡ false
no_breaks no_items = refl
no_breaks (item d no_items) = refl
no_breaks (item d (item e ds)) = refl

module _ {X : Type 0} (data_of : X → Data) (text_of : X → List ℕ) where
  abbrev IsWritten : X → Type 0
  IsWritten x = IsValueText false (data_of x) (text_of x)

  -- the elements after the first
  rest_written : (xs : List X) → All IsWritten xs → IsItemsText false false false (items_of (map data_of xs))
      (flat_map (λ x. codes ", " ++ text_of x) xs ++ codes "]")
  rest_written [] each = refl
  rest_written (x ∷ xs) each = (
    text_of x,
    flat_map (λ y. codes ", " ++ text_of y) xs ++ codes "]",
    simp append_assoc,
    All-head IsWritten x xs each,
    rest_written xs (All-tail IsWritten x xs each),
  )

  items_written : (xs : List X) → All IsWritten xs → IsItemsText false false true (items_of (map data_of xs))
      (join_by text_of (codes ", ") xs ++ codes "]")
  items_written [] each = refl
  items_written (x ∷ xs) each = (
    text_of x,
    flat_map (λ y. codes ", " ++ text_of y) xs ++ codes "]",
    simp append_assoc,
    All-head IsWritten x xs each,
    rest_written xs (All-tail IsWritten x xs each),
  )

  array_written : (xs : List X) → All IsWritten xs → IsValueText false (array_data data_of xs) (array_text text_of xs)
  array_written xs each =
      let ds = items_of (map data_of xs) in
      let text = join_by text_of (codes ", ") xs ++ codes "]" in
      (text, refl, subst (λ b. IsItemsText false b true ds text) (sym (no_breaks ds)) (items_written xs each))

number_written : (n : ℕ) → IsSmall n → IsValueText false (number_data n) (decimal n)
number_written n small =
    let fits : n < 2 ^ 63 = omega (arith, small) in
    (refl, record { sfits = fits })

numbers_written : (ns : List ℕ) → All IsSmall ns
    → IsValueText false (array_data number_data ns) (array_text decimal ns)
numbers_written ns small =
    array_written number_data decimal ns
    (All-weaker IsSmall (λ n. IsValueText false (number_data n) (decimal n)) number_written ns small)

link_written : (l : ℕ × ℕ) → IsSmallLink l → IsValueText false (link_data l) (link_text l)
link_written l small =
    numbers_written (l.0 ∷ l.1 ∷ [])
    (All-cons IsSmall l.0 (l.1 ∷ []) small.0 (All-cons IsSmall l.1 [] small.1 (All-nil IsSmall)))

links_written : (ls : List (ℕ × ℕ)) → All IsSmallLink ls
    → IsValueText false (array_data link_data ls) (array_text link_text ls)
links_written ls small =
    array_written link_data link_text ls
    (All-weaker IsSmallLink (λ l. IsValueText false (link_data l) (link_text l)) link_written ls small)

pub app_written : (app : AppName) → string_text (app_word app) ≡ codes "\"" ++ (app_word app ++ codes "\"")
unfolding string_text encoding_of escaped needs_escape quotes_after
app_written Idle = refl
app_written Token = refl
app_written Mutex = refl
app_written Routes = refl

-- ---- the three lines

abbrev nodes_pair : Description → Expression
nodes_pair d = (([], codes "nodes"), key_value (array_data number_data d.nodes))

abbrev links_pair : Description → Expression
links_pair d = (([], codes "links"), key_value (array_data link_data d.links))

abbrev app_pair : Description → Expression
app_pair d = (([], codes "app"), key_value (string (app_word d.app)))

nodes_written : (d : Description) (started : Bool) → All IsSmall d.nodes
    → IsLineText false started (nodes_pair d).0 (nodes_pair d).1 (nodes_line d.nodes)
unfolding key_text
nodes_written d started small = (array_text decimal d.nodes, refl, numbers_written d.nodes small)

links_line_written : (d : Description) (started : Bool) → All IsSmallLink d.links
    → IsLineText false started (links_pair d).0 (links_pair d).1 (links_line d.links)
unfolding key_text
links_line_written d started small = (array_text link_text d.links, refl, links_written d.links small)

app_line_written : (d : Description) (started : Bool)
    → IsLineText false started (app_pair d).0 (app_pair d).1 (app_line d.app)
unfolding key_text
app_line_written d started = (codes "\"" ++ (app_word d.app ++ codes "\""), refl, sym (app_written d.app))

nodes_fit : (d : Description) → AllPrinted (nodes_pair d ∷ [])
nodes_fit d = (
  (
    refl,
    omega (arith, items_depth-map number_data 0 (λ n. omega arith) d.nodes),
    items_dates-map number_data (λ n. refl) d.nodes,
  ),
  tt,
)

links_fit : (d : Description) → AllPrinted (links_pair d ∷ [])
links_fit d = (
  (
    refl,
    omega (arith, items_depth-map link_data 1 (λ l. omega arith) d.links),
    items_dates-map link_data (λ l. refl) d.links,
  ),
  tt,
)

app_fits : (d : Description) → AllPrinted (app_pair d ∷ [])
app_fits d = ((refl, omega arith, refl), tt)

-- ---- the document

-- the keys of the root table, in order
abbrev root_of : Description → Document
root_of d = (
  node (codes "app") (value (string (app_word d.app)))
      (node (codes "links") (value (array_data link_data d.links))
      (node (codes "nodes") (value (array_data number_data d.nodes)) no_nodes)),
  [],
)

documented_runs : (d : Description)
    → run (no_nodes, []) (nodes_pair d ∷ links_pair d ∷ app_pair d ∷ []) ≡ Some (root_of d)
unfolding define along_header along_dots at_key
documented_runs d = refl

printed_runs : (d : Description)
    → run (no_nodes, []) (app_pair d ∷ links_pair d ∷ nodes_pair d ∷ []) ≡ Some (root_of d)
unfolding define along_header along_dots at_key
printed_runs d = refl

document_read : (text : List ℕ) (d : Description) (es : List Expression) → IsLinesText false false es text
    → AllPrinted es → skip_bom text ≡ text → run (no_nodes, []) es ≡ Some (root_of d)
    → parse_document text ≡ Some (description_members d)
document_read text d es lines fit whole ran =
    let read = read_lines false false es text text (no_nodes, []) (suc (length text)) lines fit refl (omega arith) in
    document_some text (root_of d) (rw whole (read ∙ ran))

documented_parsed : (d : Description) → All IsSmall d.nodes → All IsSmallLink d.links
    → parse_document (documented_text d) ≡ Some (description_members d)
unfolding documented_text skip_bom
documented_parsed d nodes_small links_small =
    let lines : IsLinesText false false (nodes_pair d ∷ links_pair d ∷ app_pair d ∷ []) (documented_text d) = (
      nodes_line d.nodes,
      links_line d.links ++ app_line d.app,
      refl,
      nodes_written d false nodes_small,
      (
        links_line d.links,
        app_line d.app,
        refl,
        links_line_written d true links_small,
        (app_line d.app, [], sym (append-nil (app_line d.app)), app_line_written d true, refl),
      ),
    ) in
    document_read (documented_text d) d (nodes_pair d ∷ links_pair d ∷ app_pair d ∷ []) lines
    ((nodes_fit d).0, ((links_fit d).0, ((app_fits d).0, tt))) refl (documented_runs d)

printed_parsed : (d : Description) → All IsSmall d.nodes → All IsSmallLink d.links
    → parse_document (description_text d) ≡ Some (description_members d)
unfolding description_text skip_bom
printed_parsed d nodes_small links_small =
    let lines : IsLinesText false false (app_pair d ∷ links_pair d ∷ nodes_pair d ∷ []) (description_text d) = (
      app_line d.app,
      links_line d.links ++ nodes_line d.nodes,
      refl,
      app_line_written d false,
      (
        links_line d.links,
        nodes_line d.nodes,
        refl,
        links_line_written d true links_small,
        (nodes_line d.nodes, [], sym (append-nil (nodes_line d.nodes)), nodes_written d true nodes_small, refl),
      ),
    ) in
    document_read (description_text d) d (app_pair d ∷ links_pair d ∷ nodes_pair d ∷ []) lines
    ((app_fits d).0, ((links_fit d).0, ((nodes_fit d).0, tt))) refl (printed_runs d)

-- ---- the bytes

ascii_bytes : (text : List ℕ) → list_all (λ b. nat_lt b 128) text ≡ true → IsAscii text
ascii_bytes [] small = IsAscii-nil
ascii_bytes (b ∷ bs) small =
    let (first, more) = and_parts (nat_lt b 128) (list_all (λ c. nat_lt c 128) bs) small in
    IsAscii-cons b bs (ltb-true b 128 first) (ascii_bytes bs more)

fixed_utf8 : (text : List ℕ) → list_all (λ b. nat_lt b 128) text ≡ true → IsUtf8 text
fixed_utf8 text small = IsUtf8-from_ascii text (ascii_bytes text small)

module _ {X : Type 0} (text_of : X → List ℕ) where
  rest_utf8 : (xs : List X) → All (λ x. IsUtf8 (text_of x)) xs
      → IsUtf8 (flat_map (λ x. codes ", " ++ text_of x) xs)
  rest_utf8 [] each = fixed_utf8 [] refl
  rest_utf8 (x ∷ xs) each =
      let P : X → Type 0 = λ y. IsUtf8 (text_of y) in
      IsUtf8-append (codes ", " ++ text_of x) (flat_map (λ y. codes ", " ++ text_of y) xs)
      (IsUtf8-append (codes ", ") (text_of x) (fixed_utf8 (codes ", ") refl) (All-head P x xs each))
      (rest_utf8 xs (All-tail P x xs each))

  join_utf8 : (xs : List X) → All (λ x. IsUtf8 (text_of x)) xs → IsUtf8 (join_by text_of (codes ", ") xs)
  join_utf8 [] each = fixed_utf8 [] refl
  join_utf8 (x ∷ xs) each =
      let P : X → Type 0 = λ y. IsUtf8 (text_of y) in
      IsUtf8-append (text_of x) (flat_map (λ y. codes ", " ++ text_of y) xs) (All-head P x xs each)
      (rest_utf8 xs (All-tail P x xs each))

  array_utf8 : (xs : List X) → All (λ x. IsUtf8 (text_of x)) xs → IsUtf8 (array_text text_of xs)
  array_utf8 xs each =
      let joined = join_by text_of (codes ", ") xs in
      IsUtf8-append (codes "[") (joined ++ codes "]") (fixed_utf8 (codes "[") refl)
      (IsUtf8-append joined (codes "]") (join_utf8 xs each) (fixed_utf8 (codes "]") refl))

number_utf8 : (n : ℕ) → IsSmall n → IsUtf8 (decimal n)
number_utf8 n small = IsUtf8-from_ascii (decimal n) (IsAscii-decimal n (omega (arith, small)))

numbers_utf8 : (ns : List ℕ) → All IsSmall ns → IsUtf8 (array_text decimal ns)
numbers_utf8 ns small = array_utf8 decimal ns (All-weaker IsSmall (λ n. IsUtf8 (decimal n)) number_utf8 ns small)

link_utf8 : (l : ℕ × ℕ) → IsSmallLink l → IsUtf8 (link_text l)
link_utf8 l small =
    numbers_utf8 (l.0 ∷ l.1 ∷ [])
    (All-cons IsSmall l.0 (l.1 ∷ []) small.0 (All-cons IsSmall l.1 [] small.1 (All-nil IsSmall)))

line_utf8 : (key text : List ℕ) → IsUtf8 key → IsUtf8 text → IsUtf8 (line_text key text)
line_utf8 key text key_utf8 text_utf8 =
    IsUtf8-append key (codes " = " ++ (text ++ codes "\n")) key_utf8
    (IsUtf8-append (codes " = ") (text ++ codes "\n") (fixed_utf8 (codes " = ") refl)
    (IsUtf8-append text (codes "\n") text_utf8 (fixed_utf8 (codes "\n") refl)))

nodes_utf8 : (ns : List ℕ) → All IsSmall ns → IsUtf8 (nodes_line ns)
nodes_utf8 ns small =
    line_utf8 (codes "nodes") (array_text decimal ns) (fixed_utf8 (codes "nodes") refl) (numbers_utf8 ns small)

links_utf8 : (ls : List (ℕ × ℕ)) → All IsSmallLink ls → IsUtf8 (links_line ls)
links_utf8 ls small =
    line_utf8 (codes "links") (array_text link_text ls) (fixed_utf8 (codes "links") refl)
    (array_utf8 link_text ls (All-weaker IsSmallLink (λ l. IsUtf8 (link_text l)) link_utf8 ls small))

app_utf8 : (app : AppName) → IsUtf8 (app_line app)
app_utf8 Idle = fixed_utf8 (app_line Idle) refl
app_utf8 Token = fixed_utf8 (app_line Token) refl
app_utf8 Mutex = fixed_utf8 (app_line Mutex) refl
app_utf8 Routes = fixed_utf8 (app_line Routes) refl

three_utf8 : (a b c : List ℕ) → IsUtf8 a → IsUtf8 b → IsUtf8 c → IsUtf8 (a ++ (b ++ c))
three_utf8 a b c first second third = IsUtf8-append a (b ++ c) first (IsUtf8-append b c second third)

-- ---- what the text says

pub documented_text_described : (text : List ℕ) (d : Description) → length text ≤ 1048576 → text ≡ documented_text d
    → All IsSmall d.nodes → All IsSmallLink d.links → d.modulus ≡ max_modulus → description_of text ≡ Ok d
unfolding documented_text
documented_text_described text d short is nodes_small links_small whole =
    let utf8 : IsUtf8 (documented_text d) =
    three_utf8 (nodes_line d.nodes) (links_line d.links) (app_line d.app) (nodes_utf8 d.nodes nodes_small)
    (links_utf8 d.links links_small) (app_utf8 d.app) in
    text_described text d short (subst IsUtf8 (sym is) utf8)
    (subst (λ t. parse_document t ≡ Some (description_members d)) (sym is)
    (documented_parsed d nodes_small links_small)) nodes_small links_small whole

pub printed_text_described : (text : List ℕ) (d : Description) → length text ≤ 1048576 → text ≡ description_text d
    → All IsSmall d.nodes → All IsSmallLink d.links → d.modulus ≡ max_modulus → description_of text ≡ Ok d
unfolding description_text
printed_text_described text d short is nodes_small links_small whole =
    let utf8 : IsUtf8 (description_text d) =
    three_utf8 (app_line d.app) (links_line d.links) (nodes_line d.nodes) (app_utf8 d.app)
    (links_utf8 d.links links_small) (nodes_utf8 d.nodes nodes_small) in
    text_described text d short (subst IsUtf8 (sym is) utf8)
    (subst (λ t. parse_document t ≡ Some (description_members d)) (sym is)
    (printed_parsed d nodes_small links_small)) nodes_small links_small whole
