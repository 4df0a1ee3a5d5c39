-- How long the text of a description is.
use Rattle.std.proofs.Common.{◌≡◌, ℕ, ◌+◌, ◌*◌, ◌≤◌, List, [], ◌∷◌, ◌++◌, length, All, codes, decimal}
use Rattle.std.proofs.Common.{arith, length-append}
use Rattle.std.specs.List.{flat_map}
use Rattle.std.proofs.Math.Nat.{mul-suc}
use Rattle.std.proofs.lemmas.Fmt.{length-decimal-le}
use Rattle.std.proofs.lemmas.List.Elements.{All-cons, All-head, All-nil, All-tail, All-weaker}
use Rattle.topology.specs.TopologyText.{Description}
use Rattle.topology.specs.declared.text.AppName.{AppName}
use Rattle.topology.specs.declared.text.AppName.TheVariants.{Idle, Token, Mutex, Routes}
use Rattle.topology.specs.TopologyTable.{app_word, array_text, description_text, line_text, link_text}
use Rattle.topology.specs.TopologyTable.{IsSmall, IsSmallLink}

module _ {X : Type 0} (text_of : X → List ℕ) (k : ℕ) where
  rest_length : (xs : List X) → All (λ x. length (text_of x) ≤ k) xs
      → length (flat_map (λ x. codes ", " ++ text_of x) xs) ≤ (k + 2) * length xs
  rest_length [] short = omega arith
  rest_length (x ∷ xs) short =
      let here : length (text_of x) ≤ k = All-head (λ y. length (text_of y) ≤ k) x xs short in
      let more = rest_length xs (All-tail (λ y. length (text_of y) ≤ k) x xs short) in
      let whole = length-append (codes ", " ++ text_of x) (flat_map (λ y. codes ", " ++ text_of y) xs) in
      omega (arith, mul-suc (k + 2) (length xs), here, more, whole)

  -- an array whose elements have k bytes each at most
  array_text-length : (xs : List X) → All (λ x. length (text_of x) ≤ k) xs
      → length (array_text text_of xs) ≤ (k + 2) * length xs + 2
  array_text-length [] short = omega arith
  array_text-length (x ∷ xs) short =
      let here : length (text_of x) ≤ k = All-head (λ y. length (text_of y) ≤ k) x xs short in
      let more = rest_length xs (All-tail (λ y. length (text_of y) ≤ k) x xs short) in
      let others = flat_map (λ y. codes ", " ++ text_of y) xs in
      omega (
        arith,
        mul-suc (k + 2) (length xs),
        here,
        more,
        length-append (text_of x) others,
        length-append (text_of x ++ others) (codes "]"),
      )

number-length : (n : ℕ) → IsSmall n → length (decimal n) ≤ 10
number-length n small = length-decimal-le 10 n (omega arith) (omega arith) (omega arith)

link_text-length : (l : ℕ × ℕ) → IsSmallLink l → length (link_text l) ≤ 26
link_text-length l small =
    let short : ℕ → Type 0 = λ n. length (decimal n) ≤ 10 in
    array_text-length decimal 10 (l.0 ∷ l.1 ∷ [])
    (All-cons short l.0 (l.1 ∷ []) (number-length l.0 small.0)
    (All-cons short l.1 [] (number-length l.1 small.1) (All-nil short)))

app_word-length : (app : AppName) → length (app_word app) ≤ 6
app_word-length Idle = omega arith
app_word-length Token = omega arith
app_word-length Mutex = omega arith
app_word-length Routes = omega arith

line_text-length : (key value : List ℕ) → length (line_text key value) ≡ length key + length value + 4
line_text-length key value =
    omega (arith, length-append key (codes " = " ++ (value ++ codes "\n")), length-append value (codes "\n"))

-- a network within the limits has a text within the limit
pub description_text-length : (d : Description) → All IsSmall d.nodes
    → All IsSmallLink d.links → length d.nodes ≤ 1024 → length d.links ≤ 8192
    → length (description_text d) ≤ 1048576
unfolding description_text
description_text-length d nodes_small links_small nodes_few links_few =
    let app = codes "\"" ++ (app_word d.app ++ codes "\"") in
    let nodes =
    array_text-length decimal 10 d.nodes
    (All-weaker IsSmall (λ n. length (decimal n) ≤ 10) number-length d.nodes nodes_small) in
    let links =
    array_text-length link_text 26 d.links
    (All-weaker IsSmallLink (λ l. length (link_text l) ≤ 26) link_text-length d.links
    links_small) in
    let links_line = line_text (codes "links") (array_text link_text d.links) in
    let nodes_line = line_text (codes "nodes") (array_text decimal d.nodes) in
    omega (
      arith,
      nodes,
      links,
      app_word-length d.app,
      length-append (app_word d.app) (codes "\""),
      line_text-length (codes "app") app,
      line_text-length (codes "links") (array_text link_text d.links),
      line_text-length (codes "nodes") (array_text decimal d.nodes),
      length-append links_line nodes_line,
      length-append (line_text (codes "app") app) (links_line ++ nodes_line),
    )
