-- Seats that are compared one after the other, and as many seats as nodes.
use Rattle.std.proofs.Common.{◌≡◌, ◌≢◌, ℕ, suc, ◌+◌, ◌<◌, All, List, [], ◌∷◌, ◌++◌, length, take, drop, get_or, add-one}
use Rattle.std.proofs.Common.{subst, sym, ap, ◌∙◌, arith}
use Rattle.std.proofs.Math.Seq.{split_at, take-suc}
use Rattle.std.proofs.lemmas.List.Elements.{All-append}
use Rattle.history.specs.declared.entry.Receipt.{Receipt}
use Rattle.node_threads.specs.Closed.{IsFirstDiffering}
use Rattle.node_threads.specs.Seats.{SeatView, of_node}

all_one : {X : Type 0} (P : X → Type 0) (x : X) → P x → All P (x ∷ [])
all_one P x is k d short = let at : k ≡ 0 = omega (arith, short) in subst (λ n. P (get_or (x ∷ []) n d)) (sym at) is

-- one element more
pub all_next : {X : Type 0} (P : X → Type 0) (xs : List X) (i : ℕ) (x : X) → i < length xs → x ≡ get_or xs i x
    → P x → All P (take i xs) → All P (take (i + 1) xs)
all_next P xs i x short at is all =
    let split : take (i + 1) xs ≡ take i xs ++ x ∷ [] =
    ap (λ n. take n xs) (add-one i) ∙ take-suc xs i x short ∙ ap (λ y. take i xs ++ y ∷ []) (sym at) in
    subst (All P) (sym split) (All-append P (take i xs) (x ∷ []) all (all_one P x is))

-- the first that differs
pub differs_first : (told : List Receipt) (seats : List SeatView) (i : ℕ) (s : SeatView) (node : ℕ) → i < length seats
    → s ≡ get_or seats i s → s.receipts ≢ of_node s.node told → node ≡ s.node
    → All (λ s. s.receipts ≡ of_node s.node told) (take i seats) → IsFirstDiffering told seats node
differs_first told seats i s node short at differs of same = record {
  before = take i seats;
  seat = s;
  rest = drop (suc i) seats;
  split = split_at seats i s short ∙ ap (λ t. take i seats ++ t ∷ drop (suc i) seats) (sym at);
  same = same;
  differs = differs;
  node = of;
}
