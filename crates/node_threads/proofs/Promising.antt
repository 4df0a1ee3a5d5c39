-- What threads that were started give back.
use Rattle.std.proofs.Common.{◌≡◌, ◌∙◌, ◌+◌, ◌++◌, ◌∷◌, ◌≤◌, ℕ, All, List, [], append-nil, append_assoc, ap, arith, length}
use Rattle.std.proofs.Common.{map, refl, subst, sym}
use Rattle.std.proofs.lemmas.List.{length-append, length-map, map-append, nil_from_length}
use Rattle.std.proofs.lemmas.List.Elements.{All-head, All-map, All-push, All-same, All-tail}
use Rattle.std.specs.declared.thread.PromisedHandle.{PromisedHandle}
use Rattle.node_threads.specs.Requests.{request_count, requests_at}
use Rattle.node_threads.specs.Seats.{SeatView, empty_seat, nodes_of}
use Rattle.node_threads.specs.Threads.{promised}
use Rattle.node_threads.specs.declared.tasks.Task.{Task}
use Rattle.node_threads.specs.declared.threads.SeatOf.{SeatOf}

-- the threads so far give back the first of these seats, and the rest is left, as many
pub record AreStarted {T : Type 0} (threads : List (PromisedHandle T SeatOf)) (rest : List SeatView) (left : ℕ)
    (seats : List SeatView) : Type 0 where
  pub whole : promised threads ++ nodes_of rest ≡ nodes_of seats
  pub many : length threads + left ≡ length seats

module _ {T : Type 0} (threads : List (PromisedHandle T SeatOf)) (seats : List SeatView) where
  -- one thread more
  pub started_next : (longer : List (PromisedHandle T SeatOf)) (thread : PromisedHandle T SeatOf) (s : SeatView)
      (before rest : List SeatView) (left fewer : ℕ) → before ≡ s ∷ rest → fewer + 1 ≡ left
      → longer ≡ threads ++ thread ∷ [] → thread.promise.node ≡ s.node → AreStarted threads before left seats
      → AreStarted longer rest fewer seats
  started_next longer thread s before rest left fewer step less put own so_far =
      let whole : promised threads ++ nodes_of (s ∷ rest) ≡ nodes_of seats =
      subst (λ ss. promised threads ++ nodes_of ss ≡ nodes_of seats) step so_far.whole in
      record {
        whole = ap (λ ts. promised ts ++ nodes_of rest) put
            ∙ (ap (λ ns. ns ++ nodes_of rest) (map-append (λ t. t.promise.node) threads (thread ∷ []))
            ∙ (append_assoc (promised threads) (thread.promise.node ∷ []) (nodes_of rest)
            ∙ (ap (λ n. promised threads ++ n ∷ nodes_of rest) own ∙ whole)));
        many = omega (arith, ap length put, length-append threads (thread ∷ []), less, so_far.many);
      }

  -- with none left, they give back all
  pub started_all : (rest : List SeatView) (left : ℕ) → left ≡ 0 → AreStarted threads rest left seats
      → promised threads ≡ nodes_of seats
  started_all rest left none so_far =
      let empty : length rest ≡ 0 = omega (
        arith,
        none,
        so_far.many,
        ap length so_far.whole,
        length-append (promised threads) (nodes_of rest),
        length-map threads (λ (t : PromisedHandle T SeatOf). t.promise.node),
        length-map rest (λ (s : SeatView). s.node),
        length-map seats (λ (s : SeatView). s.node),
      ) in
      sym (append-nil (promised threads))
      ∙ (ap (λ ss. promised threads ++ nodes_of ss) (sym (nil_from_length rest empty)) ∙ so_far.whole)

-- ---- what they ask for

-- the seat was told nothing yet
abbrev pub IsFresh : SeatView → Type 0
IsFresh s = s.receipts ≡ []

-- its node asked for no more resets than the task lets it
abbrev pub IsAsked : Task → SeatView → Type 0
IsAsked task s = request_count s.receipts ≤ requests_at task s.node

-- the thread has the task
abbrev pub HasTask : {T : Type 0} → Task → PromisedHandle T SeatOf → Type 0
HasTask task thread = thread.promise.task ≡ task

-- the seats of a sharing were told nothing yet
pub all_fresh : (ids : List ℕ) (seats : List SeatView) → seats ≡ map empty_seat ids → All IsFresh seats
all_fresh ids seats same = All-same IsFresh seats (map empty_seat ids) same (All-map IsFresh empty_seat ids (λ k d low. refl))

module _ {T : Type 0} (task : Task) where
  -- the threads so far have the task, and the seats that are left were told nothing yet
  pub record AreTasked (threads : List (PromisedHandle T SeatOf)) (rest : List SeatView) : Type 0 where
    pub tasks : All (HasTask task) threads
    pub fresh : All IsFresh rest

  pub tasked_next : (threads longer : List (PromisedHandle T SeatOf)) (thread : PromisedHandle T SeatOf) (s : SeatView)
      (before rest : List SeatView) → before ≡ s ∷ rest → longer ≡ threads ++ thread ∷ [] → HasTask task thread
      → AreTasked threads before → AreTasked longer rest
  tasked_next threads longer thread s before rest step put has so_far = record {
    tasks = All-same (HasTask task) longer (threads ++ thread ∷ []) put (All-push (HasTask task) threads thread so_far.tasks has);
    fresh = All-tail IsFresh s rest (subst (All IsFresh) step so_far.fresh);
  }

  -- a seat whose thread couldn't be started
  pub tasked_without : (threads : List (PromisedHandle T SeatOf)) (s : SeatView) (before rest : List SeatView)
      → before ≡ s ∷ rest → AreTasked threads before → AreTasked threads rest
  tasked_without threads s before rest step so_far =
      record { tasks = so_far.tasks; fresh = All-tail IsFresh s rest (subst (All IsFresh) step so_far.fresh) }

  pub next_fresh : (threads : List (PromisedHandle T SeatOf)) (s : SeatView) (before rest : List SeatView)
      → before ≡ s ∷ rest → AreTasked threads before → IsFresh s
  next_fresh threads s before rest step so_far = All-head IsFresh s rest (subst (All IsFresh) step so_far.fresh)

  -- the seats so far asked for no more than the task lets them, and the threads that are left have the task
  pub record AreJoined (seats : List SeatView) (rest : List (PromisedHandle T SeatOf)) : Type 0 where
    pub asked : All (IsAsked task) seats
    pub tasks : All (HasTask task) rest

  -- one seat more
  pub joined_whole : (seats longer : List SeatView) (s : SeatView) (thread : PromisedHandle T SeatOf)
      (before rest threads : List (PromisedHandle T SeatOf)) → before ≡ thread ∷ rest → longer ≡ seats ++ s ∷ []
      → s.node ≡ thread.promise.node → nodes_of seats ++ promised before ≡ promised threads
      → nodes_of longer ++ promised rest ≡ promised threads
  joined_whole seats longer s thread before rest threads step put own whole =
      ap (λ ss. nodes_of ss ++ promised rest) put
      ∙ (ap (λ ns. ns ++ promised rest) (map-append (λ (s : SeatView). s.node) seats (s ∷ []))
      ∙ (append_assoc (nodes_of seats) (s.node ∷ []) (promised rest)
      ∙ (ap (λ n. nodes_of seats ++ n ∷ promised rest) own
      ∙ subst (λ ts. nodes_of seats ++ promised ts ≡ promised threads) step whole)))

  pub joined_next : (seats longer : List SeatView) (s : SeatView) (thread : PromisedHandle T SeatOf)
      (before rest : List (PromisedHandle T SeatOf)) → before ≡ thread ∷ rest → longer ≡ seats ++ s ∷ []
      → s.node ≡ thread.promise.node
      → request_count s.receipts ≤ requests_at thread.promise.task thread.promise.node → AreJoined seats before
      → AreJoined longer rest
  joined_next seats longer s thread before rest step put own few so_far =
      let left = subst (All (HasTask task)) step so_far.tasks in
      let asked : IsAsked task s =
      subst (λ i. request_count s.receipts ≤ requests_at task i) (sym own)
      (subst (λ t. request_count s.receipts ≤ requests_at t thread.promise.node) (All-head (HasTask task) thread rest left) few) in
      record {
        asked = All-same (IsAsked task) longer (seats ++ s ∷ []) put (All-push (IsAsked task) seats s so_far.asked asked);
        tasks = All-tail (HasTask task) thread rest left;
      }
