-- What a step of a book leaves: the same graph, one entry more, and a receipt of it.
use Rattle.std.proofs.Common.{◌≡◌, ℕ, ◌+◌, ◌≤◌, Bool, true, false, not, cond, List, [], ◌∷◌, ◌++◌, length, drop, take, ap, arith, ◌∙◌}
use Rattle.std.proofs.Common.{Option, Some, None, Result, Ok, Err, IfOk, IfErr, OnErr, OnOk, MatchResult, refl, subst}
use Rattle.std.proofs.lemmas.List.{drop-append-le, drop_all, take-append-le, take_all}
use Rattle.std.proofs.lemmas.List.Folds.{list_all-append}
use Rattle.std.specs.List.{list_all}
use Rattle.topology.specs.Graph.{is_node}
use Rattle.app_interface.specs.Application.{App}
use Rattle.reset_model.specs.declared.event.Event.{Event}
use Rattle.reset_model.specs.declared.plan.Effect.{Effect}
use Rattle.reset_model.specs.declared.plan.Effect.TheVariants.{Tree, Wave, Local}
use Rattle.reset_model.specs.declared.step.Reply.{Reply}
use Rattle.reset_model.specs.declared.step.StepRefusal.TheVariants.{StrangeNode}
use Rattle.reset_model.specs.Configuration.{Configuration}
use Rattle.reset_model.specs.Planned.{Outcome, Planned, after_effect, outcome_of, planned, written}
use Rattle.reset_model.specs.Steps.{event_node}
use Rattle.reset_model.specs.View.{view_of}
use Rattle.history.specs.declared.entry.Entry.{Entry}
use Rattle.history.specs.declared.entry.Entry.TheVariants.{Step}
use Rattle.history.specs.declared.entry.Receipt.{Receipt}
use Rattle.history.specs.declared.refusal.BookRefusal.{BookRefusal}
use Rattle.history.specs.declared.refusal.BookRefusal.TheVariants.{BookFull}
use Rattle.history.specs.Book.{BookView, IsBook, book_outcome, booked, is_full, with_entry}
use Rattle.node_threads.specs.Locked.{IsContinued, is_step}

-- ---- the graph stays

module _ {L : Type 0} (app : App L) (c : Configuration L) where
  abbrev SameGraph : Outcome L → Type 0
  SameGraph o = MatchResult o (λ done. done.0.graph ≡ c.graph) (λ f. Unit {0})

  effect_graph : (i : ℕ) (does : Effect L) → (after_effect c i does).graph ≡ c.graph
  effect_graph i (Tree regs) = refl
  effect_graph i (Wave regs None) = refl
  effect_graph i (Wave regs (Some local)) = refl
  effect_graph i (Local local) = refl

  written_graph : (i : ℕ) (there : Bool) (does : Planned L)
      → SameGraph (cond (not there) (Err StrangeNode) (written c i does))
  written_graph i false does = tt
  written_graph i true (Ok does) = effect_graph i does.0
  written_graph i true (Err f) = tt

  same_graph : (e : Event) → SameGraph (outcome_of app c e)
  same_graph e = written_graph (event_node e) (is_node c.graph (event_node e))
      (planned app (view_of app c (event_node e)) e)

  pub outcome_graph : (e : Event) (left : Configuration L) (reply : Reply) → outcome_of app c e ≡ Ok (left, reply)
      → left.graph ≡ c.graph
  outcome_graph e left reply is = subst SameGraph is (same_graph e)

-- ---- one entry more

-- the book has the event as one entry more, and this is the receipt
pub record IsEntered {L : Type 0} (app : App L) (b : BookView L) (e : Event) (now : BookView L) (receipt : Receipt) :
    Type 0 where
  pub outcome : outcome_of app b.config e ≡ Ok (now.config, receipt.reply)
  pub entries : now.entries ≡ b.entries ++ Step e ∷ []
  pub opening : now.opening ≡ b.opening
  pub limit : now.limit ≡ b.limit
  pub event : receipt.event ≡ e
  pub position : receipt.position ≡ length b.entries + 1

module _ {L : Type 0} (app : App L) (b : BookView L) (e : Event) where
  abbrev Entered : Result (BookView L × Receipt) BookRefusal → Type 0
  Entered r = MatchResult r (λ done. IsEntered app b e done.0 done.1) (λ f. Unit {0})

  entered_where : (full : Bool) (done : Configuration L × Reply) → outcome_of app b.config e ≡ Ok done
      → Entered (cond full (Err BookFull) (Ok (
        with_entry b (Step e) done.0,
        record { position = length b.entries + 1; event = e; reply = done.1 },
      )))
  entered_where true done is = tt
  entered_where false done is = record {
    outcome = is;
    entries = refl;
    opening = refl;
    limit = refl;
    event = refl;
    position = refl;
  }

  entered_by : (o : Outcome L) → outcome_of app b.config e ≡ o → Entered (book_outcome b e o)
  entered_by (Ok done) is = entered_where (is_full b) done is
  entered_by (Err f) is = tt

  pub booked_entered : (now : BookView L) (receipt : Receipt) → booked app b e ≡ Ok (now, receipt)
      → IsEntered app b e now receipt
  booked_entered now receipt is = subst Entered is (entered_by (outcome_of app b.config e) refl)

  pub booked_graph : (now : BookView L) (receipt : Receipt) → booked app b e ≡ Ok (now, receipt)
      → now.config.graph ≡ b.config.graph
  booked_graph now receipt is =
      outcome_graph app b.config e now.config receipt.reply (booked_entered now receipt is).outcome

-- a step more is no fault
pub steps_more : (mark : ℕ) (es : List Entry) (e : Event) → mark ≤ length es → list_all is_step (drop mark es) ≡ true
    → list_all is_step (drop mark (es ++ Step e ∷ [])) ≡ true
steps_more mark es e within steps =
    rw (drop-append-le mark es (Step e ∷ []) within, list_all-append is_step (drop mark es) (Step e ∷ []), steps) refl

-- and what was done tells more
pub if_ok : {X E : Type 0} (r : Result X E) (P Q : X → Type 0) → ((x : X) → P x → Q x) → IfOk r P → IfOk r Q
if_ok (Ok x) P Q tells is = tells x is
if_ok (Err f) P Q tells is = tt

pub if_err : {X E : Type 0} (r : Result X E) (P Q : E → Type 0) → ((f : E) → P f → Q f) → IfErr r P → IfErr r Q
if_err (Ok x) P Q tells is = tt
if_err (Err f) P Q tells is = tells f is

pub if_ok_on : {X E : Type 0} (r : Result X E) (N : Type 0) (P Q : X → Type 0) → ((x : X) → N → P x → Q x)
    → OnOk r N → IfOk r P → IfOk r Q
if_ok_on (Ok x) N P Q tells on is = tells x on is
if_ok_on (Err f) N P Q tells on is = tt

pub on_ok : {X E : Type 0} (r : Result X E) (N M : Type 0) → (N → M) → OnOk r N → OnOk r M
on_ok (Ok x) N M tells on = tells on
on_ok (Err f) N M tells on = tt

pub on_err : {X E : Type 0} (r : Result X E) (N M : Type 0) → (N → M) → OnErr r N → OnErr r M
on_err (Ok x) N M tells on = tt
on_err (Err f) N M tells on = tells on

pub if_err_on : {X E : Type 0} (r : Result X E) (N : Type 0) (P Q : E → Type 0) → ((f : E) → N → P f → Q f)
    → OnErr r N → IfErr r P → IfErr r Q
if_err_on (Ok x) N P Q tells on is = tt
if_err_on (Err f) N P Q tells on is = tells f on is

-- ---- what lies under the lock

-- the entries that were shared stay
pub before_more : (mark : ℕ) (es first : List Entry) (e : Event) → mark ≤ length es → take mark es ≡ first
    → take mark (es ++ Step e ∷ []) ≡ first
before_more mark es first e within is = take-append-le mark es (Step e ∷ []) within ∙ is

-- a book is its own continuation
pub own_continuation : {L : Type 0} (app : App L) (from_text : List ℕ → Option L) (b : BookView L)
    → IsBook app from_text b → IsContinued app from_text b b
own_continuation app from_text b is =
    let all : length b.entries ≤ length b.entries = omega arith in
    record {
      book = is;
      opening = refl;
      limit = refl;
      nodes = refl;
      before = take_all (length b.entries) b.entries all;
      steps = ap (list_all is_step) (drop_all (length b.entries) b.entries all);
    }
