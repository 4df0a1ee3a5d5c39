use Rattle.std.proofs.Common.{◌≡◌, ℕ, ap, List, None, Some, rules, subst}
use Rattle.std.specs.Borrow.{Bor}
use Rattle.std.specs.Prelude.{option_map}
use Rattle.applications.specs.Meaning.{meaning_of}
use Rattle.script_replay.specs.declared.status.RunStop.TheVariants.{NoMemory}
use Rattle.script_replay.specs.declared.status.Status.TheVariants.{BadInput}
use Rattle.reset_service.specs.Chosen.{NamesNodes}
use Rattle.reset_service.specs.Parted.{IsPartDrawn, IsSelectionDrawn, bad_nodes_text}
use Rattle.reset_service.specs.Parted.IsPartDrawn.{bad_nodes, named}
use Rattle.reset_service.proofs.Parting.{names, names_nothing}
use Rattle.reset_service.proofs.Verifying.{read_anyway, read_unread, read_weaker}
use Rattle.reset_service.proofs.parted.draw_nodes.Goals as goal

pub returns-in_default : goal.returns-in_default
returns-in_default g c =
    let m =
    meaning_of g.P.Application.app g.P.Application.text g.P.Application.from_text g.P.Application.names
    g.P.Invariant.counts in
    let opening = c.args.opening.now in
    let rows = option_map (λ t. t.now) c.args.part.rows in
    let nodes = option_map (λ t. t.now) c.args.part.nodes in
    let none : nodes ≡ None = ap (option_map (λ (t : Bor (List ℕ)). t.now)) c.in_default.is in
    record {
      leaves = read_weaker (g.R.Read.remaining c.args.history.now) (IsPartDrawn m rows nodes opening)
          (IsSelectionDrawn m c.args.rows None opening) _ _ c.draw_all.result
          (λ text o is. named c.args.rows None c.requires none is)
          c.draw_all.ensures.leaves;
    }

pub returns-in-Ok-Some : goal.returns-in-Ok-Some
returns-in-Ok-Some g c =
    let m =
    meaning_of g.P.Application.app g.P.Application.text g.P.Application.from_text g.P.Application.names
    g.P.Invariant.counts in
    let opening = c.args.opening.now in
    let rows = option_map (λ t. t.now) c.args.part.rows in
    let nodes = option_map (λ t. t.now) c.args.part.nodes in
    let ids = c.in-Ok-Some.ids.items in
    let given : nodes ≡ Some c.in-Some.text.now = ap (option_map (λ (t : Bor (List ℕ)). t.now)) c.in-Some.is in
    let spelt : NamesNodes c.as_bytes.result.now ids = search rules in
    let are_named =
    names NamesNodes nodes c.in-Some.text.now c.as_bytes.result.now given c.as_bytes.ensures.value ids spelt in
    record {
      leaves = read_weaker (g.R.Read.remaining c.args.history.now) (IsPartDrawn m rows nodes opening)
          (IsSelectionDrawn m c.args.rows (Some c.deref.result.now) opening) _ _ c.draw_named.result
          (λ text o is. named c.args.rows (Some ids) c.requires are_named
          (subst (λ xs. IsSelectionDrawn m c.args.rows (Some xs) opening text o) c.deref.ensures.value is))
          c.draw_named.ensures.leaves;
    }

pub returns-in-Ok-None : goal.returns-in-Ok-None
returns-in-Ok-None g c =
    let m =
    meaning_of g.P.Application.app g.P.Application.text g.P.Application.from_text g.P.Application.names
    g.P.Invariant.counts in
    let rows = option_map (λ t. t.now) c.args.part.rows in
    let nodes = option_map (λ t. t.now) c.args.part.nodes in
    let given : nodes ≡ Some c.in-Some.text.now = ap (option_map (λ (t : Bor (List ℕ)). t.now)) c.in-Some.is in
    let none = names_nothing NamesNodes nodes c.in-Some.text.now c.as_bytes.result.now given c.as_bytes.ensures.value
    (rw c.in-Ok-None.field-0-is at c.in-Ok-None.ensures.only) in
    record {
      leaves = read_anyway (g.R.Read.remaining c.args.history.now) (IsPartDrawn m rows nodes c.args.opening.now)
          (λ o. o ≡ (bad_nodes_text, BadInput)) _ _ c.refuse_input.result
          (λ text o is. bad_nodes c.args.rows c.requires none is)
          c.refuse_input.ensures.leaves;
    }

pub returns-in-Err : goal.returns-in-Err
returns-in-Err g c =
    let m =
    meaning_of g.P.Application.app g.P.Application.text g.P.Application.from_text g.P.Application.names
    g.P.Invariant.counts in
    record {
      leaves = read_unread (g.R.Read.remaining c.args.history.now)
          (IsPartDrawn m (option_map (λ t. t.now) c.args.part.rows) (option_map (λ t. t.now) c.args.part.nodes)
          c.args.opening.now)
          (g.W.Write.contents c.args.out.now) NoMemory tt;
    }
