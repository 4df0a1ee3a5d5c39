use Rattle.std.proofs.Common.{◌≡◌, ◌≢◌, ℕ, List, Ok, rules, subst}
use Rattle.applications.specs.Meaning.{meaning_of}
use Rattle.history.specs.HistoryText.{IsReadAs}
use Rattle.history.specs.declared.entry.Entry.{Entry}
use Rattle.script_replay.proofs.Runs.{leaves_weaker}
use Rattle.script_replay.specs.Output.{Leaves}
use Rattle.script_replay.specs.declared.status.Status.{Status}
use Rattle.script_replay.specs.declared.status.Status.TheVariants.{BadInput}
use Rattle.reset_service.specs.Parted.{IsHistoryDrawn}
use Rattle.reset_service.specs.Verified.{other_modulus_text}
use Rattle.reset_service.proofs.Parting.{of_other_modulus}
use Rattle.reset_service.proofs.drawn.draw_book.Goals as goal

pub returns-then-book-get-clause-leaves : goal.returns-then-book-get-clause-leaves
returns-then-book-get-clause-leaves g c =
    let m =
    meaning_of g.P.Application.app g.P.Application.text g.P.Application.from_text g.P.Application.names
    g.P.Invariant.counts in
    let opening = c.args.opening.now in
    let nodes = c.args.nodes.now in
    let modulus = c.args.book.now.modulus in
    let es = c.args.book.now.entries.items in
    let apart : modulus ≢ opening.modulus = search rules in
    leaves_weaker (λ o. o ≡ (other_modulus_text modulus, BadInput))
    (λ o. (text : List ℕ) → IsReadAs text (Ok (modulus, es)) → IsHistoryDrawn m c.args.rows nodes opening text o) _ _
    c.refuse_modulus.result
    (λ o is text reads. of_other_modulus m c.args.rows nodes opening text o modulus es reads apart is)
    c.refuse_modulus.ensures.leaves

pub returns-clause-leaves : goal.returns-clause-leaves
returns-clause-leaves g c =
    let m =
    meaning_of g.P.Application.app g.P.Application.text g.P.Application.from_text g.P.Application.names
    g.P.Invariant.counts in
    let opening = c.args.opening.now in
    let here = IsHistoryDrawn m c.args.rows c.args.nodes.now opening in
    let modulus = c.args.book.now.modulus in
    let es = c.args.book.now.entries.items in
    let same : modulus ≡ opening.modulus = search rules in
    let drawn : List Entry → List ℕ × Status → Type 0 =
    λ xs o. (text : List ℕ) → IsReadAs text (Ok (opening.modulus, xs)) → here text o in
    leaves_weaker (drawn es) (λ o. (text : List ℕ) → IsReadAs text (Ok (modulus, es)) → here text o) _ _
    c.draw_entries.result
    (λ o is text reads. is text (subst (λ k. IsReadAs text (Ok (k, es))) same reads))
    (subst
    (λ xs. Leaves (drawn xs) (g.W.Write.contents c.args.out.now) (g.W.Write.contents c.draw_entries.new.out)
    c.draw_entries.result) c.deref.ensures.value
    c.draw_entries.ensures.leaves)
