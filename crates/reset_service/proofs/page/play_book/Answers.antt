use Rattle.std.proofs.Common.{◌≡◌, ◌≢◌, ℕ, List, Ok, rules, subst}
use Rattle.applications.specs.Meaning.{meaning_of}
use Rattle.history.specs.HistoryText.{IsReadAs}
use Rattle.script_replay.proofs.Runs.{leaves_weaker}
use Rattle.script_replay.specs.Output.{Leaves}
use Rattle.script_replay.specs.declared.status.Status.TheVariants.{BadInput}
use Rattle.reset_service.specs.Page.{IsPageOfEntries, IsPage}
use Rattle.reset_service.specs.Page.IsPage.{other_modulus, read}
use Rattle.reset_service.specs.Verified.{other_modulus_text}
use Rattle.reset_service.proofs.Paging.{page_frame}
use Rattle.reset_service.proofs.page.play_book.Goals as goal

pub returns-then-book-get-clause-leaves : goal.returns-then-book-get-clause-leaves
returns-then-book-get-clause-leaves g c =
    let m =
    meaning_of g.P.Application.app g.P.Application.text g.P.Application.from_text g.P.Application.names
    g.P.Invariant.counts in
    let opening = c.args.opening.now in
    let modulus = c.args.book.now.modulus in
    let es = c.args.book.now.entries.items in
    let apart : modulus ≢ opening.modulus = search rules in
    leaves_weaker (λ o. o ≡ (other_modulus_text modulus, BadInput))
    (λ o. (text : List ℕ) → IsReadAs text (Ok (modulus, es)) → IsPage page_frame c.args.title.now c.args.word.now m
    opening text o) _ _ c.refuse_modulus.result
    (λ o is text reads. other_modulus modulus es reads apart is) c.refuse_modulus.ensures.leaves

pub returns-clause-leaves : goal.returns-clause-leaves
returns-clause-leaves g c =
    let m =
    meaning_of g.P.Application.app g.P.Application.text g.P.Application.from_text g.P.Application.names
    g.P.Invariant.counts in
    let opening = c.args.opening.now in
    let modulus = c.args.book.now.modulus in
    let es = c.args.book.now.entries.items in
    let same : modulus ≡ opening.modulus = search rules in
    leaves_weaker (IsPageOfEntries page_frame c.args.title.now c.args.word.now m opening es)
    (λ o. (text : List ℕ) → IsReadAs text (Ok (modulus, es)) → IsPage page_frame c.args.title.now c.args.word.now m
    opening text o) _ _ c.play_entries.result
    (λ o is text reads. read es (subst (λ k. IsReadAs text (Ok (k, es))) same reads) is)
    (subst
    (λ xs. Leaves (IsPageOfEntries page_frame c.args.title.now c.args.word.now m opening xs)
    (g.W.Write.contents c.args.out.now)
    (g.W.Write.contents c.play_entries.new.out) c.play_entries.result) c.deref.ensures.value
    c.play_entries.ensures.leaves)
