use Rattle.std.proofs.Common.{◌≡◌, ◌≢◌, ℕ, Err, List, Ok, rules}
use Rattle.applications.specs.Meaning.{meaning_of}
use Rattle.history.specs.HistoryText.{IsReadAs}
use Rattle.history.specs.declared.text.BookFault.TheVariants.{NoMemory, ReadFailed}
use Rattle.reset_service.specs.Page.{IsPage}
use Rattle.reset_service.specs.Page.IsPage.{bad_history}
use Rattle.reset_service.specs.Verified.{bad_history_text}
use Rattle.script_replay.specs.declared.status.RunStop.TheVariants as stop
use Rattle.script_replay.specs.declared.status.Status.TheVariants.{BadInput}
use Rattle.reset_service.proofs.Verifying.{read_leaves, read_unread}
use Rattle.reset_service.proofs.Paging.{page_frame}
use Rattle.reset_service.proofs.page.play_from.Goals as goal

pub returns-in-Ok : goal.returns-in-Ok
returns-in-Ok g c =
    let m =
    meaning_of g.P.Application.app g.P.Application.text g.P.Application.from_text g.P.Application.names
    g.P.Invariant.counts in
    let opening = c.args.opening.now in
    let modulus = c.in-Ok.book.modulus in
    let es = c.in-Ok.book.entries.items in
    record {
      leaves = read_leaves (g.R.Read.remaining c.args.history.now)
          (IsPage page_frame c.args.title.now c.args.word.now m opening)
          (λ text. IsReadAs text (Ok (modulus, es)))
          (λ o. (text : List ℕ) → IsReadAs text (Ok (modulus, es)) → IsPage page_frame c.args.title.now
          c.args.word.now m opening text o) _ _ c.play_book.result
          (λ text o reads is. is text reads) c.in-Ok.ensures.ok c.play_book.ensures.leaves;
    }

pub returns-in-Err : goal.returns-in-Err
returns-in-Err g c =
    let m =
    meaning_of g.P.Application.app g.P.Application.text g.P.Application.from_text g.P.Application.names
    g.P.Invariant.counts in
    let opening = c.args.opening.now in
    let fault = c.in-Err.fault in
    let memory : fault ≢ NoMemory = search rules in
    let device : fault ≢ ReadFailed = search rules in
    record {
      leaves = read_leaves (g.R.Read.remaining c.args.history.now)
          (IsPage page_frame c.args.title.now c.args.word.now m opening) (λ text. IsReadAs text (Err fault))
          (λ o. o ≡ (bad_history_text fault, BadInput)) _ _ c.refuse_history.result
          (λ text o bad is. bad_history fault bad is) (c.in-Err.ensures.err memory device)
          c.refuse_history.ensures.leaves;
    }

pub returns-in-Err-NoMemory : goal.returns-in-Err-NoMemory
returns-in-Err-NoMemory g c =
    let m =
    meaning_of g.P.Application.app g.P.Application.text g.P.Application.from_text g.P.Application.names
    g.P.Invariant.counts in
    record {
      leaves = read_unread (g.R.Read.remaining c.args.history.now)
          (IsPage page_frame c.args.title.now c.args.word.now m c.args.opening.now)
          (g.W.Write.contents c.args.out.now) stop.NoMemory tt;
    }

pub returns-in-Err-ReadFailed : goal.returns-in-Err-ReadFailed
returns-in-Err-ReadFailed g c =
    let m =
    meaning_of g.P.Application.app g.P.Application.text g.P.Application.from_text g.P.Application.names
    g.P.Invariant.counts in
    record {
      leaves = read_unread (g.R.Read.remaining c.args.history.now)
          (IsPage page_frame c.args.title.now c.args.word.now m c.args.opening.now)
          (g.W.Write.contents c.args.out.now) stop.ReadFailed tt;
    }
