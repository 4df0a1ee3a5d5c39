use Rattle.std.proofs.Common.{◌≡◌, ◌≢◌, ℕ, Err, List, Ok, rules}
use Rattle.applications.specs.Meaning.{meaning_of}
use Rattle.history.specs.HistoryText.{IsReadAs}
use Rattle.history.specs.declared.text.BookFault.TheVariants.{NoMemory, ReadFailed}
use Rattle.script_replay.specs.declared.status.RunStop.TheVariants as stop
use Rattle.script_replay.specs.declared.status.Status.TheVariants.{BadInput}
use Rattle.reset_service.specs.Parted.{IsHistoryDrawn}
use Rattle.reset_service.specs.Verified.{bad_history_text}
use Rattle.reset_service.proofs.Parting.{of_bad_history}
use Rattle.reset_service.proofs.Verifying.{read_leaves, read_unread}
use Rattle.reset_service.proofs.drawn.draw_history.Goals as goal

pub returns-in-Ok : goal.returns-in-Ok
returns-in-Ok g c =
    let m =
    meaning_of g.P.Application.app g.P.Application.text g.P.Application.from_text g.P.Application.names
    g.P.Invariant.counts in
    let here = IsHistoryDrawn m c.args.rows c.args.nodes.now c.args.opening.now in
    let modulus = c.in-Ok.book.modulus in
    let es = c.in-Ok.book.entries.items in
    record {
      leaves = read_leaves (g.R.Read.remaining c.args.history.now) here (λ text. IsReadAs text (Ok (modulus, es)))
          (λ o. (text : List ℕ) → IsReadAs text (Ok (modulus, es)) → here text o) _ _ c.draw_book.result
          (λ text o reads is. is text reads) c.in-Ok.ensures.ok c.draw_book.ensures.leaves;
    }

pub returns-in-Err : goal.returns-in-Err
returns-in-Err g c =
    let m =
    meaning_of g.P.Application.app g.P.Application.text g.P.Application.from_text g.P.Application.names
    g.P.Invariant.counts in
    let here = IsHistoryDrawn m c.args.rows c.args.nodes.now c.args.opening.now in
    let fault = c.in-Err.fault in
    let memory : fault ≢ NoMemory = search rules in
    let device : fault ≢ ReadFailed = search rules in
    record {
      leaves = read_leaves (g.R.Read.remaining c.args.history.now) here (λ text. IsReadAs text (Err fault))
          (λ o. o ≡ (bad_history_text fault, BadInput)) _ _ c.refuse_history.result
          (λ text o bad is. of_bad_history m c.args.rows c.args.nodes.now c.args.opening.now text o fault bad is)
          (c.in-Err.ensures.err memory device) c.refuse_history.ensures.leaves;
    }

pub returns-in-Err-NoMemory : goal.returns-in-Err-NoMemory
returns-in-Err-NoMemory g c =
    let m =
    meaning_of g.P.Application.app g.P.Application.text g.P.Application.from_text g.P.Application.names
    g.P.Invariant.counts in
    record {
      leaves = read_unread (g.R.Read.remaining c.args.history.now)
          (IsHistoryDrawn m c.args.rows c.args.nodes.now c.args.opening.now)
          (g.W.Write.contents c.args.out.now) stop.NoMemory tt;
    }

pub returns-in-Err-ReadFailed : goal.returns-in-Err-ReadFailed
returns-in-Err-ReadFailed g c =
    let m =
    meaning_of g.P.Application.app g.P.Application.text g.P.Application.from_text g.P.Application.names
    g.P.Invariant.counts in
    record {
      leaves = read_unread (g.R.Read.remaining c.args.history.now)
          (IsHistoryDrawn m c.args.rows c.args.nodes.now c.args.opening.now)
          (g.W.Write.contents c.args.out.now) stop.ReadFailed tt;
    }
