use Rattle.std.proofs.Common.{◌≡◌, ◌≢◌, ◌++◌, Ok, Err, rules}
use Rattle.applications.specs.Meaning.{meaning_of}
use Rattle.history.specs.Verdict.{IsJudgementOf, IsVerdict}
use Rattle.history.specs.declared.text.BookFault.TheVariants.{NoMemory, ReadFailed}
use Rattle.history.specs.declared.verification.JudgeFault.TheVariants.{Refused}
use Rattle.history.specs.declared.verification.ReaderFault.TheVariants.{OtherModulus, Text}
use Rattle.script_replay.specs.declared.status.Status.TheVariants.{BadInput, NotEnabled}
use Rattle.reset_service.specs.Asked.{IsAnswered, allowed_output, asked_of, asked_reason}
use Rattle.reset_service.specs.Verified.{bad_history_text, not_enabled_text, other_modulus_text}
use Rattle.reset_service.proofs.Asking.{of_allowed, of_bad_text, of_other, of_refusal}
use Rattle.reset_service.proofs.Verifying.{read_leaves}
use Rattle.reset_service.proofs.asked.ask_from.Goals as goal

pub returns-in-Ok : goal.returns-in-Ok
returns-in-Ok g c =
    let m =
    meaning_of g.P.Application.app g.P.Application.text g.P.Application.from_text g.P.Application.names
    g.P.Invariant.counts in
    let r = c.in-Ok.resumed in
    record {
      leaves = read_leaves (g.R.Read.remaining c.args.history.now) (IsAnswered c.args.question m c.args.opening)
          (λ text. IsJudgementOf (asked_of c.args.question.at) m.app m.from_text c.args.opening text (Ok r))
          (λ o. o ≡ allowed_output m c.args.question.at r.summary.entries r.summary.reports.items r.config) _ _
          c.answer_allowed.result
          (λ text o judged is. of_allowed c.args.question m c.args.opening text r o judged is)
          c.in-Ok.ensures c.answer_allowed.ensures.leaves;
    }

pub returns-in-Err-Text : goal.returns-in-Err-Text
returns-in-Err-Text g c =
    let m =
    meaning_of g.P.Application.app g.P.Application.text g.P.Application.from_text g.P.Application.names
    g.P.Invariant.counts in
    let fault = c.in-Err-Text.fault in
    let memory : fault ≢ NoMemory = search rules in
    let device : fault ≢ ReadFailed = search rules in
    record {
      leaves = read_leaves (g.R.Read.remaining c.args.history.now) (IsAnswered c.args.question m c.args.opening)
          (λ text. IsVerdict m.app m.from_text c.args.opening text (Err (Text fault)))
          (λ o. o ≡ (bad_history_text fault, BadInput)) _ _ c.refuse_history.result
          (λ text o judged is. of_bad_text c.args.question m c.args.opening text fault o memory device judged is)
          (rw c.in-Err-Text.field-0-is at c.in-Err-Text.ensures) c.refuse_history.ensures.leaves;
    }

pub returns-in-Err-OtherModulus : goal.returns-in-Err-OtherModulus
returns-in-Err-OtherModulus g c =
    let m =
    meaning_of g.P.Application.app g.P.Application.text g.P.Application.from_text g.P.Application.names
    g.P.Invariant.counts in
    let modulus = c.in-Err-OtherModulus.modulus in
    record {
      leaves = read_leaves (g.R.Read.remaining c.args.history.now) (IsAnswered c.args.question m c.args.opening)
          (λ text. IsVerdict m.app m.from_text c.args.opening text (Err (OtherModulus modulus)))
          (λ o. o ≡ (other_modulus_text modulus, BadInput)) _ _ c.refuse_modulus.result
          (λ text o judged is. of_other c.args.question m c.args.opening text modulus o judged is)
          (rw c.in-Err-OtherModulus.field-0-is at c.in-Err-OtherModulus.ensures) c.refuse_modulus.ensures.leaves;
    }

pub returns-in-Err-Refused : goal.returns-in-Err-Refused
returns-in-Err-Refused g c =
    let m =
    meaning_of g.P.Application.app g.P.Application.text g.P.Application.from_text g.P.Application.names
    g.P.Invariant.counts in
    let r = c.in-Err-Refused.refused in
    record {
      leaves = read_leaves (g.R.Read.remaining c.args.history.now) (IsAnswered c.args.question m c.args.opening)
          (λ text. IsJudgementOf (asked_of c.args.question.at) m.app m.from_text c.args.opening text (Err (Refused r)))
          (λ o. o ≡ (not_enabled_text r.position ++ asked_reason c.args.question.why m r.config r.entry, NotEnabled)) _ _
          c.answer_refused.result
          (λ text o judged is. of_refusal c.args.question m c.args.opening text r o judged is)
          (rw c.in-Err-Refused.field-0-is at c.in-Err-Refused.ensures) c.answer_refused.ensures.leaves;
    }
