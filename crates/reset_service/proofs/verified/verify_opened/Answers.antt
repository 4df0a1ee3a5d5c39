use Rattle.std.proofs.Common.{◌≡◌, ◌≢◌, Ok, Err, rules}
use Rattle.applications.specs.Meaning.{meaning_of}
use Rattle.history.specs.Verdict.{IsVerdict}
use Rattle.history.specs.declared.entry.VerifyFault.TheVariants.{NotEnabledAt}
use Rattle.history.specs.declared.text.BookFault.TheVariants.{NoMemory, ReadFailed}
use Rattle.history.specs.declared.verification.ReaderFault.TheVariants.{Entries, OtherModulus, Text}
use Rattle.reset_service.specs.Verified.{IsVerified, bad_history_text, not_enabled_text, other_modulus_text}
use Rattle.reset_service.specs.Verified.{verified_text}
use Rattle.script_replay.specs.declared.status.Status.TheVariants.{BadInput, Good, NotEnabled}
use Rattle.reset_service.proofs.Verifying.{of_no_history, of_other_modulus, of_refused, of_summary, read_leaves}
use Rattle.reset_service.proofs.verified.verify_opened.Goals as goal

pub returns-in-Ok : goal.returns-in-Ok
returns-in-Ok g c =
    let m =
    meaning_of g.P.Application.app g.P.Application.text g.P.Application.from_text g.P.Application.names
    g.P.Invariant.counts in
    let s = c.in-Ok.summary in
    record {
      leaves = read_leaves (g.R.Read.remaining c.args.history.now) (IsVerified m c.args.opening)
          (λ text. IsVerdict m.app m.from_text c.args.opening text (Ok s))
          (λ o. o ≡ (verified_text s.entries s.reports.items, Good)) _ _ c.answer_summary.result
          (λ text o verdict is. of_summary m c.args.opening text s o verdict is)
          c.in-Ok.ensures.told c.answer_summary.ensures.leaves;
    }

pub returns-in-Err-Text : goal.returns-in-Err-Text
returns-in-Err-Text g c =
    let m =
    meaning_of g.P.Application.app g.P.Application.text g.P.Application.from_text g.P.Application.names
    g.P.Invariant.counts in
    let fault = c.in-Err-Text.fault in
    let memory : fault ≢ NoMemory = search rules in
    let device : fault ≢ ReadFailed = search rules in
    record {
      leaves = read_leaves (g.R.Read.remaining c.args.history.now) (IsVerified m c.args.opening)
          (λ text. IsVerdict m.app m.from_text c.args.opening text (Err (Text fault)))
          (λ o. o ≡ (bad_history_text fault, BadInput)) _ _ c.refuse_history.result
          (λ text o verdict is. of_no_history m c.args.opening text fault o memory device verdict is)
          (rw c.in-Err-Text.field-0-is at c.in-Err-Text.ensures.told) c.refuse_history.ensures.leaves;
    }

pub returns-in-Err-OtherModulus : goal.returns-in-Err-OtherModulus
returns-in-Err-OtherModulus g c =
    let m =
    meaning_of g.P.Application.app g.P.Application.text g.P.Application.from_text g.P.Application.names
    g.P.Invariant.counts in
    let modulus = c.in-Err-OtherModulus.modulus in
    record {
      leaves = read_leaves (g.R.Read.remaining c.args.history.now) (IsVerified m c.args.opening)
          (λ text. IsVerdict m.app m.from_text c.args.opening text (Err (OtherModulus modulus)))
          (λ o. o ≡ (other_modulus_text modulus, BadInput)) _ _ c.refuse_modulus.result
          (λ text o verdict is. of_other_modulus m c.args.opening text modulus o verdict is)
          (rw c.in-Err-OtherModulus.field-0-is at c.in-Err-OtherModulus.ensures.told)
          c.refuse_modulus.ensures.leaves;
    }

pub returns-in-Err-Entries-NotEnabledAt : goal.returns-in-Err-Entries-NotEnabledAt
returns-in-Err-Entries-NotEnabledAt g c =
    let m =
    meaning_of g.P.Application.app g.P.Application.text g.P.Application.from_text g.P.Application.names
    g.P.Invariant.counts in
    let position = c.in-Err-Entries-NotEnabledAt.position in
    record {
      leaves = read_leaves (g.R.Read.remaining c.args.history.now) (IsVerified m c.args.opening)
          (λ text. IsVerdict m.app m.from_text c.args.opening text (Err (Entries (NotEnabledAt position))))
          (λ o. o ≡ (not_enabled_text position, NotEnabled)) _ _ c.refuse_entry.result
          (λ text o verdict is. of_refused m c.args.opening text position o verdict is)
          (rw (c.in-Err-Entries-NotEnabledAt.field-0-is, c.in-Err-Entries-NotEnabledAt.field-0-0-is)
          at c.in-Err-Entries-NotEnabledAt.ensures.told) c.refuse_entry.ensures.leaves;
    }
