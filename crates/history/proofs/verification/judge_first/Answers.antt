use Rattle.std.proofs.Common.{◌≡◌, ◌+◌, ◌-◌, ◌++◌, ◌∙◌, [], List, Ok, ap, ap₂, sym, length, length-append, take, arith}
use Rattle.std.proofs.KnownBytes.{Consumes-nil, Consumes-trans}
use Rattle.std.proofs.lemmas.List.{take_all}
use Rattle.history.specs.declared.entry.Entry.{Entry}
use Rattle.history.proofs.ReadLines.{all_given, read_whole, some_whole, whole_before}
use Rattle.history.proofs.Verified.{fault_verdict, take_more}
use Rattle.history.proofs.verification.judge_first.Goals as goal

pub returns-in-Ok-false-clause-told : goal.returns-in-Ok-false-clause-told
returns-in-Ok-false-clause-told g c =
    let (given, es, consumed, read, none, verified, played, few) = c.loop.invariant in
    let (last, some, gave, on) = c.in-Ok-false.ensures.ok in
    let start = g.R.Read.remaining c.args.reader.now in
    let now = g.R.Read.remaining c.read_on.new.reader in (
      given ++ last,
      all_given start now (given ++ last)
          (Consumes-trans start (g.R.Read.remaining c.loop.reader) now given last consumed gave)
          (c.in-Ok-false.ensures.end (ap Ok c.in-Ok-false.field-0-test)).0,
      c.verdict.ensures c.args.opening c.args.most es (given ++ last)
          (sym (c.get-modulus.ensures.number ∙ c.modulus.ensures)) verified played (on es given read),
    )

pub returns-in-Err-clause-told : goal.returns-in-Err-clause-told
returns-in-Err-clause-told g c =
    let (given, es, consumed, read, none, verified, played, few) = c.loop.invariant in
    let start = g.R.Read.remaining c.args.reader.now in
    fault_verdict g.P.Application.app g.P.Application.from_text c.args.opening start c.in-Err.fault
    (λ memory device. let (rest, whole, faulty) = c.in-Err.ensures.err memory device in (
      given ++ rest,
      whole_before start (g.R.Read.remaining c.loop.reader) given rest consumed whole,
      faulty es given read,
    ))

pub returns-clause-told : goal.returns-clause-told
returns-clause-told g c =
    let (text, whole) = some_whole (g.R.Read.remaining c.args.reader.now) in (text, whole, tt)

pub loop-init : goal.loop-init
loop-init g c =
    let nothing : List Entry = [] in
    let n = c.args.most in
    let none : take n nothing ≡ nothing = take_all n nothing (omega arith) in (
      [],
      nothing,
      Consumes-nil (g.R.Read.remaining c.args.reader.now),
      c.new-reading.ensures.read,
      c.new-reading.ensures.none,
      rw (sym none) at c.new-verifier.ensures,
      sym (ap length none),
      omega arith,
    )

pub loop-preserved : goal.loop-preserved
loop-preserved g c =
    let (given, es, consumed, read, none, verified, played, few) = c.loop.invariant in
    let (last, some, gave, on) = c.in-Ok-true.ensures.ok in
    let start = g.R.Read.remaining c.args.reader.now in
    let now = g.R.Read.remaining c.read_on.new.reader in
    let new = c.read_on.new.self.lines.entries.items in
    let n = c.args.most in
    let first : c.first_entries-first.result.now ≡ take (n - length (take n es)) new =
    c.first_entries-first.ensures.first ∙ ap₂ (λ k l. take (n - k) l) played c.entries.ensures in
    let taken : take n es ++ c.first_entries-first.result.now ≡ take n (es ++ new) =
    ap (λ l. take n es ++ l) first ∙ sym (take_more n es new) in (
      given ++ last,
      es ++ new,
      Consumes-trans start (g.R.Read.remaining c.loop.reader) now given last consumed gave,
      c.forget.ensures.read es (given ++ last) (on es given read),
      c.forget.ensures.none,
      rw taken at (c.take.ensures c.args.opening (take n es) verified played),
      ap (λ k. k + length c.first_entries-first.result.now) played
          ∙ sym (length-append (take n es) c.first_entries-first.result.now) ∙ ap length taken,
      omega (arith, few, c.first_entries-first.ensures.few),
    )

pub returns-in-Ok-false-clause-end : goal.returns-in-Ok-false-clause-end
returns-in-Ok-false-clause-end g c =
    read_whole c.verdict.result (g.R.Read.remaining c.read_on.new.reader)
    (c.in-Ok-false.ensures.end (ap Ok c.in-Ok-false.field-0-test)).0
