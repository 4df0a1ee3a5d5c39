use Rattle.std.proofs.Common.{◌≡◌, ◌∙◌, rules, sym, true≢false}
use Rattle.action_tables.proofs.Prefixes.{OnErr-always}
use Rattle.fault_inject.specs.FaultText.{IsOneWord}
use Rattle.fault_inject.proofs.FaultLines.{local_asked, local_found, no_local}
use Rattle.fault_inject.proofs.text.local_fault.Goals as goal

pub returns-then-not-is_one_word-clause-read : goal.returns-then-not-is_one_word-clause-read
returns-then-not-is_one_word-clause-read c =
    no_local c.args.text.now c.in-Some.word.now c.in-Some.at c.in-Some.ensures.found
    (λ word. true≢false (sym (c.if-not-is_one_word.ensures.1 word)))

pub returns-clause-read : goal.returns-clause-read
returns-clause-read c =
    let word : IsOneWord c.in-Some.word.now = c.is_one_word.ensures.0 (search rules) in
    let bytes : c.in_ok-bytes.bytes.items ≡ c.in-Some.word.now = search rules in
    let items : c.new-text.result ≡ c.in-Some.word.now = c.new-text.ensures ∙ bytes in
    let found =
    local_found c.args.text.now c.in-Some.word.now c.new-text.result c.in-Some.at c.in-Some.ensures.found word items
    in
    ((c.in-Some.ensures.small, found.0), found.1)

pub returns-in_err-bytes-clause-memory : goal.returns-in_err-bytes-clause-memory
returns-in_err-bytes-clause-memory c =
    let word : IsOneWord c.in-Some.word.now = c.is_one_word.ensures.0 (search rules) in
    OnErr-always _ _
    (local_asked c.args.text.now c.in-Some.word.now c.in-Some.at c.in-Some.ensures.found c.in-Some.ensures.small
    word)
