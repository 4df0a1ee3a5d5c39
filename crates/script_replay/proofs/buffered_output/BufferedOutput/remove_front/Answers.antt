-- What is left is what was moved to the front.
use Rattle.std.proofs.Common.{ℕ, List, ◌≡◌, ◌+◌, ◌-◌, ◌≤◌, length, take, drop, sym, ap, ◌∙◌, arith, rules, length-drop}
use lib.Seq.{paste}
use Rattle.std.proofs.lemmas.List.{drop-take}
use Rattle.std.proofs.lemmas.List.Edits.{take-paste}
use Rattle.script_replay.proofs.buffered_output.BufferedOutput.remove_front.Goals as goal

moved : (old new : List ℕ) (n count : ℕ) → new ≡ paste old 0 (drop n old) (count - n) → n ≤ count → count ≤ length old
    → take (count - n) new ≡ drop n (take count old)
moved old new n count is below within =
    let left = count - n in
    let rest : left ≤ length (drop n old) = omega (arith, length-drop n old) in
    let same : left ≡ 0 + left = omega arith in
    let whole : n + left ≡ count = omega arith in
    ap (take left) is ∙ ap (λ k. take k (paste old 0 (drop n old) left)) same
    ∙ take-paste old 0 (drop n old) left (omega arith) rest
    ∙ sym (drop-take n left old) ∙ ap (λ k. drop n (take k old)) whole

pub returns-clause-rest : goal.returns-clause-rest
returns-clause-rest g c =
    let was = c.args.self.now in
    moved was.held.items c.copy_within.new.self.items c.args.count was.count c.copy_within.ensures.items c.requires
    (search rules)
