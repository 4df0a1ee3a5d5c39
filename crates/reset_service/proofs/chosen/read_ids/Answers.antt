use Rattle.std.proofs.Common.{◌≡◌, ◌<◌, ◌^◌, [], ◌∷◌, ◌++◌, rules, subst, sym, ℕ, List}
use Rattle.std.specs.Fmt.{decimal}
use Rattle.topology.specs.Id.{IsId}
use Rattle.reset_service.specs.Chosen.{NamesNodes}
use Rattle.reset_service.proofs.Choosing.{AreRead, last_named, named_last, next_named, one_read}
use Rattle.reset_service.proofs.chosen.read_ids.Goals as goal

pub returns-in-None-clause-only : goal.returns-in-None-clause-only
returns-in-None-clause-only c = λ all named.
    let (more, there) = c.loop-number.invariant.left all named in
    let next = next_named c.loop-number.rest.now c.in-Some.after.now more c.in-Some.number c.in-Some.ensures.small
    c.in-Some.ensures.found there in
    let none : IsId c.in-Some.number → ⊥ = search rules in
    none next.valid

pub loop-number-preserved : goal.loop-number-preserved
loop-number-preserved c =
    let before = c.loop-number.ids.items in
    let id = c.in-Some.number in
    let valid : IsId id = search rules in
    let pushed : c.push.new.self.items ≡ before ++ id ∷ [] = search rules in
    subst (AreRead c.args.text.now c.in-Some.after.now) (sym pushed)
    (one_read c.args.text.now c.loop-number.rest.now c.in-Some.after.now before id c.in-Some.ensures.small valid
    c.in-Some.ensures.found c.loop-number.invariant)

pub returns-in_ok-push-in-Some-read_id-clause-found : goal.returns-in_ok-push-in-Some-read_id-clause-found
returns-in_ok-push-in-Some-read_id-clause-found c =
    let before = c.loop-number.ids.items in
    let last = c.in-Some-read_id.last in
    let pushed : c.push-in-Some-read_id.new.self.items ≡ before ++ last ∷ [] = search rules in
    subst (NamesNodes c.args.text.now) (sym pushed)
    (c.loop-number.invariant.onward (last ∷ [])
    (named_last c.loop-number.rest.now last c.in-Some-read_id.ensures.id c.in-Some-read_id.ensures.found))

pub returns-in-None-read_id-clause-only : goal.returns-in-None-read_id-clause-only
returns-in-None-read_id-clause-only c = λ all named.
    let rest = c.loop-number.rest.now in
    let (more, there) = c.loop-number.invariant.left all named in
    let none : (n : ℕ) (after : List ℕ) → n < 2 ^ 32 → rest ≡ decimal n ++ 44 ∷ after → ⊥ =
    c.in_default.ensures.only in
    let (id, valid, spelt) = last_named rest more none there in
    c.in-None-read_id.ensures.only id valid spelt
