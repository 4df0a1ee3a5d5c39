use Rattle.std.proofs.Common.{◌≡◌, ℕ, ◌-◌, List, ◌++◌, length, take, drop, sym, ap, ◌∙◌, append_assoc, take-append-drop}
use Rattle.std.proofs.lemmas.List.{take_rest}
use Rattle.std.proofs.KnownBytes.{Appends-trans}
use Rattle.action_tables.proofs.put.put_rest.Goals as goal

moved : (all prefix rest : List ℕ) (n : ℕ) → all ≡ prefix ++ rest
    → all ≡ (prefix ++ take n rest) ++ take (length rest - n) (drop n rest)
moved all prefix rest n e =
    e ∙ ap (λ l. prefix ++ l) (sym (take-append-drop n rest)) ∙ sym (append_assoc prefix (take n rest) (drop n rest))
    ∙ ap (λ l. (prefix ++ take n rest) ++ l) (sym (take_rest rest n))

pub loop-rest-preserved : goal.loop-rest-preserved
loop-rest-preserved g c =
    let (prefix, cut, appended) = c.loop-rest.invariant in (
      prefix ++ take c.in-Ok.count c.loop-rest.rest.now,
      moved _ prefix _ _ cut,
      Appends-trans _ _ _ prefix _ appended
          c.in-Ok.ensures.bytes,
    )
