use Rattle.std.proofs.Common.{◌++◌, ◌∷◌, [], ap, ◌∙◌, sym}
use Rattle.recovery.proofs.Healing.{all_more}
use Rattle.recovery.proofs.Leading.{leads_more, no_memory}
use Rattle.recovery.specs.Drafts.{draft_view}
use Rattle.recovery.proofs.draft.Draft.attempt.Goals as goal

pub invariant_of-self-in-Ok : goal.invariant_of-self-in-Ok
invariant_of-self-in-Ok g c =
    let grew = c.push_reserved.ensures.items ∙ ap (λ l. l ++ c.args.event ∷ []) c.reserve.ensures.items in (
      leads_more g.P.Application.app c.self.inside.opening.value c.self.inside.config c.step.new.self
          c.self.inside.events.items c.push_reserved.new.self.items c.args.event c.self.invariant.0 c.in-Ok.ensures.ok
          grew,
      all_more g.K.Kind.takes c.self.inside.events.items c.push_reserved.new.self.items c.args.event c.self.invariant.1
          c.requires grew,
    )

pub returns-else-is_memory-clause-refused : goal.returns-else-is_memory-clause-refused
returns-else-is_memory-clause-refused g c = λ _.
    let o = c.self.inside.opening.value in
    let same = ap (λ k. draft_view o c.reserve.new.self.items k) c.in-Err.ensures.kept
    ∙ ap (λ l. draft_view o l c.self.inside.config) c.reserve.ensures.items ∙ c.self.view_is in (
      same,
      (
        c.in-Err.refusal,
        rw (← c.self.view_is) (c.in-Err.ensures.err
            (no_memory c.in-Err.refusal (sym c.is_memory.ensures ∙ c.if-is_memory.false))),
      ),
    )
