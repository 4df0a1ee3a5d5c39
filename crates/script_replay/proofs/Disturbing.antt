-- The fault that a seed draws, and what is told of it.
use Rattle.std.proofs.Common.{◌≡◌, ℕ, List, Option, refl, subst, Result, Ok, Err, OnErr}
use Rattle.std.specs.Io.KnownBytes.{Appends}
use Rattle.action_tables.specs.Written.{AppendsPrefix}
use Rattle.action_tables.proofs.Prefixes.{AppendsPrefix-first, AppendsPrefix-then}
use Rattle.applications.specs.Meaning.{Meaning}
use Rattle.fault_inject.specs.Effects.{injected}
use Rattle.fault_inject.specs.declared.fault.Fault.{Fault}
use Rattle.reset_model.specs.Configuration.{Configuration}
use Rattle.fault_inject.specs.Drawn.{drawn_fault, next_words, seeded}
use Rattle.script_replay.specs.Output.{disturbed, disturbed_by_drawn, drawn, drawn_text}

pub drawn-is : (ids : List ℕ) (seed : ℕ) → drawn ids seed ≡ drawn_fault ids (next_words (seeded seed)).0
unfolding drawn
drawn-is ids seed = refl

module _ {L : Type 0} (m : Meaning L) (c : Configuration L) (told by_seed : Fault) (is : told ≡ by_seed)
    (a b : Option (List ℕ)) where
  -- its line is written first
  pub drawn_prefix : AppendsPrefix a b (drawn_text told) → AppendsPrefix a b (disturbed_by_drawn m c by_seed).1
  drawn_prefix prefix =
      let P : Fault → Type 0 = λ f. AppendsPrefix a b (disturbed_by_drawn m c f).1 in
      subst P is (AppendsPrefix-first a b (drawn_text told) (disturbed c (injected m.app m.from_text c told)).1 prefix)

  -- and then the answer to the fault
  pub drawn_err : Appends a b (drawn_text told) → (d : Option (List ℕ)) {E : Type 0} (r : Result (Unit {0}) E)
      → OnErr r (AppendsPrefix b d (disturbed c (injected m.app m.from_text c told)).1)
      → OnErr r (AppendsPrefix a d (disturbed_by_drawn m c by_seed).1)
  drawn_err wrote d (Ok x) err = tt
  drawn_err wrote d (Err e) err =
      let P : Fault → Type 0 = λ f. AppendsPrefix a d (disturbed_by_drawn m c f).1 in
      subst P is (AppendsPrefix-then a b d (drawn_text told) _ wrote err)
