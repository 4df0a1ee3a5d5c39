-- The first of some rows that is enabled, by their guards.
use Rattle.std.proofs.Common.{◌≡◌, ◌≢◌, ◌⊎◌, ◌<◌, ◌≤◌, suc, nat_eq, nat_lt, ℕ, Bool, true, false, cond}
use Rattle.std.proofs.Common.{List, [], ◌∷◌, Option, Some, None, Result, Ok, Err, refl, sym, ap, ◌∙◌}
use Rattle.action_tables.specs.Numbers.{is_among}
use Rattle.std.proofs.lemmas.Option.{none-some}
use Rattle.action_tables.specs.Table.{Row, enabled_of}
use Rattle.tree_layer.specs.declared.regs.TreeRegs.{TreeRegs}
use Rattle.tree_layer.specs.declared.regs.TreeRefusal.TheVariants.{NotEnabled}
use Rattle.wave_layer.specs.declared.regs.WaveRegs.{WaveRegs}
use Rattle.wave_layer.specs.declared.regs.Phase.TheVariants.{Normal}
use Rattle.reset_model.specs.LocalSteps.{fired_tree}
use Rattle.reset_model.proofs.EnabledRows.{among_enabled, row_holds}
use Rattle.reset_model.specs.declared.plan.Fired.{Fired}
use Rattle.reset_model.specs.declared.step.StepRefusal.{StepRefusal}
use Rattle.link_predicates.specs.Faults.{first_enabled}

-- the first of four numbers whose test holds
abbrev pub first_of : ℕ → ℕ → ℕ → ℕ → Bool → Bool → Bool → Bool → Option ℕ
first_of a b c d p q r s = cond p (Some a) (cond q (Some b) (cond r (Some c) (cond s (Some d) None)))

pub first_by : {E : Type 0} (rows : List (Row E)) (a b c d : ℕ)
    → first_enabled (a ∷ b ∷ c ∷ d ∷ []) (enabled_of rows)
    ≡ first_of a b c d (row_holds a rows) (row_holds b rows) (row_holds c rows) (row_holds d rows)
first_by rows a b c d =
    let among : ℕ → Bool = λ n. is_among n (enabled_of rows) in
    ap (λ p. first_of a b c d p (among b) (among c) (among d)) (among_enabled a rows)
    ∙ ap (λ q. first_of a b c d (row_holds a rows) q (among c) (among d)) (among_enabled b rows)
    ∙ ap (λ r. first_of a b c d (row_holds a rows) (row_holds b rows) r (among d)) (among_enabled c rows)
    ∙ ap (λ s. first_of a b c d (row_holds a rows) (row_holds b rows) (row_holds c rows) s) (among_enabled d rows)

-- a row that is told says that something is wrong, and none that nothing is
abbrev pub Tells : Type 0 → Option ℕ → Type 0
Tells Wrong None = Wrong → ⊥
Tells Wrong (Some row) = Wrong

pub told_wrong : {Wrong : Type 0} (o : Option ℕ) → Tells Wrong o → (Wrong → ⊥) → o ≡ None
told_wrong None tells right = refl
told_wrong (Some row) tells right = absurd (right tells)

pub told_right : {Wrong : Type 0} (o : Option ℕ) → Tells Wrong o → o ≡ None → Wrong → ⊥
told_right None tells none = tells
told_right (Some row) tells none = absurd (none-some row (sym none))

-- what a row of the tree table that leaves these registers answers
abbrev pub fired_if : Bool → TreeRegs → Result Fired StepRefusal
fired_if holds regs = fired_tree (cond holds (Ok regs) (Err NotEnabled))

-- registers of the wave, at which the tree table doesn't look
abbrev pub no_wave : ℕ → WaveRegs
no_wave j = record { phase = Normal; session = 0 }

-- what a test of two numbers tells of them
abbrev pub Eq : ℕ → ℕ → Type 0
Eq a b = ((nat_eq a b ≡ true) × (a ≡ b)) ⊎ ((nat_eq a b ≡ false) × (a ≢ b))

abbrev pub Lt : ℕ → ℕ → Type 0
Lt a b = ((nat_lt a b ≡ true) × (suc a ≤ b)) ⊎ ((nat_lt a b ≡ false) × (b < suc a))
