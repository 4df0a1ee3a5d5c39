-- Where no mending row is enabled the predicate holds at every father link, and where it holds none is enabled.
use Rattle.std.proofs.Common.{◌≡◌, ◌≢◌, ℕ, true, false, ◌↔◌, inl, inr, sym, ◌∙◌, ⊎_elim, true≢false}
use Rattle.std.proofs.lemmas.Bool.{cases_Bool, cases_eq}
use Rattle.topology.specs.Graph.{Graph}
use Rattle.tree_layer.specs.declared.regs.TreeRegs.{TreeRegs}
use Rattle.tree_layer.specs.TreeRows.{IsFather}
use Rattle.wave_layer.specs.declared.regs.WaveRegs.{WaveRegs}
use Rattle.wave_layer.specs.Sessions.{next_session}
use Rattle.wave_layer.specs.WaveTable.{WaveHolds}
use Rattle.reset_model.specs.Steps.{Mends, mend_reset, mend_number, mend_both, mend_late, reset_at}
use Rattle.reset_model.specs.WavePicture.{WaveSound}

module _ (g : Graph) (m : ℕ) (t : ℕ → TreeRegs) (w : ℕ → WaveRegs) where
  -- at one node
  module _ (i j : ℕ) (rests : Mends g m t w i → ⊥) (father : IsFather g t i j) where
    awake_below : reset_at w j ≡ false → reset_at w i ≡ false
    awake_below up =
        ⊎_elim (λ own. absurd (rests (mend_reset j father up own))) (λ own. own) (cases_Bool (reset_at w i))

    same_below : reset_at w j ≡ false → (w i).session ≡ (w j).session
    same_below up =
        ⊎_elim (λ same. same) (λ other. absurd (rests (mend_number j father up (awake_below up) other)))
        (cases_eq (w i).session (w j).session)

    late_below : reset_at w j ≡ true → reset_at w i ≡ false → (w i).session ≢ (w j).session
        → (w j).session ≡ next_session m (w i).session
    late_below up own other =
        ⊎_elim
        (λ next. next)
        (λ further. absurd (rests (mend_late j father up own (λ same. other (sym same)) further)))
        (cases_eq (w j).session (next_session m (w i).session))

    differing_below : reset_at w j ≡ true → (w i).session ≢ (w j).session
        → (reset_at w i ≡ false) × ((w j).session ≡ next_session m (w i).session)
    differing_below up other =
        ⊎_elim
        (λ own. absurd (rests (mend_both j father up own other)))
        (λ own. (own, late_below up own other))
        (cases_Bool (reset_at w i))

    pub holds_at_rest : WaveHolds m (w i) (w j)
    holds_at_rest = record {
      awake = λ up. (awake_below up, same_below up);
      resetting =
          λ up. ⊎_elim (λ same. inl same) (λ other. inr (differing_below up other))
          (cases_eq (w i).session (w j).session);
    }

  pub no_mend_where_sound : WaveSound g m t w → (i : ℕ) → Mends g m t w i → ⊥
  no_mend_where_sound sound i (mend_reset j father up own) = true≢false (sym own ∙ ((sound i j father).awake up).0)
  no_mend_where_sound sound i (mend_number j father up own other) = other ((sound i j father).awake up).1
  no_mend_where_sound sound i (mend_both j father up own other) =
      ⊎_elim other (λ late. true≢false (sym own ∙ late.0)) ((sound i j father).resetting up)
  no_mend_where_sound sound i (mend_late j father up own other further) =
      ⊎_elim (λ same. other (sym same)) (λ late. further late.1) ((sound i j father).resetting up)

pub rests_where_sound : (g : Graph) (m : ℕ) (t : ℕ → TreeRegs) (w : ℕ → WaveRegs)
    → (((i : ℕ) → Mends g m t w i → ⊥) ↔ WaveSound g m t w)
rests_where_sound g m t w =
    ((λ rests i j father. holds_at_rest g m t w i j (rests i) father), no_mend_where_sound g m t w)
