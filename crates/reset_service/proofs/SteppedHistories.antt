-- Histories that are verified tell steps.
use Rattle.std.proofs.Common.{◌≡◌, ℕ, List, Ok, ap, subst}
use Rattle.topology.specs.Graph.{Graph, IsGraph}
use Rattle.topology.specs.declared.text.AppName.{AppName}
use Rattle.applications.specs.Choice.{ForInvariant}
use Rattle.applications.specs.Meaning.{Meaning}
use Rattle.applications.proofs.Choosing.{invariant_follows}
use Rattle.history.specs.HistoryText.{IsReadAs}
use Rattle.script_replay.specs.Output.{Describes}
use Rattle.script_replay.specs.Output.IsJudged.{bad_topology, good_topology}
use Rattle.reset_service.specs.Stepped.{TellsSteps, TellsStepsOf}
use Rattle.reset_service.specs.Verified.{IsVerification, IsVerifiedFrom, IsVerifiedOf}
use Rattle.reset_service.specs.Verified.IsVerified.{allowed, bad_history, not_enabled, other_modulus}
use Rattle.script_replay.specs.declared.status.Status.{Status}
use Rattle.script_replay.specs.declared.status.Status.TheVariants.{BadInput, Good, NotEnabled}
use Rattle.reset_service.proofs.KeptRuns.{AreSteps}
use Rattle.reset_service.proofs.ReadModuli.{read_modulus}
use Rattle.reset_service.proofs.VerifiedReports.{has_graph, is_shaped, is_sound}

abbrev Output : Type 0
Output = List ℕ × Status

module _ {L : Type 0} (m : Meaning L) (Inv : Graph → (ℕ → L) → Type 0) where
  tells_steps : AreSteps m Inv → (g : Graph) → IsGraph g → (modulus : ℕ) (history written : List ℕ)
      → IsVerifiedFrom m g modulus history (written, Good) → TellsSteps m Inv g modulus history
  tells_steps known g graph modulus history written (c, boot, bad_history f bad is) =
      let other : Good ≡ BadInput = ap (λ (o : Output). o.1) is in absurd (cc)
  tells_steps known g graph modulus history written (c, boot, other_modulus k es read apart is) =
      let other : Good ≡ BadInput = ap (λ (o : Output). o.1) is in absurd (cc)
  tells_steps known g graph modulus history written (c, boot, not_enabled es n read first is) =
      let other : Good ≡ NotEnabled = ap (λ (o : Output). o.1) is in absurd (cc)
  tells_steps known g graph modulus history written (c, boot, allowed es read some is) =
      let shaped = is_shaped m g graph modulus c boot (read_modulus history c.modulus es read) in
      record {
        opening = c;
        entries = es;
        booted = boot;
        sound = is_sound m g graph modulus c boot;
        read = subst (λ k. IsReadAs history (Ok (k, es))) boot.modulus read;
        allowed = some;
        stepped = λ s stretch sound. known c es s (has_graph m g graph modulus c boot) shaped stretch sound;
      }

-- ---- by the application's name

module _ (known : (app : AppName) → ForInvariant (λ L m Inv. AreSteps m Inv) app) where
  tells_of : (app : AppName) (g : Graph) → IsGraph g → (modulus : ℕ) (history written : List ℕ)
      → IsVerifiedOf app g modulus history (written, Good) → TellsStepsOf app g modulus history
  tells_of app g graph modulus history written =
      invariant_follows (λ L m Inv. AreSteps m Inv) (λ L m Inv. TellsSteps m Inv g modulus history)
      (λ L m. IsVerifiedFrom m g modulus history (written, Good))
      (λ L m Inv are. tells_steps m Inv are g graph modulus history written) app (known app)

  pub verified_steps : (topology history written : List ℕ) → IsVerification topology history (written, Good)
      → (g : Graph) × (app : AppName) × (modulus : ℕ) × Describes topology g app modulus
      × TellsStepsOf app g modulus history
  verified_steps topology history written (bad_topology f bad is) =
      let other : Good ≡ BadInput = ap (λ (o : Output). o.1) is in absurd (cc)
  verified_steps topology history written (good_topology g app modulus describes verified) = (
    g,
    app,
    modulus,
    describes,
    tells_of app g describes.2.exact.as_graph modulus history written verified,
  )
