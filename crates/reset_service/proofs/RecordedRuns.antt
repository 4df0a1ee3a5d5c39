-- A verification takes the history of a script.
use Rattle.std.proofs.Common.{◌≤◌, ℕ, List, arith, length, refl}
use Rattle.topology.specs.Graph.{Graph}
use Rattle.topology.specs.declared.text.AppName.{AppName}
use Rattle.reset_model.specs.Configuration.{Configuration}
use Rattle.applications.specs.Meaning.{Meaning}
use Rattle.applications.proofs.Choosing.{follows, some_for}
use Rattle.history.specs.Reports.{reports_of}
use Rattle.script_replay.specs.Output.{Describes, IsJudged}
use Rattle.script_replay.specs.Output.IsJudged.{bad_topology, good_topology}
use Rattle.script_replay.specs.Recorded.{IsHistory, IsRecordFrom, IsRecordOf, IsRecorded}
use Rattle.script_replay.specs.Recorded.IsHistory.{kept, too_long}
use Rattle.script_replay.specs.declared.status.Status.{Status}
use Rattle.script_replay.specs.declared.status.Status.TheVariants.{Good}
use Rattle.script_replay.proofs.OneOutput.{bad_or_good}
use Rattle.reset_service.specs.Verified.{IsVerification, IsVerified, IsVerifiedFrom, IsVerifiedOf, verified_text}
use Rattle.reset_service.specs.Verified.IsVerified.{allowed}

abbrev Output : Type 0
Output = List ℕ × Status

module _ (script history : List ℕ) (output : Output) (short : length script ≤ 1048576) where
  verified : {L : Type 0} (m : Meaning L) (c : Configuration L) → IsHistory m c script history
      → (written : List ℕ) × IsVerified m c history (written, Good)
  verified m c (too_long long is) = absurd (omega (arith, long, short))
  verified m c (kept es few are are_allowed read text) =
      (verified_text (length es) (reports_of m.app m.from_text c es), allowed es read are_allowed refl)

  verified_from : {L : Type 0} (m : Meaning L) (g : Graph) (modulus : ℕ)
      → IsRecordFrom m g modulus script history output
      → (written : List ℕ) × IsVerifiedFrom m g modulus history (written, Good)
  verified_from m g modulus (c, boot, is) = let found = verified m c is.history_is in (found.0, (c, boot, found.1))

  verified_of : (app : AppName) (g : Graph) (modulus : ℕ) → IsRecordOf app g modulus script history output
      → (written : List ℕ) × IsVerifiedOf app g modulus history (written, Good)
  verified_of app g modulus is =
      some_for (λ L m written. IsVerifiedFrom m g modulus history (written, Good)) app
      (follows (λ L m. IsRecordFrom m g modulus script history output)
      (λ L m. (written : List ℕ) × IsVerifiedFrom m g modulus history (written, Good))
      (λ L m. verified_from m g modulus) app is)

  pub recordings_verified : (topology : List ℕ) (g : Graph) (app : AppName) (modulus : ℕ)
      → Describes topology g app modulus → IsRecorded topology script history output
      → (written : List ℕ) × IsVerification topology history (written, Good)
  recordings_verified topology g app modulus describes is = go is.judged
    where
      go : IsJudged (λ app g modulus. IsRecordOf app g modulus script history) topology output
          → (written : List ℕ) × IsVerification topology history (written, Good)
      go (bad_topology f bad is) = absurd (bad_or_good topology f g app modulus bad describes)
      go (good_topology h other another good follows) =
          let found = verified_of other h another follows in
          (found.0, good_topology h other another good found.1)
