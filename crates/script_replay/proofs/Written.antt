-- What a run ends as that wrote something last.
use Rattle.std.proofs.Common.{◌≡◌, Result, Ok, Err}
use Rattle.std.specs.Prelude.{IfOk, IfErr, OnOk, OnErr}
use Rattle.script_replay.specs.declared.status.RunStop.{RunStop}
use Rattle.script_replay.specs.declared.status.RunStop.TheVariants.{WriteFailed}

module _ {D E : Type 0} (put : Result D E) (r : Result D RunStop) (ok : IfOk put (λ done. r ≡ Ok done))
    (err : IfErr put (λ fault. r ≡ Err WriteFailed)) where
  pub written_ok : {A B : Type 0} → (A → B) → OnOk put A → OnOk r B
  written_ok {A = A} {B = B} f a = go put ok err a
    where
      go : (put : Result D E) → IfOk put (λ done. r ≡ Ok done) → IfErr put (λ fault. r ≡ Err WriteFailed) → OnOk put A
          → OnOk r B
      go (Ok d) is _ a = rw is (f a)
      go (Err e) _ is a = rw is tt

  pub written_err : (A : Type 0) → OnErr put A → OnErr r A
  written_err A a = go put ok err a
    where
      go : (put : Result D E) → IfOk put (λ done. r ≡ Ok done) → IfErr put (λ fault. r ≡ Err WriteFailed) → OnErr put A
          → OnErr r A
      go (Ok d) is _ a = rw is tt
      go (Err e) _ is a = rw is a
