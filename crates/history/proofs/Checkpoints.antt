-- Checkpoints, as entries and checkpoints are added.
use Rattle.std.proofs.Common.{◌≡◌, ℕ, zero, suc, ◌*◌, ◌/◌, ◌<◌, ◌≤◌, List, [], ◌∷◌, ◌++◌, length, take, Option, Some}
use Rattle.std.proofs.Common.{slice_get, refl, ap, ◌∙◌, arith}
use Rattle.std.proofs.lemmas.List.{length-append, take-append-le, take_all}
use Rattle.std.proofs.Common.{get_or}
use Rattle.std.proofs.lemmas.Option.{slice_get_read, slice_get_within}
use Rattle.app_interface.specs.Application.{App}
use Rattle.reset_model.specs.Configuration.{Configuration}
use Rattle.history.specs.declared.entry.Entry.{Entry}
use Rattle.history.specs.Entries.{replayed}
use Rattle.history.specs.Segments.{AreCheckpoints}

-- an item of a list with one more is one of the list, or the last
get_more : {X P : Type 0} (xs : List X) (last x : X) (k : ℕ) → slice_get (xs ++ last ∷ []) k ≡ Some x
    → (slice_get xs k ≡ Some x → P) → (k ≡ length xs → last ≡ x → P) → P
get_more [] last x zero is old new = new refl (let same : last ≡ x = cc in same)
get_more [] last x (suc k) is old new = absurd (cc)
get_more (y ∷ ys) last x zero is old new = old is
get_more (y ∷ ys) last x (suc k) is old new = get_more ys last x k is old (λ at. new (ap suc at))

module _ {L : Type 0} (app : App L) (from_text : List ℕ → Option L) where
  -- an entry more
  pub checkpoints_stay : (c : Configuration L) (es : List Entry) (e : Entry) (cs : List (Configuration L))
      → AreCheckpoints app from_text c es cs → length es < length cs * 1024
      → AreCheckpoints app from_text c (es ++ e ∷ []) cs
  checkpoints_stay c es e cs were covered = record {
    each = λ k here at.
        let before : k * 1024 ≤ length es = omega (arith, slice_get_within cs k here at, were.reached) in
        ap (replayed app from_text c) (take-append-le (k * 1024) es (e ∷ []) before) ∙ were.each k here at;
    reached = omega (arith, were.reached, length-append es (e ∷ []));
    enough = omega (arith, covered, length-append es (e ∷ []));
  }

  -- a checkpoint more, where each segment before it is full
  pub checkpoints_more : (c d : Configuration L) (es : List Entry) (cs : List (Configuration L))
      → AreCheckpoints app from_text c es cs → replayed app from_text c es ≡ Some d → length cs ≤ length es / 1024
      → AreCheckpoints app from_text c es (cs ++ d ∷ [])
  checkpoints_more c d es cs were now full = record {
    each = λ k here at.
        get_more cs d here k at (were.each k here)
        (λ last same.
        ap (replayed app from_text c) (take_all (k * 1024) es (omega (arith, last, were.enough))) ∙ now ∙ ap Some same);
    reached = omega (arith, full, length-append cs (d ∷ []));
    enough = omega (arith, were.enough, length-append cs (d ∷ []));
  }

  -- the checkpoint of the segment of the entry at this index
  pub checkpoint_before : (c here : Configuration L) (es : List Entry) (cs : List (Configuration L)) (index : ℕ)
      → AreCheckpoints app from_text c es cs → index < length es → here ≡ get_or cs (index / 1024) here
      → replayed app from_text c (take (index / 1024 * 1024) es) ≡ Some here
  checkpoint_before c here es cs index are inside is =
      let place : index / 1024 < length cs = omega (arith, inside, are.enough) in
      are.each (index / 1024) here (slice_get_read cs (length cs) (index / 1024) here refl place is)
