-- The bands of entries that are played one after another.
use Rattle.std.proofs.Common.{◌≡◌, ℕ, suc, ◌+◌, ◌<◌, List, [], ◌∷◌, ◌++◌, length, drop, Option, Some, IsSome}
use Rattle.std.proofs.Common.{sym, slice_index_or, refl, ap, subst, ◌∙◌, add-one, drop-cons, append_assoc}
use Rattle.std.specs.Option.{option_map_or}
use Rattle.app_interface.specs.Application.{App}
use Rattle.reset_model.specs.Configuration.{Configuration}
use Rattle.history.specs.declared.entry.Entry.{Entry}
use Rattle.history.specs.Entries.{entered, replayed}
use Rattle.history.proofs.Replays.{next_replayed}
use Rattle.space_time_diagram.specs.declared.band.Band.{Band}
use Rattle.space_time_diagram.specs.Bands.{bands_from, begun_band, entry_node, shown_of}

-- the entry at an index, and those after it
entry_and_rest : (es : List Entry) (i : ℕ) (x : Entry) → i < length es → x ≡ slice_index_or es i x
    → drop i es ≡ x ∷ drop (i + 1) es
entry_and_rest es i x short is =
    drop-cons es i x short ∙ ap (λ e. e ∷ drop (suc i) es) (sym is) ∙ ap (λ k. x ∷ drop k es) (sym (add-one i))

module _ {L : Type 0} (app : App L) (from_text : List ℕ → Option L) where
  -- what follows an entry is allowed after it
  pub rest_allowed : (c d : Configuration L) (es : List Entry) (i : ℕ) (x : Entry) → i < length es
      → x ≡ slice_index_or es i x → entered app from_text c x ≡ Some d → IsSome (replayed app from_text c (drop i es))
      → IsSome (replayed app from_text d (drop (i + 1) es))
  rest_allowed c d es i x short is here some =
      subst (λ o. IsSome o) (sym (next_replayed app from_text c d es i x short is here)) some

  bands_next : (lane : ℕ → Option ℕ) (count place : ℕ) (c d : Configuration L) (es : List Entry) (i : ℕ) (x : Entry)
      → i < length es → x ≡ slice_index_or es i x → entered app from_text c x ≡ Some d
      → bands_from app from_text lane count c place (drop i es)
      ≡ begun_band (lane (entry_node x)) count place (entry_node x) (shown_of d (entry_node x))
      ++ bands_from app from_text lane count d (place + 1) (drop (i + 1) es)
  unfolding bands_from
  bands_next lane count place c d es i x short is here =
      ap (bands_from app from_text lane count c place) (entry_and_rest es i x short is)
      ∙ ap (λ o. option_map_or (λ after. begun_band (lane (entry_node x)) count place (entry_node x)
      (shown_of after (entry_node x))
      ++ bands_from app from_text lane count after (place + 1) (drop (i + 1) es)) o []) here

  -- one band more
  pub bands_more : (lane : ℕ → Option ℕ) (count place : ℕ) (c d : Configuration L) (es : List Entry) (i : ℕ) (x : Entry)
      (before : List Band) → i < length es → x ≡ slice_index_or es i x → entered app from_text c x ≡ Some d
      → (before ++ begun_band (lane (entry_node x)) count place (entry_node x) (shown_of d (entry_node x)))
      ++ bands_from app from_text lane count d (place + 1) (drop (i + 1) es)
      ≡ before ++ bands_from app from_text lane count c place (drop i es)
  bands_more lane count place c d es i x before short is here =
      append_assoc before _ _ ∙ ap (λ bs. before ++ bs) (sym (bands_next lane count place c d es i x short is here))

  -- none is left where no entry is
  pub bands_none : (lane : ℕ → Option ℕ) (count place : ℕ) (c : Configuration L)
      → bands_from app from_text lane count c place [] ≡ []
  unfolding bands_from
  bands_none lane count place c = refl
