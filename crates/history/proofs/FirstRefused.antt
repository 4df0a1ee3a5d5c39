-- Entries have at most one first that isn't allowed where it stands, and none where all are.
use Rattle.std.proofs.Common.{◌≡◌, ℕ, suc, ◌+◌, List, [], ◌∷◌, ◌++◌, Option, Some, None, IsSome, length}
use Rattle.std.proofs.Common.{refl, sym, ap, ◌∙◌}
use Rattle.std.specs.Option.{option_and_then}
use Rattle.app_interface.specs.Application.{App}
use Rattle.reset_model.specs.Configuration.{Configuration}
use Rattle.history.specs.declared.entry.Entry.{Entry}
use Rattle.history.specs.Entries.{IsFirstRefused, entered, replayed}

some_is : {A : Type 0} (o : Option A) (a : A) → o ≡ Some a → IsSome o
some_is None a is = absurd (cc)
some_is (Some b) a is = refl

module _ {L : Type 0} (app : App L) (from_text : List ℕ → Option L) where
  -- what the first entry leaves, and the others after it
  after_first : (c left : Configuration L) (e : Entry) (es : List Entry) → replayed app from_text c (e ∷ es) ≡ Some left
      → (a : Configuration L) × (entered app from_text c e ≡ Some a) × (replayed app from_text a es ≡ Some left)
  unfolding replayed
  after_first c left e es = of (entered app from_text c e)
    where
      of : (o : Option (Configuration L)) → option_and_then (λ after. replayed app from_text after es) o ≡ Some left
          → (a : Configuration L) × (o ≡ Some a) × (replayed app from_text a es ≡ Some left)
      of None is = absurd (cc)
      of (Some a) is = (a, refl, is)

  onward : (c a : Configuration L) (e : Entry) (es : List Entry) → entered app from_text c e ≡ Some a
      → replayed app from_text c (e ∷ es) ≡ replayed app from_text a es
  unfolding replayed
  onward c a e es is = rw is refl

  at_once : (c left : Configuration L) (e : Entry) → replayed app from_text c [] ≡ Some left
      → entered app from_text left e ≡ None → entered app from_text c e ≡ None
  unfolding replayed
  at_once c left e h refused = let same : c ≡ left = cc in rw same refused

  -- where entries are allowed and the next isn't, nothing that begins with these is allowed
  stops : (c left : Configuration L) (before rest : List Entry) (e : Entry)
      → replayed app from_text c before ≡ Some left → entered app from_text left e ≡ None → (end : Configuration L)
      → replayed app from_text c (before ++ e ∷ rest) ≡ Some end → ⊥
  stops c left [] rest e h refused end is =
      let (a, entered_as, more) = after_first c end e rest is in
      let none = at_once c left e h refused in absurd (cc)
  stops c left (x ∷ before) rest e h refused end is =
      let (a, entered_as, more) = after_first c left x before h in
      stops a left before rest e more refused end (sym (onward c a x (before ++ e ∷ rest) entered_as) ∙ is)

  stops_once : (c left left' : Configuration L) (before before' rest rest' : List Entry) (e e' : Entry)
      → before ++ e ∷ rest ≡ before' ++ e' ∷ rest' → replayed app from_text c before ≡ Some left
      → entered app from_text left e ≡ None → replayed app from_text c before' ≡ Some left'
      → entered app from_text left' e' ≡ None → length before ≡ length before'
  stops_once c left left' [] [] rest rest' e e' is h refused h' refused' = refl
  stops_once c left left' [] (x ∷ before') rest rest' e e' is h refused h' refused' =
      let first : e ≡ x = cc in
      absurd (stops c left [] before' e h refused left' (rw first h'))
  stops_once c left left' (x ∷ before) [] rest rest' e e' is h refused h' refused' =
      let first : e' ≡ x = cc in
      absurd (stops c left' [] before e' h' refused' left (rw first h))
  stops_once c left left' (x ∷ before) (y ∷ before') rest rest' e e' is h refused h' refused' =
      let first : y ≡ x = cc in
      let others : before ++ e ∷ rest ≡ before' ++ e' ∷ rest' = cc in
      let (a, entered_as, more) = after_first c left x before h in
      let there : replayed app from_text c (x ∷ before') ≡ Some left' = rw (← first) h' in
      let same = stops_once a left left' before before' rest rest' e e' others more refused
      (sym (onward c a x before' entered_as) ∙ there) refused' in
      ap suc same

  pub one_first_refused : (c : Configuration L) (es : List Entry) (p q : ℕ) → IsFirstRefused app from_text c es p
      → IsFirstRefused app from_text c es q → p ≡ q
  one_first_refused c es p q a b =
      let same = stops_once c a.left b.left a.before b.before a.rest b.rest a.entry b.entry (sym a.split ∙ b.split)
      a.allowed a.refused b.allowed b.refused in
      a.place ∙ ap (λ n. n + 1) same ∙ sym b.place

  pub not_allowed : (c : Configuration L) (es : List Entry) (p : ℕ) → IsFirstRefused app from_text c es p
      → IsSome (replayed app from_text c es) → ⊥
  not_allowed c es p a = of (replayed app from_text c es) refl
    where
      of : (o : Option (Configuration L)) → replayed app from_text c es ≡ o → IsSome o → ⊥
      of None is some = absurd (cc)
      of (Some end) is some =
          stops c a.left a.before a.rest a.entry a.allowed a.refused end
          (ap (replayed app from_text c) (sym a.split) ∙ is)
