-- What lines say, and one line more.
use Rattle.std.proofs.Common.{◌≡◌, ℕ, ◌+◌, List, [], ◌∷◌, ◌++◌, length, Option, None, sym, ap, ◌∙◌, subst, arith}
use Rattle.topology.specs.Changing.{first_of}
use Rattle.topology.specs.Graph.{Graph}
use Rattle.applications.specs.Meaning.{Meaning}
use Rattle.snapshots.specs.Reading.{Say, Says, said_refusals, with_said}
use Rattle.snapshots.specs.declared.item.Item.{Item}

module _ {L : Type 0} (m : Meaning L) (g : Graph) where
  pub say_more : (n k : ℕ) (lines : List (List ℕ)) (line : List ℕ) (before items : List (Item L))
      (said : Option (Item L)) → Say m g n before lines items → k ≡ n + length lines → Says m k line said
      → first_of (said_refusals g items said) ≡ None → Say m g n before (lines ++ line ∷ []) (with_said items said)
  say_more n k [] line before items said h at says none =
      let P : List (Item L) → Type 0 = λ is. first_of (said_refusals g is said) ≡ None in
      let same : k ≡ n = omega (arith, at) in (
        said,
        subst (λ i. Says m i line said) same says,
        subst P (sym h) none,
        ap (λ is. with_said is said) h,
      )
  say_more n k (first ∷ lines) line before items said h at says none = (
    h.0,
    h.1,
    h.2,
    say_more (n + 1) k lines line (with_said before h.0) items said h.3 (omega (arith, at)) says none,
  )

  -- the last line of a text
  pub say_last : (n : ℕ) (all lines rest : List (List ℕ)) (line : List ℕ) (items : List (Item L))
      (said : Option (Item L)) → all ≡ lines ++ rest → rest ≡ line ∷ [] → Say m g 1 [] lines items
      → n ≡ length lines + 1 → Says m n line said → first_of (said_refusals g items said) ≡ None
      → Say m g 1 [] all (with_said items said)
  say_last n all lines rest line items said split last h at says none =
      let P : List (List ℕ) → Type 0 = λ ls. Say m g 1 [] ls (with_said items said) in
      subst P (sym (split ∙ ap (λ ls. lines ++ ls) last))
      (say_more 1 n lines line [] items said h (omega (arith, at)) says none)
