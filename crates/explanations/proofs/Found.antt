-- What is found in one table or else in the next is what is found in both, one after the other.
use Rattle.std.proofs.Common.{◌≡◌, ℕ, Bool, List, ◌++◌, Option, Some, None, find, option_map, refl, sym, ap, ap₂, ◌∙◌}
use Rattle.std.specs.Option.{option_or}
use Rattle.std.specs.Str.{bytes_eq}
use Rattle.std.proofs.lemmas.List.Folds.{find-append}
use Rattle.explanations.specs.Explained.{text_in}

pub mapped : {X Y : Type 0} (f : X → Y) (a b : Option X)
    → option_map f (option_or a b) ≡ option_or (option_map f a) (option_map f b)
mapped f None b = refl
mapped f (Some x) b = refl

pub text_in_both : (xs ys : List (List ℕ × List ℕ)) (word : List ℕ)
    → text_in (xs ++ ys) word ≡ option_or (text_in xs word) (text_in ys word)
text_in_both xs ys word =
    let p : List ℕ × List ℕ → Bool = λ e. bytes_eq e.0 word in
    ap (option_map (λ (e : List ℕ × List ℕ). e.1)) (find-append p xs ys)
    ∙ mapped (λ (e : List ℕ × List ℕ). e.1) (find p xs) (find p ys)

pub found_or : {X : Type 0} (f : X → List ℕ) (r a b : Option X) (xs ys : List (List ℕ × List ℕ)) (word : List ℕ)
    → option_map f a ≡ text_in xs word → option_map f b ≡ text_in ys word → r ≡ option_or a b
    → option_map f r ≡ text_in (xs ++ ys) word
found_or f r a b xs ys word first second is =
    ap (option_map f) is ∙ mapped f a b ∙ ap₂ option_or first second ∙ sym (text_in_both xs ys word)
