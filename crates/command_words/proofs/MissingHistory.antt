-- A session that is told not to sync its history and has none, by what clap found and by the job; and what its fault is.
use Rattle.std.proofs.Common.{◌≡◌, ◌∙◌, ◌&&◌, Bool, not, true, false, refl, sym, ap, ap₂, subst, codes, [], ◌∷◌}
use Rattle.std.proofs.Common.{Option, Some, None, inl, inr}
use Rattle.std.specs.Prelude.{if◌then◌else◌, is_some, option_map}
use Rattle.std.specs.Str.{bytes_eq}
use Rattle.clap.specs.Words.{HasKind, Kinds, Text, first_of, kind_of}
use Rattle.clap.specs.Kinds.{or_else}
use Rattle.clap.specs.declared.error.Error.{Error}
use Rattle.clap.specs.declared.error.ErrorKind.TheVariants.{MissingRequiredArgument}
use Rattle.command_words.specs.Faults.{has_nothing_to_sync, is_without_history, lacks_history}
use Rattle.command_words.specs.Words.{AskedBy, Found, HasSessionWords, is_on, name_in}
use Rattle.command_words.specs.declared.session_words.SessionWords.{SessionWords}
use Rattle.command_words.specs.declared.words.Job.{Job}
use Rattle.command_words.specs.declared.words.Job.TheVariants.{Joined, Replay, Check, Verify, Picture, Record, Threads}
use Rattle.command_words.specs.declared.words.Job.TheVariants.{Drive, Plan, Explore, Session, Page, Shape, Explain, Tables}

twice_not : (b : Bool) → not (not b) ≡ b
twice_not true = refl
twice_not false = refl

mapped_is_some : {A B : Type 0} (f : A → B) (o : Option A) → is_some o ≡ is_some (option_map f o)
mapped_is_some f None = refl
mapped_is_some f (Some a) = refl

-- a subcommand of another name isn't one
other : (found : Found) (name : Text) → bytes_eq name (codes "session") ≡ false → name_in found ≡ Some name
    → false ≡ lacks_history found
other None name differs is = refl
other (Some s) name differs is =
    let same : name ≡ s.0 = cc in
    subst (λ (t : Text). false ≡ (bytes_eq t (codes "session") && has_nothing_to_sync s.1)) same
    (sym (ap (λ b. b && has_nothing_to_sync s.1) differs))

session : (found : Found) (words : SessionWords) → HasSessionWords found words
    → is_without_history (Session words) ≡ lacks_history found
session None words is = let none = is.0 in absurd (cc)
session (Some s) words is =
    let name : codes "session" ≡ s.0 = let named = is.0 in cc in
    let flag : not words.sync ≡ is_on (first_of (codes "no-sync") s.1) = ap not is.4 ∙ twice_not _ in
    let history : is_some words.history ≡ is_some (first_of (codes "history") s.1) =
    mapped_is_some (λ history. history.now) words.history ∙ sym (ap is_some is.3) in
    subst
    (λ (t : Text). is_without_history (Session words) ≡ (bytes_eq t (codes "session") && has_nothing_to_sync s.1))
    name (ap₂ (λ a b. a && not b) flag history)

-- what clap found says of the history what the job says
pub same_lack : (found : Found) (job : Job) → AskedBy found job → is_without_history job ≡ lacks_history found
same_lack found Joined is = subst (λ (f : Found). false ≡ lacks_history f) (sym is) refl
same_lack found (Replay words) is = other found (codes "replay") refl is.0
same_lack found (Check words) is = other found (codes "check") refl is.0
same_lack found (Plan words) is = other found (codes "plan") refl is.0
same_lack found (Explore words) is = other found (codes "explore") refl is.0
same_lack found (Session words) is = session found words is
same_lack found (Verify words) is = other found (codes "verify") refl is.0
same_lack found (Picture words) is = other found (codes "picture") refl is.0
same_lack found (Page words) is = other found (codes "page") refl is.0
same_lack found (Record words) is = other found (codes "record") refl is.0
same_lack found (Threads words) is = other found (codes "threads") refl is.0
same_lack found (Drive words) is = other found (codes "drive") refl is.0
same_lack found (Shape words) is = other found (codes "topology") refl is.0
same_lack found (Explain word) is = other found (codes "explain") refl is.0
same_lack found Tables is = other found (codes "tables") refl is

-- an error of the first kinds is one of both
pub first_kinds : (first next : Kinds) (e : Error) → HasKind first e → HasKind (or_else first next) e
first_kinds [] next e (inl memory) = inl memory
first_kinds [] next e (inr among) = absurd among
first_kinds (k ∷ ks) next e has = has

-- where there are none of the first kinds, those of the flag stand
pub lack_kinds : (first : Kinds) (lacks : Bool) (e : Error) → first ≡ [] → lacks ≡ true → kind_of e ≡ MissingRequiredArgument
    → HasKind (or_else first (if lacks then MissingRequiredArgument ∷ [] else [])) e
lack_kinds first lacks e none is kind =
    subst (λ (ks : Kinds). HasKind (or_else ks (if lacks then MissingRequiredArgument ∷ [] else [])) e) (sym none)
    (subst (λ (b : Bool). HasKind (if b then MissingRequiredArgument ∷ [] else []) e) (sym is) (inr (inl kind)))

-- and where there are none of these either, there are none
pub no_kinds : (first : Kinds) (lacks : Bool) → first ≡ [] → lacks ≡ false
    → or_else first (if lacks then MissingRequiredArgument ∷ [] else []) ≡ []
no_kinds first lacks none is =
    subst (λ (ks : Kinds). or_else ks (if lacks then MissingRequiredArgument ∷ [] else []) ≡ []) (sym none)
    (ap (λ b. if b then MissingRequiredArgument ∷ [] else []) is)
