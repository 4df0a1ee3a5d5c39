use Rattle.std.proofs.Common.{◌≡◌, ℕ, true, List, [], ◌∷◌, refl, sym, ap, ◌∙◌, true≢false}
use Rattle.std.specs.Char.{is_ascii_graphic}
use Rattle.std.specs.List.{list_all}
use Rattle.std.proofs.lemmas.Bool.{and_parts}
use Rattle.action_tables.specs.Cuts.{HasNo}
use Rattle.applications.specs.Meaning.{meaning_of}
use Rattle.snapshots.proofs.ReadBack.{read_back}
use Rattle.snapshots.proofs.laws.snapshots_read_back.Goals as goal

printed : (word : List ℕ) → list_all is_ascii_graphic word ≡ true → HasNo 10 word
printed [] h = tt
printed (b ∷ word) h =
    let parts = and_parts (is_ascii_graphic b) (list_all is_ascii_graphic word) h in
    ((λ is. true≢false (sym parts.0 ∙ ap is_ascii_graphic is)), printed word parts.1)

pub returns : goal.returns
returns g c = λ graph config can.
    let app = g.P.Application in
    let laws = g.met.P.Application g.world.𝓛 g.world.𝓜 g.world.𝓡 ((λ s x. x), (λ x. x), (λ x. x), λ x. x) in
    read_back (meaning_of app.app app.text app.from_text app.names g.P.Invariant.counts) app.IsLocal graph config can
    (λ local is. (laws.one_text (app.text local) local).1 (is, refl))
    (λ local is. printed (app.text local) (laws.one_word local is).1)
