-- When two entries are equal.
use Rattle.std.proofs.Common.{◌≡◌, ◌==◌, ◌&&◌, ap}
use Rattle.std.specs.Bool.{Decides}
use Rattle.std.proofs.lemmas.Bool.Decides.{Decides-and, Decides-eqb}
use Rattle.app_routes.specs.LawsOfText.{same_fields}
use Rattle.app_routes.specs.declared.entry.Entry.{Entry}

-- two entries are equal where their parts are
pub same_entry : (a b : Entry)
    → Decides ((a.destination == b.destination) && ((a.hops == b.hops) && (a.next == b.next))) (a ≡ b)
same_entry a b =
    let parts =
    Decides-and (a.destination == b.destination) ((a.hops == b.hops) && (a.next == b.next))
    (Decides-eqb a.destination b.destination)
    (Decides-and (a.hops == b.hops) (a.next == b.next) (Decides-eqb a.hops b.hops) (Decides-eqb a.next b.next)) in (
      λ e. let p = parts.0 e in same_fields a b p.0 p.1.0 p.1.1,
      λ e. parts.1
          (ap (λ x. x.destination) e, (ap (λ x. x.hops) e, ap (λ x. x.next) e)),
    )
