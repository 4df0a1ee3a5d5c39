use Rattle.std.proofs.Common.{List, [], subst, sym}
use Rattle.applications.specs.Meaning.{meaning_of}
use Rattle.script_replay.specs.Lines.{lines_of}
use Rattle.snapshots.specs.Named.{AreNamed}
use Rattle.snapshots.specs.declared.item.Item.{Item}
use Rattle.snapshots.proofs.Alike.{alike}
use Rattle.snapshots.proofs.OneReading.{one_list}
use Rattle.snapshots.proofs.laws.one_snapshot.Goals as goal

pub returns-clause-items : goal.returns-clause-items
returns-clause-items g c = λ graph modulus items a b. alike g.P.Application.app graph modulus items a b

pub returns-clause-text : goal.returns-clause-text
returns-clause-text g c = λ graph modulus text a b of_a of_b.
    let m =
    meaning_of g.P.Application.app g.P.Application.text g.P.Application.from_text g.P.Application.names
    g.P.Invariant.counts in
    let P : List (Item g.row.P-Local.Denot) → Type 0 = λ items. AreNamed g.P.Application.app graph modulus items b in
    let same = one_list m graph 1 [] (lines_of text) of_a.0 of_b.0 of_a.1.said of_b.1.said in
    alike g.P.Application.app graph modulus of_a.0 a b of_a.2 (subst P (sym same) of_b.2)
