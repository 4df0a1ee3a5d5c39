use Rattle.std.proofs.Common.{◌<◌, ◌^◌, sym, ◌∙◌, length, rules, arith}
use Rattle.app_routes.specs.declared.entry.Entry.{Entry}
use Rattle.app_routes.proofs.Pulling.{took, left}
use Rattle.app_routes.proofs.pull.pulled.Goals as goal
use Rattle.app_routes.proofs.pull.pulled.Goals.{then-is_better+in_ok-put, else-is_better}

pub loop-entry-preserved : goal.loop-entry-preserved
loop-entry-preserved c =
    let small : c.args.bound < 2 ^ 32 = search rules in
    let within : c.loop-entry.entry-index < length c.args.theirs.now = omega arith in
    let none : Entry = record { destination = 0; hops = 0; next = 0 } in
    let inv = c.loop-entry.invariant in
    elim c.if-is_better.branch [
      | then-is_better+in_ok-put w ↦
          rw w.entries-is
          (took c.args.bound c.args.neighbour c.args.own.now c.args.theirs.now c.requires.neighbour small
          c.requires.theirs c.loop-entry.entries.items c.loop-entry.entry-index none within
          inv.0 inv.1 (sym c.is_better.ensures ∙ w.if-is_better.true) w.put.new.entries.items w.in_ok-put.ensures)
      | else-is_better w ↦
          rw w.entries-is
          (left c.args.bound c.args.neighbour c.args.own.now c.args.theirs.now c.requires.neighbour small
          c.requires.theirs c.loop-entry.entries.items c.loop-entry.entry-index none within
          inv.0 inv.1 (sym c.is_better.ensures ∙ w.if-is_better.false))
    ]
