use Rattle.std.proofs.Common.{◌+◌, ap, sym, ◌∙◌, drop, take}
use Rattle.std.specs.List.{list_all}
use Rattle.node_threads.specs.Locked.{is_step}
use Rattle.node_threads.proofs.locked.Locked.lemma_is_locked.Goals as goal

pub returns-clause-continued : goal.returns-clause-continued
returns-clause-continued g c =
    let l = c.args.self.now in
    record {
      book = c.lemma_is_book.ensures;
      opening = l.opening;
      limit = l.limit;
      nodes = l.nodes ∙ sym l.seats;
      before = ap (λ m. take m l.book.entries) (sym l.mark_is) ∙ l.before;
      steps = ap (λ m. list_all is_step (drop m l.book.entries)) (sym l.mark_is) ∙ l.steps;
    }

pub returns-clause-counted : goal.returns-clause-counted
returns-clause-counted g c =
    let l = c.args.self.now in
    ap (λ m. m + l.tally.total) (sym l.mark_is) ∙ l.counted
