use Rattle.std.proofs.Common.{◌≤◌, ◌∙◌, ap, sym, arith, drop, take, take_all, length, rules}
use Rattle.std.proofs.lemmas.List.{drop_all}
use Rattle.std.specs.List.{list_all}
use Rattle.node_threads.specs.Locked.{is_step}
use Rattle.node_threads.proofs.sharing.share.Goals as goal

pub invariant_of-new : goal.invariant_of-new
invariant_of-new g c =
    let es = c.args.book.entries in
    let all : length es ≤ length es = omega arith in
    record {
      mark_is = c.len-mark.ensures ∙ ap (λ b. length b.entries) c.requires.book;
      seats = ap (λ b. b.config.graph.nodes) (sym c.requires.book) ∙ c.requires.nodes;
      opening = ap (λ b. b.opening) c.requires.book;
      limit = ap (λ b. b.limit) c.requires.book;
      nodes = c.requires.nodes;
      before =
          ap (λ mark. take mark es) c.len-mark.ensures ∙ take_all (length es) es all
          ∙ ap (λ b. b.entries) c.requires.book;
      counted = search rules;
      steps =
          ap (λ mark. list_all is_step (drop mark es)) c.len-mark.ensures
          ∙ ap (list_all is_step) (drop_all (length es) es all);
    }
