use Rattle.node_threads.proofs.Entering.{own_continuation}
use Rattle.node_threads.proofs.run.lemma_stands.Goals as goal

pub returns : goal.returns
returns g c =
    own_continuation g.P.Application.app g.P.Application.from_text c.args.book.now c.lemma_is_book.ensures
