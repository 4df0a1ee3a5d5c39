use Rattle.std.proofs.Common.{refl}
use Rattle.history_page.specs.Page.{data_text}
use Rattle.reset_service.proofs.Paging.{page_frame}
use Rattle.reset_service.proofs.page.play_few.Goals as goal

pub returns-in-Ok-clause-leaves : goal.returns-in-Ok-clause-leaves
returns-in-Ok-clause-leaves g c =
    let app = g.P.Application in (
      page_frame
          (data_text app.app app.text app.from_text c.args.title.now c.args.word.now c.args.opening.now
          c.args.entries.now),
      refl,
      c.in-Ok.ensures.ok,
    )
