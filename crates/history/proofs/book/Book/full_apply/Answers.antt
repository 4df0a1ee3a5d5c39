use Rattle.std.proofs.Common.{refl}
use Rattle.history.proofs.book.Book.full_apply.Goals as goal

pub returns-then-view_is : goal.returns-then-view_is
returns-then-view_is g c = (rw (← c.self.view_is) (c.if-view_is.ensures.0 refl), c.requires)
