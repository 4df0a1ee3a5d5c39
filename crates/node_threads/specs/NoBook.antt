-- The book that stands for none: it has no nodes, no entries and no room.
use Rattle.std.specs.Prelude.{[]}
use Rattle.std.specs.FinSet as set
use Rattle.reset_model.specs.Configuration.{Configuration, configuration}
use Rattle.history.specs.Book.{BookView}

abbrev pub no_nodes : {L : Type 0} → Configuration L
no_nodes = configuration (record { ids = []; nodes = []; links = set.empty }) 0 [] [] []

abbrev pub no_book : {L : Type 0} → BookView L
no_book = record { opening = no_nodes; entries = []; config = no_nodes; limit = 0 }
