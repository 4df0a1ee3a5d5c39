use Rattle.std.proofs.Common.{append-nil, arith, refl, sym}
use Rattle.history.specs.HistoryText.{IsReadAs, first_line, history_text, version_3}
use Rattle.history.proofs.HistoryLines.{all_newest}
use Rattle.history.proofs.text.books_read_back.Goals as goal

pub returns : goal.returns
returns g c b is =
    IsReadAs.history 3 b.config.modulus b.entries (record {
      first = first_line b.config.modulus;
      names = version_3 refl is.modulus refl;
      lines = all_newest b.entries is.lines;
      few = omega (arith, is.room, is.small);
      spelled = sym (append-nil (history_text b.config.modulus b.entries));
    })
