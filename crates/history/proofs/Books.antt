-- What keeps a book keeps it with room for more, and with an entry more.
use Rattle.std.proofs.Common.{◌≡◌, ℕ, ◌<◌, List, [], ◌∷◌, ◌++◌, length, Option, ap, arith}
use Rattle.std.proofs.lemmas.List.{length_push}
use Rattle.std.proofs.lemmas.List.Elements.{All-push}
use Rattle.app_interface.specs.Application.{App}
use Rattle.history.specs.declared.entry.Entry.{Entry}
use Rattle.history.specs.declared.log.Log.{Log}
use Rattle.history.specs.declared.player.Player.{Player}
use Rattle.history.specs.Book.{IsKept}
use Rattle.history.specs.HistoryText.{HasLine}
use Rattle.history.specs.Played.{HasPlayed}
use Rattle.history.specs.Segments.{IsLog, entries_of}

module _ {P L : Type 0} (app : App L) (from_text : List ℕ → Option L) (player : Player P L) (log : Log P L) (limit : ℕ)
    (kept : IsKept app from_text player log limit) where
  -- a log of the same entries, and a player of them
  pub kept_with_room : (player' : Player P L) (log' : Log P L) → log'.opening ≡ log.opening
      → entries_of log'.segments ≡ entries_of log.segments → IsLog app from_text log'
      → HasPlayed app from_text log.opening.value (entries_of log.segments) player'
      → IsKept app from_text player' log' limit
  kept_with_room player' log' opening same is played =
      let opens : log'.opening.value ≡ log.opening.value = ap (λ o. o.value) opening in
      (rw (same, opens) played, rw same kept.1, kept.2, rw same kept.3, is, rw opens kept.5, rw opens kept.6)

  -- a log of an entry more, and a player of it
  pub kept_with_entry : (player' : Player P L) (log' : Log P L) (entry : Entry) → log'.opening ≡ log.opening
      → entries_of log'.segments ≡ entries_of log.segments ++ entry ∷ [] → IsLog app from_text log'
      → HasPlayed app from_text log.opening.value (entries_of log.segments ++ entry ∷ []) player'
      → HasLine entry → length (entries_of log.segments) < limit
      → IsKept app from_text player' log' limit
  kept_with_entry player' log' entry opening more is played line room =
      let es = entries_of log.segments in
      let opens : log'.opening.value ≡ log.opening.value = ap (λ o. o.value) opening in (
        rw (more, opens) played,
        rw more (omega (arith, length_push es entry)),
        kept.2,
        rw more (All-push HasLine es entry kept.3 line),
        is,
        rw opens kept.5,
        rw opens kept.6,
      )
