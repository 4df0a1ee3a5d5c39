-- An application as its scripts and its outputs have it.
use Rattle.std.specs.Prelude.{ℕ, List, Option, None, codes}
use Rattle.app_interface.specs.Application.{App}
use Rattle.app_interface.specs.Idle.{idle, idle_from_text}
use Rattle.app_token.specs.Token.{token, token_names}
use Rattle.app_token.specs.LocalText as token_text
use Rattle.app_token.specs.declared.local.TokenLocal.{TokenLocal}
use Rattle.app_mutex.specs.Mutex.{mutex, mutex_names}
use Rattle.app_mutex.specs.LocalText as mutex_text
use Rattle.app_mutex.specs.declared.local.MutexLocal.{MutexLocal}
use Rattle.app_routes.specs.Routes.{routes, routes_names}
use Rattle.app_routes.specs.LocalText.{routes_from_text, routes_text}
use Rattle.app_routes.specs.declared.entry.Entry.{Entry}
use Rattle.app_invariants.specs.Counts.{idle_count, tokens, turns_lacked, ways_lacked}
use Rattle.app_invariants.specs.Verdicts.{Count}

-- what it does, the text of a local state, the local state with a text, where there is one, the names of its cases, and
-- what is counted to decide its invariant
pub record Meaning (L : Type 0) : Type 0 where
  pub app : App L
  pub text : L → List ℕ
  pub from_text : List ℕ → Option L
  pub names : ℕ → Option (List ℕ)
  pub counts : Count L

abbrev pub meaning_of : {L : Type 0} → App L → (L → List ℕ) → (List ℕ → Option L) → (ℕ → Option (List ℕ)) → Count L
    → Meaning L
meaning_of app text from_text names counts =
    record { app = app; text = text; from_text = from_text; names = names; counts = counts }

abbrev pub idle_meaning : Meaning (Unit {0})
idle_meaning = meaning_of idle (λ local. codes "-") idle_from_text (λ case. None) idle_count

abbrev pub token_meaning : Meaning TokenLocal
token_meaning = meaning_of token token_text.local_text token_text.token_from_text token_names tokens

abbrev pub mutex_meaning : Meaning MutexLocal
mutex_meaning = meaning_of mutex mutex_text.local_text mutex_text.mutex_from_text mutex_names turns_lacked

abbrev pub routes_meaning : Meaning (List Entry)
routes_meaning = meaning_of routes routes_text routes_from_text routes_names ways_lacked
