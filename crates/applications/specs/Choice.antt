-- What is said of the application with a name.
use Rattle.std.specs.Prelude.{ℕ}
use Rattle.topology.specs.Graph.{Graph}
use Rattle.topology.specs.declared.text.AppName.{AppName}
use Rattle.topology.specs.declared.text.AppName.TheVariants.{Idle, Token, Mutex, Routes}
use Rattle.app_token.specs.OneToken.{HasOneToken}
use Rattle.app_mutex.specs.Turns.{HoldsTurns}
use Rattle.app_routes.specs.Ways.{HasRoutes}
use Rattle.applications.specs.Meaning.{Meaning, idle_meaning, token_meaning, mutex_meaning, routes_meaning}

-- what can be said of an application, whatever its local states are
abbrev pub OfMeaning : Type 1
OfMeaning = (L : Type 0) → Meaning L → Type 0

-- it holds of the application with this name
abbrev pub ForApp : OfMeaning → AppName → Type 0
ForApp F Idle = F _ idle_meaning
ForApp F Token = F _ token_meaning
ForApp F Mutex = F _ mutex_meaning
ForApp F Routes = F _ routes_meaning

-- the same of an application and its invariant
abbrev pub OfInvariant : Type 1
OfInvariant = (L : Type 0) → Meaning L → (Graph → (ℕ → L) → Type 0) → Type 0

abbrev pub ForInvariant : OfInvariant → AppName → Type 0
ForInvariant F Idle = F _ idle_meaning (λ g v. Unit {0})
ForInvariant F Token = F _ token_meaning HasOneToken
ForInvariant F Mutex = F _ mutex_meaning HoldsTurns
ForInvariant F Routes = F _ routes_meaning HasRoutes
