-- What is said of the application with a name.
use Rattle.std.proofs.Common.{◌≡◌, ℕ, sym, subst}
use Rattle.topology.specs.Graph.{Graph}
use Rattle.topology.specs.declared.text.AppName.{AppName}
use Rattle.topology.specs.declared.text.AppName.TheVariants.{Idle, Token, Mutex, Routes}
use Rattle.app_token.specs.OneToken.{HasOneToken}
use Rattle.app_mutex.specs.Turns.{HoldsTurns}
use Rattle.app_routes.specs.Ways.{HasRoutes}
use Rattle.applications.specs.Choice.{ForApp, ForInvariant, OfInvariant, OfMeaning}
use Rattle.applications.specs.Meaning.{Meaning, idle_meaning, token_meaning, mutex_meaning, routes_meaning}

-- what holds of the application with a name holds of that with the same name
pub by_name : (F : OfMeaning) (name same : AppName) → name ≡ same → ForApp F same → ForApp F name
by_name F name same is holds = subst (ForApp F) (sym is) holds

-- ---- from the four to the one with a name

pub each_app : (F : OfMeaning) → F _ idle_meaning → F _ token_meaning → F _ mutex_meaning → F _ routes_meaning
    → (app : AppName) → ForApp F app
each_app F idle token mutex routes Idle = idle
each_app F idle token mutex routes Token = token
each_app F idle token mutex routes Mutex = mutex
each_app F idle token mutex routes Routes = routes

pub each_invariant : (F : OfInvariant) → F _ idle_meaning (λ g v. Unit {0}) → F _ token_meaning HasOneToken
    → F _ mutex_meaning HoldsTurns → F _ routes_meaning HasRoutes → (app : AppName) → ForInvariant F app
each_invariant F idle token mutex routes Idle = idle
each_invariant F idle token mutex routes Token = token
each_invariant F idle token mutex routes Mutex = mutex
each_invariant F idle token mutex routes Routes = routes

-- ---- what follows of any application, follows of the one with a name

pub both_follow : (F G H : OfMeaning) → ((L : Type 0) (m : Meaning L) → F L m → G L m → H L m) → (app : AppName)
    → ForApp F app → ForApp G app → ForApp H app
both_follow F G H f Idle = f _ _
both_follow F G H f Token = f _ _
both_follow F G H f Mutex = f _ _
both_follow F G H f Routes = f _ _

pub invariant_follows : (F H : OfInvariant) (G : OfMeaning)
    → ((L : Type 0) (m : Meaning L) (Inv : Graph → (ℕ → L) → Type 0) → F L m Inv → G L m → H L m Inv)
    → (app : AppName) → ForInvariant F app → ForApp G app → ForInvariant H app
invariant_follows F H G f Idle = f _ _ _
invariant_follows F H G f Token = f _ _ _
invariant_follows F H G f Mutex = f _ _ _
invariant_follows F H G f Routes = f _ _ _

pub follows : (F G : OfMeaning) → ((L : Type 0) (m : Meaning L) → F L m → G L m) → (app : AppName) → ForApp F app
    → ForApp G app
follows F G f app holds = both_follow F F G (λ L m one other. f L m one) app holds holds

-- ---- what isn't said of the application

-- two things that hold of it have a consequence
pub agree : (F G : OfMeaning) (C : Type 0) → ((L : Type 0) (m : Meaning L) → F L m → G L m → C) → (app : AppName)
    → ForApp F app → ForApp G app → C
agree F G C f Idle = f _ _
agree F G C f Token = f _ _
agree F G C f Mutex = f _ _
agree F G C f Routes = f _ _

-- there is something of which a thing holds
pub some_for : {X : Type 0} (F : (L : Type 0) → Meaning L → X → Type 0) (app : AppName)
    → ForApp (λ L m. (x : X) × F L m x) app → (x : X) × ForApp (λ L m. F L m x) app
some_for F Idle found = found
some_for F Token found = found
some_for F Mutex found = found
some_for F Routes found = found

-- what is said of what comes of it, within anything that is said of that
pub within : {X : Type 0} (W : (X → Type 0) → Type 0) (F : (L : Type 0) → Meaning L → X → Type 0) (app : AppName)
    → ForApp (λ L m. W (F L m)) app → W (λ x. ForApp (λ L m. F L m x) app)
within W F Idle held = held
within W F Token held = held
within W F Mutex held = held
within W F Routes held = held

-- the same of a pair of things
pub within_both : {X Y : Type 0} (W : (X → Y → Type 0) → Type 0) (F : (L : Type 0) → Meaning L → X → Y → Type 0)
    (app : AppName) → ForApp (λ L m. W (F L m)) app → W (λ x y. ForApp (λ L m. F L m x y) app)
within_both W F Idle held = held
within_both W F Token held = held
within_both W F Mutex held = held
within_both W F Routes held = held

-- the same, of something of which a thing holds that isn't said of the application
pub some_within : {X Y : Type 0} (N : X → Type 0) (W : (Y → Type 0) → Type 0)
    (F : (L : Type 0) → Meaning L → X → Y → Type 0) (app : AppName) → ForApp (λ L m. (x : X) × N x × W (F L m x)) app
    → (x : X) × N x × W (λ y. ForApp (λ L m. F L m x y) app)
some_within N W F Idle found = found
some_within N W F Token found = found
some_within N W F Mutex found = found
some_within N W F Routes found = found
