-- The wave layer: the rows of its table on what one node sees, and its predicate.
use Rattle.std.specs.Prelude.{◌≡◌, ℕ, Bool, true, false, not, ◌&&◌, ◌||◌, ◌==◌, if◌then◌else◌, List, [], ◌∷◌}
use Rattle.std.specs.Prelude.{codes, Option, Result, Ok, Err, ◌⊎◌, nat_lt}
use Rattle.std.specs.List.{list_all, list_any}
use Rattle.action_tables.specs.Table.{Row, fired_naming}
use Rattle.wave_layer.specs.declared.regs.Phase.{Phase}
use Rattle.wave_layer.specs.declared.regs.Phase.TheVariants.{Normal, Initiate, Reset}
use Rattle.wave_layer.specs.declared.regs.WaveRegs.{WaveRegs}
use Rattle.wave_layer.specs.declared.regs.FatherSeen.{FatherSeen}
use Rattle.wave_layer.specs.declared.regs.FatherSeen.TheVariants.{Itself, Lost, Is}
use Rattle.wave_layer.specs.declared.regs.WaveMove.{WaveMove}
use Rattle.wave_layer.specs.declared.regs.WaveRefusal.{WaveRefusal}
use Rattle.wave_layer.specs.declared.regs.WaveRefusal.TheVariants.{NoSuchCase, NotChild, NotEnabled}
use Rattle.wave_layer.specs.Sessions.{next_session}

abbrev pub is_normal : Phase → Bool
is_normal Normal = true
is_normal Initiate = false
is_normal Reset = false

abbrev pub is_initiate : Phase → Bool
is_initiate Normal = false
is_initiate Initiate = true
is_initiate Reset = false

abbrev pub is_reset : Phase → Bool
is_reset Normal = false
is_reset Initiate = false
is_reset Reset = true

-- what one node sees: its registers, its father's, and those of its children, by id; and the number
-- modulo which sessions are counted
pub record LocalView : Type 0 where
  pub own : WaveRegs
  pub father : FatherSeen
  pub children : List (ℕ × WaveRegs)
  pub modulus : ℕ

-- the father register names the node itself
abbrev pub is_root : FatherSeen → Bool
is_root Itself = true
is_root Lost = false
is_root (Is up) = false

-- the father is a neighbour, and passes the test
abbrev pub father_passes : (WaveRegs → Bool) → FatherSeen → Bool
father_passes p Itself = false
father_passes p Lost = false
father_passes p (Is up) = p up

-- the father is a neighbour that is reset
abbrev pub father_reset : FatherSeen → Bool
father_reset father = father_passes (λ up. is_reset up.phase) father

-- the father is a neighbour that is not reset
abbrev pub father_awake : FatherSeen → Bool
father_awake father = father_passes (λ up. not (is_reset up.phase)) father

-- the father's registers, and the node's own where the father is no neighbour
abbrev pub father_regs : WaveRegs → FatherSeen → WaveRegs
father_regs own Itself = own
father_regs own Lost = own
father_regs own (Is up) = up

-- a child is done where it is not reset and has its father's session
abbrev pub is_done : ℕ → WaveRegs → Bool
is_done session child = not (is_reset child.phase) && child.session == session

-- every child is done
abbrev pub children_done : ℕ → List (ℕ × WaveRegs) → Bool
children_done session children = list_all (λ child. is_done session child.1) children

-- some child that is asked is initiate
abbrev pub any_initiate : List (ℕ × WaveRegs) → Bool
any_initiate asked = list_any (λ child. is_initiate child.1.phase) asked

-- the registers become these
abbrev pub becomes : Phase → ℕ → Result WaveMove WaveRefusal
becomes p s = Ok (record { regs = record { phase = p; session = s }; restarts = false; completes = false })

-- the same, and the node's local state becomes its start state
abbrev pub restarts : Phase → ℕ → Result WaveMove WaveRefusal
restarts p s = Ok (record { regs = record { phase = p; session = s }; restarts = true; completes = false })

-- the same as becomes, and the reset is complete
abbrev pub completes : Phase → ℕ → Result WaveMove WaveRefusal
completes p s = Ok (record { regs = record { phase = p; session = s }; restarts = false; completes = true })

-- the rows, where the relay may ask the children in asked
abbrev pub wave_table : LocalView → List (ℕ × WaveRegs) → List (Row (Result WaveMove WaveRefusal))
wave_table v asked =
    let phase = v.own.phase in
    let session = v.own.session in
    let up = father_regs v.own v.father in
    let next = next_session v.modulus session in
    let join = codes "phase, session := reset, session.j; restart" in
    let mend = codes "phase, session := phase.j, session.j" in
    record {
      number = 1;
      name = codes "request";
      guard = codes "phase = normal";
      effect = codes "phase := initiate";
      holds = is_normal phase;
      does = becomes Initiate session;
    }
    ∷ record {
      number = 2;
      name = codes "relay";
      guard = codes "phase = normal, child c is initiate";
      effect = codes "phase := initiate";
      holds = is_normal phase && any_initiate asked;
      does = becomes Initiate session;
    }
    ∷ record {
      number = 3;
      name = codes "open";
      guard = codes "father = id, phase = initiate";
      effect = codes "phase, session := reset, session + 1 mod M; restart";
      holds = is_root v.father && is_initiate phase;
      does = restarts Reset next;
    }
    ∷ record {
      number = 4;
      name = codes "join-normal";
      guard = codes "father j is reset, phase = normal, session.j = session + 1 mod M";
      effect = join;
      holds = father_reset v.father && is_normal phase && up.session == next;
      does = restarts Reset up.session;
    }
    ∷ record {
      number = 5;
      name = codes "join-asked";
      guard = codes "father j is reset, phase = initiate, session.j = session + 1 mod M";
      effect = join;
      holds = father_reset v.father && is_initiate phase && up.session == next;
      does = restarts Reset up.session;
    }
    ∷ record {
      number = 6;
      name = codes "finish";
      guard = codes "father != id, phase = reset, every child is not reset and has session";
      effect = codes "phase := normal";
      holds = not (is_root v.father) && is_reset phase && children_done session v.children;
      does = becomes Normal session;
    }
    ∷ record {
      number = 7;
      name = codes "finish-root";
      guard = codes "father = id, phase = reset, every child is not reset and has session";
      effect = codes "phase := normal; complete";
      holds = is_root v.father && is_reset phase && children_done session v.children;
      does = completes Normal session;
    }
    ∷ record {
      number = 8;
      name = codes "mend-reset";
      guard = codes "father j is not reset, phase = reset";
      effect = mend;
      holds = father_awake v.father && is_reset phase;
      does = becomes up.phase up.session;
    }
    ∷ record {
      number = 9;
      name = codes "mend-number";
      guard = codes "father j is not reset, phase != reset, session != session.j";
      effect = mend;
      holds = father_awake v.father && not (is_reset phase) && not (session == up.session);
      does = becomes up.phase up.session;
    }
    ∷ record {
      number = 10;
      name = codes "mend-both";
      guard = codes "father j is reset, phase = reset, session != session.j";
      effect = mend;
      holds = father_reset v.father && is_reset phase && not (session == up.session);
      does = becomes up.phase up.session;
    }
    ∷ record {
      number = 11;
      name = codes "mend-late";
      guard = codes "father j is reset, phase != reset, session.j is neither session nor session + 1 mod M";
      effect = mend;
      holds = father_reset v.father && not (is_reset phase) && not (up.session == session)
          && not (up.session == next);
      does = becomes up.phase up.session;
    }
    ∷ []

-- the rows that name a child
abbrev pub names_child : ℕ → Bool
names_child n = n == 2

-- case n, with this child named: what the node does, or the first refusal
abbrev pub wave_fired : LocalView → ℕ → Option ℕ → Result WaveMove WaveRefusal
wave_fired v n named =
    fired_naming 11 names_child NoSuchCase NotChild NotEnabled (wave_table v) v.children n named

-- what was fired or, where the row isn't fired, what the next one does
abbrev pub or_next : Result WaveMove WaveRefusal → Result WaveMove WaveRefusal → Result WaveMove WaveRefusal
or_next (Ok move) next = Ok move
or_next (Err NoSuchCase) next = next
or_next (Err NotChild) next = next
or_next (Err NotEnabled) next = next

-- the predicate of a node's registers and those of its father, a neighbour, where sessions are counted modulo m
pub record WaveHolds (m : ℕ) (own up : WaveRegs) : Type 0 where
  pub awake : is_reset up.phase ≡ false → (is_reset own.phase ≡ false) × (own.session ≡ up.session)
  pub resetting : is_reset up.phase ≡ true
      → (own.session ≡ up.session) ⊎ ((is_reset own.phase ≡ false) × (up.session ≡ next_session m own.session))

-- the same of what the node sees: it is asked only where the father is a neighbour
abbrev pub FatherHolds : ℕ → WaveRegs → FatherSeen → Type 0
FatherHolds m own Itself = Unit {0}
FatherHolds m own Lost = Unit {0}
FatherHolds m own (Is up) = WaveHolds m own up

-- no row from 8 on is enabled
abbrev pub no_mend : List (Row (Result WaveMove WaveRefusal)) → Bool
no_mend rows = list_all (λ row. nat_lt row.number 8 || not row.holds) rows
