-- The number that a text gives for its modulus is one.
use Rattle.std.proofs.Common.{◌≡◌, ℕ, ℤ, pos, negsuc, nat_le, Bool, true, false, ◌&&◌, if◌then◌else◌, Option, Some, None}
use Rattle.std.proofs.Common.{List, Result, Ok, Err, IfOk, ok_or, option_and_then, codes, refl, arith}
use Rattle.std.proofs.lemmas.Bool.{and_parts, leb-true}
use Rattle.action_tables.specs.Modulus.{IsModulus}
use Rattle.toml.specs.Data.{Data, Members, as_integer, get_member}
use Rattle.topology.specs.TopologyText.{◌>>=◌, Description, app_named, described, description_of, if_modulus}
use Rattle.action_tables.specs.Modulus.{max_modulus}
use Rattle.topology.specs.TopologyText.{modulus_at, modulus_of, modulus_or_max, no_other_key, numbers_of}
use Rattle.topology.specs.TopologyText.{pairs_of, string_of, table_of, value_at}
use Rattle.topology.specs.declared.text.ReadFault.{ReadFault}
use Rattle.topology.specs.declared.text.ReadFault.TheVariants.{WrongKind}

if_allowed : (n : ℕ) (b : Bool) → (nat_le 2 n && nat_le n max_modulus) ≡ b
    → IfOk (ok_or (if b then Some n else None) WrongKind) IsModulus
if_allowed n false is = tt
if_allowed n true is =
    let (two, wide) = and_parts (nat_le 2 n) (nat_le n max_modulus) is in
    record { two = leb-true 2 n two; wide = leb-true n max_modulus wide }

if_integer : (o : Option ℤ) → IfOk (ok_or (option_and_then if_modulus o) WrongKind) IsModulus
if_integer None = tt
if_integer (Some (pos n)) = if_allowed n (nat_le 2 n && nat_le n max_modulus) refl
if_integer (Some (negsuc n)) = tt

told_or_max : (o : Option Data) → IfOk (modulus_or_max o) IsModulus
unfolding modulus_of
told_or_max None = record { two = omega arith; wide = omega arith }
told_or_max (Some d) = if_integer (as_integer d)

at_key : (t : Members) → IfOk (modulus_at t) IsModulus
unfolding modulus_at
at_key t = told_or_max (get_member (codes "modulus") t)

abbrev HasModulus : Description → Type 0
HasModulus d = IsModulus d.modulus

-- a step of which nothing is known
after : {A : Type 0} (r : Result A ReadFault) (f : A → Result Description ReadFault)
    → ((x : A) → IfOk (f x) HasModulus) → IfOk (r >>= f) HasModulus
after (Ok x) f rest = rest x
after (Err e) f rest = tt

-- the step that gives the modulus
after_modulus : (r : Result ℕ ReadFault) (f : ℕ → Result Description ReadFault) → IfOk r IsModulus
    → ((m : ℕ) → IsModulus m → IfOk (f m) HasModulus) → IfOk (r >>= f) HasModulus
after_modulus (Ok m) f is rest = rest m is
after_modulus (Err e) f is rest = tt

members_modulus : (t : Members) → IfOk (described t) HasModulus
unfolding described
members_modulus t =
    after (value_at t (codes "nodes")) _ λ nodes.
    after (value_at t (codes "links")) _ λ links.
    after (value_at t (codes "app")) _ λ app.
    after (no_other_key t) _ λ none_beyond.
    after (numbers_of nodes) _ λ numbers.
    after (pairs_of links) _ λ pairs.
    after (string_of app) _ λ name.
    after_modulus (modulus_at t) _ (at_key t) λ modulus is.
    after (app_named name) _ λ known. is

pub described_modulus : (text : List ℕ) (d : Description) → description_of text ≡ Ok d → IsModulus d.modulus
unfolding description_of
described_modulus text d is = rw is at (after (table_of text) described members_modulus)
