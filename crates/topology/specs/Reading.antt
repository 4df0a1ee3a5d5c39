-- What the clauses of the text's private functions cite.
use Rattle.std.specs.Prelude.{◌≡◌, ◌≢◌, All, IfOk, IfSome, Option, Result, Ok, Err, MatchResult}
use Rattle.topology.specs.TopologyTable.{IsSmall, IsSmallLink}
use Rattle.topology.specs.TopologyText.{Description}
use Rattle.action_tables.specs.Modulus.{max_modulus}
use Rattle.topology.specs.declared.text.ReadFault.{ReadFault}
use Rattle.topology.specs.declared.text.ReadFault.TheVariants.{NoMemory}
use Rattle.topology.specs.declared.text.Reading as code

-- what was read, as a description
abbrev pub reading_view : code.Reading → Description
reading_view r = record { nodes = r.nodes.items; links = r.links.items; app = r.app; modulus = r.modulus }

-- the result is what the text gives, unless memory ran out
abbrev pub Gives : {A B : Type 0} → (A → B) → Result A ReadFault → Result B ReadFault → Type 0
Gives view r read = MatchResult r (λ x. read ≡ Ok (view x)) (λ f. f ≢ NoMemory → read ≡ Err f)

-- what was read meets P, if anything was
abbrev pub IfRead : {A E : Type 0} → Result (Option A) E → (A → Type 0) → Type 0
IfRead r P = IfOk r (λ o. IfSome o P)

-- its numbers have 32 bits
abbrev pub IsSmallReading : code.Reading → Type 0
IsSmallReading r = All IsSmall r.nodes.items × All IsSmallLink r.links.items

-- its modulus is that of a text that names none
abbrev pub HasMaxModulus : code.Reading → Type 0
HasMaxModulus r = r.modulus ≡ max_modulus
