-- The line of a link that is there twice, piece by piece.
use Rattle.std.specs.Prelude.{codes}
use Rattle.std.proofs.Common.{◌≡◌, ℕ, ◌++◌, ◌∙◌, ap, append_assoc, sym}
use Rattle.std.specs.Fmt.{decimal}
use Rattle.script_replay.specs.Output.{graph_fault_text, numbered_twice}
use Rattle.topology.specs.declared.fault.TopoFault.TheVariants.{TwiceLink}

pub twice_link : (a b : ℕ) → numbered_twice (codes "bad topology TwiceLink ") a b ≡ graph_fault_text (TwiceLink a b)
twice_link a b =
    let before = append_assoc (decimal a ++ codes " ") (decimal b) (codes "\n") in
    let behind = append_assoc (decimal a) (codes " ") (decimal b ++ codes "\n") in
    ap (λ text. codes "bad topology TwiceLink " ++ text) (sym (before ∙ behind))
