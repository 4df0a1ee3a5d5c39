-- What the printed table of a description says.
use Rattle.std.proofs.Common.{◌≡◌, ◌∙◌, ℕ, ◌≤◌, List, All, length, Result, Ok, Err, IfOk, String, Global}
use Rattle.std.proofs.Common.{ap, ap₂, false, string_bytes, subst, arith}
use Rattle.std.specs.declared.alloc.AllocError.{AllocError}
use Rattle.toml.specs.Data.{Members}
use Rattle.toml.specs.Text.{IsDocumentText}
use Rattle.topology.specs.TopologyTable.{IsSmall, IsSmallLink, description_members, description_text}
use Rattle.action_tables.specs.Modulus.{max_modulus}
use Rattle.topology.specs.TopologyText.{Description, description_of}
use Rattle.topology.proofs.PlainTexts.{printed_text_described}
use Rattle.network_shapes.proofs.Lengths.{description_text-length}
use Rattle.network_shapes.proofs.Written.{document_written}

-- the table that is made of a description's parts
pub same_table : (t : Members) (d : Description) (ns : List ℕ) (ls : List (ℕ × ℕ))
    → t ≡ description_members (record { nodes = ns; links = ls; app = d.app; modulus = max_modulus })
    → ns ≡ d.nodes → ls ≡ d.links → t ≡ description_members d
same_table t d ns ls is nodes links =
    is
    ∙ ap₂ (λ xs ys. description_members (record { nodes = xs; links = ys; app = d.app; modulus = max_modulus })) nodes
    links

module _ (d : Description) (t : Members) (table : t ≡ description_members d) where
  pub printed_written : (r : Result (String Global) AllocError) → IfOk r (λ s. IsDocumentText false t (string_bytes s))
      → IfOk r (λ s. string_bytes s ≡ description_text d)
  printed_written (Err e) is = tt
  printed_written (Ok s) is =
      document_written d (string_bytes s) (subst (λ m. IsDocumentText false m (string_bytes s)) table is)

  module _ (nodes_small : All IsSmall d.nodes) (links_small : All IsSmallLink d.links)
      (nodes_few : length d.nodes ≤ 1024) (links_few : length d.links ≤ 8192) (whole : d.modulus ≡ max_modulus) where
    pub printed_described : (r : Result (String Global) AllocError)
        → IfOk r (λ s. IsDocumentText false t (string_bytes s)) → IfOk r (λ s. description_of (string_bytes s) ≡ Ok d)
    printed_described (Err e) is = tt
    printed_described (Ok s) is =
        let short = description_text-length d nodes_small links_small nodes_few links_few in
        let same : string_bytes s ≡ description_text d = printed_written (Ok s) is in
        printed_text_described (string_bytes s) d (omega (arith, ap length same, short)) same nodes_small links_small
        whole
