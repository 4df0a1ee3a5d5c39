-- Ascending identifiers, with one more at their end and in front.
use Rattle.std.proofs.Common.{ℕ, List, [], ◌∷◌, ◌++◌}
use Rattle.std.proofs.lemmas.List.Elements.{All-append}
use Rattle.topology.specs.Id.{IsId}
use Rattle.app_interface.proofs.ListingLaws.{HasPrefixes}
use Rattle.app_interface.specs.Listing.{EndsBelow}
use Rattle.app_interface.proofs.ListEnds.{all_one, prefix_all, prefix_rises, rises_push}
use Rattle.app_token.specs.Bits.{IsBits}

pub bits_push : (ids : List ℕ) (i : ℕ) → IsBits ids → IsId i → EndsBelow ids i → IsBits (ids ++ i ∷ [])
bits_push ids i are id above = record {
  ascending = rises_push ids i are.ascending above;
  are_ids = All-append IsId ids (i ∷ []) are.are_ids (all_one IsId i id);
}

pub bits_prefixes : HasPrefixes IsId IsBits
bits_prefixes = record {
  each = λ ids are. are.are_ids;
  prefix = λ ids more are. record {
    ascending = prefix_rises ids more are.ascending;
    are_ids = prefix_all IsId ids more are.are_ids;
  };
}
