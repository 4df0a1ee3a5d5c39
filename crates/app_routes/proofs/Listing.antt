-- Ascending entries, with one more at their end and in front.
use Rattle.std.proofs.Common.{ℕ, List, [], ◌∷◌, ◌++◌, map, sym, subst}
use Rattle.std.specs.List.Sorted.{IsStrictlyIncreasing}
use Rattle.std.proofs.lemmas.List.{map-append}
use Rattle.std.proofs.lemmas.List.Elements.{All-append}
use Rattle.app_interface.specs.Listing.{EndsBelow}
use Rattle.app_interface.proofs.ListingLaws.{HasPrefixes}
use Rattle.app_interface.proofs.ListEnds.{all_one, ends_below, prefix_all, prefix_rises, rises_push}
use Rattle.app_routes.specs.Entries.{AreRoutes, IsEntry}
use Rattle.app_routes.specs.declared.entry.Entry.{Entry}

-- the entries' destinations
abbrev pub destinations : List Entry → List ℕ
destinations es = map (λ e. e.destination) es

pub routes_push : (es : List Entry) (e : Entry) → AreRoutes es → IsEntry e → EndsBelow (destinations es) e.destination
    → AreRoutes (es ++ e ∷ [])
routes_push es e are is above = record {
  ascending =
      subst IsStrictlyIncreasing (sym (map-append (λ f. f.destination) es (e ∷ [])))
      (rises_push (destinations es) e.destination are.ascending above);
  are_entries = All-append IsEntry es (e ∷ []) are.are_entries (all_one IsEntry e is);
}

pub routes_end_below : (es : List Entry) (e : Entry) → AreRoutes (es ++ e ∷ [])
    → EndsBelow (destinations es) e.destination
routes_end_below es e are =
    ends_below (destinations es) e.destination
    (subst IsStrictlyIncreasing (map-append (λ f. f.destination) es (e ∷ [])) are.ascending)

pub routes_prefixes : HasPrefixes IsEntry AreRoutes
routes_prefixes = record {
  each = λ es are. are.are_entries;
  prefix = λ es more are. record {
    ascending =
        prefix_rises (destinations es) (destinations more)
        (subst IsStrictlyIncreasing (map-append (λ f. f.destination) es more) are.ascending);
    are_entries = prefix_all IsEntry es more are.are_entries;
  };
}
