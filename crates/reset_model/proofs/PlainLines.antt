-- Lines without a line feed.
use Rattle.std.proofs.Common.{◌≡◌, ℕ, ◌<◌, ◌^◌, nat_lt, true, true≢false, List, [], ◌∷◌, refl, sym, ap, ◌∙◌, arith}
use Rattle.std.specs.Prelude.{codes, Some, None}
use Rattle.std.specs.Fmt.{decimal}
use Rattle.std.specs.List.{AllByRecursion, join_with_byte, list_all}
use Rattle.std.proofs.lemmas.Bool.{and_parts}
use Rattle.action_tables.specs.Cuts.{HasNo}
use Rattle.action_tables.specs.LawsOfCuts.{HasNo-append, HasNo-decimal}
use Rattle.reset_model.specs.EventCommands.{command_of}
use Rattle.reset_model.specs.EventText.{event_line, Fits}
use Rattle.reset_model.specs.declared.event.Event.{Event}
use Rattle.reset_model.specs.declared.event.Event.TheVariants.{Claim, Follow, Adopt, Request, Relay, Open, Join, Finish}
use Rattle.reset_model.specs.declared.event.Event.TheVariants.{Mend, Act}
use Rattle.reset_model.specs.declared.event_kind.EventKind.{EventKind}

pub letters : (word : List ℕ) → list_all (λ b. nat_lt 10 b) word ≡ true → HasNo 10 word
letters [] h = tt
letters (b ∷ word) h =
    let parts = and_parts (nat_lt 10 b) (list_all (λ b. nat_lt 10 b) word) h in
    ((λ is. true≢false (sym parts.0 ∙ ap (nat_lt 10) is)), letters word parts.1)

-- the command of a kind of events has none
pub command_plain : (kind : EventKind) → HasNo 10 (command_of kind)
command_plain EventKind.Claim = letters (codes "claim") refl
command_plain EventKind.Follow = letters (codes "follow") refl
command_plain EventKind.Adopt = letters (codes "adopt") refl
command_plain EventKind.Request = letters (codes "request") refl
command_plain EventKind.Relay = letters (codes "relay") refl
command_plain EventKind.Open = letters (codes "open") refl
command_plain EventKind.Join = letters (codes "join") refl
command_plain EventKind.Finish = letters (codes "finish") refl
command_plain EventKind.Mend = letters (codes "mend") refl
command_plain EventKind.Act = letters (codes "act") refl

pub number : (n : ℕ) → n < 2 ^ 32 → HasNo 10 (decimal n)
number n small = HasNo-decimal 10 n (λ digit. omega (arith, digit.0)) (omega (arith, small))

pub joined : (word : List ℕ) (words : List (List ℕ)) → AllByRecursion (HasNo 10) (word ∷ words)
    → HasNo 10 (join_with_byte 32 (word ∷ words))
joined word [] all = all.0
joined word (next ∷ words) all =
    HasNo-append 10 word (32 ∷ join_with_byte 32 (next ∷ words)) all.0
    ((λ e. absurd (omega (arith, e))), joined next words all.1)

-- the line of an event has none
pub event_plain : (e : Event) → Fits e → HasNo 10 (event_line e)
event_plain (Claim at) h = joined (codes "claim") (decimal at ∷ []) (letters (codes "claim") refl, (number at h, tt))
event_plain (Follow at) h = joined (codes "follow") (decimal at ∷ []) (letters (codes "follow") refl, (number at h, tt))
event_plain (Adopt at from) h =
    joined (codes "adopt") (decimal at ∷ decimal from ∷ [])
    (letters (codes "adopt") refl, (number at h.0, (number from h.1, tt)))
event_plain (Request at) h =
    joined (codes "request") (decimal at ∷ []) (letters (codes "request") refl, (number at h, tt))
event_plain (Relay at child) h =
    joined (codes "relay") (decimal at ∷ decimal child ∷ [])
    (letters (codes "relay") refl, (number at h.0, (number child h.1, tt)))
event_plain (Open at) h = joined (codes "open") (decimal at ∷ []) (letters (codes "open") refl, (number at h, tt))
event_plain (Join at) h = joined (codes "join") (decimal at ∷ []) (letters (codes "join") refl, (number at h, tt))
event_plain (Finish at) h = joined (codes "finish") (decimal at ∷ []) (letters (codes "finish") refl, (number at h, tt))
event_plain (Mend at) h = joined (codes "mend") (decimal at ∷ []) (letters (codes "mend") refl, (number at h, tt))
event_plain (Act at case None) h =
    joined (codes "act") (decimal at ∷ decimal case ∷ [])
    (letters (codes "act") refl, (number at h.0, (number case (omega (arith, h.1)), tt)))
event_plain (Act at case (Some j)) h =
    joined (codes "act") (decimal at ∷ decimal case ∷ decimal j ∷ [])
    (letters (codes "act") refl, (number at h.0, (number case (omega (arith, h.1)), (number j h.2, tt))))
