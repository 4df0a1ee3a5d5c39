-- No line of the data has a byte `<`.
use Rattle.std.proofs.Common.{◌≡◌, ◌≢◌, ℕ, ◌/◌, ◌%◌, Bool, true, false, cond}
use Rattle.std.proofs.Common.{List, [], ◌∷◌, ◌++◌, length, Option, Some, None, refl, arith}
use Rattle.std.specs.Option.{option_map_or}
use Rattle.std.specs.List.{flat_map}
use Rattle.std.proofs.lemmas.Bool.Decides.{nat_tests}
use Rattle.action_tables.specs.Cuts.{HasNo}
use Rattle.action_tables.specs.LawsOfCuts.{HasNo-append}
use Rattle.app_interface.specs.Application.{App}
use Rattle.reset_model.specs.Configuration.{Configuration}
use Rattle.history.specs.declared.entry.Entry.{Entry}
use Rattle.history.specs.Entries.{entered}
use Rattle.history.specs.Reports.{report_of, reports_of}
use Rattle.history_page.specs.Entries.{entries_text, entry_data}
use Rattle.history_page.specs.Lines.{encoded_byte, hex_digit, is_plain, line_text, lines_text}
use Rattle.history_page.specs.Opening.{boot_data, boot_line, first_lines}
use Rattle.history_page.specs.Page.{data_text, end_data}

-- a digit is none
digit_none : (n : ℕ) → hex_digit n ≢ 60
digit_none n is = grind (arith, nat_tests)

plain_none : (b : ℕ) → is_plain b ≡ true → b ≢ 60
plain_none b plain is = grind (arith, nat_tests)

byte_none : (b : ℕ) → HasNo 60 (encoded_byte b)
byte_none b = by (is_plain b) refl
  where
    by : (p : Bool) → is_plain b ≡ p
        → HasNo 60 (cond p (b ∷ []) (37 ∷ hex_digit (b / 16) ∷ hex_digit (b % 16) ∷ []))
    by true plain = (plain_none b plain, tt)
    by false other = (λ is. absurd (omega (arith, is)), (digit_none (b / 16), (digit_none (b % 16), tt)))

-- pieces that have none, one after another
pub pieces_none : {X : Type 0} (f : X → List ℕ) (xs : List X) → ((x : X) → HasNo 60 (f x)) → HasNo 60 (flat_map f xs)
pieces_none f [] none = tt
pieces_none f (x ∷ xs) none = HasNo-append 60 (f x) (flat_map f xs) (none x) (pieces_none f xs none)

pub line_none : (line : List ℕ) → HasNo 60 (line_text line)
line_none line =
    HasNo-append 60 (flat_map encoded_byte line) (10 ∷ []) (pieces_none encoded_byte line byte_none)
    ((λ is. absurd (omega (arith, is))), tt)

pub lines_none : (lines : List (List ℕ)) → HasNo 60 (lines_text lines)
lines_none lines = pieces_none line_text lines line_none

module _ {L : Type 0} (app : App L) (text : L → List ℕ) (from_text : List ℕ → Option L) where
  entries_none : (es : List Entry) (c : Configuration L) (before : List Entry)
      → HasNo 60 (entries_text app text from_text c before es)
  unfolding entries_text
  entries_none [] c before = tt
  entries_none (e ∷ es) c before =
      elim (entered app from_text c e) as (λ o. HasNo 60 (option_map_or (λ after. line_text (entry_data app text c after
      e (report_of app c before e)) ++ entries_text app text from_text after (e ∷ before) es) o [])) [
        | None ↦ tt
        | Some after ↦ HasNo-append 60 (line_text (entry_data app text c after e (report_of app c before e)))
            (entries_text app text from_text after (e ∷ before) es)
            (line_none (entry_data app text c after e (report_of app c before e))) (entries_none es after (e ∷ before))
      ]

  pub data_none : (title name : List ℕ) (c : Configuration L) (es : List Entry)
      → HasNo 60 (data_text app text from_text title name c es)
  data_none title name c es =
      HasNo-append 60 (lines_text (first_lines title name c)) _ (lines_none (first_lines title name c))
      (HasNo-append 60 (flat_map (boot_line app text c) c.graph.ids) _
      (pieces_none (boot_line app text c) c.graph.ids (λ i. line_none (boot_data app text c i)))
      (HasNo-append 60 (entries_text app text from_text c [] es) _ (entries_none es c [])
      (line_none (end_data (length es) (length (reports_of app from_text c es))))))
