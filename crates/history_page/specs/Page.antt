-- Pages that play histories.
use Rattle.std.specs.Prelude.{ℕ, List, [], ◌∷◌, ◌++◌, length, codes, Option}
use Rattle.std.specs.Fmt.{decimal}
use Rattle.std.specs.List.{concat, flat_map}
use Rattle.app_interface.specs.Application.{App}
use Rattle.reset_model.specs.Configuration.{Configuration}
use Rattle.history.specs.declared.entry.Entry.{Entry}
use Rattle.history.specs.Reports.{reports_of}
use Rattle.history_page.specs.Entries.{entries_text}
use Rattle.history_page.specs.Lines.{line_text, lines_text}
use Rattle.history_page.specs.Opening.{boot_line, first_lines}

-- the last line: how many entries and reports there are
abbrev pub end_data : ℕ → ℕ → List ℕ
end_data entries reports = concat (codes "end " ∷ decimal entries ∷ codes " " ∷ decimal reports ∷ [])

-- the data of entries from the opening c on, and of what they report
abbrev pub data_text : {L : Type 0} → App L → (L → List ℕ) → (List ℕ → Option L) → List ℕ → List ℕ
    → Configuration L → List Entry → List ℕ
data_text app text from_text title name c es = lines_text (first_lines title name c)
    ++ (flat_map (boot_line app text c) c.graph.ids
    ++ (entries_text app text from_text c [] es
    ++ line_text (end_data (length es) (length (reports_of app from_text c es)))))

-- the page: what is the same on all pages stands before the data, and after it in two parts
abbrev pub page_text : List ℕ → List ℕ → List ℕ → List ℕ → List ℕ
page_text head moments views lines = head ++ (lines ++ (moments ++ views))
