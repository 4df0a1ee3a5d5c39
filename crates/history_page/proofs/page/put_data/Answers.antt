use Rattle.std.proofs.Common.{List, ℕ, [], ◌++◌, ap, length, subst, ◌∙◌}
use Rattle.std.specs.Io.KnownBytes.{Appends}
use Rattle.std.specs.List.{flat_map}
use Rattle.std.proofs.lemmas.Result.{on_err_weaker, on_ok_weaker}
use Rattle.action_tables.specs.Written.{AppendsPrefix}
use Rattle.action_tables.proofs.Prefixes.{AppendsPrefix-first, OnErr-always}
use Rattle.topology.specs.Graph.{Graph}
use Rattle.history.specs.Reports.{reports_of}
use Rattle.history.specs.declared.entry.Report.{Report}
use Rattle.history_page.specs.Entries.{entries_text}
use Rattle.history_page.specs.Lines.{line_text, lines_text}
use Rattle.history_page.specs.Opening.{boot_line, first_lines}
use Rattle.history_page.specs.Page.{end_data}
use Rattle.history_page.proofs.Sequences.{all_written, last_failed, second_failed, third_failed}
use Rattle.history_page.proofs.page.put_data.Goals as goal

pub returns-in_err-put_first_lines-clause-err : goal.returns-in_err-put_first_lines-clause-err
returns-in_err-put_first_lines-clause-err g c =
    let app = g.P.Application.app in
    let text = g.P.Application.text in
    let from_text = g.P.Application.from_text in
    let config = c.args.opening.now in
    let es = c.args.entries.now in
    let first = lines_text (first_lines c.args.title.now c.args.app.now config) in
    let boots = flat_map (boot_line app text config) config.graph.ids in
    let lines = entries_text app text from_text config [] es in
    let last = line_text (end_data (length es) (length (reports_of app from_text config es))) in
    OnErr-always _ _ (AppendsPrefix-first _ _ first (boots ++ (lines ++ last)) c.in_err-put_first_lines.ensures.err)

pub returns-in_err-put_boot_lines-clause-err : goal.returns-in_err-put_boot_lines-clause-err
returns-in_err-put_boot_lines-clause-err g c =
    let app = g.P.Application.app in
    let text = g.P.Application.text in
    let from_text = g.P.Application.from_text in
    let config = c.args.opening.now in
    let es = c.args.entries.now in
    let first = lines_text (first_lines c.args.title.now c.args.app.now config) in
    let boots = flat_map (boot_line app text config) config.graph.ids in
    let lines = entries_text app text from_text config [] es in
    let last = line_text (end_data (length es) (length (reports_of app from_text config es))) in
    let ids = c.ids.ensures ∙ ap (λ (h : Graph). h.ids) c.topology.ensures in
    let Boots : List ℕ → Type 0 =
    λ is. AppendsPrefix (g.W.Write.contents c.put_first_lines.new.out) (g.W.Write.contents c.put_boot_lines.new.out)
    (flat_map (boot_line app text config) is) in
    OnErr-always _ _ (second_failed _ _ _ first boots (lines ++ last) c.in_ok-put_first_lines.ensures.ok
    (subst Boots ids c.in_err-put_boot_lines.ensures.err))

pub returns-in_err-put_copied-clause-err : goal.returns-in_err-put_copied-clause-err
returns-in_err-put_copied-clause-err g c =
    let app = g.P.Application.app in
    let text = g.P.Application.text in
    let from_text = g.P.Application.from_text in
    let config = c.args.opening.now in
    let es = c.args.entries.now in
    let first = lines_text (first_lines c.args.title.now c.args.app.now config) in
    let boots = flat_map (boot_line app text config) config.graph.ids in
    let lines = entries_text app text from_text config [] es in
    let last = line_text (end_data (length es) (length (reports_of app from_text config es))) in
    let ids = c.ids.ensures ∙ ap (λ (h : Graph). h.ids) c.topology.ensures in
    let Boots : List ℕ → Type 0 =
    λ is. Appends (g.W.Write.contents c.put_first_lines.new.out) (g.W.Write.contents c.put_boot_lines.new.out)
    (flat_map (boot_line app text config) is) in
    OnErr-always _ _ (third_failed _ _ _ _ first boots lines last c.in_ok-put_first_lines.ensures.ok
    (subst Boots ids c.in_ok-put_boot_lines.ensures.ok) c.in_err-put_copied.ensures.err)

pub returns-clause-err : goal.returns-clause-err
returns-clause-err g c =
    let app = g.P.Application.app in
    let text = g.P.Application.text in
    let from_text = g.P.Application.from_text in
    let config = c.args.opening.now in
    let es = c.args.entries.now in
    let first = lines_text (first_lines c.args.title.now c.args.app.now config) in
    let boots = flat_map (boot_line app text config) config.graph.ids in
    let lines = entries_text app text from_text config [] es in
    let last = line_text (end_data (length es) (length (reports_of app from_text config es))) in
    let ids = c.ids.ensures ∙ ap (λ (h : Graph). h.ids) c.topology.ensures in
    let Boots : List ℕ → Type 0 =
    λ is. Appends (g.W.Write.contents c.put_first_lines.new.out) (g.W.Write.contents c.put_boot_lines.new.out)
    (flat_map (boot_line app text config) is) in
    let End : List Report → Type 0 =
    λ rs. AppendsPrefix (g.W.Write.contents c.put_copied.new.out) (g.W.Write.contents c.put_end.new.out)
    (line_text (end_data (length es) (length rs))) in
    on_err_weaker _ (λ h. last_failed _ _ _ _ _ first boots lines last c.in_ok-put_first_lines.ensures.ok
    (subst Boots ids c.in_ok-put_boot_lines.ensures.ok) c.in_ok-put_copied.ensures.ok (subst End c.requires.reports h))
    c.put_end.ensures.err

pub returns-clause-ok : goal.returns-clause-ok
returns-clause-ok g c =
    let app = g.P.Application.app in
    let text = g.P.Application.text in
    let from_text = g.P.Application.from_text in
    let config = c.args.opening.now in
    let es = c.args.entries.now in
    let first = lines_text (first_lines c.args.title.now c.args.app.now config) in
    let boots = flat_map (boot_line app text config) config.graph.ids in
    let lines = entries_text app text from_text config [] es in
    let last = line_text (end_data (length es) (length (reports_of app from_text config es))) in
    let ids = c.ids.ensures ∙ ap (λ (h : Graph). h.ids) c.topology.ensures in
    let Boots : List ℕ → Type 0 =
    λ is. Appends (g.W.Write.contents c.put_first_lines.new.out) (g.W.Write.contents c.put_boot_lines.new.out)
    (flat_map (boot_line app text config) is) in
    let End : List Report → Type 0 =
    λ rs. Appends (g.W.Write.contents c.put_copied.new.out) (g.W.Write.contents c.put_end.new.out)
    (line_text (end_data (length es) (length rs))) in
    on_ok_weaker _ (λ h. all_written _ _ _ _ _ first boots lines last c.in_ok-put_first_lines.ensures.ok
    (subst Boots ids c.in_ok-put_boot_lines.ensures.ok) c.in_ok-put_copied.ensures.ok (subst End c.requires.reports h))
    c.put_end.ensures.ok
