use Rattle.std.proofs.Common.{◌≡◌, ◌≢◌, [], ◌∷◌, ◌++◌, refl, sym, ap, ◌∙◌, subst, rules, List, ℕ}
use Rattle.std.specs.List.{flat_map}
use Rattle.history.specs.HistoryText.{ended}
use Rattle.script_replay.specs.Lines.{lines_of, separator, HasNoSeparator}
use Rattle.script_replay.specs.Lines.IsCut.{at_separator, topology_alone}
use Rattle.script_replay.proofs.TextLines.{joined_lines, no_separator_more, passed_lines, passed_text, text_before}
use Rattle.script_replay.proofs.input.cut_joined.Goals as goal

pub returns-then-is_separator : goal.returns-then-is_separator
returns-then-is_separator c =
    let (prefix, lines, text, none) = c.loop-line.invariant in
    let here : c.in-Some.line.now ≡ separator = search rules in
    at_separator prefix (lines_of c.in-Some.after.now)
    (lines ∙ ap (λ ls. prefix ++ ls) (c.in-Some.ensures.found ∙ ap (λ l. l ∷ lines_of c.in-Some.after.now) here))
    none (text_before c.args.joined.now (flat_map ended prefix) c.loop-line.rest.now text)
    (sym (joined_lines c.in-Some.after.now))

pub loop-line-preserved : goal.loop-line-preserved
loop-line-preserved c =
    let (prefix, lines, text, none) = c.loop-line.invariant in
    let other : c.in-Some.line.now ≢ separator = search rules in (
      prefix ++ (c.in-Some.line.now ∷ []),
      passed_lines c.args.joined.now c.loop-line.rest.now c.in-Some.after.now c.in-Some.line.now prefix lines
          c.in-Some.ensures.found,
      passed_text c.args.joined.now c.loop-line.rest.now c.in-Some.after.now c.in-Some.line.now prefix text
          c.in-Some.ensures.found,
      no_separator_more prefix c.in-Some.line.now none other,
    )

pub returns-then-is_separator-2 : goal.returns-then-is_separator-2
returns-then-is_separator-2 c =
    let (prefix, lines, text, none) = c.loop-line.invariant in
    let here : c.loop-line.rest.now ≡ separator = search rules in
    at_separator prefix [] (lines ∙ ap (λ ls. prefix ++ ls) (c.in_default.ensures.only ∙ ap (λ l. l ∷ []) here))
    none (text_before c.args.joined.now (flat_map ended prefix) c.loop-line.rest.now text) refl

pub returns-else-is_separator-2 : goal.returns-else-is_separator-2
returns-else-is_separator-2 c =
    let (prefix, lines, text, none) = c.loop-line.invariant in
    let other : c.loop-line.rest.now ≢ separator = search rules in
    let P : List (List ℕ) → Type 0 = λ ls. HasNoSeparator ls in
    topology_alone
    (subst P (sym (lines ∙ ap (λ ls. prefix ++ ls) c.in_default.ensures.only))
    (no_separator_more prefix c.loop-line.rest.now none other)) refl refl
