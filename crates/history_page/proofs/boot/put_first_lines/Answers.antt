use Rattle.std.specs.Prelude.{codes}
use Rattle.std.specs.Fmt.{decimal}
use Rattle.std.proofs.Common.{ℕ, List, [], ◌∷◌, ◌++◌, ap, subst, ◌∙◌}
use Rattle.std.specs.Io.KnownBytes.{Appends}
use Rattle.history_page.specs.Lines.{lines_text}
use Rattle.history_page.specs.Opening.{links_line, nodes_line}
use Rattle.history_page.proofs.boot.put_first_lines.Goals as goal

pub returns-clause-ok : goal.returns-clause-ok
returns-clause-ok g c =
    let config = c.args.opening.now in
    let title = codes "title " ++ c.args.title.now in
    let app = codes "app " ++ c.args.app.now in
    let modulus = codes "modulus " ++ decimal config.modulus in
    let nodes = nodes_line config.graph in
    let Put : List ℕ → List ℕ → List ℕ → List ℕ → List ℕ → Type 0 =
    λ a b m n l. Appends (g.W.Write.contents c.args.out.now) (g.W.Write.contents c.put_lines.new.out)
    (lines_text (codes "reset-page 1" ∷ a ∷ b ∷ m ∷ n ∷ l ∷ [])) in
    subst (λ l. Put title app modulus nodes l)
    (c.deref-5.ensures.value ∙ c.in_ok-links.ensures ∙ ap links_line c.topology-2.ensures)
    (subst (λ n. Put title app modulus n c.deref-5.result.now)
    (c.deref-4.ensures.value ∙ c.in_ok-nodes.ensures ∙ ap nodes_line c.topology.ensures)
    (subst (λ m. Put title app m c.deref-4.result.now c.deref-5.result.now)
    (c.deref-3.ensures.value ∙ c.in_ok-modulus.ensures)
    (subst (λ b. Put title b c.deref-3.result.now c.deref-4.result.now c.deref-5.result.now)
    (c.deref-2.ensures.value ∙ c.in_ok-app.ensures)
    (subst (λ a. Put a c.deref-2.result.now c.deref-3.result.now c.deref-4.result.now c.deref-5.result.now)
    (c.deref.ensures.value ∙ c.in_ok-title.ensures) c.in_ok-put_lines.ensures.ok))))
