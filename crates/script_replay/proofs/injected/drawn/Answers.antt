use Rattle.std.proofs.Common.{◌≡◌, sym, ap, ◌∙◌, rules}
use Rattle.fault_inject.specs.Drawn.{drawn_fault, next_words, seeded}
use Rattle.script_replay.proofs.Disturbing.{drawn-is}
use Rattle.script_replay.proofs.injected.drawn.Goals as goal

pub returns : goal.returns
returns g c =
    let ids = c.args.config.now.graph.ids in
    let started : c.seed_from_u64-random.result ≡ seeded c.args.seed = search rules in
    c.draw_fault.ensures.fault ∙ ap (λ random. drawn_fault ids (next_words random).0) started
    ∙ sym (drawn-is ids c.args.seed)
