use Rattle.std.proofs.Common.{◌≡◌, ℕ, ◌+◌, true, false, List, Contains, min, max, length, take, drop, get_or, sym, ap₂}
use Rattle.std.proofs.Common.{subst, subst₂, ◌∙◌}
use Rattle.std.proofs.lemmas.List.{take_more, length-map}
use Rattle.topology.specs.Graph.{has}
use Rattle.topology.specs.Building.{Links, AreJoined}
use Rattle.topology.specs.Faults.{ordered_links, IsFirstRepeat}
use Rattle.topology.specs.declared.fault.TopoFault.TheVariants.{TwiceLink}
use Rattle.topology.proofs.FirstItems.{ends_known, first_repeat_at}
use Rattle.topology.proofs.Inserting.{rows_of}
use Rattle.topology.proofs.Joining.{joined_more, link_repeated, ordered_whole}
use Rattle.topology.proofs.links.link_all.Goals as goal

pub index_among-i-requires-clause-known : goal.index_among-i-requires-clause-known
index_among-i-requires-clause-known c =
    (ends_known c.args.links.now c.loop-a.a-index c.loop-a-test.true (λ x. has c.args.ids.now.ids x ≡ true)
    c.requires.apart.known).0

pub index_among-j-requires-clause-known : goal.index_among-j-requires-clause-known
index_among-j-requires-clause-known c =
    (ends_known c.args.links.now c.loop-a.a-index c.loop-a-test.true (λ x. has c.args.ids.now.ids x ≡ true)
    c.requires.apart.known).1

pub returns-then-not-branch-clause-err : goal.returns-then-not-branch-clause-err
returns-then-not-branch-clause-err c =
    let links = c.args.links.now in
    let ids = c.args.ids.now.ids in
    let k = c.loop-a.a-index in
    let count : length c.loop-a.near ≡ length ids =
    sym (length-map c.loop-a.near (λ row. row.items)) ∙ c.loop-a.invariant.as_rows.count in
    let put : Links (length ids) (rows_of c.loop-a.near) c.index_among-i.result c.index_among-j.result false
    (rows_of c.link.new.near) =
    subst₂ (λ n b. Links n (rows_of c.loop-a.near) c.index_among-i.result c.index_among-j.result b
    (rows_of c.link.new.near)) count c.if-not-branch.true c.in_ok-link.ensures in
    let l : ℕ × ℕ = get_or links k (0, 0) in
    let i = c.index_among-i.result in
    let j = c.index_among-j.result in
    let earlier : Contains (ordered_links (take k links)) (min l.0 l.1, max l.0 l.1) =
    subst₂ (λ a b. Contains (ordered_links (take k links)) (min a b, max a b)) c.index_among-i.ensures.value
    c.index_among-j.ensures.value
    (link_repeated ids c.lemma_are_ids.ensures.ids.ascending
    (take k links) (rows_of c.loop-a.near) (rows_of c.link.new.near)
    c.loop-a.invariant i j c.index_among-i.ensures.within c.index_among-j.ensures.within put) in
    let repeat : IsFirstRepeat (ordered_links links) (min l.0 l.1, max l.0 l.1) =
    first_repeat_at (ordered_links links) (ordered_links (take k links)) (ordered_links (drop (k + 1) links))
    (min l.0 l.1, max l.0 l.1)
    (ordered_whole links k c.loop-a-test.true) c.loop-a.invariant.distinct earlier in
    λ _. ((min l.0 l.1, max l.0 l.1), ap₂ TwiceLink c.min.ensures c.max.ensures, repeat)

pub loop-a-preserved : goal.loop-a-preserved
loop-a-preserved c =
    let links = c.args.links.now in
    let ids = c.args.ids.now.ids in
    let k = c.loop-a.a-index in
    let count : length c.loop-a.near ≡ length ids =
    sym (length-map c.loop-a.near (λ row. row.items)) ∙ c.loop-a.invariant.as_rows.count in
    let put : Links (length ids) (rows_of c.loop-a.near) c.index_among-i.result c.index_among-j.result true
    (rows_of c.link.new.near) =
    subst₂ (λ n b. Links n (rows_of c.loop-a.near) c.index_among-i.result c.index_among-j.result b
    (rows_of c.link.new.near)) count c.if-not-branch.false c.in_ok-link.ensures in
    subst (λ (ls : List (ℕ × ℕ)). AreJoined ids ls (rows_of c.link.new.near))
    (sym (take_more links k (0, 0) c.loop-a-test.true))
    (joined_more ids c.lemma_are_ids.ensures.ids.ascending (take k links) (rows_of c.loop-a.near) (rows_of c.link.new.near)
    c.loop-a.invariant c.index_among-i.result c.index_among-j.result
    c.index_among-i.ensures.within c.index_among-j.ensures.within (get_or links k (0, 0)) c.index_among-i.ensures.value
    c.index_among-j.ensures.value put)
