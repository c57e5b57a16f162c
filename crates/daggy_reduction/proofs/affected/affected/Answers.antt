use Rattle.std.proofs.Common.{◌≡◌, ℕ, List, false, ◌++◌, length, take, drop, map, get_or, sym, subst, Contains}
use Rattle.std.specs.List.{filter}
use Rattle.std.specs.List.Sorted.{IsPermutation, IsNonDecreasingBy}
use Rattle.std.proofs.lemmas.Result.{IfOk-weaker}
use Rattle.daggy_search.proofs.Entries.{come_back}
use Rattle.daggy_reduction.specs.Descendants.{IsSortedPart}
use Rattle.daggy_base.specs.Ordered.{place}
use Rattle.daggy_base.specs.Reduction.{IsBelow}
use Rattle.daggy_reduction.proofs.AffectedNodes.{part_sorted, part_read}
use Rattle.daggy_redundant.proofs.SweptNodes.{below_exists}
use Rattle.daggy_reduction.proofs.affected.affected.Given.{Over}
use Rattle.daggy_reduction.proofs.affected.affected.Goals.{After-entered_nodes, After-sort_by_place}
use Rattle.daggy_reduction.proofs.affected.affected.Goals as goal

-- what is read off the order
read : (g : Over) (c : After-entered_nodes g) (nodes : List ℕ)
    → nodes ≡ filter (λ n. get_or c.queue_below-count.new.work.entered n false) c.args.order.now
    → IsSortedPart c.args.order.now (IsBelow (g.S.EdgeSource.graph c.args.source.now) (map g.Ix.IndexType.number c.args.nodes.now)) nodes
read g c nodes is =
    let graph = g.S.EdgeSource.graph c.args.source.now in
    let given = map g.Ix.IndexType.number c.args.nodes.now in
    subst (IsSortedPart c.args.order.now (IsBelow graph given)) (sym is)
    (part_read (λ n. get_or c.queue_below-count.new.work.entered n false) c.len.ensures.distinct
    c.queue_below-count.ensures.entered (λ n b. c.requires.held n (below_exists graph given n b)))

pub returns-then-len-count-clause-found : goal.returns-then-len-count-clause-found
returns-then-len-count-clause-found g c =
    let at = (goal.at.returns-then-len-count-clause-found g c).After-entered_nodes in
    IfOk-weaker c.entered_nodes.result _ _ (λ found is. read g at (map g.Ix.IndexType.number found.items) is)
    c.entered_nodes.ensures

pub returns-then-len-count-clause-visited : goal.returns-then-len-count-clause-visited
returns-then-len-count-clause-visited g c =
    let at = (goal.at.returns-then-len-count-clause-visited g c).After-entered_nodes in
    IfOk-weaker c.entered_nodes.result _ _ (λ found is.
    c.queue_below-count.ensures.visited _
    (λ n b. ((read g at (map g.Ix.IndexType.number found.items) is).exact n).1 b))
    c.entered_nodes.ensures

pub sort_by_place-requires : goal.sort_by_place-requires
sort_by_place-requires g c n has =
    let number = g.Ix.IndexType.number in
    let graph = g.S.EdgeSource.graph c.args.source.now in
    let P : List g.row.Ix.Denot → Type 0 = λ z. Contains (map number z) n in
    let Q : List ℕ → Type 0 = λ z. Contains z n in
    c.requires.held n (below_exists graph (map number c.args.nodes.now) n
    ((c.queue_below-count.ensures.below n).0 (subst Q c.in_ok-found.ensures (subst P c.as_mut_slice.ensures.value has))))

sorted : (g : Over) (c : After-sort_by_place g) → IsPermutation c.in_ok-found.found.items c.sort_by_place.new.nodes
sorted g c = rw (← c.as_mut_slice.ensures.value) c.sort_by_place.ensures.same

back : (g : Over) (c : After-sort_by_place g)
    → take c.in_ok-found.found.len (c.sort_by_place.new.nodes ++ drop (length c.sort_by_place.new.nodes) c.in_ok-found.found.items)
    ≡ c.sort_by_place.new.nodes
back g c = come_back c.in_ok-found.found.items c.sort_by_place.new.nodes c.in_ok-found.found.len (sorted g c) c.in_ok-found.found.ok.0

found : (g : Over) (c : After-sort_by_place g)
    → IsNonDecreasingBy (λ x. place c.args.order.now (g.Ix.IndexType.number x)) c.sort_by_place.new.nodes
    → IsSortedPart c.args.order.now (IsBelow (g.S.EdgeSource.graph c.args.source.now) (map g.Ix.IndexType.number c.args.nodes.now))
    (map g.Ix.IndexType.number c.sort_by_place.new.nodes)
found g c places =
    part_sorted g.Ix.IndexType.number c.args.order.now _ c.queue_below-count.ensures.below
    c.queue_below-count.ensures.distinct c.in_ok-found.found.items c.sort_by_place.new.nodes c.in_ok-found.ensures
    (sorted g c) places

pub returns-clause-found : goal.returns-clause-found
returns-clause-found g c =
    let at = (goal.at.returns-clause-found g c).After-sort_by_place in
    rw (back g at) (found g at c.in_ok-sort_by_place.ensures.sorted)

pub returns-clause-visited : goal.returns-clause-visited
returns-clause-visited g c =
    let at = (goal.at.returns-clause-visited g c).After-sort_by_place in
    rw (back g at) (c.queue_below-count.ensures.visited _ (λ n b. ((found g at c.in_ok-sort_by_place.ensures.sorted).exact n).1 b))
