use Rattle.std.proofs.Common.{◌↔◌, ◌⊎◌, ◌<◌, ℕ, List, [], map, length, subst, refl, arith}
use Rattle.std.proofs.lemmas.List.{length-map}
use Rattle.daggy_base.specs.Graph.{pair_of}
use Rattle.daggy_cycles.specs.CycleEdges.{Leads}
use Rattle.daggy_cycles.specs.Linking.{IsLinked}
use Rattle.daggy_cycles.specs.WithPairs.{AreJoinedWith}
use Rattle.daggy_cycles.proofs.GatheredEdges.{either_way, below_more, all_joined, pairs_more, pair_at, all_taken}
use Rattle.daggy_cycles.proofs.with_edges.edge_slots.Goals as goal

pub old-preserved : goal.old-preserved
old-preserved g c u v =
    let graph = g.S.EdgeSource.graph c.args.store.now in
    let number = g.Jx.IndexType.number in
    let P : ℕ → Type 0 = λ z. IsLinked number c.add_edge_at.new.slots.items u v
    ↔ (IsLinked number c.old.slots.items u v ⊎ Leads graph z u v) in
    either_way (subst P c.new-in-old.ensures.number (c.in_ok-add_edge_at.ensures u v)) (c.old.invariant u v)
    (below_more graph c.old.i u v)

pub new-init : goal.new-init
new-init g c u v =
    let all = all_joined c.invariant.ensures.well_formed [] c.old.i u v
    (omega (arith, c.old-test.false, c.edge_slots-i-end.ensures)) refl in
    let old = c.old.invariant u v in
    (λ l. all.0 (old.0 l), λ j. old.1 (all.1 j))

pub new-preserved : goal.new-preserved
new-preserved g c u v =
    let number = g.Ix.IndexType.number in
    let edges = c.args.edges.now in
    let low : c.new.k < length (map (pair_of number) edges) = omega (arith, c.new-test.true, length-map edges (pair_of number)) in
    either_way (c.in_ok-add_pair.ensures u v) (c.new.invariant u v)
    (pairs_more (g.S.EdgeSource.graph c.args.store.now) (map (pair_of number) edges) c.new.k
    (number c.index-edges-k.result.0) (number c.index-edges-k.result.1) u v low
    (pair_at number edges c.new.k c.index-edges-k.result c.new-test.true c.index-edges-k.is))

pub returns : goal.returns
returns g c u v =
    let graph = g.S.EdgeSource.graph c.args.store.now in
    let number = g.Ix.IndexType.number in
    let edges = c.args.edges.now in
    let P : List (ℕ × ℕ) → Type 0 = λ z. IsLinked g.Jx.IndexType.number c.new.slots.items u v
    ↔ AreJoinedWith graph z u v in
    subst P (all_taken number edges c.new.k (omega (arith, c.new-test.false, c.new.auto.k-end))) (c.new.invariant u v)
