use Rattle.std.proofs.Common.{ℕ, List, Option, map, sym, ap, subst, refl}
use Rattle.std.proofs.lemmas.Bool.{false≢true}
use Rattle.std.specs.Prelude.{IfSome, IsNone}
use Rattle.daggy_base.specs.Graph.{Graph, pair_of}
use Rattle.daggy_base.specs.Path.{IsAcyclic}
use Rattle.daggy_components.specs.Cycles.{IsCycle}
use Rattle.daggy_cycles.specs.WithPairs.{IsCycleWith}
use Rattle.daggy_cycles.proofs.CyclesWithPairs.{cycle_from, no_cycle, nodes_exist, acyclic_with_edges, exists_low}
use Rattle.daggy_cycles.proofs.with_edges.find_cycle_with_edges.Given.{Over}
use Rattle.daggy_cycles.proofs.with_edges.find_cycle_with_edges.Goals.{After-as_slice, In-None}
use Rattle.daggy_cycles.proofs.with_edges.find_cycle_with_edges.Goals as goal

-- the cycle that is found is one of the shape, and so one of the graph with the pairs
module _ (g : Over) (c : After-as_slice g) where
  cycle_is : IsCycle c.in_ok-shape.shape.graph (map (λ z. z) c.as_slice.result.now)
  cycle_is =
      let P : Graph _ _ → Type 0 = λ z. IsCycle z (map (λ z. z) c.in-Some.cycle.items) in
      let Q : Option _ → Type 0 = λ z. IfSome z (λ nodes. IsCycle c.new.result.graph (map (λ z. z) nodes.items)) in
      let R : List ℕ → Type 0 = λ z. IsCycle c.in_ok-shape.shape.graph (map (λ z. z) z) in
      subst R (sym c.as_slice.ensures.value)
      (subst P (ap (λ z. z.graph) c.new.ensures) (subst Q c.in-Some.is c.in_ok-cycle.ensures.cycle))

  cycle_with : IsCycleWith (g.S.EdgeSource.graph c.args.store.now) (map (pair_of g.Ix.IndexType.number) c.args.edges.now)
      (map (λ z. z) c.as_slice.result.now)
  cycle_with =
      cycle_from (g.S.EdgeSource.graph c.args.store.now) c.in_ok-shape.shape.graph
      (map (pair_of g.Ix.IndexType.number) c.args.edges.now) c.invariant.ensures.well_formed c.in_ok-shape.ensures.nodes
      c.in_ok-shape.ensures.edges _ cycle_is

-- if none is found, the shape is acyclic
module _ (g : Over) (c : In-None g) where
  acyclic_is : IsAcyclic c.in_ok-shape.shape.graph
  acyclic_is =
      subst (λ z. IsAcyclic z) (ap (λ z. z.graph) c.new.ensures)
      (c.in_ok-cycle.ensures.decided.0 (subst (λ z. IsNone z) (sym c.in-None.is) refl))

pub indices_as-requires : goal.indices_as-requires
indices_as-requires g c n held =
    let there = nodes_exist (g.S.EdgeSource.graph c.args.store.now) c.in_ok-shape.shape.graph
    (map (pair_of g.Ix.IndexType.number) c.args.edges.now) c.invariant.ensures.well_formed c.in_ok-shape.ensures.nodes
    c.in_ok-shape.ensures.edges _ (cycle_is g c) n held in
    exists_low c.invariant.ensures.well_formed n there

pub returns-in-Some-clause-cycle : goal.returns-in-Some-clause-cycle
returns-in-Some-clause-cycle g c =
    let s = (goal.at.returns-in-Some-clause-cycle g c).After-as_slice in
    subst (λ z. IsCycleWith (g.S.EdgeSource.graph c.args.store.now) (map (pair_of g.Ix.IndexType.number) c.args.edges.now) z)
    (sym c.in_ok-indices_as-in-Some.ensures) (cycle_with g s)

pub returns-in-Some-clause-decided : goal.returns-in-Some-clause-decided
returns-in-Some-clause-decided g c =
    let s = (goal.at.returns-in-Some-clause-decided g c).After-as_slice in
    (λ no. absurd (false≢true (sym no)), λ none. absurd (none _ (cycle_with g s)))

pub returns-in-Some-clause-batch : goal.returns-in-Some-clause-batch
returns-in-Some-clause-batch g c items are =
    let s = (goal.at.returns-in-Some-clause-batch g c).After-as_slice in
    let graph = g.S.EdgeSource.graph c.args.store.now in
    let shape = c.in_ok-shape.shape.graph in
    let w = c.invariant.ensures.well_formed in
    let nodes = c.in_ok-shape.ensures.nodes in
    let edges = c.in_ok-shape.ensures.edges in
    let given = map (pair_of g.Ix.IndexType.number) c.args.edges.now in
    let same = acyclic_with_edges graph shape given w nodes edges items are in (
      λ no. absurd (false≢true (sym no)),
      λ acyclic. absurd (no_cycle graph shape given w nodes edges (same.1 acyclic) _ (cycle_with g s)),
    )

pub returns-clause-decided : goal.returns-clause-decided
returns-clause-decided g c =
    let s = (goal.at.returns-clause-decided g c).In-None in (
      λ none. no_cycle (g.S.EdgeSource.graph c.args.store.now) c.in_ok-shape.shape.graph
          (map (pair_of g.Ix.IndexType.number) c.args.edges.now) c.invariant.ensures.well_formed
          c.in_ok-shape.ensures.nodes c.in_ok-shape.ensures.edges (acyclic_is g s),
      λ none. refl,
    )

pub returns-clause-batch : goal.returns-clause-batch
returns-clause-batch g c items are =
    let s = (goal.at.returns-clause-batch g c).In-None in
    let same = acyclic_with_edges (g.S.EdgeSource.graph c.args.store.now) c.in_ok-shape.shape.graph
    (map (pair_of g.Ix.IndexType.number) c.args.edges.now) c.invariant.ensures.well_formed
    c.in_ok-shape.ensures.nodes c.in_ok-shape.ensures.edges items are in
    (λ none. same.0 (acyclic_is g s), λ acyclic. refl)
