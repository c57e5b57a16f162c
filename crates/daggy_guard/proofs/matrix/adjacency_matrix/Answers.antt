use Rattle.std.proofs.Common.{◌≤◌, arith}
use Rattle.daggy_base.specs.Graph.{edge_bound}
use Rattle.daggy_base.proofs.PathsWithNode.{bound_low}
use Rattle.daggy_base.proofs.EdgeEnds.{edge_here, no_edge_here, parent_low, child_low}
use Rattle.daggy_guard.proofs.FilledMatrix.{past_vacant, past_edge}
use Rattle.daggy_guard.proofs.FilledMatrix.{past_all}
use Rattle.daggy_guard.proofs.matrix.adjacency_matrix.Goals as goal
use Rattle.daggy_guard.proofs.matrix.adjacency_matrix.Goals.{in-Some, in_default}

pub new-requires-in-edges : goal.new-requires-in-edges
new-requires-in-edges g c =
    let graph = g.S.EdgeSource.graph c.args.store.now in
    omega (
      arith,
      c.edges-test.true,
      c.edge_bound-e-end.ensures,
      bound_low graph.edges,
      c.node_bound.ensures.well_formed.few_edges,
    )

pub join-requires-clause-source : goal.join-requires-clause-source
join-requires-clause-source g c =
    let graph = g.S.EdgeSource.graph c.args.store.now in
    let (x, at, parent, child) = edge_here graph _ c.edges.e _ c.new-in-edges.ensures.number c.in-Some.ensures in
    omega (arith, parent, parent_low c.node_bound.ensures.well_formed c.edges.e x at, c.edges.invariant.bound)

pub join-requires-clause-target : goal.join-requires-clause-target
join-requires-clause-target g c =
    let graph = g.S.EdgeSource.graph c.args.store.now in
    let (x, at, parent, child) = edge_here graph _ c.edges.e _ c.new-in-edges.ensures.number c.in-Some.ensures in
    omega (arith, child, child_low c.node_bound.ensures.well_formed c.edges.e x at, c.edges.invariant.bound)

pub edges-preserved : goal.edges-preserved
edges-preserved g c =
    let graph = g.S.EdgeSource.graph c.args.store.now in
    elim c.match-edge_endpoints.branch [
      | in-Some w ↦
          let (x, at, parent, child) = edge_here graph _ c.edges.e _ c.new-in-edges.ensures.number w.in-Some.ensures in
          rw w.matrix-is (past_edge graph c.edges.matrix c.edges.e c.edges.invariant x at parent child
          w.join.ensures.bound w.join.ensures.joined)
      | in_default w ↦
          rw w.matrix-is (past_vacant graph c.edges.matrix c.edges.e c.edges.invariant
          (no_edge_here graph _ c.edges.e c.new-in-edges.ensures.number w.in_default.ensures))
    ]

pub returns : goal.returns
returns g c =
    let graph = g.S.EdgeSource.graph c.args.store.now in
    let past : edge_bound graph ≤ c.edges.e = omega (arith, c.edges-test.false, c.edge_bound-e-end.ensures) in
    past_all graph c.edges.matrix c.edges.e c.edges.invariant past
