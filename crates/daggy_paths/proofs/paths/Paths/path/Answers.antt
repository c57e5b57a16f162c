use Rattle.std.proofs.Common.{◌+◌, ◌∙◌, sym, ap, subst, arith}
use Rattle.daggy_base.specs.Graph.{edge_count}
use Rattle.daggy_base.specs.Path.{Reaches}
use Rattle.daggy_base.specs.Ordered.{place}
use Rattle.daggy_order.proofs.OrderEdgeResult.{reached_later}
use Rattle.daggy_base.proofs.EdgesFrom.{few_edges}
use Rattle.daggy_paths.proofs.SameStates.{same_graph, same_looks}
use Rattle.daggy_paths.proofs.paths.Paths.path.Goals as goal

pub returns-clause-counted : goal.returns-clause-counted
returns-clause-counted g c =
    let order = c.self.inside.order in
    omega (
      arith,
      c.path_in.ensures.counted,
      few_edges c.node_bound-bound.ensures.well_formed c.self.invariant.0
          (place order (g.Ix.IndexType.number c.args.a)) (place order (g.Ix.IndexType.number c.args.b)),
      same_looks c.self.view_is,
      ap edge_count (same_graph c.self.view_is),
    )

pub returns-clause-ready : goal.returns-clause-ready
returns-clause-ready g c r =
    let a = g.Ix.IndexType.number c.args.a in
    let b = g.Ix.IndexType.number c.args.b in
    let back = subst (λ z. Reaches z b a) (sym (same_graph c.self.view_is)) r in
    ap (λ z. z + c.self.inside.back.looks)
    (c.path_in.ensures.unlooked (reached_later _ _ c.self.invariant.0 b a back))
    ∙ same_looks c.self.view_is
