use Rattle.std.proofs.Common.{arith}
use Rattle.daggy_base.proofs.PathsWithNode.{bound_low}
use Rattle.daggy_base.proofs.OutEdgesRead.{below_bound}
use Rattle.daggy_guard.proofs.elements.node_at.Goals as goal

pub returns-then-bound-position : goal.returns-then-bound-position
returns-then-bound-position g c exists =
    omega (
      arith,
      below_bound (g.S.EdgeSource.graph c.args.store.now).nodes c.args.position exists,
      c.if-bound-position.true,
      c.node_bound-bound.ensures.value,
    )

pub new-n-requires : goal.new-n-requires
new-n-requires g c =
    omega (
      arith,
      bound_low (g.S.EdgeSource.graph c.args.store.now).nodes,
      c.node_bound-bound.ensures.well_formed.few_nodes,
      c.if-bound-position.false,
      c.node_bound-bound.ensures.value,
    )
