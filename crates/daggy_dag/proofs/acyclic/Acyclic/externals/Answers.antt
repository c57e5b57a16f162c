use Rattle.std.proofs.Common.{arith}
use Rattle.daggy_dag.proofs.Externals.{few}
use Rattle.daggy_dag.proofs.acyclic.Acyclic.externals.Goals as goal

pub returns-clause-fits : goal.returns-clause-fits
returns-clause-fits g c =
    let graph = g.S.EdgeSource.graph c.self-inside.inside.0.0.store in
    let slots = c.node_slots-slots in
    omega (arith, few c.args.dir graph, slots.ensures, slots.type_inv)
