use Rattle.std.proofs.Common.{ap}
use Rattle.daggy_named.proofs.NamedNodes.{have_keys, neighbors_exist}
use Rattle.daggy_named.proofs.named.Named.neighbors.Goals as goal

pub invariant_of-result : goal.invariant_of-result
invariant_of-result g c =
    have_keys c.args.self.now.keys c.args.self.now.graph c.node_count-count.ensures.named.exact _ (rw (c.neighbors_directed.ensures.rest, ap (λ s. s.graph) c.self.view_is)
    (neighbors_exist c.args.self.now.graph c.node_count-count.ensures.dag.well_formed c.args.dir (g.Ix.IndexType.number c.args.n)))
