use Rattle.std.proofs.Common.{ℕ, ◌<◌, ◌↔◌}
use Rattle.daggy_base.specs.Graph.{HasNode}
use Rattle.daggy_operators.proofs.comparing.have_same_nodes.Given as goal

abbrev pub invariant-nodes : goal.invariant-nodes
invariant-nodes g l =
    (n : ℕ) → n < l.i → HasNode (g.S.EdgeSource.graph l.a) n ↔ HasNode (g.T.EdgeSource.graph l.b) n
