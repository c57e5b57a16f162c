-- What is left by a caller that writes all weights.
use Rattle.std.specs.Prelude.{Some, map}
use Rattle.daggy_base.specs.Graph.{Graph}

-- every node with the weight w
abbrev pub with_all_nodes : {N E : Type 0} → N → Graph N E → Graph N E
with_all_nodes w g = record g { nodes = map (λ x. Some w) g.nodes }
