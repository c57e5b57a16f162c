use Rattle.daggy_dag.proofs.Mapped.{kept_mapped}
use Rattle.daggy_dag.proofs.acyclic.stable.map.Acyclic+N+E+Ix+StableDiGraph+N+E+Ix.map.Goals as goal

pub map-requires-clause-nodes : goal.map-requires-clause-nodes
map-requires-clause-nodes g c = rw c.graph.ensures.graph c.requires.nodes

pub map-requires-clause-edges : goal.map-requires-clause-edges
map-requires-clause-edges g c = rw c.graph.ensures.graph c.requires.edges

pub from_parts-requires : goal.from_parts-requires
from_parts-requires g c =
    kept_mapped _ _ _ _ _ _ _ (rw c.graph.ensures.graph at c.in_ok-store.ensures.mapped) _ _
    c.in_ok-order.ensures.ordered c.in_ok-order.ensures.fits

pub returns-clause-mapped : goal.returns-clause-mapped
returns-clause-mapped g c = rw (c.from_parts.ensures.value, ← c.graph.ensures.graph) c.in_ok-store.ensures.mapped
