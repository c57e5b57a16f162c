use Rattle.daggy_dag.proofs.SlottedGraph.{HoldsGraph-filled}
use Rattle.daggy_dag.proofs.slot_capacity.Room.fill.Goals as goal

pub from_cells-requires : goal.from_cells-requires
from_cells-requires g c = (
  c.args.graph.graph,
  HoldsGraph-filled g.Ix.IndexType.greatest c.args.graph.graph c.node_count-compact.ensures.well_formed
      c.node_count-compact.ensures.compact c.into_raw-old_nodes.ensures.nodes c.into_raw-old_nodes.ensures.edges
      c.put_nodes.ensures c.put_edges.ensures,
)

pub returns : goal.returns
returns g c =
    c.from_cells.ensures c.args.graph.graph
    (HoldsGraph-filled g.Ix.IndexType.greatest c.args.graph.graph c.node_count-compact.ensures.well_formed
    c.node_count-compact.ensures.compact c.into_raw-old_nodes.ensures.nodes c.into_raw-old_nodes.ensures.edges
    c.put_nodes.ensures c.put_edges.ensures)
