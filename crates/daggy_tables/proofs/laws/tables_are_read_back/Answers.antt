use Rattle.daggy_tables.proofs.TablesRead.{node_table_read, edge_table_read}
use Rattle.daggy_tables.proofs.laws.tables_are_read_back.Goals as goal

pub returns-clause-nodes : goal.returns-clause-nodes
returns-clause-nodes g c compact display is =
    node_table_read g.N.Display.output g.E.Display.output g.Ix.IndexType.greatest (g.S.EdgeSource.graph c.args.graph.now) c.index.ensures.fits
    c.invariant.ensures.well_formed compact display c.args.nodes.now is

pub returns-clause-edges : goal.returns-clause-edges
returns-clause-edges g c compact display is =
    edge_table_read g.N.Display.output g.E.Display.output g.Ix.IndexType.greatest (g.S.EdgeSource.graph c.args.graph.now) c.index.ensures.fits
    c.invariant.ensures.well_formed compact display c.args.edges.now is
