use Rattle.std.proofs.Common.{◌≡◌, map}
use Rattle.daggy_base.specs.declared.index.Direction.{Direction}
use Rattle.daggy_base.specs.Orders.{numbers_of}
use Rattle.daggy_cells.specs.Fields.{weight_of, plain_edge, firsts_of, nexts_of, order_at}
use Rattle.daggy_cells.proofs.RelinkedLists.{AreLinkedBelow}
use Rattle.daggy_graph.proofs.graph.ordering.relink_nodes.Given as goal

abbrev pub invariant-each : goal.invariant-each
invariant-each g l =
    record {
      weights : map weight_of l.nodes.items ≡ map weight_of l.fn.nodes.items;
      lines : map plain_edge l.edges.items ≡ map plain_edge l.fn.edges.items;
      rows : (dir : Direction)
          → AreLinkedBelow l.i g.Ix.IndexType.greatest (nexts_of dir l.fn.edges.items) (firsts_of dir l.nodes.items)
          (nexts_of dir l.edges.items) (map (order_at dir) (map (numbers_of g.Ix.IndexType.number) l.orders));
    }
