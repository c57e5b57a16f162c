use Rattle.std.proofs.Common.{◌≡◌, ◌++◌, map, drop}
use Rattle.daggy_base.specs.Orders.{numbers_of}
use Rattle.daggy_operators.specs.Children.{with_out_list}
use Rattle.daggy_operators.proofs.ChildOrder.{rows_at}
use Rattle.daggy_operators.proofs.children.rows_with.Given as goal

abbrev pub invariant-nodes : goal.invariant-nodes
invariant-nodes g l =
    let number = g.Ix.IndexType.number in
    let graph = g.S.EdgeSource.graph l.store in
    let other = with_out_list graph (number l.fn.n) (map number l.fn.order) in
    map (numbers_of number) l.rows.items ++ rows_at other l.i (drop l.i graph.nodes) ≡ rows_at other 0 graph.nodes
