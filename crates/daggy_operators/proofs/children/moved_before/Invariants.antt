use Rattle.std.proofs.Common.{◌≡◌, ◌++◌, map, drop}
use Rattle.daggy_operators.specs.Children.{put_before}
use Rattle.daggy_operators.proofs.children.moved_before.Given as goal

abbrev pub invariant-edges : goal.invariant-edges
invariant-edges g l =
    let number = g.Ix.IndexType.number in
    map number l.order.items ++ put_before (number l.edge) (number l.before) (map number (drop l.i l.list))
    ≡ put_before (number l.edge) (number l.before) (map number l.list)
