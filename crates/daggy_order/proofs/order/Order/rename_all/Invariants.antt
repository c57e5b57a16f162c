use Rattle.std.proofs.Common.{◌≡◌}
use Rattle.std.specs.List.{filter_map}
use Rattle.daggy_order.proofs.RenumberedNodes.{names_to}
use Rattle.daggy_order.proofs.order.Order.rename_all.Given as goal

abbrev pub invariant-nodes : goal.invariant-nodes
invariant-nodes g l = l.self ≡ filter_map (names_to l.names l.i) l.fn.self
