use Rattle.std.proofs.Common.{◌≡◌, ◌+◌, ◌*◌}
use Rattle.std.specs.Prelude.{vec_capacity}
use Rattle.daggy_order.specs.Links.{IsRunWritten}
use Rattle.daggy_order.proofs.list.links.write_run.Given as goal

abbrev pub invariant-run : goal.invariant-run
invariant-run g l =
    IsRunWritten g.Ix.IndexType.greatest l.fn.items.items l.items.items l.n l.i l.low l.label
    × ((l.label ≡ l.low + l.gap * l.i) × (vec_capacity l.items ≡ vec_capacity l.fn.items))
