use Rattle.std.proofs.Common.{◌≡◌, map}
use Rattle.std.specs.List.{filter, range_with_len}
use Rattle.daggy_schedule.specs.Work.{is_set}
use Rattle.daggy_schedule.proofs.fallible_ready.set_indices.Given as goal

abbrev pub invariant-flags : goal.invariant-flags
invariant-flags g l = map g.Ix.IndexType.number l.nodes.items ≡ filter (is_set l.flags) (range_with_len 0 l.i)
