use Rattle.std.proofs.Common.{length}
use Rattle.dagbench_lines.proofs.WrittenBytes.{IsPut}
use Rattle.dagbench_lines.proofs.device.write_out.Given as goal

abbrev pub invariant-writes : goal.invariant-writes
invariant-writes g l = IsPut (g.W.Write.contents l.fn.device) (g.W.Write.contents l.device) l.fn.bytes l.rest

abbrev pub decreases-writes : goal.decreases-writes
decreases-writes g l = length l.rest
