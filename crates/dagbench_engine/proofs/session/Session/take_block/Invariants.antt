use Rattle.std.proofs.Common.{length, Ok}
use Rattle.dagbench_lines.specs.Writing.{written, KeepsSink}
use Rattle.dagbench_engine.proofs.ServedSoFar.{Passed}
use Rattle.dagbench_engine.proofs.session.Session.take_block.Given as goal

abbrev pub invariant-lines : goal.invariant-lines
invariant-lines g l = record {
  passed : Passed g.D.GuardedDag.KIND l.fn.block l.rest (written g.K.Sink.taken l.fn.writer)
      (written g.K.Sink.taken l.writer) (g.D.GuardedDag.graph l.fn.self.dag) (g.D.GuardedDag.graph l.self.dag)
      l.fn.self.line l.self.line;
  sink : KeepsSink {A = Unit {0}} {E = Unit {0}} g.K.Sink.failures (Ok tt) l.fn.writer l.writer;
}

abbrev pub decreases-lines : goal.decreases-lines
decreases-lines g l = length l.rest
