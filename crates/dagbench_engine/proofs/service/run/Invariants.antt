use Rattle.std.proofs.Common.{◌≡◌, ◌-◌, ◌^◌, length, Ok}
use Rattle.dagbench_lines.specs.Writing.{sink_of, written, KeepsSink}
use Rattle.dagbench_engine.specs.Progress.{IsServed}
use Rattle.dagbench_engine.proofs.GivenSoFar.{IsGiven}
use Rattle.dagbench_engine.proofs.service.run.Given as goal

abbrev pub invariant-reads : goal.invariant-reads
invariant-reads g l = record {
  served : IsServed g.D.GuardedDag.KIND (g.S.Source.given l.fn.source) (g.S.Source.given l.source)
      (g.K.Sink.taken (sink_of l.fn.writer)) (written g.K.Sink.taken l.writer) (g.D.GuardedDag.graph l.session.dag)
      l.session.line;
  gave : IsGiven (g.S.Source.remaining l.fn.source) (g.S.Source.remaining l.source) (g.S.Source.given l.fn.source)
      (g.S.Source.given l.source);
  no_read_fault : g.S.Source.failures l.source ≡ g.S.Source.failures l.fn.source;
  sink : KeepsSink {A = Unit {0}} {E = Unit {0}} g.K.Sink.failures (Ok tt) l.fn.writer l.writer;
}

abbrev pub decreases-reads : goal.decreases-reads
decreases-reads g l = 2 ^ 64 - length (g.S.Source.given l.source)
