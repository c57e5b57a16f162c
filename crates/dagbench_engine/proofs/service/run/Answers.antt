use Rattle.std.proofs.Common.{refl, ◌∙◌, ap, ◌+◌, ◌<◌, length, arith}
use Rattle.dagbench_engine.proofs.Runs.{new_session, read_on, read_failed, read_all, met}
use Rattle.dagbench_engine.proofs.GivenSoFar.{none_given, more_given, all_given}
use Rattle.dagbench_engine.proofs.service.run.Goals as goal

pub reads-init : goal.reads-init
reads-init g c = record {
  served = new_session c.requires.graph c.requires.nothing.0 c.requires.nothing.1;
  gave = none_given _ _;
  no_read_fault = refl;
  sink = (refl, refl);
}

pub returns-in_default-read-clause-run : goal.returns-in_default-read-clause-run
returns-in_default-read-clause-run g c = (
  read_failed c.reads.invariant.served c.in-Ok.ensures.0.0 c.in_default-read.ensures.bytes,
  c.in_default-read.ensures.counted ∙ ap (λ n. n + 1) c.reads.invariant.no_read_fault,
  c.in-Ok.ensures.1.0 ∙ c.reads.invariant.sink.0,
)

pub reads-preserved : goal.reads-preserved
reads-preserved g c =
    let flush = c.in-Ok.ensures in
    let taken = c.in-Ok-take_block.ensures in
    record {
      served =
          read_on _ c.reads.invariant.served flush.0.0 flush.0.1 c.in-Ok-read.ensures.bytes.1 taken.served;
      gave = more_given _ _ _ _ _ _ _ c.reads.invariant.gave c.in-Ok-read.ensures.bytes.1 c.in-Ok-read.ensures.rest.0;
      no_read_fault = c.in-Ok-read.ensures.counted ∙ c.reads.invariant.no_read_fault;
      sink = (
        taken.sink.0 ∙ (flush.1.0 ∙ c.reads.invariant.sink.0),
        taken.sink.1 ∙ (flush.1.1 ∙ c.reads.invariant.sink.1),
      );
    }

pub returns-clause-run : goal.returns-clause-run
returns-clause-run g c =
    let room : 0 < length c.read.new.buffer = omega arith in (
      read_all _ c.reads.invariant.served c.in-Ok.ensures.0.0 c.in-Ok.ensures.0.1 c.in-Ok-read.ensures.bytes.1
          c.if-count-eq0.true c.in-Ok-finish.ensures.served,
      met _ _ c.in-Ok-read.ensures.end c.if-count-eq0.true room,
      all_given _ _ _ _
          (more_given _ _ _ _ _ _ _ c.reads.invariant.gave c.in-Ok-read.ensures.bytes.1 c.in-Ok-read.ensures.rest.0)
          (c.in-Ok-read.ensures.rest.1 c.if-count-eq0.true room),
      c.in-Ok-read.ensures.counted ∙ c.reads.invariant.no_read_fault,
      c.in-Ok-finish.ensures.sink.0 ∙ (c.in-Ok.ensures.1.0 ∙ c.reads.invariant.sink.0),
    )
