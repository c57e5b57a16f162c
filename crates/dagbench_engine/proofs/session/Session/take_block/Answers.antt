use Rattle.std.proofs.Common.{◌∙◌}
use Rattle.dagbench_engine.proofs.ServedSoFar.{line_passed, block_passed}
use Rattle.dagbench_engine.proofs.session.Session.take_block.Goals as goal

pub lines-preserved : goal.lines-preserved
lines-preserved g c =
    let sink = c.in_ok-end_line.ensures.sink in
    record {
      passed =
          line_passed _ c.lines.invariant.passed c.in-Some.ensures.1
          (c.in_ok-end_line.ensures.served c.in-Some.ensures.0);
      sink = (sink.0 ∙ c.lines.invariant.sink.0, sink.1 ∙ c.lines.invariant.sink.1);
    }

pub returns-clause-served : goal.returns-clause-served
returns-clause-served g c =
    block_passed c.lines.invariant.passed c.in_default.ensures c.keep.ensures
