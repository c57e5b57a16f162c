use Rattle.std.proofs.Common.{take, Ok}
use Rattle.dagbench_lines.specs.Replies.{stages_text}
use Rattle.dagbench_lines.specs.Writing.{Writes}
use Rattle.dagbench_lines.proofs.plan.put_stages.Given as goal

abbrev pub invariant-loop-stage : goal.invariant-loop-stage
invariant-loop-stage g l =
    Writes {A = Unit {0}} {E = Unit {0}} g.K.Sink.taken g.K.Sink.failures (Ok tt) l.fn.writer l.writer
    (stages_text (λ stage. stage.items) (take l.stage-index l.stages))
