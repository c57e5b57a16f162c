use Rattle.std.proofs.Common.{map, ◌+◌, ◌≤◌, vec_len, vec_capacity}
use Rattle.std.specs.Vec.Iter.{into_iter_len}
use Rattle.daggy_base.specs.Path.{IsAcyclic}
use Rattle.daggy_base.specs.Requests.{request_of}
use Rattle.daggy_base.specs.Answers.{answer_of}
use Rattle.daggy_run.specs.Runs.{IsRun}
use Rattle.daggy_run.proofs.run.run.Given as goal

abbrev pub invariant-commands : goal.invariant-commands
invariant-commands g l = record {
  can : (goal.iterator-commands g).can_next l.command-iterator;
  ends : (goal.iterator-commands g).is_finite l.command-iterator;
  run : IsRun g.D.GuardedDag.KIND g.Ix.IndexType.greatest (g.D.GuardedDag.graph l.fn.dag)
      (map (request_of g.Ix.IndexType.number) l.yielded) (map (answer_of g.Ix.IndexType.number) l.replies.items)
      (g.D.GuardedDag.graph l.dag);
  capacity : vec_len l.replies + into_iter_len l.command-iterator ≤ vec_capacity l.replies;
  acyclic : IsAcyclic (g.D.GuardedDag.graph l.dag);
}
