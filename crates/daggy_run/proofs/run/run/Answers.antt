use Rattle.std.proofs.Common.{[], ◌∷◌, ◌∙◌, map, ap, arith}
use Rattle.std.proofs.lemmas.List.{map-append}
use Rattle.std.proofs.lemmas.Iterator.Adapters.{YieldsList-from_vec}
use Rattle.std.proofs.lemmas.Iterator.Consumers.{YieldsList-end}
use Rattle.daggy_base.specs.Requests.{request_of}
use Rattle.daggy_base.specs.Answers.{answer_of}
use Rattle.daggy_run.proofs.RunSteps.{run_more, run_begins, run_whole, unless_err}
use Rattle.daggy_run.proofs.OneAnswer.{as_compact}
use Rattle.daggy_run.proofs.run.run.Goals as goal

pub commands-init : goal.commands-init
commands-init g c = record {
  can = tt;
  ends = tt;
  run =
      run_begins g.D.GuardedDag.KIND g.Ix.IndexType.greatest _ _ _
      (c.reserve.ensures.items ∙ c.new-replies.ensures.items);
  capacity = omega (
    arith,
    unless_err c.reserve.result c.reserve.ensures.ok c.if-is_err.ensures.value,
    c.len.ensures,
    c.into_iter-command-iterator.ensures.into_iter_gives.1,
  );
  acyclic = c.can_add_node-acyclic.ensures.dag.acyclic;
}

pub commands-preserved : goal.commands-preserved
commands-preserved g c = record {
  can = tt;
  ends = tt;
  run =
      let request = request_of g.Ix.IndexType.number in
      let answer = answer_of g.Ix.IndexType.number in
      let asked = map-append request c.commands.yielded (c.in-Some.command ∷ []) in
      let said =
      ap (map answer) c.push_reserved.ensures.items
      ∙ map-append answer c.commands.replies.items (c.perform-reply.result ∷ []) in
      rw (asked, said) (run_more g.D.GuardedDag.KIND g.Ix.IndexType.greatest _ _ _ _ _ _ _ c.commands.invariant.run
      c.perform-reply.ensures.step);
  capacity = omega (
    arith,
    c.in-Some.ensures.steps.1,
    c.push_reserved.ensures.len,
    c.push_reserved.ensures.capacity,
    c.commands.invariant.capacity,
  );
  acyclic = c.perform-reply.ensures.acyclic;
}

pub returns-clause-run : goal.returns-clause-run
returns-clause-run g c =
    let given = c.into_iter-command-iterator.ensures.into_iter_gives in
    let all =
    YieldsList-end (YieldsList-from_vec {s = c.into_iter-command-iterator.result} c.args.commands.items given.0
    (given.1 ∙ c.args.commands.ok.0)) c.commands.yielded c.commands.command-iterator c.commands.yielded_by c.next.result
    c.next.new.self c.in-None.is c.next.ensures.steps in
    run_whole g.D.GuardedDag.KIND g.Ix.IndexType.greatest _ _ _ _ _ all.0 c.commands.invariant.run

pub returns-clause-as_compact : goal.returns-clause-as_compact
returns-clause-as_compact g c =
    as_compact g.Ix.IndexType.greatest g.D.GuardedDag.KIND _ _ _ _ (returns-clause-run g c)
