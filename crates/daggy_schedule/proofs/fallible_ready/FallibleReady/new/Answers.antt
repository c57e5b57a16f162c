use Rattle.std.proofs.Common.{◌∙◌, false, length, sym, ap, arith}
use Rattle.std.proofs.lemmas.Bool.{false≢true}
use Rattle.std.proofs.lemmas.List.{length-replicate}
use Rattle.daggy_base.specs.Graph.{node_bound}
use Rattle.daggy_base.proofs.OutEdgesRead.{below_bound}
use Rattle.daggy_schedule.proofs.Starting.{resized, unset_by}
use Rattle.daggy_schedule.proofs.Tallies.{tallied_none}
use Rattle.daggy_schedule.proofs.fallible_ready.FallibleReady.new.Goals.{After-resize}
use Rattle.daggy_schedule.proofs.fallible_ready.FallibleReady.new.Goals as goal

pub invariant_of-result : goal.invariant_of-result
invariant_of-result g c =
    let flags = resized _ _ c.node_bound.result _ false c.new-failed.ensures.items c.new-failed.ensures.len c.in_ok-resize.ensures.items in
    tallied_none c.in_ok-inner.inner c.resize.new.self.items (unset_by c.resize.new.self.items c.node_bound.result flags)

pub returns-clause-none_failed : goal.returns-clause-none_failed
returns-clause-none_failed g c n h =
    let flags = resized _ _ c.node_bound.result _ false c.new-failed.ensures.items c.new-failed.ensures.len c.in_ok-resize.ensures.items in
    false≢true (sym (unset_by c.resize.new.self.items c.node_bound.result flags n) ∙ h)

pub returns-clause-under_way : goal.returns-clause-under_way
returns-clause-under_way g c =
    let flags = resized _ _ c.node_bound.result _ false c.new-failed.ensures.items c.new-failed.ensures.len c.in_ok-resize.ensures.items in
    record {
      under_way = c.in_ok-inner.ensures.under_way;
      flagged = λ n has.
          omega (
            arith,
            below_bound c.args.dag.now.graph.nodes n has,
            ap length flags,
            length-replicate c.node_bound.result false,
            c.node_bound.ensures.value,
            ap node_bound c.graph.ensures.graph,
          );
      failed = λ n h. absurd (false≢true (sym (unset_by c.resize.new.self.items c.node_bound.result flags n) ∙ h));
    }
