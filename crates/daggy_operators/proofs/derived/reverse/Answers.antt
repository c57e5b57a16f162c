use Rattle.std.proofs.Common.{◌≡◌, ◌∙◌, true, length, replicate, ap}
use Rattle.daggy_operators.proofs.Wholes.{is_reverse, reached_back, on_ok}
use Rattle.daggy_operators.proofs.derived.reverse.Given.{Over}
use Rattle.daggy_operators.proofs.derived.reverse.Goals.{In_ok-marks}
use Rattle.daggy_operators.proofs.derived.reverse.Goals as goal

module _ (g : Over) (c : In_ok-marks g) where
  all_set : c.in_ok-marks.marks.items ≡ replicate (length c.args.dag.now.graph.nodes) true
  all_set =
      c.in_ok-marks.ensures
      ∙ ap (λ z. replicate z true) (c.node_slots.ensures ∙ ap (λ z. length z.nodes) c.graph-store.ensures.graph)

pub returns-clause-reversed : goal.returns-clause-reversed
returns-clause-reversed g c =
    let s = (goal.at.returns-clause-reversed g c).In_ok-marks in
    on_ok c.part.result (λ d p. is_reverse c.node_count-count.ensures.dag.well_formed (all_set g s) p) c.part.ensures.part

pub returns-clause-reachability : goal.returns-clause-reachability
returns-clause-reachability g c =
    let s = (goal.at.returns-clause-reachability g c).In_ok-marks in
    on_ok c.part.result (λ d p. reached_back c.node_count-count.ensures.dag.well_formed (all_set g s) p) c.part.ensures.part
