use Rattle.std.proofs.Common.{◌≡◌, ◌∙◌, ℕ, [], true, ap, arith, vec_len, get_or}
use Rattle.daggy_base.specs.Graph.{HasNode, node_bound}
use Rattle.daggy_base.specs.WellFormed.{IsWellFormed}
use Rattle.daggy_base.proofs.OutEdgesRead.{below_bound}
use Rattle.daggy_base.proofs.PathsWithNode.{bound_low}
use Rattle.daggy_schedule.specs.Passes.{IsLatestFinish, later_by}
use Rattle.daggy_schedule.proofs.Elsewhere.{set_elsewhere}
use Rattle.daggy_schedule.proofs.Float.{child_begins, lag_before, finishes_before, latest_alone, floats_none, floats_one}
use Rattle.daggy_schedule.proofs.schedule.float.float_of.Given.{Over}
use Rattle.daggy_schedule.proofs.schedule.float.float_of.Goals.{After-new-n, After-contains_node}
use Rattle.daggy_schedule.proofs.schedule.float.float_of.Goals.{then-contains_node, else-contains_node}
use Rattle.daggy_schedule.proofs.schedule.float.float_of.Goals as goal

pub new-n-requires : goal.new-n-requires
new-n-requires g c =
    let graph = g.S.EdgeSource.graph c.graph-store.result.now in
    omega (
      arith,
      c.nodes-test.true,
      c.node_bound-bound.ensures.value,
      bound_low graph.nodes,
      c.node_bound-bound.ensures.well_formed.few_nodes,
    )

formed : (g : Over) (c : After-new-n g) → IsWellFormed g.Ix.IndexType.greatest c.args.dag.now.graph
formed g c = rw (← c.graph-store.ensures.graph) c.node_bound-bound.ensures.well_formed

pub latest_finish-latest-requires-clause-low : goal.latest_finish-latest-requires-clause-low
latest_finish-latest-requires-clause-low g c =
    rw c.graph-store.ensures.graph
    (child_begins (formed g (goal.at.latest_finish-latest-requires-clause-low g c).After-new-n) c.requires.in_time _)

pub latest_finish-latest-requires-clause-lags : goal.latest_finish-latest-requires-clause-lags
latest_finish-latest-requires-clause-lags g c =
    rw c.graph-store.ensures.graph
    (lag_before (formed g (goal.at.latest_finish-latest-requires-clause-lags g c).After-new-n) c.requires.in_time _)

-- what a latest finish is of the node
latest : (g : Over) (c : After-new-n g) (time : ℕ)
    → IsLatestFinish (g.S.EdgeSource.graph c.graph-store.result.now) (g.Ix.IndexType.number c.new-n.result) c.args.lags.now
    (later_by c.args.starts.now []) c.args.makespan time
    → IsLatestFinish c.args.dag.now.graph c.nodes.i c.args.lags.now (λ v. get_or c.args.starts.now v 0) c.args.makespan time
latest g c time s = latest_alone c.args.starts.now (rw (c.graph-store.ensures.graph, c.new-n.ensures.number) at s)

exists : (g : Over) (c : After-contains_node g) → c.contains_node.result ≡ true → HasNode c.args.dag.now.graph c.nodes.i
exists g c is = rw c.new-n.ensures.number at (c.contains_node.ensures.0 is)

pub overflow_sub-latest : goal.overflow_sub-latest
overflow_sub-latest g c =
    let at = goal.at.overflow_sub-latest g c in
    finishes_before (formed g at.After-new-n) c.requires.in_time c.nodes.i c.latest_finish-latest.result
    (exists g at.After-contains_node c.if-contains_node.true)
    (latest g at.After-new-n c.latest_finish-latest.result c.latest_finish-latest.ensures)

pub nodes-preserved : goal.nodes-preserved
nodes-preserved g c =
    let at = goal.at.nodes-preserved g c in
    let graph = c.args.dag.now.graph in
    let s = c.nodes.invariant in
    elim c.if-contains_node.branch [
      | then-contains_node w ↦ (
          let here = exists g at.After-contains_node w.if-contains_node.true in
          let finish = latest g at.After-new-n w.latest_finish-latest.result w.latest_finish-latest.ensures in
          let is = ap (λ z. z.items) w.float-is in
          record {
            sized = ap vec_len w.float-is ∙ s.sized;
            floating =
                floats_one s.floating w.latest_finish-latest.result finish
                (finishes_before (formed g at.After-new-n) c.requires.in_time c.nodes.i w.latest_finish-latest.result here finish)
                (omega (arith, s.sized, c.nodes-test.true, c.nodes.float.ok.0)) c.if-contains_node.float.items is;
            elsewhere = set_elsewhere graph _ _ _ _ here s.elsewhere is;
          }
          )
      | else-contains_node w ↦ (
          let none : HasNode graph c.nodes.i → ⊥ = λ h.
          (let is : c.contains_node.result ≡ true = c.contains_node.ensures.1 (rw c.new-n.ensures.number h) in cc) in
          let is = ap (λ z. z.items) w.float-is in
          record {
            sized = ap vec_len w.float-is ∙ s.sized;
            floating = rw is (floats_none s.floating none);
            elsewhere = rw is s.elsewhere;
          }
          )
    ]

pub returns-clause-latest : goal.returns-clause-latest
returns-clause-latest g c n h =
    c.nodes.invariant.floating.latest n h
    (omega (
      arith,
      c.nodes-test.false,
      c.node_bound-bound.ensures.value,
      ap node_bound c.graph-store.ensures.graph,
      below_bound c.args.dag.now.graph.nodes n h,
    ))
