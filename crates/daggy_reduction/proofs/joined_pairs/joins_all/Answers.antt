use Rattle.std.proofs.Common.{◌+◌, ◌≤◌, length, refl, sym, ◌∙◌, arith}
use Rattle.std.proofs.lemmas.Bool.{false≢true}
use Rattle.daggy_base.specs.Graph.{out_list}
use Rattle.daggy_base.proofs.PathsWithNode.{bound_low}
use Rattle.daggy_reduction.proofs.Children.{compare_on, all_marked_if, compared, down_few, down_more}
use Rattle.daggy_reduction.proofs.joined_pairs.joins_all.Goals as goal

pub new-u-requires : goal.new-u-requires
new-u-requires g c =
    let graph = g.A.EdgeSource.graph c.args.a.now in
    omega (
      arith,
      c.nodes-test.true,
      c.node_bound-bound.ensures.value,
      bound_low graph.nodes,
      c.node_bound-bound.ensures.well_formed.few_nodes,
    )

pub returns-then-not-are_children_marked-clause-decided : goal.returns-then-not-are_children_marked-clause-decided
returns-then-not-are_children_marked-clause-decided g c = (
  λ t. absurd (false≢true t),
  λ all.
      absurd (false≢true (sym c.if-not-are_children_marked.true ∙ c.are_children_marked.ensures.decided.1
      (rw c.new-u.ensures.number (all_marked_if c.nodes.invariant.comparing c.begin.new.self.marked
      c.mark_children.new.work.marked c.begin.ensures.cleared.none_marked
      (rw (← c.new-u.ensures.number) c.mark_children.ensures.marked) all)))),
)

pub nodes-preserved : goal.nodes-preserved
nodes-preserved g c =
    let comparing = c.nodes.invariant.comparing in
    record {
      comparing =
          compare_on comparing c.begin.new.self.marked c.mark_children.new.work.marked
          c.begin.ensures.cleared.none_marked (rw (← c.new-u.ensures.number) c.mark_children.ensures.marked)
          c.nodes-test.true (c.mark_children.ensures.size ∙ c.begin.ensures.sized.size_is)
          c.are_children_marked.ensures.same c.mark_children.ensures.same
          (rw (← c.new-u.ensures.number) (c.are_children_marked.ensures.decided.0 c.if-not-are_children_marked.false));
      looked = omega (arith, c.nodes.invariant.looked, c.are_children_marked.ensures.looked);
      other_looked = omega (arith, c.nodes.invariant.other_looked, c.mark_children.ensures.counted);
      counted =
          down_more _ comparing.same c.new-u.ensures.number c.nodes.invariant.counted
          c.are_children_marked.ensures.counted;
      other_counted =
          down_more _ comparing.other_same c.new-u.ensures.number c.nodes.invariant.other_counted
          (omega (arith, c.mark_children.ensures.counted));
    }

pub returns-clause-decided : goal.returns-clause-decided
returns-clause-decided g c = (
  λ t.
      compared c.nodes.invariant.comparing g.Ix.IndexType.greatest c.node_bound-bound.ensures.well_formed
      c.node_bound-bound.ensures.value c.nodes-test.false,
  λ all. refl,
)

pub returns-then-not-are_children_marked-clause-counted : goal.returns-then-not-are_children_marked-clause-counted
returns-then-not-are_children_marked-clause-counted g c =
    omega (
      arith,
      down_more _ c.nodes.invariant.comparing.same c.new-u.ensures.number c.nodes.invariant.counted
          c.are_children_marked.ensures.counted,
      down_few c.node_bound-bound.ensures.well_formed (c.nodes.n + 1),
    )

pub returns-then-not-are_children_marked-clause-other_counted : goal.returns-then-not-are_children_marked-clause-other_counted
returns-then-not-are_children_marked-clause-other_counted g c =
    let more : g.B.EdgeSource.looks c.mark_children.new.source ≤ g.B.EdgeSource.looks c.nodes.b
    + length (out_list (g.B.EdgeSource.graph c.nodes.b) (g.Ix.IndexType.number c.new-u.result)) =
    omega (arith, c.mark_children.ensures.counted) in
    omega (
      arith,
      down_more _ c.nodes.invariant.comparing.other_same c.new-u.ensures.number c.nodes.invariant.other_counted more,
      down_few c.node_bound-well_formed.ensures.well_formed (c.nodes.n + 1),
    )

pub returns-clause-counted : goal.returns-clause-counted
returns-clause-counted g c =
    omega (arith, c.nodes.invariant.counted, down_few c.node_bound-bound.ensures.well_formed c.nodes.n)

pub returns-clause-other_counted : goal.returns-clause-other_counted
returns-clause-other_counted g c =
    omega (arith, c.nodes.invariant.other_counted, down_few c.node_bound-well_formed.ensures.well_formed c.nodes.n)
