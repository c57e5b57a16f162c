use Rattle.std.proofs.Common.{◌∙◌}
use Rattle.daggy_reduction.proofs.Closing.{closing_start, closing_well, closing_apart, closing_counted, closing_whole}
use Rattle.daggy_reduction.proofs.Closing.{closing_low, closing_on}
use Rattle.daggy_reduction.proofs.transitive_closure.transitive_closure.Goals as goal

pub nodes-init : goal.nodes-init
nodes-init g c =
    closing_start _ c.in_ok-matrix.matrix c.nodes-nodes.result c.nodes-nodes.ensures.rest
    (c.in_ok-matrix.ensures.bound ∙ c.node_bound.ensures.value) c.in_ok-matrix.ensures.empty

pub join_reached-requires-clause-well_formed : goal.join_reached-requires-clause-well_formed
join_reached-requires-clause-well_formed g c =
    closing_well c.node_bound.ensures.well_formed c.requires.ordered c.nodes.invariant

pub join_reached-requires-clause-bound : goal.join_reached-requires-clause-bound
join_reached-requires-clause-bound g c = rw c.nodes.invariant.same c.nodes.invariant.bound

pub join_reached-requires-clause-node : goal.join_reached-requires-clause-node
join_reached-requires-clause-node g c =
    closing_low c.node_bound.ensures.well_formed c.requires.ordered c.nodes.invariant c.next_back.new.self
    (g.Ix.IndexType.number c.in-Some.n) c.in-Some.ensures.steps

pub join_reached-requires-clause-apart : goal.join_reached-requires-clause-apart
join_reached-requires-clause-apart g c =
    closing_apart c.node_bound.ensures.well_formed c.requires.ordered c.nodes.invariant
    (g.Ix.IndexType.number c.in-Some.n)

pub nodes-preserved : goal.nodes-preserved
nodes-preserved g c =
    closing_on c.node_bound.ensures.well_formed c.requires.ordered c.nodes.invariant c.next_back.new.self
    (g.Ix.IndexType.number c.in-Some.n) c.in-Some.ensures.steps c.join_reached.ensures.same
    c.join_reached.ensures.counted c.join_reached.new.matrix c.join_reached.ensures.bound
    c.join_reached.ensures.joined

pub returns-clause-closure : goal.returns-clause-closure
returns-clause-closure g c =
    closing_whole c.node_bound.ensures.well_formed c.requires.ordered c.nodes.invariant c.in_default.ensures.steps.0

pub returns-clause-counted : goal.returns-clause-counted
returns-clause-counted g c =
    closing_counted c.node_bound.ensures.well_formed c.requires.ordered c.nodes.invariant
