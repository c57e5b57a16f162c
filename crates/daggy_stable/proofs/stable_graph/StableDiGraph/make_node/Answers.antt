use Rattle.std.proofs.Common.{rules, ◌<◌, ap, ◌∙◌, arith}
use Rattle.daggy_base.specs.Graph.{node_count}
use Rattle.daggy_base.specs.Adding.{with_node}
use Rattle.daggy_cells.proofs.States.{state_changed}
use Rattle.daggy_stable.proofs.Stores.{stored_is, Stores-itself}
use Rattle.daggy_stable.proofs.BuiltSlots.{node_made_code}
use Rattle.daggy_stable.proofs.stable_graph.StableDiGraph.make_node.Goals as goal

pub push_reserved-requires : goal.push_reserved-requires
push_reserved-requires g c = search (rules, c.reserve.ensures.ok, c.is_err.ensures, c.if-is_err.false)

pub invariant_of-self-2 : goal.invariant_of-self-2
invariant_of-self-2 g c =
    let few : c.self.inside.node_count < g.Ix.IndexType.greatest =
    omega (
      arith,
      c.requires.index_left,
      ap (λ s. node_count s.graph) c.self.view_is,
      c.self.invariant.node_slots.counted,
    ) in
    Stores-itself (node_made_code c.self.invariant c.args.weight (ap (λ s. s.graph.vacant_nodes) c.self.view_is
    ∙ c.requires.none) few c.new_node.ensures c.reserve.ensures.items c.push_reserved.ensures.items)

pub returns-clause-added : goal.returns-clause-added
returns-clause-added g c =
    let few : c.self.inside.node_count < g.Ix.IndexType.greatest =
    omega (
      arith,
      c.requires.index_left,
      ap (λ s. node_count s.graph) c.self.view_is,
      c.self.invariant.node_slots.counted,
    ) in
    state_changed _ _ _ _ (λ h. with_node h c.args.weight) c.self.view_is
    (stored_is (node_made_code c.self.invariant c.args.weight (ap (λ s. s.graph.vacant_nodes) c.self.view_is
    ∙ c.requires.none) few c.new_node.ensures c.reserve.ensures.items c.push_reserved.ensures.items))
