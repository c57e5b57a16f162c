use Rattle.std.proofs.Common.{◌≡◌, ◌+◌, is_some, true, sym, ap, subst, ◌∙◌, arith}
use Rattle.std.proofs.lemmas.Bool.{false≢true}
use Rattle.daggy_base.specs.Graph.{slot, HasNode}
use Rattle.daggy_base.specs.declared.kind.Kind.TheVariants.{Compact, Stable}
use Rattle.daggy_base.proofs.FullSlots.{IsFull, full_from}
use Rattle.daggy_dag.specs.Slots.{next_slot}
use Rattle.daggy_dag.proofs.NextSlots.{next_passed, next_there, next_behind}
use Rattle.daggy_dag.proofs.acyclic.Acyclic.node_from.Goals.{After-node_slots-slots}
use Rattle.daggy_dag.proofs.acyclic.Acyclic.node_from.Given.{Over}
use Rattle.daggy_dag.proofs.acyclic.Acyclic.node_from.Goals as goal

-- no slot of the compact kind is vacant
full : (g : Over) (c : After-node_slots-slots g)
    → g.S.ReadStore.KIND ≡ Compact → IsFull (g.S.EdgeSource.graph c.self-inside.inside.0.0.store).nodes
full g c compact =
    full_from _ _ c.invariant.ensures.well_formed.node_slots (c.invariant.ensures.compact compact).nodes

pub along-preserved : goal.along-preserved
along-preserved g c =
    let missing : is_some (slot (g.S.EdgeSource.graph c.self-inside.inside.0.0.store).nodes c.along.i) ≡ true → ⊥ =
    λ has.
    false≢true (sym c.if-contains_node.false ∙ c.contains_node.ensures.exists.1
    (subst (HasNode (g.S.EdgeSource.graph c.self-inside.inside.0.0.store)) (sym c.new.ensures.number) has)) in
    c.along.invariant
    ∙ subst (λ z. next_slot Stable z.nodes c.along.i ≡ next_slot Stable z.nodes (c.along.i + 1))
    (ap (λ s. s.graph) (ap (λ i. i.guarded) c.self-inside.view_is ∙ c.self.view_is))
    (next_passed (g.S.EdgeSource.graph c.self-inside.inside.0.0.store).nodes c.along.i
    (omega (arith, c.along-test.true, c.node_slots-slots.ensures)) missing)

pub returns-then-contains_node-clause-place : goal.returns-then-contains_node-clause-place
returns-then-contains_node-clause-place g c =
    let so_far =
    subst (λ z. next_slot Stable z.nodes c.args.from ≡ next_slot Stable z.nodes c.along.i)
    (sym (ap (λ s. s.graph) (ap (λ i. i.guarded) c.self-inside.view_is ∙ c.self.view_is))) c.along.invariant in
    let slots = (g.S.EdgeSource.graph c.self-inside.inside.0.0.store).nodes in
    let has =
    subst (HasNode (g.S.EdgeSource.graph c.self-inside.inside.0.0.store)) c.new.ensures.number
    (c.contains_node.ensures.exists.0 c.if-contains_node.true) in
    next_there g.S.ReadStore.KIND slots c.args.from c.along.i
    (full g (goal.at.returns-then-contains_node-clause-place g c).After-node_slots-slots) so_far has
    ∙ ap (λ s. next_slot g.S.ReadStore.KIND s.graph.nodes c.args.from) (ap (λ i. i.guarded) c.self-inside.view_is ∙ c.self.view_is)

pub returns-clause-place : goal.returns-clause-place
returns-clause-place g c =
    let so_far =
    subst (λ z. next_slot Stable z.nodes c.args.from ≡ next_slot Stable z.nodes c.along.i)
    (sym (ap (λ s. s.graph) (ap (λ i. i.guarded) c.self-inside.view_is ∙ c.self.view_is))) c.along.invariant in
    next_behind g.S.ReadStore.KIND (g.S.EdgeSource.graph c.self-inside.inside.0.0.store).nodes c.args.from c.along.i
    (full g (goal.at.returns-clause-place g c).After-node_slots-slots) so_far
    (omega (arith, c.along-test.false, c.node_slots-slots.ensures))
    ∙ ap (λ s. next_slot g.S.ReadStore.KIND s.graph.nodes c.args.from) (ap (λ i. i.guarded) c.self-inside.view_is ∙ c.self.view_is)
