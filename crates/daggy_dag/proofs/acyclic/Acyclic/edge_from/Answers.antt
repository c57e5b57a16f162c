use Rattle.std.proofs.Common.{◌≡◌, ◌+◌, is_some, true, sym, ap, subst, ◌∙◌, arith}
use Rattle.std.proofs.lemmas.Bool.{false≢true}
use Rattle.daggy_base.specs.Graph.{slot, HasEdge}
use Rattle.daggy_base.specs.declared.kind.Kind.TheVariants.{Compact, Stable}
use Rattle.daggy_base.proofs.FullSlots.{IsFull, full_from}
use Rattle.daggy_dag.specs.Slots.{next_slot}
use Rattle.daggy_dag.proofs.NextSlots.{next_passed, next_there, next_behind}
use Rattle.daggy_dag.proofs.acyclic.Acyclic.edge_from.Goals.{After-edge_slots-slots}
use Rattle.daggy_dag.proofs.acyclic.Acyclic.edge_from.Given.{Over}
use Rattle.daggy_dag.proofs.acyclic.Acyclic.edge_from.Goals as goal

-- no slot of the compact kind is vacant
full : (g : Over) (c : After-edge_slots-slots g)
    → g.S.ReadStore.KIND ≡ Compact → IsFull (g.S.EdgeSource.graph c.self-inside.inside.0.0.store).edges
full g c compact =
    full_from _ _ c.invariant.ensures.well_formed.edge_slots (c.invariant.ensures.compact compact).edges

pub along-preserved : goal.along-preserved
along-preserved g c =
    let missing : is_some (slot (g.S.EdgeSource.graph c.self-inside.inside.0.0.store).edges c.along.i) ≡ true → ⊥ =
    λ has.
    false≢true (sym c.if-contains_edge_index.false ∙ c.contains_edge_index.ensures.1
    (subst (HasEdge (g.S.EdgeSource.graph c.self-inside.inside.0.0.store)) (sym c.new.ensures.number) has)) in
    c.along.invariant
    ∙ subst (λ z. next_slot Stable z.edges c.along.i ≡ next_slot Stable z.edges (c.along.i + 1))
    (ap (λ s. s.graph) (ap (λ i. i.guarded) c.self-inside.view_is ∙ c.self.view_is))
    (next_passed (g.S.EdgeSource.graph c.self-inside.inside.0.0.store).edges c.along.i
    (omega (arith, c.along-test.true, c.edge_slots-slots.ensures)) missing)

pub returns-then-contains_edge_index-clause-place : goal.returns-then-contains_edge_index-clause-place
returns-then-contains_edge_index-clause-place g c =
    let so_far =
    subst (λ z. next_slot Stable z.edges c.args.from ≡ next_slot Stable z.edges c.along.i)
    (sym (ap (λ s. s.graph) (ap (λ i. i.guarded) c.self-inside.view_is ∙ c.self.view_is))) c.along.invariant in
    let slots = (g.S.EdgeSource.graph c.self-inside.inside.0.0.store).edges in
    let has =
    subst (HasEdge (g.S.EdgeSource.graph c.self-inside.inside.0.0.store)) c.new.ensures.number
    (c.contains_edge_index.ensures.0 c.if-contains_edge_index.true) in
    next_there g.S.ReadStore.KIND slots c.args.from c.along.i
    (full g (goal.at.returns-then-contains_edge_index-clause-place g c).After-edge_slots-slots) so_far has
    ∙ ap (λ s. next_slot g.S.ReadStore.KIND s.graph.edges c.args.from) (ap (λ i. i.guarded) c.self-inside.view_is ∙ c.self.view_is)

pub returns-clause-place : goal.returns-clause-place
returns-clause-place g c =
    let so_far =
    subst (λ z. next_slot Stable z.edges c.args.from ≡ next_slot Stable z.edges c.along.i)
    (sym (ap (λ s. s.graph) (ap (λ i. i.guarded) c.self-inside.view_is ∙ c.self.view_is))) c.along.invariant in
    next_behind g.S.ReadStore.KIND (g.S.EdgeSource.graph c.self-inside.inside.0.0.store).edges c.args.from c.along.i
    (full g (goal.at.returns-clause-place g c).After-edge_slots-slots) so_far
    (omega (arith, c.along-test.false, c.edge_slots-slots.ensures))
    ∙ ap (λ s. next_slot g.S.ReadStore.KIND s.graph.edges c.args.from) (ap (λ i. i.guarded) c.self-inside.view_is ∙ c.self.view_is)
