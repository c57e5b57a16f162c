use Rattle.std.proofs.Common.{◌≡◌, List, ℕ, map, ap, subst, OnOk, ◌∙◌}
use Rattle.daggy_base.specs.Graph.{Graph}
use Rattle.daggy_base.specs.State.{State}
use Rattle.daggy_base.specs.Path.{IsAcyclic}
use Rattle.daggy_base.specs.Removal.{KeepsIndices}
use Rattle.daggy_base.specs.declared.kind.Kind.TheVariants.{Stable}
use Rattle.daggy_base.specs.Reduction.{IsReduction}
use Rattle.daggy_redundant.specs.Comparison.{HaveSameReachability, JoinsCovers, JoinsOthers, IsLeast, IsCanonical}
use Rattle.daggy_reduction.proofs.Laws.{law_reachability, law_covers, law_others, law_least, law_none, law_canonical}
use Rattle.daggy_reduction.proofs.Laws.{law_indices}
use Rattle.daggy_order.proofs.OrderLaws.{acyclic_from_order}
use Rattle.daggy_dag.proofs.Reduced.{on_ok, kept_fewer}
use Rattle.daggy_dag.proofs.acyclic.Acyclic.transitive_reduce.Given.{Over}
use Rattle.daggy_dag.proofs.acyclic.Acyclic.transitive_reduce.Goals.{After-transitive_reduce}
use Rattle.daggy_dag.proofs.acyclic.Acyclic.transitive_reduce.Goals as goal

abbrev roots : (g : Over) → After-transitive_reduce g → List ℕ
roots g c = map g.Ix.IndexType.number c.args.roots.items

-- the stored graph before and after
abbrev old : (g : Over) → After-transitive_reduce g → Graph g.row.N.Denot g.row.E.Denot
old g c = g.S.EdgeSource.graph c.self-inside.inside.0.0.store

abbrev new : (g : Over) → After-transitive_reduce g → Graph g.row.N.Denot g.row.E.Denot
new g c = g.S.EdgeSource.graph c.transitive_reduce.new.store

reduced : (g : Over) (c : After-transitive_reduce g)
    → OnOk c.transitive_reduce.result (IsReduction g.S.ReadStore.KIND (roots g c) (old g c) (new g c))
reduced g c =
    subst (λ z. OnOk c.transitive_reduce.result (IsReduction g.S.ReadStore.KIND z (old g c) (new g c)))
    (ap (map g.Ix.IndexType.number) c.as_slice.ensures.value) c.transitive_reduce.ensures.reduced

acyclic : (g : Over) (c : After-transitive_reduce g) → IsAcyclic (old g c)
acyclic g c = acyclic_from_order _ c.self-inside.invariant.0

-- what holds of the stored graph, and a reduction gives, holds of the dag
shown : (g : Over) (c : After-transitive_reduce g) (P : Graph g.row.N.Denot g.row.E.Denot → Type 0)
    → (IsReduction g.S.ReadStore.KIND (roots g c) (old g c) (new g c) → P (old g c))
    → OnOk c.transitive_reduce.result (P c.args.self.now.graph)
shown g c P law =
    let Q : State g.row.N.Denot g.row.E.Denot → Type 0 = λ s. OnOk c.transitive_reduce.result (P s.graph) in
    subst Q (ap (λ i. i.guarded) c.self-inside.view_is ∙ c.self.view_is) (on_ok c.transitive_reduce.result law (reduced g c))

pub returns-clause-reachability : goal.returns-clause-reachability
returns-clause-reachability g c =
    let at = (goal.at.returns-clause-reachability g c).After-transitive_reduce in
    shown g at (λ z. HaveSameReachability z (new g at))
    (law_reachability g.S.ReadStore.KIND (roots g at) (old g at) (new g at)
    (acyclic g at) c.transitive_reduce.ensures.well_formed)

pub returns-clause-covers : goal.returns-clause-covers
returns-clause-covers g c =
    let at = (goal.at.returns-clause-covers g c).After-transitive_reduce in
    shown g at (λ z. JoinsCovers (roots g at) z (new g at))
    (law_covers g.S.ReadStore.KIND (roots g at) (old g at) (new g at)
    (acyclic g at) c.transitive_reduce.ensures.well_formed)

pub returns-clause-others : goal.returns-clause-others
returns-clause-others g c =
    let at = (goal.at.returns-clause-others g c).After-transitive_reduce in
    shown g at (λ z. JoinsOthers (roots g at) z (new g at))
    (law_others g.S.ReadStore.KIND (roots g at) (old g at) (new g at)
    (acyclic g at) c.transitive_reduce.ensures.well_formed)

pub returns-clause-least : goal.returns-clause-least
returns-clause-least g c =
    let at = (goal.at.returns-clause-least g c).After-transitive_reduce in
    shown g at (λ z. IsLeast (roots g at) z (new g at))
    (law_least g.S.ReadStore.KIND (roots g at) (old g at) (new g at)
    (acyclic g at) c.transitive_reduce.ensures.well_formed)

pub returns-clause-none_left : goal.returns-clause-none_left
returns-clause-none_left g c =
    let at = (goal.at.returns-clause-none_left g c).After-transitive_reduce in
    on_ok c.transitive_reduce.result (law_none g.S.ReadStore.KIND (roots g at) (old g at) (new g at)
    (acyclic g at) c.transitive_reduce.ensures.well_formed) (reduced g at)

pub returns-clause-canonical : goal.returns-clause-canonical
returns-clause-canonical g c =
    let at = (goal.at.returns-clause-canonical g c).After-transitive_reduce in
    shown g at (λ z. IsCanonical g.Ix.IndexType.greatest (roots g at) z (new g at))
    (law_canonical g.S.ReadStore.KIND (roots g at) (old g at) (new g at)
    (acyclic g at) c.transitive_reduce.ensures.well_formed)

pub returns-clause-keeps : goal.returns-clause-keeps
returns-clause-keeps g c =
    let at = (goal.at.returns-clause-keeps g c).After-transitive_reduce in
    shown g at (λ z. (g.S.ReadStore.KIND ≡ Stable → KeepsIndices z (new g at)))
    (law_indices g.S.ReadStore.KIND (roots g at) (old g at) (new g at))

pub invariant_of-self-inside : goal.invariant_of-self-inside
invariant_of-self-inside g c =
    let reduce = c.transitive_reduce.ensures in
    kept_fewer c.self-inside.inside.0.0.order c.self-inside.inside.0.0.scratch.nodes c.transitive_reduce.new.scratch.nodes
    (g.S.EdgeSource.graph c.self-inside.inside.0.0.store) (g.S.EdgeSource.graph c.transitive_reduce.new.store) reduce.nodes
    reduce.fewer c.self-inside.invariant reduce.capacity_kept

pub returns-clause-acyclic : goal.returns-clause-acyclic
returns-clause-acyclic g c =
    acyclic_from_order _ (invariant_of-self-inside g (goal.at.returns-clause-acyclic g c).After-transitive_reduce).0

pub transitive_reduce-requires : goal.transitive_reduce-requires
transitive_reduce-requires g c = c.self-inside.invariant.0
