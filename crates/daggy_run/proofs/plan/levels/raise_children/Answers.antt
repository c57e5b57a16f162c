use Rattle.std.proofs.Common.{◌≡◌, ◌≢◌, ◌+◌, ◌∙◌, ℕ, sym, ap, arith}
use Rattle.std.proofs.lemmas.List.{get_or_read}
use Rattle.daggy_base.proofs.OutEdgesRead.{below_bound, has_edge}
use Rattle.daggy_run.proofs.RaisedNodes.{raising_starts, child_low, raising_on, raising_ends, fewer_left}
use Rattle.daggy_run.proofs.plan.levels.raise_children.Goals as goal

pub index-requires-2 : goal.index-requires-2
index-requires-2 g c =
    let low = below_bound (g.D.GuardedDag.graph c.args.dag.now).nodes _ c.requires.exists in
    omega (arith, low, c.requires.levels, c.index.ensures.value)

pub overflow_add-level : goal.overflow_add-level
overflow_add-level g c =
    let low = below_bound (g.D.GuardedDag.graph c.args.dag.now).nodes _ c.requires.exists in
    let reads = rw c.index.ensures.value at (get_or_read c.args.levels.now.items c.index.result c.index-2.result.now
    (omega (arith, low, c.requires.levels, c.args.levels.now.ok.0, c.index.ensures.value)) c.index-2.ensures 0) in
    omega (arith, reads, c.requires.level_fits)

pub edges-init : goal.edges-init
edges-init g c =
    let low = below_bound (g.D.GuardedDag.graph c.args.dag.now).nodes _ c.requires.exists in
    let reads = rw c.index.ensures.value at (get_or_read c.args.levels.now.items c.index.result c.index-2.result.now
    (omega (arith, low, c.requires.levels, c.args.levels.now.ok.0, c.index.ensures.value)) c.index-2.ensures 0) in
    raising_starts g.Ix.IndexType.greatest (g.D.GuardedDag.graph c.args.dag.now)
    c.node_bound-bound.ensures.dag.well_formed c.requires.exists c.first_child-e.ensures
    (ap (λ (z : ℕ). z + 1) reads) (omega (arith, c.requires.levels, c.args.levels.now.ok.0))
    (omega (arith, c.requires.parents, c.args.parents.now.ok.0))
    (λ k within. let old = c.requires.within k (omega (arith, c.args.parents.now.ok.0)) in
    omega (arith, old, c.args.parents.now.ok.0))

pub child_edge-child-requires : goal.child_edge-child-requires
child_edge-child-requires g c =
    let s = c.edges.invariant in
    let here : g.Ix.IndexType.number c.edges.e ≢ g.Ix.IndexType.greatest = λ h.
    c.edges-test.true (c.index-in-edges.ensures.value ∙ (h ∙ sym (c.index-end.ensures.value ∙ c.end.ensures.number))) in
    has_edge g.Ix.IndexType.greatest (g.D.GuardedDag.graph c.args.dag.now) c.node_bound-bound.ensures.dag.well_formed _
    s.passed _ s.cursor here

pub raise-requires : goal.raise-requires
raise-requires g c =
    let here : g.Ix.IndexType.number c.edges.e ≢ g.Ix.IndexType.greatest = λ h.
    c.edges-test.true (c.index-in-edges.ensures.value ∙ (h ∙ sym (c.index-end.ensures.value ∙ c.end.ensures.number))) in
    let low =
    child_low g.Ix.IndexType.greatest (g.D.GuardedDag.graph c.args.dag.now) c.node_bound-bound.ensures.dag.well_formed
    c.requires.exists c.edges.invariant here _ _ c.child_edge-child.ensures in
    record {
      levels = omega (arith, low, c.index-in-edges-2.ensures.value, c.edges.invariant.levels_fit, c.edges.levels.ok.0);
      parents = omega (arith, low, c.index-in-edges-2.ensures.value, c.edges.invariant.parents_fit, c.edges.parents.ok.0);
    }

pub edges-smaller : goal.edges-smaller
edges-smaller g c =
    fewer_left g.Ix.IndexType.greatest (g.D.GuardedDag.graph c.args.dag.now) c.node_bound-bound.ensures.dag.well_formed
    _ _ _ c.child_edge-child.ensures

pub edges-preserved : goal.edges-preserved
edges-preserved g c =
    let here : g.Ix.IndexType.number c.edges.e ≢ g.Ix.IndexType.greatest = λ h.
    c.edges-test.true (c.index-in-edges.ensures.value ∙ (h ∙ sym (c.index-end.ensures.value ∙ c.end.ensures.number))) in
    raising_on g.Ix.IndexType.greatest (g.D.GuardedDag.graph c.args.dag.now) c.node_bound-bound.ensures.dag.well_formed
    c.requires.exists c.edges.invariant here c.child_edge-child.ensures
    (rw c.index-in-edges-2.ensures.value at c.raise.ensures.raised)

pub returns-clause-raised : goal.returns-clause-raised
returns-clause-raised g c =
    let at : g.Ix.IndexType.number c.edges.e ≡ g.Ix.IndexType.greatest =
    sym c.index-in-edges.ensures.value ∙ (c.edges-test.false ∙ (c.index-end.ensures.value ∙ c.end.ensures.number)) in
    raising_ends g.Ix.IndexType.greatest (g.D.GuardedDag.graph c.args.dag.now)
    c.node_bound-bound.ensures.dag.well_formed c.requires.exists c.edges.invariant at
