use Rattle.std.proofs.Common.{◌≡◌, ◌↔◌, ℕ, List, map, take, reverse, Option, sym, ap, subst, ◌∙◌}
use Rattle.std.proofs.Common.{Contains, IsSome}
use Rattle.daggy_base.specs.Graph.{Graph, Edge, HasEdge}
use Rattle.daggy_base.specs.Removal.{without_edges}
use Rattle.daggy_base.specs.declared.kind.Kind.{Kind}
use Rattle.daggy_base.specs.Reduction.{IsReduction, IsRedundant}
use Rattle.daggy_order.proofs.OrderLaws.{acyclic_from_order}
use Rattle.daggy_redundant.specs.Comparison.{IsAscending}
use Rattle.daggy_reduction.proofs.EdgesRemovedDownward.{reduced, nodes_kept}
use Rattle.daggy_reduction.proofs.Laws.{law_fewer}
use Rattle.daggy_reduction.proofs.reduce.transitive_reduce.Given.{Over}
use Rattle.daggy_reduction.proofs.reduce.transitive_reduce.Goals.{After-front, After-remove_edges}
use Rattle.daggy_reduction.proofs.reduce.transitive_reduce.Goals as goal

-- the first ones removed
reduced_so : {N E : Type 0} (kind : Kind) (roots : List ℕ) (old : Graph N E) {mid new : Graph N E}
    {handed gone : List ℕ}
    → handed ≡ gone → mid ≡ old → new ≡ without_edges kind mid (reverse handed) → IsAscending gone
    → ((e : ℕ) → Contains gone e ↔ IsRedundant old roots e) → IsReduction kind roots old new
reduced_so kind roots old {mid} {new} {handed} {gone} is same removed up exact =
    reduced kind roots gone old new up exact
    (removed ∙ ap (λ z. without_edges kind z (reverse handed)) same ∙ ap (λ z. without_edges kind old (reverse z)) is)

-- the edges that are handed over are those that were found
handed : (g : Over) (c : After-front g)
    → map g.Ix.IndexType.number c.front.result.now
    ≡ map g.Ix.IndexType.number (take c.leave_redundant_either_way-count.result c.leave_redundant_either_way-count.new.scratch.found)
handed g c =
    ap (map g.Ix.IndexType.number)
    (c.front.ensures.value ∙ (ap (λ z. take c.leave_redundant_either_way-count.result z) c.as_slice.ensures.value
    ∙ ap (λ z. take c.leave_redundant_either_way-count.result z.found) c.scratch.view_is))

-- what is left is a reduction
reduction : (g : Over) (c : After-remove_edges g)
    → map g.Ix.IndexType.number c.front.result.now
    ≡ map g.Ix.IndexType.number (take c.leave_redundant_either_way-count.result c.leave_redundant_either_way-count.new.scratch.found)
    → IsReduction g.S.ReadStore.KIND (map g.Ix.IndexType.number c.args.roots.now)
    (g.S.EdgeSource.graph c.args.store.now) (g.S.EdgeSource.graph c.remove_edges.new.store)
reduction g c is =
    let found = c.leave_redundant_either_way-count.ensures in
    reduced_so g.S.ReadStore.KIND (map g.Ix.IndexType.number c.args.roots.now) (g.S.EdgeSource.graph c.args.store.now) is
    found.same c.remove_edges.ensures.removed found.ascending found.exact

pub remove_edges-requires-clause-ascending : goal.remove_edges-requires-clause-ascending
remove_edges-requires-clause-ascending g c =
    let at = goal.at.remove_edges-requires-clause-ascending g c in
    let P : List ℕ → Type 0 = λ z. IsAscending z in
    subst P (sym (handed g at.After-front)) c.leave_redundant_either_way-count.ensures.ascending

pub remove_edges-requires-clause-exist : goal.remove_edges-requires-clause-exist
remove_edges-requires-clause-exist g c =
    let at = goal.at.remove_edges-requires-clause-exist g c in
    λ e m. (
    let M : List ℕ → Type 0 = λ z. Contains z e in
    let H : Option (Edge g.row.S-EdgeWeight.Denot) → Type 0 = λ z. IsSome z in
    let G : Graph g.row.S-NodeWeight.Denot g.row.S-EdgeWeight.Denot → Type 0 = λ z. HasEdge z e in
    let red = (c.leave_redundant_either_way-count.ensures.exact e).0 (subst M (handed g at.After-front) m) in
    subst G (sym c.leave_redundant_either_way-count.ensures.same) (subst H (sym red.at) cc)
    )

pub returns-clause-reduced : goal.returns-clause-reduced
returns-clause-reduced g c =
    let at = goal.at.returns-clause-reduced g c in
    reduction g at.After-remove_edges (handed g at.After-front)

pub returns-clause-fewer : goal.returns-clause-fewer
returns-clause-fewer g c =
    let at = goal.at.returns-clause-fewer g c in
    law_fewer g.S.ReadStore.KIND (map g.Ix.IndexType.number c.args.roots.now) (g.S.EdgeSource.graph c.args.store.now)
    (g.S.EdgeSource.graph c.remove_edges.new.store) (acyclic_from_order _ c.requires)
    c.node_bound.ensures.well_formed (reduction g at.After-remove_edges (handed g at.After-front))

pub returns-clause-nodes : goal.returns-clause-nodes
returns-clause-nodes g c =
    let handed = map g.Ix.IndexType.number c.front.result.now in
    ap (λ (z : Graph g.row.S-NodeWeight.Denot g.row.S-EdgeWeight.Denot). z.nodes) c.remove_edges.ensures.removed
    ∙ nodes_kept g.S.ReadStore.KIND (reverse handed) (g.S.EdgeSource.graph c.leave_redundant_either_way-count.new.source)
    ∙ ap (λ (z : Graph g.row.S-NodeWeight.Denot g.row.S-EdgeWeight.Denot). z.nodes)
    c.leave_redundant_either_way-count.ensures.same
