use Rattle.std.proofs.Common.{◌≡◌, ◌↔◌, ℕ, List, map, reverse, subst, sym, ap, ◌∙◌, Contains}
use Rattle.daggy_base.specs.Graph.{Graph, HasEdge, in_list}
use Rattle.daggy_base.specs.Removal.{without_edges}
use Rattle.daggy_guard.specs.Parents.{edges_to, HasParentsSet}
use Rattle.daggy_redundant.specs.Comparison.{IsAscending}
use Rattle.daggy_dag.proofs.ParentsSet.{listed_kept, parents_set, all_to, parents_of, parents_now, others_now, nodes_now}
use Rattle.daggy_dag.proofs.ParentsSet.{keeps_now, order_now}
use Rattle.daggy_dag.proofs.acyclic.parents.replace_parents.Given.{Over}
use Rattle.daggy_dag.proofs.acyclic.parents.replace_parents.Goals.{After-remove_edges}
use Rattle.daggy_dag.proofs.acyclic.parents.replace_parents.Goals as goal

-- a list by another name has the same numbers
same_numbers : {I : Type 0} (number : I → ℕ) (xs ys : List I) (Q : ℕ → Type 0) → xs ≡ ys
    → ((e : ℕ) → Contains (map number ys) e ↔ Q e) → (e : ℕ) → Contains (map number xs) e ↔ Q e
same_numbers number xs ys Q same exact e =
    let P : List _ → Type 0 = λ z. Contains (map number z) e ↔ Q e in subst P (sym same) (exact e)

pub remove_edges-requires-clause-exist : goal.remove_edges-requires-clause-exist
remove_edges-requires-clause-exist g c = λ e h.
    let number = g.Ix.IndexType.number in
    let n = number c.args.n in
    let listed =
    (same_numbers number c.as_slice.result.now c.in-Ok.old.items
    (λ z. Contains (in_list (g.S.EdgeSource.graph c.args.store.now) n) z) c.as_slice.ensures.value
    c.in-Ok.ensures.exact e).0 h in
    let P : Graph g.row.S-NodeWeight.Denot g.row.S-EdgeWeight.Denot → Type 0 = λ z. HasEdge z e in
    subst P (sym c.in-Ok-add_parents.ensures.added)
    (listed_kept n (edges_to number n c.args.items.items) c.invariant.ensures.well_formed
    c.in-Ok-add_parents.ensures.well_formed e listed)

set : (g : Over) (c : After-remove_edges g) → HasParentsSet g.S.ReadStore.KIND (g.Ix.IndexType.number c.args.n)
    (edges_to g.Ix.IndexType.number (g.Ix.IndexType.number c.args.n) c.args.items.items)
    (g.S.EdgeSource.graph c.args.store.now) (g.S.EdgeSource.graph c.remove_edges.new.store)
set g c =
    let number = g.Ix.IndexType.number in
    let P : List g.row.Ix.Denot → Type 0 = λ z. IsAscending (map number z) in
    parents_set g.S.ReadStore.KIND _ _ _ _ (map number c.as_slice.result.now)
    (subst P (sym c.as_slice.ensures.value) c.in-Ok.ensures.ascending)
    (same_numbers number c.as_slice.result.now c.in-Ok.old.items
    (λ z. Contains (in_list (g.S.EdgeSource.graph c.args.store.now) (number c.args.n)) z) c.as_slice.ensures.value
    c.in-Ok.ensures.exact)
    (c.remove_edges.ensures.removed
    ∙ ap (λ z. without_edges g.S.ReadStore.KIND z (reverse (map number c.as_slice.result.now)))
    c.in-Ok-add_parents.ensures.added)

pub returns-clause-set : goal.returns-clause-set
returns-clause-set g c = set g (goal.at.returns-clause-set g c).After-remove_edges

pub returns-clause-parents : goal.returns-clause-parents
returns-clause-parents g c =
    let number = g.Ix.IndexType.number in
    parents_now c.invariant.ensures.well_formed (all_to number (number c.args.n) c.args.items.items)
    c.in-Ok-add_parents.ensures.well_formed (set g (goal.at.returns-clause-parents g c).After-remove_edges) c.requires.node
    ∙ ap reverse (parents_of number (number c.args.n) c.args.items.items)

pub returns-clause-others : goal.returns-clause-others
returns-clause-others g c =
    others_now c.invariant.ensures.well_formed
    (all_to g.Ix.IndexType.number (g.Ix.IndexType.number c.args.n) c.args.items.items)
    c.in-Ok-add_parents.ensures.well_formed
    (set g (goal.at.returns-clause-others g c).After-remove_edges) c.requires.node

pub returns-clause-nodes : goal.returns-clause-nodes
returns-clause-nodes g c =
    nodes_now c.invariant.ensures.well_formed
    (all_to g.Ix.IndexType.number (g.Ix.IndexType.number c.args.n) c.args.items.items)
    c.in-Ok-add_parents.ensures.well_formed
    (set g (goal.at.returns-clause-nodes g c).After-remove_edges)

pub returns-clause-keeps : goal.returns-clause-keeps
returns-clause-keeps g c =
    keeps_now c.invariant.ensures.well_formed
    (all_to g.Ix.IndexType.number (g.Ix.IndexType.number c.args.n) c.args.items.items)
    c.in-Ok-add_parents.ensures.well_formed
    (set g (goal.at.returns-clause-keeps g c).After-remove_edges)

pub returns-clause-ordered : goal.returns-clause-ordered
returns-clause-ordered g c = λ order ord before.
    order_now g.Ix.IndexType.number (g.Ix.IndexType.number c.args.n) c.args.items.items
    (set g (goal.at.returns-clause-ordered g c).After-remove_edges) ord before
