use Rattle.std.proofs.Common.{◌≡◌, ◌≢◌, ◌↔◌, ◌<◌, ℕ, List, Result, Ok, Err, OnOk, OnErr, IfErr, true, false, refl, sym}
use Rattle.std.proofs.Common.{ap, subst, ◌∙◌, slice_index_or, arith}
use Rattle.std.specs.List.{All}
use Rattle.std.proofs.lemmas.Bool.{false≢true}
use Rattle.daggy_base.specs.Graph.{Graph, HasNode, edge_count, node_bound, bound_of}
use Rattle.daggy_base.specs.Ordered.{IsOrderOf, place}
use Rattle.daggy_base.specs.declared.kind.Kind.TheVariants.{Stable}
use Rattle.daggy_base.specs.declared.error.ParentsError.{ParentsError}
use Rattle.daggy_order.proofs.OrderLaws.{acyclic_from_order}
use Rattle.daggy_guard.specs.Parents.{ReachesParent, IsMemory, entering, KeepsOtherEdges}
use Rattle.daggy_guard.proofs.GuardedChange.{same_graph}
use Rattle.daggy_guard.proofs.OrderAfterChange.{acyclic_by, order_kept}
use Rattle.daggy_dag.proofs.acyclic.Acyclic.set_parents.Given.{Over}
use Rattle.daggy_dag.proofs.acyclic.Acyclic.set_parents.Goals.{After-make_way_for_parents}
use Rattle.daggy_dag.proofs.acyclic.Acyclic.set_parents.Goals as goal

-- the stored graph, which did not change while way was made
view : (g : Over) (c : After-make_way_for_parents g)
    → g.S.EdgeSource.graph c.make_way_for_parents.new.store ≡ c.args.self.now.graph
view g c = c.make_way_for_parents.ensures.same ∙ same_graph (c.guarded.view_is ∙ c.self.view_is)

-- whether way was made
reached : (g : Over) (c : After-make_way_for_parents g) → c.make_way_for_parents.result ≡ false
    ↔ ReachesParent g.Ix.IndexType.number c.args.self.now.graph (g.Ix.IndexType.number c.args.n) c.args.items.items
reached g c =
    let number = g.Ix.IndexType.number in
    let P : Graph g.row.N.Denot g.row.E.Denot → Type 0 = λ z. c.make_way_for_parents.result ≡ false
    ↔ ReachesParent number z (number c.args.n) c.args.items.items in
    let Q : List (g.row.Ix.Denot × g.row.E.Denot) → Type 0 = λ z. c.make_way_for_parents.result ≡ false
    ↔ ReachesParent number (g.S.EdgeSource.graph c.guarded.inside.store) (number c.args.n) z in
    subst P (same_graph (c.guarded.view_is ∙ c.self.view_is))
    (subst Q c.as_slice.ensures.value c.make_way_for_parents.ensures.decided)

missed : (g : Over) (c : After-make_way_for_parents g) → c.make_way_for_parents.result ≡ true
    → ReachesParent g.Ix.IndexType.number c.args.self.now.graph (g.Ix.IndexType.number c.args.n) c.args.items.items → ⊥
missed g c made r = false≢true (sym ((reached g c).1 r) ∙ made)

pub returns-then-not-make_way_for_parents-clause-cycle : goal.returns-then-not-make_way_for_parents-clause-cycle
returns-then-not-make_way_for_parents-clause-cycle g c =
    let at = (goal.at.returns-then-not-make_way_for_parents-clause-cycle g c).After-make_way_for_parents in
    (λ h. (reached g at).0 c.if-not-make_way_for_parents.true, λ r. refl)

pub returns-then-not-make_way_for_parents-clause-full : goal.returns-then-not-make_way_for_parents-clause-full
returns-then-not-make_way_for_parents-clause-full g c =
    let at = (goal.at.returns-then-not-make_way_for_parents-clause-full g c).After-make_way_for_parents in
    (λ h. absurd cc, λ p. absurd (p.0 ((reached g at).0 c.if-not-make_way_for_parents.true)))

pub returns-then-not-make_way_for_parents-clause-acyclic : goal.returns-then-not-make_way_for_parents-clause-acyclic
returns-then-not-make_way_for_parents-clause-acyclic g c =
    acyclic_by c.make_way_for_parents.ensures.ordered c.make_way_for_parents.ensures.same

pub returns-then-edge_indices_left-len-clause-cycle : goal.returns-then-edge_indices_left-len-clause-cycle
returns-then-edge_indices_left-len-clause-cycle g c =
    let at = (goal.at.returns-then-edge_indices_left-len-clause-cycle g c).After-make_way_for_parents in
    (λ h. absurd cc, λ r. absurd (missed g at c.if-not-make_way_for_parents.false r))

pub returns-then-edge_indices_left-len-clause-full : goal.returns-then-edge_indices_left-len-clause-full
returns-then-edge_indices_left-len-clause-full g c =
    let at = (goal.at.returns-then-edge_indices_left-len-clause-full g c).After-make_way_for_parents in (
      λ h. (
        λ r. missed g at c.if-not-make_way_for_parents.false r,
        omega (
          arith,
          c.if-edge_indices_left-len.true,
          c.edge_indices_left.ensures,
          ap edge_count (view g at),
          c.len.ensures,
        ),
      ),
      λ p. refl,
    )

pub returns-then-edge_indices_left-len-clause-acyclic : goal.returns-then-edge_indices_left-len-clause-acyclic
returns-then-edge_indices_left-len-clause-acyclic g c =
    acyclic_by c.make_way_for_parents.ensures.ordered c.make_way_for_parents.ensures.same

pub replace_parents-requires-clause-parents : goal.replace_parents-requires-clause-parents
replace_parents-requires-clause-parents g c = λ k d low.
    let at = (goal.at.replace_parents-requires-clause-parents g c).After-make_way_for_parents in
    let P : Graph g.row.N.Denot g.row.E.Denot → Type 0 = λ z. HasNode z (g.Ix.IndexType.number (slice_index_or c.args.items.items k d).0) in
    subst P (sym (view g at)) (c.requires.parents k d low)

-- whether the edges were replaced or not
either : {R F P Q X : Type 0} (r : Result R F) → OnOk r P → OnErr r Q → (P → X) → (Q → X) → X
either (Ok a) p q f h = f p
either (Err x) p q f h = h q

order_then : {R F I N E : Type 0} (r : Result R F) (number : I → ℕ) (n : ℕ) (xs items : List (I × E))
    {at old new : Graph N E} {order : List ℕ} → xs ≡ items
    → All (λ x. place order (number x.0) < place order n) xs → IsOrderOf at order → old ≡ at
    → OnOk r ((o : List ℕ) → IsOrderOf old o → All (λ x. place o (number x.0) < place o n) items → IsOrderOf new o)
    → OnErr r (new ≡ old) → IsOrderOf new order
order_then {E = E} r number n xs items {order = order} same before ord kept ok err =
    let Q : List (_ × E) → Type 0 = λ z. All (λ x. place order (number x.0) < place order n) z in
    let now = order_kept ord kept in
    either r ok err (λ h. h order now (subst Q same before)) (λ h. order_kept now h)

pub invariant_of-guarded-2 : goal.invariant_of-guarded-2
invariant_of-guarded-2 g c =
    let old = g.S.EdgeSource.graph c.make_way_for_parents.new.store in
    let new = g.S.EdgeSource.graph c.replace_parents.new.store in
    let way = c.make_way_for_parents.ensures in
    let replaced = c.replace_parents.ensures in
    let bound : node_bound new ≡ node_bound old =
    either c.replace_parents.result replaced.nodes replaced.unchanged (λ h. ap bound_of h) (λ h. ap node_bound h) in (
      order_then c.replace_parents.result g.Ix.IndexType.number (g.Ix.IndexType.number c.args.n) _ _
          c.as_slice.ensures.value (way.before c.if-not-make_way_for_parents.false) way.ordered way.same
          replaced.ordered replaced.unchanged,
      omega (
        arith,
        bound,
        ap node_bound way.same,
        c.guarded.invariant.1,
        ap (λ z. z.nodes) way.same_capacity,
      ),
    )

pub returns-clause-cycle : goal.returns-clause-cycle
returns-clause-cycle g c =
    let at = (goal.at.returns-clause-cycle g c).After-make_way_for_parents in
    let P : Result (Unit {0}) (ParentsError g.row.E.Denot g.row.Ix.Denot) → Type 0 = λ z.
    IfErr z (λ e. IsMemory c.args.items.items e) in (
      λ h. absurd (subst P h c.replace_parents.ensures.refusal),
      λ r. absurd (missed g at c.if-not-make_way_for_parents.false r),
    )

pub returns-clause-others : goal.returns-clause-others
returns-clause-others g c =
    let at = (goal.at.returns-clause-others g c).After-make_way_for_parents in
    let P : Graph g.row.N.Denot g.row.E.Denot → Type 0 = λ z. OnOk c.replace_parents.result ((m : ℕ)
    → m ≢ g.Ix.IndexType.number c.args.n
    → entering (g.S.EdgeSource.graph c.replace_parents.new.store) m ≡ entering z m) in
    subst P (view g at) c.replace_parents.ensures.others

pub returns-clause-keeps : goal.returns-clause-keeps
returns-clause-keeps g c =
    let at = (goal.at.returns-clause-keeps g c).After-make_way_for_parents in
    let P : Graph g.row.N.Denot g.row.E.Denot → Type 0 = λ z. OnOk c.replace_parents.result (g.S.ReadStore.KIND ≡ Stable
    → KeepsOtherEdges (g.Ix.IndexType.number c.args.n) z (g.S.EdgeSource.graph c.replace_parents.new.store)) in
    subst P (view g at) c.replace_parents.ensures.keeps

pub returns-clause-acyclic : goal.returns-clause-acyclic
returns-clause-acyclic g c =
    let way = c.make_way_for_parents.ensures in
    acyclic_from_order _ (order_then c.replace_parents.result g.Ix.IndexType.number (g.Ix.IndexType.number c.args.n) _ _
    c.as_slice.ensures.value (way.before c.if-not-make_way_for_parents.false) way.ordered way.same
    c.replace_parents.ensures.ordered c.replace_parents.ensures.unchanged)
