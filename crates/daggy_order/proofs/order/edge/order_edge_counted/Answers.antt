use Rattle.std.proofs.Common.{◌≡◌, ◌≢◌, ◌+◌, ◌<◌, ◌≤◌, ℕ, List, Option, None, Some, OnSome, ◌++◌, ◌∙◌, sym, subst, arith}
use Rattle.std.proofs.lemmas.Bool.{false≢true}
use Rattle.std.proofs.lemmas.Option.{none-some}
use Rattle.daggy_base.specs.Graph.{HasNode}
use Rattle.daggy_base.specs.Ordered.{IsOrderOf, IsParted, place, stretch, edges_from}
use Rattle.daggy_base.proofs.Lists.{Mem, contains_mem, mem_contains}
use Rattle.std.specs.List.{range_with_len}
use Rattle.daggy_base.proofs.Sorted.{same_place}
use Rattle.daggy_order.proofs.OrderEdgeResult.{reached_later}
use Rattle.daggy_order.proofs.Tails.{high, tailed_bare, bare_is}
use Rattle.daggy_order.proofs.order.edge.order_edge_counted.Given.{Over}
use Rattle.daggy_order.proofs.order.edge.order_edge_counted.Goals.{Else-index, After-flush-order-inside, After-move_reached}
use Rattle.daggy_order.proofs.order.edge.order_edge_counted.Goals as goal

-- the written nodes are the order before they are ordered, and nothing follows them after that
was : (g : Over) (c : After-flush-order-inside g) → c.flush-order-inside.new.self.nodes ≡ c.args.order.now
was g c = c.flush-order-inside.ensures.nodes ∙ c.order.view_is

is : (g : Over) (c : After-move_reached g)
    → c.move_reached.new.list.nodes
    ++ range_with_len c.flush-order-inside.result.from c.flush-order-inside.result.count
    ≡ c.move_reached.new.list.nodes
is g c = bare_is c.move_reached.new.list.nodes _ _ c.flush-order-inside.ensures.count

pub returns-then-stands_before-clause-decided : goal.returns-then-stands_before-clause-decided
returns-then-stands_before-clause-decided g c =
    let before = c.stands_before.ensures.0 c.if-stands_before.true in (
      λ e. absurd (none-some 0 (sym e)),
      λ r. absurd (omega (
        arith,
        before,
        reached_later (g.S.EdgeSource.graph c.args.source.now) c.args.order.now c.requires.ordered _ _ r,
      )),
    )

-- b stands before a
late : (g : Over) (c : Else-index g)
    → place c.args.order.now (g.Ix.IndexType.number c.args.b) < place c.args.order.now (g.Ix.IndexType.number c.args.a)
late g c =
    let order : List ℕ = c.args.order.now in
    let a : ℕ = g.Ix.IndexType.number c.args.a in
    let b : ℕ = g.Ix.IndexType.number c.args.b in
    let held : (n : ℕ) → HasNode (g.S.EdgeSource.graph c.args.source.now) n → Mem n order = λ n h.
    contains_mem order n ((c.requires.ordered.exact n).1 h) in
    let apart : place order a ≢ place order b = λ e.
    c.if-index.false (c.index.ensures.value ∙ (same_place order a b (held a c.requires.parent)
    (held b c.requires.child) e ∙ sym c.index-2.ensures.value)) in
    let not_before : place order a < place order b → ⊥ = λ h.
    false≢true (sym c.if-stands_before.false ∙ c.stands_before.ensures.1 h) in
    omega (arith, apart, not_before)

pub move_reached-requires-clause-behind : goal.move_reached-requires-clause-behind
move_reached-requires-clause-behind g c =
    let at = goal.at.move_reached-requires-clause-behind g c in
    let P : List ℕ → Type 0 = λ z. place z (g.Ix.IndexType.number c.args.b) < place z (g.Ix.IndexType.number c.args.a) in
    subst P (sym (was g at.After-flush-order-inside)) (late g at.Else-index)

pub move_reached-requires-clause-ordered : goal.move_reached-requires-clause-ordered
move_reached-requires-clause-ordered g c =
    let at = goal.at.move_reached-requires-clause-ordered g c in
    let P : List ℕ → Type 0 = λ z. IsOrderOf (g.S.EdgeSource.graph c.args.source.now) z in
    subst P (sym (was g at.After-flush-order-inside)) c.requires.ordered

pub invariant_of-order : goal.invariant_of-order
invariant_of-order g c =
    let ord = c.move_reached.ensures.ordered in
    let old = c.requires.ordered in
    tailed_bare
    c.flush-order-inside.ensures.count c.flush-order-inside.ensures.index_bound
    (omega (arith, c.flush-order-inside.ensures.from, c.order.invariant.real)) (λ k m.
    let held =
    contains_mem c.args.order.now k
    ((old.exact k).1 ((ord.exact k).0 (mem_contains c.move_reached.new.list.nodes k m))) in
    let P : List ℕ → Type 0 = λ z. Mem k z in
    omega (arith, c.flush-order-inside.ensures.from, high c.order.invariant k (subst P (sym c.order.view_is) held)))

pub returns-clause-decided : goal.returns-clause-decided
returns-clause-decided g c = c.move_reached.ensures.decided

pub returns-clause-refused : goal.returns-clause-refused
returns-clause-refused g c =
    let at = goal.at.returns-clause-refused g c in
    λ e. is g at.After-move_reached ∙ (c.move_reached.ensures.refused e ∙ was g at.After-flush-order-inside)

pub returns-clause-ordered : goal.returns-clause-ordered
returns-clause-ordered g c =
    let P : List ℕ → Type 0 = λ z. IsOrderOf (g.S.EdgeSource.graph c.args.source.now) z in
    subst P (sym (is g (goal.at.returns-clause-ordered g c).After-move_reached)) c.move_reached.ensures.ordered

pub returns-clause-before : goal.returns-clause-before
returns-clause-before g c =
    let P : List ℕ → Type 0 = λ z. OnSome c.move_reached.result
    (place z (g.Ix.IndexType.number c.args.a) < place z (g.Ix.IndexType.number c.args.b)) in
    subst P (sym (is g (goal.at.returns-clause-before g c).After-move_reached)) c.move_reached.ensures.before

pub returns-clause-kept : goal.returns-clause-kept
returns-clause-kept g c =
    λ early. absurd (false≢true (sym c.if-stands_before.false ∙ c.stands_before.ensures.1 early))

-- what follows from what is said where a value is there
on_some : {A P Q : Type 0} (o : Option A) → OnSome o P → (P → Q) → OnSome o Q
on_some None p f = tt
on_some (Some x) p f = f p

pub returns-clause-moved : goal.returns-clause-moved
returns-clause-moved g c =
    let at = goal.at.returns-clause-moved g c in
    let R : List ℕ → Type 0 = λ z.
    IsParted (g.S.EdgeSource.graph c.args.source.now) (g.Ix.IndexType.number c.args.a) (g.Ix.IndexType.number c.args.b)
    z c.move_reached.new.list.nodes in
    let T : List ℕ → Type 0 = λ z.
    IsParted (g.S.EdgeSource.graph c.args.source.now) (g.Ix.IndexType.number c.args.a) (g.Ix.IndexType.number c.args.b)
    c.args.order.now z in
    on_some c.move_reached.result c.move_reached.ensures.moved (λ m after.
    subst T (sym (is g at.After-move_reached)) (subst R (was g at.After-flush-order-inside) m))

pub returns-clause-same : goal.returns-clause-same
returns-clause-same g c = c.move_reached.ensures.same

pub returns-clause-counted : goal.returns-clause-counted
returns-clause-counted g c =
    let P : List ℕ → Type 0 = λ z.
    g.S.EdgeSource.looks c.move_reached.new.source
    ≤ g.S.EdgeSource.looks c.args.source.now
    + edges_from (g.S.EdgeSource.graph c.args.source.now)
    (stretch z (place z (g.Ix.IndexType.number c.args.b)) (place z (g.Ix.IndexType.number c.args.a))) in
    subst P (was g (goal.at.returns-clause-counted g c).After-flush-order-inside) c.move_reached.ensures.counted

pub returns-clause-unlooked : goal.returns-clause-unlooked
returns-clause-unlooked g c =
    λ h. absurd (omega (arith, h, late g (goal.at.returns-clause-unlooked g c).Else-index))
