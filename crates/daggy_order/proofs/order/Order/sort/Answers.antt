use Rattle.std.proofs.Common.{List, ℕ, ◌∙◌, sym, subst, inl, arith}
use Rattle.std.specs.List.{Contains}
use Rattle.daggy_base.specs.Ordered.{IsOrderOf}
use Rattle.daggy_base.proofs.Lists.{Mem, contains_mem, mem_contains}
use Rattle.daggy_order.proofs.NodesSorted.{order_from_sorted}
use Rattle.daggy_order.proofs.Tails.{tailed_after, bare_is}
use Rattle.daggy_order.proofs.order.Order.sort.Goals as goal

pub rearrange-self-inside-requires-clause-held : goal.rearrange-self-inside-requires-clause-held
rearrange-self-inside-requires-clause-held g c =
    λ n h.
    let P : List ℕ → Type 0 = λ z. Contains z n in
    subst P (sym c.self.view_is) ((c.requires.held n).1 ((c.in-Some.ensures.sorted.exact n).0 h))

pub invariant_of-self : goal.invariant_of-self
invariant_of-self g c =
    tailed_after c.self.invariant c.rearrange-self-inside.ensures.count c.rearrange-self-inside.ensures.index_bound
    (omega (arith, c.rearrange-self-inside.ensures.from))
    (omega (arith, c.rearrange-self-inside.ensures.from, c.self.invariant.real)) (λ k m.
    let P : List ℕ → Type 0 = λ z. Mem k z in
    let Q : List ℕ → Type 0 = λ z. Contains z k in
    let sorted = mem_contains _ k (subst P c.rearrange-self-inside.ensures.nodes m) in
    inl (contains_mem _ k
    (subst Q (sym c.self.view_is) ((c.requires.held k).1 ((c.in-Some.ensures.sorted.exact k).0 sorted)))))

pub returns-clause-ordered : goal.returns-clause-ordered
returns-clause-ordered g c =
    let P : List ℕ → Type 0 = λ z. IsOrderOf (g.S.EdgeSource.graph c.args.source.now) z in
    let order = order_from_sorted c.node_bound-well_formed.ensures.well_formed _ c.in-Some.ensures.sorted in
    let is = bare_is _ _ _ c.rearrange-self-inside.ensures.count ∙ c.rearrange-self-inside.ensures.nodes in
    λ t. subst P (sym is) order
