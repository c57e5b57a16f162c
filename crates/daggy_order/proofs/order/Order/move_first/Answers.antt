use Rattle.std.proofs.Common.{◌≡◌, ℕ, List, [], ◌∷◌, ◌++◌, sym, ap, subst, inl, inr, ◌∙◌, arith, not, eqb}
use Rattle.std.specs.List.{range_with_len}
use Rattle.daggy_base.specs.Removal.{without}
use Rattle.daggy_base.proofs.Lists.{Mem, contains_mem}
use Rattle.daggy_base.proofs.Sorted.{filter_mem}
use Rattle.daggy_order.proofs.Tails.{below, tailed_after, tail_fewer}
use Rattle.daggy_order.proofs.order.Order.move_first.Goals as goal

-- the only node of the run
pub invariant_of-self : goal.invariant_of-self
invariant_of-self g c =
    let first = c.link_first-self-inside.ensures in
    record {
      below = λ k h.
          (let P : List ℕ → Type 0 = λ z. Mem k z in
          elim (subst P first.nodes (contains_mem c.link_first-self-inside.new.self.nodes k h)) [
            | inl e ↦ omega (arith, e, first.from)
            | inr a ↦ omega (arith, below c.self.invariant k a, first.from)
          ]);
      real = omega (arith, first.from, first.count, c.if-self-eq1.true, c.self.invariant.real);
      within = omega (arith, first.index_bound);
      fits = λ some. absurd (omega (arith, some, first.count));
    }

pub returns-then-index-self : goal.returns-then-index-self
returns-then-index-self g c =
    let n : ℕ = g.Ix.IndexType.number c.args.n in
    let nodes : List ℕ = c.self.inside.list.nodes in
    let tail = c.self.inside.tail in
    let is : tail.from ≡ n = omega (arith, c.if-index-self.true, c.index.ensures.value) in
    let none : nodes ++ [] ≡ without n (nodes ++ range_with_len tail.from tail.count) =
    tail_fewer c.self.invariant 0 n (omega (arith, c.if-self-eq1.true)) (omega (arith, is, c.if-self-eq1.true)) in
    ap (λ z. c.link_first-self-inside.new.self.nodes ++ range_with_len c.link_first-self-inside.result.from z)
    c.link_first-self-inside.ensures.count
    ∙ ap (λ z. z ++ []) c.link_first-self-inside.ensures.nodes
    ∙ ap (λ z. tail.from ∷ z) (none ∙ ap (without n) c.self.view_is)
    ∙ ap (λ z. z ∷ without n c.args.self.now) is

-- any other node
pub invariant_of-self-2 : goal.invariant_of-self-2
invariant_of-self-2 g c =
    let n : ℕ = g.Ix.IndexType.number c.args.n in
    let P : List ℕ → Type 0 = λ z. Mem n z in
    let before : List ℕ = c.flush-self-inside.new.self.nodes in
    let has_n : Mem n before =
    subst P (sym (c.flush-self-inside.ensures.nodes ∙ c.self.view_is)) (contains_mem c.args.self.now n c.requires) in
    tailed_after c.self.invariant
    c.flush-self-inside.ensures.count c.flush-self-inside.ensures.index_bound
    (omega (arith, c.flush-self-inside.ensures.from))
    (omega (arith, c.flush-self-inside.ensures.from, c.self.invariant.real)) (λ k m.
    let Q : List ℕ → Type 0 = λ z. Mem k z in
    let R : ℕ → Type 0 = λ z. Mem z before in
    inl (subst Q c.flush-self-inside.ensures.nodes (elim (subst Q c.move_first.ensures m) [
      | inl e ↦ subst R (sym e) has_n
      | inr a ↦ (filter_mem (λ x. not (eqb x n)) before k a).0
    ])))
