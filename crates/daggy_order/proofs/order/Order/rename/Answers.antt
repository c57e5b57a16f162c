use Rattle.std.proofs.Common.{ℕ, List, sym, subst, inl, inr, ◌∙◌, arith}
use Rattle.daggy_base.proofs.Lists.{Mem, contains_mem}
use Rattle.std.specs.List.{Contains}
use Rattle.daggy_order.proofs.Labelled.{renamed_self}
use Rattle.daggy_order.proofs.Tails.{high, tailed_after, renamed_below}
use Rattle.daggy_order.proofs.order.Order.rename.Goals as goal

pub rename-requires-clause-free : goal.rename-requires-clause-free
rename-requires-clause-free g c =
    let m : ℕ = g.Ix.IndexType.number c.args.m in
    let P : List ℕ → Type 0 = λ z. Contains z m in
    elim c.requires.free [
      | inl free ↦ λ h. free (subst P (c.flush-self-inside.ensures.nodes ∙ c.self.view_is) h)
      | inr same ↦ absurd (omega (arith, same, c.if-index.true, c.index.ensures.value, c.index-2.ensures.value))
    ]

pub returns-else-index : goal.returns-else-index
returns-else-index g c =
    let n : ℕ = g.Ix.IndexType.number c.args.n in
    let m : ℕ = g.Ix.IndexType.number c.args.m in
    sym
    (renamed_self n m c.args.self.now (sym c.index-2.ensures.value ∙ (sym c.if-index.false ∙ c.index.ensures.value)))

pub invariant_of-self : goal.invariant_of-self
invariant_of-self g c =
    let n : ℕ = g.Ix.IndexType.number c.args.n in
    let m : ℕ = g.Ix.IndexType.number c.args.m in
    let N : List ℕ → Type 0 = λ z. Mem n z in
    let within =
    high c.self.invariant n (subst N (sym c.self.view_is) (contains_mem c.args.self.now n c.requires.held)) in
    tailed_after c.self.invariant
    c.flush-self-inside.ensures.count
    c.flush-self-inside.ensures.index_bound (omega (arith, c.flush-self-inside.ensures.from))
    (omega (arith, c.flush-self-inside.ensures.from, c.self.invariant.real)) (λ k h.
    let P : List ℕ → Type 0 = λ z. Mem k z in
    inr (renamed_below n m c.flush-self-inside.result.from c.flush-self-inside.new.self.nodes
    (omega (arith, within, c.requires.lower, c.flush-self-inside.ensures.from)) (λ j i.
    let Q : List ℕ → Type 0 = λ z. Mem j z in
    omega (
      arith,
      high c.self.invariant j (subst Q c.flush-self-inside.ensures.nodes i),
      c.flush-self-inside.ensures.from,
    )) k (subst P c.rename.ensures h)))
