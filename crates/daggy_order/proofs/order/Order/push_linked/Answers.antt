use Rattle.std.proofs.Common.{◌≡◌, ℕ, List, [], ◌∷◌, ◌++◌, subst, inl, inr, ◌∙◌, arith}
use Rattle.daggy_base.proofs.Lists.{Mem, mem_cases}
use Rattle.daggy_order.proofs.Tails.{tailed_after}
use Rattle.daggy_order.proofs.order.Order.push_linked.Goals as goal

pub invariant_of-self : goal.invariant_of-self
invariant_of-self g c =
    tailed_after c.self.invariant
    c.flush-self-inside.ensures.count
    c.flush-self-inside.ensures.index_bound (omega (arith, c.flush-self-inside.ensures.from))
    (omega (arith, c.flush-self-inside.ensures.from, c.self.invariant.real)) (λ k m.
    let P : List ℕ → Type 0 = λ z. Mem k z in
    inl (subst P (c.in_err-push.ensures.err ∙ c.flush-self-inside.ensures.nodes) m))

pub invariant_of-self-2 : goal.invariant_of-self-2
invariant_of-self-2 g c =
    let n : ℕ = g.Ix.IndexType.number c.args.n in
    let is : c.push.new.self.nodes ≡ c.flush-self-inside.new.self.nodes ++ n ∷ [] = c.in_ok-push.ensures.ok in
    tailed_after c.self.invariant
    c.flush-self-inside.ensures.count
    c.flush-self-inside.ensures.index_bound
    (omega (arith, c.flush-self-inside.ensures.from, c.max-self-inside.ensures)) (omega (
      arith,
      c.flush-self-inside.ensures.from,
      c.max-self-inside.ensures,
      c.index.ensures.value,
      c.self.invariant.real,
      c.requires.real,
    )) (λ k m.
    let P : List ℕ → Type 0 = λ z. Mem k z in
    elim (mem_cases c.flush-self-inside.new.self.nodes (n ∷ []) k (subst P is m)) [
      | inl a ↦ inl (subst P c.flush-self-inside.ensures.nodes a)
      | inr b ↦ elim b [
        | inl e ↦ inr (omega (arith, e, c.max-self-inside.ensures, c.index.ensures.value))
        | inr none ↦ absurd none
      ]
    ])
