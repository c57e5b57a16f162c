use Rattle.std.proofs.Common.{ℕ, List, ◌∷◌, sym, subst, inl, inr, ◌∙◌, arith, not, eqb}
use Rattle.daggy_base.specs.Removal.{without}
use Rattle.daggy_base.proofs.Lists.{Mem, contains_mem, mem_out, split_at}
use Rattle.daggy_base.proofs.ListParts.{is_held}
use Rattle.daggy_base.proofs.Sorted.{mem_filter, filter_mem}
use Rattle.daggy_order.proofs.Tails.{tailed_after}
use Rattle.daggy_order.proofs.order.Order.move_before.Goals as goal

pub invariant_of-self : goal.invariant_of-self
invariant_of-self g c =
    let n : ℕ = g.Ix.IndexType.number c.args.n in
    let b : ℕ = g.Ix.IndexType.number c.args.b in
    let before : List ℕ = c.flush-self-inside.new.self.nodes in
    let P : List ℕ → Type 0 = λ z. Mem n z in
    let B : List ℕ → Type 0 = λ z. Mem b z in
    let same = sym (c.flush-self-inside.ensures.nodes ∙ c.self.view_is) in
    let has_n : Mem n before = subst P same (contains_mem c.args.self.now n c.requires.held) in
    let has_b : Mem b before = subst B same (contains_mem c.args.self.now b c.requires.there) in
    let at =
    split_at (without n before) b (mem_filter (λ x. not (eqb x n)) before b has_b
    (is_held n b (λ e. c.requires.differ (sym e)))) in
    tailed_after c.self.invariant
    c.flush-self-inside.ensures.count c.flush-self-inside.ensures.index_bound
    (omega (arith, c.flush-self-inside.ensures.from))
    (omega (arith, c.flush-self-inside.ensures.from, c.self.invariant.real)) (λ k m.
    let Q : List ℕ → Type 0 = λ z. Mem k z in
    let R : ℕ → Type 0 = λ z. Mem z before in
    inl (subst Q c.flush-self-inside.ensures.nodes
    (elim (mem_out at.0 (b ∷ at.1) n k (subst Q (c.move_before.ensures at.0 at.1 at.2) m)) [
      | inl e ↦ subst R (sym e) has_n
      | inr a ↦ (filter_mem (λ x. not (eqb x n)) before k (subst Q (sym at.2) a)).0
    ])))
