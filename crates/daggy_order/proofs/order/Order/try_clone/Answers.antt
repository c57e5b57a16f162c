use Rattle.std.proofs.Common.{ℕ, List, ap, subst, ◌∙◌, arith}
use Rattle.daggy_base.proofs.Lists.{Mem}
use Rattle.daggy_order.specs.Links.{Stored}
use Rattle.daggy_order.proofs.Tails.{tailed_bare, tailed_room, below}
use Rattle.daggy_order.proofs.order.Order.try_clone.Goals.{then-count-eq0, else-count-eq0+in_ok-index_bound}
use Rattle.daggy_order.proofs.order.Order.try_clone.Goals as goal

pub invariant_of-result : goal.invariant_of-result
invariant_of-result g c =
    let E : ℕ = g.Ix.IndexType.greatest in
    let s = c.self.invariant in
    let from : ℕ = c.self.inside.tail.from in
    let count : ℕ = c.self.inside.tail.count in
    elim c.if-count-eq0.branch [
      | then-count-eq0 w ↦ (
          let same = ap (λ (z : Stored). z.nodes) w.list-is ∙ c.in_ok-list.ensures in
          tailed_bare
          w.if-count-eq0.true w.index_bound-is (omega (arith, s.real)) (λ k m.
          let P : List ℕ → Type 0 = λ z. Mem k z in
          below s k (subst P same m))
          )
      | else-count-eq0+in_ok-index_bound w ↦ (
          let same = ap (λ (z : Stored). z.nodes) w.list-is ∙ (w.reserve.ensures.same ∙ c.in_ok-list.ensures) in
          tailed_room s c.if-count-eq0.list.nodes c.if-count-eq0.list.capacity c.if-count-eq0.index_bound same
          (omega (
            arith,
            w.index_bound-is,
            w.in_ok-index_bound.ensures.capacity,
            ap (λ (z : Stored). z.capacity) w.list-is,
          )) (omega (arith, w.index_bound-is, w.in_ok-index_bound.ensures.ok))
          )
    ]
