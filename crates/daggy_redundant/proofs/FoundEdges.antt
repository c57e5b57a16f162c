-- The redundant edges gathered in front of a vector that had a flag at the place of each.
use Rattle.std.proofs.Common.{◌≡◌, ℕ, ◌≤◌, ◌<◌, ◌↔◌, List, length, map, take, sym, ap, subst, ◌∙◌, arith, Contains, Vec}
use Rattle.std.specs.Vec.{with_items}
use Rattle.std.proofs.lemmas.List.{take-map, with_items_is}
use Rattle.daggy_base.specs.Graph.{Graph, edge_bound}
use Rattle.daggy_base.specs.Reduction.{IsRedundant}
use Rattle.daggy_base.specs.WellFormed.{IsWellFormed}
use Rattle.daggy_base.proofs.PathsWithNode.{bound_low}
use Rattle.daggy_redundant.specs.Comparison.{IsAscending}
use Rattle.daggy_redundant.specs.Flags.{IsFlagged, flagged_below}
use Rattle.daggy_redundant.proofs.GatheredFlags.{gathered_ascend, gathered_exactly}
use Rattle.daggy_redundant.proofs.SweptNodes.{redundant_low}

-- the redundant edges below the roots, in ascending order
abbrev pub AreFound : {N E : Type 0} → Graph N E → (roots edges : List ℕ) → Type 0
AreFound g roots edges = IsAscending edges × ((e : ℕ) → Contains edges e ↔ IsRedundant g roots e)

module _ {N E : Type 0} {end : ℕ} {g : Graph N E} (w : IsWellFormed end g) {bound : ℕ} (at : bound ≡ edge_bound g) where
  pub bound_real : bound ≤ end
  bound_real = omega (arith, at, bound_low g.edges, w.few_edges)

  pub are_found : (roots flags : List ℕ) → ((e : ℕ) → IsFlagged end flags e ↔ IsRedundant g roots e)
      → {I Z : Type 0} (number : I → ℕ) (found : Vec I Z) (new : List I) (count : ℕ)
      → take count (map number new) ≡ flagged_below end flags bound → length new ≡ found.len
      → AreFound g roots (map number (take count (with_items found new).items))
  are_found roots flags flagged number found new count gathered sized =
      let is : flagged_below end flags bound ≡ map number (take count (with_items found new).items) =
      sym gathered ∙ ap (λ z. take count (map number z)) (sym (with_items_is found new sized))
      ∙ take-map number count (with_items found new).items in
      let within : (e : ℕ) → IsFlagged end flags e → e < bound = λ e f.
      omega (arith, at, redundant_low g roots e ((flagged e).0 f)) in
      let exact : (e : ℕ) → Contains (flagged_below end flags bound) e ↔ IsRedundant g roots e = λ e.
      (let all = gathered_exactly end flags bound within e in
      (λ m. (flagged e).0 (all.0 m), λ r. all.1 ((flagged e).1 r))) in
      subst (λ z. AreFound g roots z) is (gathered_ascend end flags bound, exact)
