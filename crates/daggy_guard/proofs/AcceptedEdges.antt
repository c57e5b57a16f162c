-- Edges added in order: when they leave a graph acyclic, and how many there are then.
use Rattle.std.proofs.Common.{◌≡◌, ℕ, zero, suc, ◌+◌, ◌<◌, cond, List, [], ◌∷◌, ◌++◌, length, set, take, Option, Some}
use Rattle.std.proofs.Common.{None, is_some, slice_get, refl, sym, ap, ◌∙◌, add-one, arith}
use Rattle.std.specs.List.{count_by}
use Rattle.std.proofs.lemmas.List.Sums.{sum_by-cons}
use Rattle.daggy_base.specs.Graph.{Graph, edge_count}
use Rattle.daggy_base.specs.Path.{IsAcyclic}
use Rattle.daggy_base.specs.Adding.{with_edge, with_slot_filled}
use Rattle.daggy_base.specs.WellFormed.{IsWellFormed}
use Rattle.daggy_base.proofs.Slots.{IsFree}
use Rattle.daggy_base.proofs.PathsWithEdge.{free_edge, acyclic_with_edge, still_cyclic, cyclic_with_edge}
use Rattle.daggy_base.specs.Ordered.{IsOrderOf}
use Rattle.daggy_order.proofs.OrderLaws.{order_before_edge}
use Rattle.daggy_guard.specs.EdgeBatch.{with_edges, IsFaultless, AreAccepted}
use Rattle.daggy_base.specs.Adding.{NewEdge}

-- the graph is well formed before each of the edges
abbrev pub IsFine : {N E : Type 0} → (limit : ℕ) → Graph N E → List (NewEdge E) → Type 0
IsFine limit g xs = (k : ℕ) → k < length xs → IsWellFormed limit (with_edges g (take k xs))

-- a slot that is taken is one more
abbrev one_if : {A : Type 0} → Option A → ℕ
one_if x = cond (is_some x) 1 0

count_made : {A : Type 0} (slots : List (Option A)) (x : A)
    → count_by is_some (slots ++ Some x ∷ []) ≡ suc (count_by is_some slots)
count_made [] x = refl
count_made (y ∷ ys) x =
    omega (arith, sum_by-cons (λ z. one_if z) y (ys ++ Some x ∷ []), sum_by-cons (λ z. one_if z) y ys, count_made ys x)

count_filled : {A : Type 0} (slots : List (Option A)) (v : ℕ) (x : A)
    → slice_get slots v ≡ Some None → count_by is_some (set slots v (Some x)) ≡ suc (count_by is_some slots)
count_filled [] v x h = absurd cc
count_filled (y ∷ ys) zero x h =
    let none : y ≡ None = cc in
    omega (arith, ap one_if none, sum_by-cons (λ z. one_if z) y ys, sum_by-cons (λ z. one_if z) (Some x) ys)
count_filled (y ∷ ys) (suc v) x h =
    omega (
      arith,
      sum_by-cons (λ z. one_if z) y (set ys v (Some x)),
      sum_by-cons (λ z. one_if z) y ys,
      count_filled ys v x h,
    )

pub count_taken : {A : Type 0} (slots : List (Option A)) (vacant : List ℕ) (x : A)
    → IsFree slots vacant → count_by is_some (with_slot_filled slots vacant (Some x)) ≡ suc (count_by is_some slots)
count_taken slots [] x free = count_made slots x
count_taken slots (v ∷ vs) x free = count_filled slots v x free

pub count_with_edge : {N E : Type 0} (end : ℕ) (g : Graph N E) (u v : ℕ) (w : E)
    → IsWellFormed end g → edge_count (with_edge g u v w) ≡ edge_count g + 1
count_with_edge end g u v w f =
    count_taken g.edges g.vacant_edges _ (free_edge g u v w end f) ∙ sym (add-one (edge_count g))

module _ {N E : Type 0} (limit : ℕ) where
  fine_rest : (g : Graph N E) (x : NewEdge E) (xs : List (NewEdge E))
      → IsFine limit g (x ∷ xs) → IsFine limit (with_edge g x.0 x.1 x.2) xs
  fine_rest g x xs fine k h = fine (suc k) (omega (arith, h))

  free_first : (g : Graph N E) (x : NewEdge E) (xs : List (NewEdge E))
      → IsFine limit g (x ∷ xs) → IsFree g.edges g.vacant_edges
  free_first g x xs fine = free_edge g x.0 x.1 x.2 limit (fine 0 (omega arith))

  acyclic_before : (g : Graph N E) (xs : List (NewEdge E))
      → IsFine limit g xs → IsAcyclic (with_edges g xs) → IsAcyclic g
  acyclic_before g [] fine acyclic = acyclic
  acyclic_before g (x ∷ xs) fine acyclic =
      still_cyclic g x.0 x.1 x.2 (free_first g x xs fine)
      (acyclic_before (with_edge g x.0 x.1 x.2) xs (fine_rest g x xs fine) acyclic)

  -- an order of the graph with the edges is one of the graph without them
  pub order_before_edges : (g : Graph N E) (xs : List (NewEdge E))
      → IsFine limit g xs → (order : List ℕ) → IsOrderOf (with_edges g xs) order → IsOrderOf g order
  order_before_edges g [] fine order ord = ord
  order_before_edges g (x ∷ xs) fine order ord =
      order_before_edge (fine 0 (omega arith)) order x.0 x.1 x.2
      (order_before_edges (with_edge g x.0 x.1 x.2) xs (fine_rest g x xs fine) order ord)

  -- edges that leave the graph acyclic would be accepted one by one
  pub accepted_if_acyclic : (g : Graph N E) (xs : List (NewEdge E))
      → IsFine limit g xs → IsFaultless limit g xs → IsAcyclic (with_edges g xs) → AreAccepted g xs
  accepted_if_acyclic g [] fine faultless acyclic = tt
  accepted_if_acyclic g (x ∷ xs) fine faultless acyclic =
      let one = with_edge g x.0 x.1 x.2 in
      let rest = fine_rest g x xs fine in (
        λ r.
            cyclic_with_edge g x.0 x.1 x.2 (free_first g x xs fine) faultless.0.0 r
            (acyclic_before one xs rest acyclic),
        accepted_if_acyclic one xs rest faultless.2 acyclic,
      )

  -- and edges that would be leave it acyclic
  pub acyclic_if_accepted : (g : Graph N E) (xs : List (NewEdge E))
      → IsFaultless limit g xs → IsAcyclic g → AreAccepted g xs → IsAcyclic (with_edges g xs)
  acyclic_if_accepted g [] faultless acyclic accepted = acyclic
  acyclic_if_accepted g (x ∷ xs) faultless acyclic accepted =
      acyclic_if_accepted (with_edge g x.0 x.1 x.2) xs faultless.2
      (acyclic_with_edge g x.0 x.1 x.2 faultless.0.0 accepted.0 acyclic) accepted.1

  pub count_with_edges : (g : Graph N E) (xs : List (NewEdge E))
      → IsFine limit g xs → edge_count (with_edges g xs) ≡ edge_count g + length xs
  count_with_edges g [] fine = omega arith
  count_with_edges g (x ∷ xs) fine =
      let one =
      count_taken g.edges g.vacant_edges (record { parent = x.0; child = x.1; weight = x.2 })
      (free_first g x xs fine) in
      omega (arith, one, count_with_edges (with_edge g x.0 x.1 x.2) xs (fine_rest g x xs fine))
