-- How the order stands to a batch after one edge more.
use Rattle.std.proofs.Common.{◌≡◌, ℕ, suc, ◌+◌, ◌-◌, ◌<◌, ◌≤◌, ◌⊎◌, inl, inr, arith}
use Rattle.daggy_base.specs.Graph.{Graph}
use Rattle.daggy_base.specs.Path.{Reaches}
use Rattle.daggy_base.specs.Ordered.{IsOrderOf, place}
use Rattle.daggy_guard.specs.BatchProgress.{BatchOrder, IsKept, CanStand, IsStep, IsWithin}
use Rattle.daggy_guard.specs.declared.edge_batch.Standing.{Standing}
use Rattle.daggy_guard.specs.declared.edge_batch.Standing.TheVariants.{Kept, Left, Closed}

-- so many edges were read at most
pub within_most : (budget edges start looks : ℕ) (s : Standing)
    → IsWithin budget edges start looks s → looks ≤ start + budget + edges
within_most budget edges start looks (Kept left) w = w.1
within_most budget edges start looks Left w = w
within_most budget edges start looks Closed w = w

-- and there is an edge more
pub within_more : (budget edges start looks : ℕ) (s : Standing)
    → IsWithin budget edges start looks s → IsWithin budget (suc edges) start looks s
within_more budget edges start looks (Kept left) w = (w.0, omega (arith, w.1))
within_more budget edges start looks Left w = omega (arith, w)
within_more budget edges start looks Closed w = omega (arith, w)

-- a search began while some reads were left
module _ (budget edges start looks left looks' : ℕ) (some : 0 < left) (w : IsWithin budget edges start looks (Kept left))
    (few : looks' ≤ looks + edges) where
  pub within_searched : looks' ≤ start + budget + edges
  within_searched = omega (arith, w.0 some)

  pub within_kept : (taken : ℕ) → looks' ≡ looks + taken → IsWithin budget edges start looks' (Kept (left - taken))
  within_kept taken is = (λ more. omega (arith, w.0 some), within_searched)

module _ {N E : Type 0} (g : Graph N E) (a b : ℕ) (old new : BatchOrder) where
  -- the order stays, or is one of the graph
  step_order : (to : Standing) → CanStand g a b old new to → (new.order ≡ old.order) ⊎ IsOrderOf g new.order
  step_order (Kept left) s = inr s.1
  step_order Left s = inl s.1
  step_order Closed s = elim s [ inl c ↦ inl c.1 | inr r ↦ inr r.1 ]

  -- where the order is kept it agrees with the edge too
  step_kept : (to : Standing) → CanStand g a b old new to → IsKept to
      → IsKept old.standing × IsOrderOf g new.order × (place new.order a < place new.order b)
  step_kept (Kept left) s k = s
  step_kept Left s k = absurd k
  step_kept Closed s k = absurd k

  -- where a cycle is closed it was, or the edge closes it
  step_closed : (to : Standing) → CanStand g a b old new to → to ≡ Closed
      → (old.standing ≡ Closed) ⊎ Reaches g b a
  step_closed (Kept left) s is = absurd cc
  step_closed Left s is = absurd cc
  step_closed Closed s is = elim s [ inl c ↦ inl c.0 | inr r ↦ inr r.2 ]

  -- what an edge more means for the order, however that stands then
  pub record Stepped : Type 0 where
    pub orders : (new.order ≡ old.order) ⊎ IsOrderOf g new.order
    pub kept : IsKept new.standing
        → IsKept old.standing × IsOrderOf g new.order × (place new.order a < place new.order b)
    pub closed : new.standing ≡ Closed → (old.standing ≡ Closed) ⊎ Reaches g b a

  pub stepped : IsStep g a b old new → Stepped
  stepped s = record {
    orders = step_order new.standing s;
    kept = step_kept new.standing s;
    closed = step_closed new.standing s;
  }
