-- A refresh as a whole.
use Rattle.std.proofs.Common.{◌≤◌, ℕ, List, [], ◌∷◌, sym, ap, arith, inl, inr, Contains}
use Rattle.std.proofs.lemmas.Bool.{cases_eq}
use Rattle.daggy_base.specs.Graph.{Graph}
use Rattle.daggy_base.specs.Ordered.{IsOrderOf, place}
use Rattle.daggy_base.specs.Path.{IsPath, Reaches, end_of}
use Rattle.daggy_base.specs.WellFormed.{AreDistinct}
use Rattle.daggy_base.proofs.Lists.{Mem, contains_mem, mem_contains}
use Rattle.daggy_base.proofs.Sorted.{place_same, place_other}
use Rattle.daggy_reduction.specs.Descendants.{IsOrderOfPart}
use Rattle.daggy_computed.specs.Refreshing.{IsAscending}

module _ (order : List ℕ) where
  pub later : (ns : List ℕ) (u v : ℕ) → IsAscending order ns → Mem u ns → Mem v ns → place order u ≤ place order v
      → place ns u ≤ place ns v
  later [] u v a k l le = absurd k
  later (n ∷ ns) u v a k l le =
      elim (cases_eq n u) [
        | inl e ↦ omega (arith, place_same n u ns e)
        | inr d ↦ (
            let u_rest : Mem u ns = elim k [ inl e ↦ absurd (d (sym e)) | inr k ↦ k ] in
            let low = a.0 u (mem_contains ns u u_rest) in
            elim (cases_eq n v) [
              | inl e ↦ absurd (omega (arith, low, le, ap (place order) e))
              | inr f ↦ (
                  let v_rest : Mem v ns = elim l [ inl e ↦ absurd (f (sym e)) | inr l ↦ l ] in
                  omega (arith, later ns u v a.1 u_rest v_rest le, place_other n u ns d, place_other n v ns f)
                  )
            ]
            )
      ]

  pub once : (ns : List ℕ) → IsAscending order ns → AreDistinct ns
  once [] a = tt
  once (n ∷ ns) a = (λ c. (let low = a.0 n c in absurd (omega (arith, low))), once ns a.1)

module _ {N E : Type 0} (g : Graph N E) (order : List ℕ) (ordered : IsOrderOf g order) where
  along : (u : ℕ) (rest : List ℕ) → IsPath g (u ∷ rest) → place order u ≤ place order (end_of u rest)
  along u [] p = omega arith
  along u (v ∷ rest) p = omega (arith, ordered.sorted u v p.1, along v rest p.2)

  -- a node stands before those that it reaches
  pub before_reached : (u v : ℕ) → Reaches g u v → place order u ≤ place order v
  before_reached u v r = omega (arith, along u r.0 r.1, ap (place order) r.2)

  -- nodes whose places ascend, as a part of the order
  pub ascending_part : (ns : List ℕ) → IsAscending order ns → IsOrderOfPart g (Contains ns) ns
  ascending_part ns a =
      record {
        exact = λ n. (λ c. c, λ c. c);
        once = once order ns a;
        sorted = λ u v c d r.
            later order ns u v a (contains_mem ns u c) (contains_mem ns v d) (before_reached u v r);
      }

-- nodes whose places ascend in a part of an order, as a part of it
pub ascending_among : {N E : Type 0} (g : Graph N E) (part ns : List ℕ) → IsOrderOfPart g (Contains part) part
    → IsAscending part ns → ((m : ℕ) → Contains ns m → Contains part m) → IsOrderOfPart g (Contains ns) ns
ascending_among g part ns ordered a among =
    record {
      exact = λ n. (λ c. c, λ c. c);
      once = once part ns a;
      sorted = λ u v c d r.
          later part ns u v a (contains_mem ns u c) (contains_mem ns v d) (ordered.sorted u v (among u c) (among v d) r);
    }
