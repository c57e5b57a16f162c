-- The elements of a heap of keys and nodes.
use Rattle.std.specs.Prelude.{ℕ, List, map}
use Rattle.std.specs.Ordering.{nat_cmp, ordering_then}
use Rattle.std.specs.declared.cmp.Ordering.{Ordering}
use Rattle.std.specs.declared.cmp.Reverse.{Reverse}

-- what a heap of keys and nodes has, and for how many it has memory
pub record Waiting (K : Type 0) : Type 0 where
  pub items : List (K × ℕ)
  pub capacity : ℕ

module _ {K I : Type 0} where
  -- the keys and the nodes of the elements of a heap
  abbrev pub entries : (number : I → ℕ) → List (Reverse (K × I)) → List (K × ℕ)
  entries number rs = map (λ r. (r.0.0, number r.0.1)) rs

  -- by keys and then by indices, the least greatest
  abbrev pub turned : (K → K → Ordering) → (I → ℕ) → Reverse (K × I) → Reverse (K × I) → Ordering
  turned by_key number x y = ordering_then (by_key y.0.0 x.0.0) (nat_cmp (number y.0.1) (number x.0.1))
