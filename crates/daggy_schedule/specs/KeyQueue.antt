-- How a ready queue by keys keeps its work.
use Rattle.std.specs.Prelude.{◌≡◌, ℕ, ◌+◌, ◌≤◌, ◌↔◌, ◌⊎◌, Bool, Option, Some, None, List, [], ◌∷◌, map, length, Contains}
use Rattle.std.specs.declared.cmp.Reverse.{Reverse}
use Rattle.daggy_base.specs.WellFormed.{AreDistinct}
use Rattle.daggy_schedule.specs.Work.{Work, IsSet}
use Rattle.daggy_schedule.specs.LeastFirst.{nodes_of}

module _ {K : Type 0} where
  -- candidates by reversed keys, with the keys themselves
  abbrev pub turned_back : List (Reverse K × ℕ) → List (K × ℕ)
  turned_back ps = map (λ p. (p.0.0, p.1)) ps

  -- the keys that a list has, each with its index, which is counted from i
  abbrev pub keys_from : (i : ℕ) → List (Option K) → List (K × ℕ)
  keys_from i [] = []
  keys_from i (None ∷ keys) = keys_from (i + 1) keys
  keys_from i (Some key ∷ keys) = (key, i) ∷ keys_from (i + 1) keys

  -- Each node that the inner queue returned was returned by this queue too, or is a candidate, but not both. The inner
  -- queue has no node left that is ready, and there is memory for all keys that are yet to come.
  pub record IsKeptByKey (inner : Work) (later : List (Option K)) (candidates : List (Reverse K × ℕ)) (capacity : ℕ)
      (out : List Bool) : Type 0 where
    pub none_ready : inner.ready ≡ []
    pub once : AreDistinct (nodes_of candidates)
    pub handed : (n : ℕ) → IsSet inner.out n ↔ (IsSet out n ⊎ Contains (nodes_of candidates) n)
    pub apart : (n : ℕ) → Contains (nodes_of candidates) n → ¬ IsSet out n
    pub begun : (n : ℕ) → IsSet inner.done n → IsSet out n
    pub room : length candidates + length (keys_from 0 later) ≤ capacity
