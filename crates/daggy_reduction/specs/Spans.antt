-- How many edges leave the nodes between each node and a child of it.
use Rattle.std.specs.Prelude.{◌≡◌, ◌≢◌, ℕ, ◌+◌, ◌≤◌, ◌⊎◌, List, [], ◌∷◌, slice_index, slice_index_or}
use Rattle.daggy_base.specs.Graph.{Graph}
use Rattle.daggy_base.specs.Ordered.{place}
use Rattle.daggy_base.specs.Path.{AreJoined}

-- the sum of the numbers at some indices
abbrev pub sum_at : (numbers indices : List ℕ) → ℕ
sum_at numbers [] = 0
sum_at numbers (n ∷ ns) = slice_index numbers n + sum_at numbers ns

-- the last child of each node in an order, or the end if it has none
pub record AreLastChildren {N E : Type 0} (g : Graph N E) (order : List ℕ) (end : ℕ) (children : List ℕ) : Type 0 where
  pub joined : (n : ℕ) → (slice_index_or children n end ≡ end) ⊎ AreJoined g n (slice_index_or children n end)
  pub some : (u v : ℕ) → AreJoined g u v → slice_index_or children u end ≢ end
  pub last : (u v : ℕ) → AreJoined g u v → place order v ≤ place order (slice_index_or children u end)
