-- What meeting the children of a node does.
use Rattle.std.specs.Prelude.{◌≡◌, ◌≢◌, ℕ, List, ◌++◌, slice_index_or, Contains}
use Rattle.daggy_base.specs.Graph.{Graph}
use Rattle.daggy_base.specs.Path.{AreJoined}
use Rattle.daggy_base.specs.WellFormed.{AreDistinct}
use Rattle.daggy_components.specs.Stored.{placed}

-- The children of n that had no place get one, and come last among the nodes. Then each child has one.
pub record MeetsChildren {N E : Type 0} (end : ℕ) (g : Graph N E) (n place : ℕ) (old new nodes nodes' : List ℕ)
    : Type 0 where
  pub added : List ℕ
  pub nodes_are : nodes' ≡ nodes ++ added
  pub places_are : new ≡ placed old added place
  pub once : AreDistinct added
  pub fresh : (v : ℕ) → Contains added v → slice_index_or old v end ≡ end
  pub joined : (v : ℕ) → Contains added v → AreJoined g n v
  pub all : (v : ℕ) → AreJoined g n v → slice_index_or new v end ≢ end
