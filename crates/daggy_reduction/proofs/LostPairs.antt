-- The pairs that a reduction loses.
use Rattle.std.specs.Prelude.{ℕ, ◌⊎◌, List}
use Rattle.daggy_base.specs.Graph.{Graph}
use Rattle.daggy_base.specs.Path.{AreJoined}
use Rattle.daggy_base.specs.Reduction.{IsBelow, ReachesIndirectly}
use Rattle.daggy_redundant.specs.Comparison.{HaveSameNodes}

-- new has the nodes of old and joins the pairs that old joins, except those below the roots that a longer path connects
-- too
pub record LosesRoundPairs {N E : Type 0} (roots : List ℕ) (old new : Graph N E) : Type 0 where
  pub nodes : HaveSameNodes old new
  pub joined : (u v : ℕ) → AreJoined new u v → AreJoined old u v
  pub kept : (u v : ℕ) → AreJoined old u v → AreJoined new u v ⊎ (IsBelow old roots u × ReachesIndirectly old u v)
  pub lost : (u v : ℕ) → AreJoined new u v → IsBelow old roots u → ReachesIndirectly old u v → ⊥
