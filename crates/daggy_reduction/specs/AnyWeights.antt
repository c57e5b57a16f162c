-- Reductions compared with other graphs, for any types of weights and any index limits.
use Rattle.std.specs.Prelude.{ℕ, ◌↔◌, List}
use Rattle.daggy_base.specs.Graph.{Graph}
use Rattle.daggy_base.specs.Path.{AreJoined}
use Rattle.daggy_base.specs.declared.kind.Kind.{Kind}
use Rattle.daggy_base.specs.WellFormed.{IsDag}
use Rattle.daggy_base.specs.Reduction.{IsBelow, IsReduction}
use Rattle.daggy_redundant.specs.Comparison.{HaveSameNodes, JoinSamePairs, HaveSameReachability, ReachAll}

-- g is a dag, and new is its reduction from roots that reach all of its nodes
pub record IsReducedDag {N E : Type 0} (g new : Graph N E) : Type 0 where
  pub limit : ℕ
  pub dag : IsDag limit g
  pub kind : Kind
  pub roots : List ℕ
  pub all : ReachAll g roots
  pub reduced : IsReduction kind roots g new

-- The reductions of two dags on the same nodes have the same adjacent pairs if and only if the dags have the same
-- reachability.
abbrev pub AreAlike : (N E M F : Type 0) → Type 0
AreAlike N E M F =
    (g g' : Graph N E) (h h' : Graph M F) → IsReducedDag g g' → IsReducedDag h h' → HaveSameNodes g h
    → JoinSamePairs g' h' ↔ HaveSameReachability g h

-- in every graph with the same reachability as a dag, the pairs that are adjacent below the roots in the dag's
-- reduction are adjacent
abbrev pub IsLeastOfAll : (N E M F : Type 0) → Type 0
IsLeastOfAll N E M F =
    (limit : ℕ) (kind : Kind) (roots : List ℕ) (g g' : Graph N E) (h : Graph M F) → IsDag limit g
    → IsReduction kind roots g g' → HaveSameReachability g h → (u v : ℕ) → IsBelow g roots u → AreJoined g' u v
    → AreJoined h u v
