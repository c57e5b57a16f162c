-- Flags of edges in a list: at the index of a flagged edge the list holds that index, elsewhere `end`.
use Rattle.std.specs.Prelude.{◌≡◌, ◌≢◌, ℕ, zero, suc, ◌==◌, ◌↔◌, ◌⊎◌, Bool, true, false, Some, List, [], ◌∷◌, ◌++◌}
use Rattle.std.specs.Prelude.{slice_index_or, if◌then◌else◌}
use Rattle.daggy_base.specs.Graph.{Graph, Edge, edge_at}
use Rattle.daggy_base.specs.Reduction.{ReachesIndirectly}

-- the edge e is flagged
abbrev pub IsFlagged : (end : ℕ) → List ℕ → ℕ → Type 0
IsFlagged end flags e = slice_index_or flags e end ≢ end

-- the flagged edges below a bound, in ascending order
abbrev pub flagged_below : (end : ℕ) → List ℕ → ℕ → List ℕ
flagged_below end flags zero = []
flagged_below end flags (suc k) =
    if slice_index_or flags k end == end then flagged_below end flags k else flagged_below end flags k ++ k ∷ []

-- e leaves u, and its child is marked
pub record LeavesToMarked {N E : Type 0} (g : Graph N E) (u : ℕ) (marks : List Bool) (e : ℕ) : Type 0 where
  pub edge : Edge E
  pub at : edge_at g e ≡ Some edge
  pub parent : edge.parent ≡ u
  pub child : slice_index_or marks edge.child false ≡ true

-- those edges are flagged too, and nothing else
abbrev pub FlagsMarked : {N E : Type 0}
    → (end : ℕ) → Graph N E → (u : ℕ) (marks : List Bool) (old new : List ℕ) → Type 0
FlagsMarked end g u marks old new = (e : ℕ) → IsFlagged end new e ↔ (IsFlagged end old e ⊎ LeavesToMarked g u marks e)

-- e leaves u, and a longer path leads from u to its child
pub record LeavesRound {N E : Type 0} (g : Graph N E) (u e : ℕ) : Type 0 where
  pub edge : Edge E
  pub at : edge_at g e ≡ Some edge
  pub parent : edge.parent ≡ u
  pub round : ReachesIndirectly g u edge.child

-- those edges are flagged too, and nothing else
abbrev pub FlagsRound : {N E : Type 0} → (end : ℕ) → Graph N E → (u : ℕ) (old new : List ℕ) → Type 0
FlagsRound end g u old new = (e : ℕ) → IsFlagged end new e ↔ (IsFlagged end old e ⊎ LeavesRound g u e)
