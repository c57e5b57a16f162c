-- Edges that are left out so that there is no cycle.
use Rattle.std.specs.Prelude.{◌≡◌, ℕ, ◌↔◌, List, ◌∷◌, ◌++◌, Some, Contains}
use Rattle.daggy_base.specs.Graph.{Graph, Edge, HasEdge, edge_at}
use Rattle.daggy_base.specs.WellFormed.{AreDistinct}
use Rattle.daggy_cycles.specs.EdgeWays.{Lead}

-- edges of a list that are not left out lead from the child of x to its parent
pub record ClosesCycle {N E : Type 0} (g : Graph N E) (tried out : List ℕ) (x : Edge E) : Type 0 where
  pub way : List ℕ
  pub leads : Lead g way x.child x.parent
  pub kept : (e : ℕ) → Contains way e → Contains tried e × ¬ Contains out e

-- The edges that are left out if those of a list are tried in turn: an edge is, if and only if it closes a cycle with
-- those before it that are kept.
pub record AreLeftOut {N E : Type 0} (g : Graph N E) (tried out : List ℕ) : Type 0 where
  pub exact : (before after : List ℕ) (e : ℕ) (x : Edge E) → tried ≡ before ++ e ∷ after → edge_at g e ≡ Some x
      → Contains out e ↔ ClosesCycle g before out x
  pub edges : (e : ℕ) → Contains out e → HasEdge g e
  pub once : AreDistinct out
