-- Strongly connected components.
use Rattle.std.specs.Prelude.{◌≢◌, ℕ, ◌<◌, ◌≤◌, ◌↔◌, List, [], length, slice_get, unwrap_or, Contains}
use Rattle.std.specs.List.{concat}
use Rattle.daggy_base.specs.Graph.{Graph, HasNode}
use Rattle.daggy_base.specs.Path.{AreJoined, Reaches}
use Rattle.daggy_base.specs.WellFormed.{AreDistinct}

-- a path leads from u to v, and one from v to u
abbrev pub ReachEachOther : {N E : Type 0} → Graph N E → ℕ → ℕ → Type 0
ReachEachOther g u v = Reaches g u v × Reaches g v u

-- the members of the component k, or none
abbrev pub component : List (List ℕ) → ℕ → List ℕ
component cs k = unwrap_or (slice_get cs k) []

-- The strongly connected components of a graph: the classes of nodes that reach each other, each node in exactly one.
-- Edges between components lead to earlier ones.
pub record AreComponents {N E : Type 0} (g : Graph N E) (cs : List (List ℕ)) : Type 0 where
  pub exact : (n : ℕ) → Contains (concat cs) n ↔ HasNode g n
  pub once : AreDistinct (concat cs)
  pub some : (k : ℕ) → k < length cs → component cs k ≢ []
  pub class : (k u v : ℕ) → Contains (component cs k) u → Contains (component cs k) v ↔ ReachEachOther g u v
  pub order : (j k u v : ℕ) → AreJoined g u v → Contains (component cs j) u → Contains (component cs k) v → k ≤ j
