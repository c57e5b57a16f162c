-- The rest of a walk over children or parents.
use Rattle.std.specs.Prelude.{ℕ, ◌==◌, Option, Some, None, List, [], ◌∷◌, if◌then◌else◌}
use Rattle.daggy_base.specs.declared.index.Direction.{Direction}
use Rattle.daggy_base.specs.Graph.{Graph, Edge, edge_at, list_at, near_end}

-- a list from e on, or nothing if e is not in it
abbrev pub from_on : ℕ → List ℕ → List ℕ
from_on e [] = []
from_on e (x ∷ xs) = if x == e then x ∷ xs else from_on e xs

-- the list of the edge x from e on, or nothing if there is no edge
abbrev pub rest_with : {N E : Type 0} → Direction → Graph N E → ℕ → Option (Edge E) → List ℕ
rest_with dir g e None = []
rest_with dir g e (Some x) = from_on e (list_at dir g (near_end dir x))

-- The edges that a walker at a cursor still yields while the graph does not change: the edge under the cursor, and those
-- after it in its list. Nothing if there is no such edge.
abbrev pub rest_of_walk : {N E : Type 0} → Direction → Graph N E → ℕ → List ℕ
rest_of_walk dir g e = rest_with dir g e (edge_at g e)
