-- What is known while edges are tried in turn.
use Rattle.std.specs.Prelude.{◌≡◌, ℕ, ◌≤◌, ◌↔◌, Bool, true, false, List, Some, length, slice_index_or, Contains}
use Rattle.daggy_base.specs.Graph.{Graph, Edge, HasNode, HasEdge, edge_at, edge_bound, edge_count}
use Rattle.daggy_base.specs.Path.{AreJoined}
use Rattle.daggy_base.specs.WellFormed.{AreDistinct}
use Rattle.daggy_components.specs.Components.{ReachEachOther}
use Rattle.daggy_cycles.specs.Feedback.{AreLeftOut}

-- an edge that was tried and is kept leads from u to v, which reach each other
pub record IsKept {N E : Type 0} (g : Graph N E) (tried out : List ℕ) (u v : ℕ) : Type 0 where
  pub index : ℕ
  pub edge : Edge E
  pub at : edge_at g index ≡ Some edge
  pub from : edge.parent ≡ u
  pub to : edge.child ≡ v
  pub tried_is : Contains tried index
  pub stays : ¬ Contains out index
  pub round : ReachEachOther g u v

-- edges that were tried, and as many as the dag of the kept ones has, or more
pub record AreMany {N E : Type 0} (g : Graph N E) (tried : List ℕ) (count : ℕ) : Type 0 where
  pub edges : List ℕ
  pub once : AreDistinct edges
  pub some : (e : ℕ) → Contains edges e → HasEdge g e × Contains tried e
  pub many : count ≤ length edges

-- Some edges of a graph were tried in turn. Of those that are kept, a dag has the ones between nodes that reach each
-- other, and an edge is marked if it was tried.
pub record AreTried {N E M F : Type 0} (g : Graph N E) (dag : Graph M F) (marks : List Bool) (tried out : List ℕ)
    : Type 0 where
  pub nodes : (n : ℕ) → HasNode g n → HasNode dag n
  pub joined : (u v : ℕ) → AreJoined dag u v ↔ IsKept g tried out u v
  pub left_out : AreLeftOut g tried out
  pub within : (e : ℕ) → Contains out e → Contains tried e
  pub long : length marks ≡ edge_bound g
  pub marked : (e : ℕ) → HasEdge g e → (slice_index_or marks e false ≡ true) ↔ Contains tried e
  pub many : AreMany g tried (edge_count dag)
