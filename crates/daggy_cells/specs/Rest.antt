-- What iterators still have to yield.
use Rattle.std.specs.Prelude.{ℕ, ◌≤◌, List, length, slice_get}
use Rattle.std.specs.List.{filter_map}
use Rattle.std.specs.Option.{option_map}
use Rattle.daggy_base.specs.declared.index.Direction.{Direction}
use Rattle.daggy_base.specs.Graph.{Edge as PlainEdge}
use Rattle.daggy_cells.specs.declared.cell.Edge.{Edge}
use Rattle.daggy_cells.specs.Links.{IsLinkedList}
use Rattle.daggy_cells.specs.Fields.{nexts_of, list_from, plain}

-- the edges of the list that begins with e, each with its index
abbrev pub edges_left : {E Ix : Type 0} → Direction → List (Edge E Ix) → ℕ → List (ℕ × PlainEdge E)
edges_left dir edges e = filter_map (λ i. option_map (λ x. (i, plain x)) (slice_get edges i)) (list_from dir edges e)

-- the links form a list from e on, and there are no more edges than indices
pub record IsOnList {E Ix : Type 0} (end : ℕ) (dir : Direction) (edges : List (Edge E Ix)) (e : ℕ) : Type 0 where
  pub linked : IsLinkedList end (nexts_of dir edges) e (list_from dir edges e)
  pub few : length edges ≤ end
