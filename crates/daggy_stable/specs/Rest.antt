-- What iterators still have to yield.
use Rattle.std.specs.Prelude.{ℕ, Option, List, map, IsSome, Contains}
use Rattle.std.specs.List.{filter_map}
use Rattle.std.specs.Option.{option_map}
use Rattle.daggy_base.specs.declared.index.Direction.{Direction}
use Rattle.daggy_base.specs.Graph.{Edge as PlainEdge, slot}
use Rattle.daggy_cells.specs.declared.cell.Edge.{Edge}
use Rattle.daggy_cells.specs.Rest.{IsOnList}
use Rattle.daggy_cells.specs.Fields.{list_from}
use Rattle.daggy_stable.specs.Stored.{plain_edge}

-- the edge in a slot, if there is one, with its index
abbrev pub numbered_edge : {E : Type 0} → ℕ → Option (PlainEdge E) → Option (ℕ × PlainEdge E)
numbered_edge i x = option_map (λ y. (i, y)) x

-- the edges of the list that begins with e, each with its index
abbrev pub edges_left : {E Ix : Type 0} → Direction → List (Edge (Option E) Ix) → ℕ → List (ℕ × PlainEdge E)
edges_left dir edges e = filter_map (λ i. numbered_edge i (slot (map plain_edge edges) i)) (list_from dir edges e)

-- no slot of the list is vacant
pub record IsOnFullList {E Ix : Type 0} (end : ℕ) (dir : Direction) (edges : List (Edge (Option E) Ix))
    (e : ℕ) : Type 0 where
  pub on_list : IsOnList end dir edges e
  pub full : (i : ℕ) → Contains (list_from dir edges e) i → IsSome (slot (map plain_edge edges) i)
