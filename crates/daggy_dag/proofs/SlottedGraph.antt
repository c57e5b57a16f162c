-- A compact graph's cells, put into slots, hold it.
use Rattle.std.proofs.Common.{◌≡◌, ℕ, zero, suc, List, [], ◌∷◌, map, Option, Some, slice_get, refl, sym, ap, ◌∙◌}
use Rattle.std.proofs.lemmas.List.{length-map}
use Rattle.std.proofs.lemmas.Option.{same_Some, none-some}
use Rattle.daggy_base.specs.declared.index.Direction.{Direction}
use Rattle.daggy_base.specs.declared.index.Direction.TheVariants.{Outgoing, Incoming}
use Rattle.daggy_base.specs.Graph.{Graph, IsCompact}
use Rattle.daggy_base.specs.WellFormed.{IsWellFormed}
use Rattle.daggy_cells.specs.declared.cell.Node.{Node}
use Rattle.daggy_cells.specs.declared.cell.Edge.{Edge}
use Rattle.daggy_cells.specs.Raw.{raw_first, raw_next, ShowsNodes, ShowsEdges}
use Rattle.daggy_stable.specs.Held.{HoldsGraph}
use Rattle.daggy_stable.specs.Stored.{plain_edge}
use Rattle.daggy_dag.specs.SlottedCells.{slotted_node, slotted_edge}

-- what stands in a mapped list is what its function gives
unmapped : {A B : Type 0} (f : A → B) (xs : List A) (i : ℕ) (y : B)
    → slice_get (map f xs) i ≡ Some y → (x : A) × (slice_get xs i ≡ Some x) × (f x ≡ y)
unmapped f [] i y at = absurd (none-some y at)
unmapped f (x ∷ xs) zero y at = (x, refl, same_Some (f x) y at)
unmapped f (x ∷ xs) (suc i) y at = unmapped f xs i y at

-- the links stay
first_slotted : {N Ix : Type 0} (dir : Direction) (x : Node N Ix) → raw_first dir (slotted_node x) ≡ raw_first dir x
first_slotted Outgoing x = refl
first_slotted Incoming x = refl

next_slotted : {E Ix : Type 0} (dir : Direction) (x : Edge E Ix) → raw_next dir (slotted_edge x) ≡ raw_next dir x
next_slotted Outgoing x = refl
next_slotted Incoming x = refl

module _ {N E Ix : Type 0} (end : ℕ) (g : Graph N E) {nodes : List (Node N Ix)} {edges : List (Edge E Ix)}
    (w : IsWellFormed end g) (compact : IsCompact g) (shows_nodes : ShowsNodes end g nodes)
    (shows_edges : ShowsEdges end g edges) where
  HoldsGraph-slotted : HoldsGraph end (map slotted_node nodes) (map slotted_edge edges) g
  HoldsGraph-slotted =
      record {
        compact = compact;
        well_formed = w;
        node_cells = record {
          count = length-map nodes slotted_node ∙ shows_nodes.count;
          weight = λ n y at. let cell = unmapped slotted_node nodes n y at in
              shows_nodes.weight n cell.0 cell.1 ∙ ap (λ z. z.weight) cell.2;
          first = λ dir n y at. let cell = unmapped slotted_node nodes n y at in
              ap (raw_first dir) (sym cell.2) ∙ first_slotted dir cell.0 ∙ shows_nodes.first dir n cell.0 cell.1;
        };
        edge_cells = record {
          count = length-map edges slotted_edge ∙ shows_edges.count;
          edge = λ e y at. let cell = unmapped slotted_edge edges e y at in
              shows_edges.edge e cell.0 cell.1 ∙ ap plain_edge cell.2;
          next = λ dir e y at. let cell = unmapped slotted_edge edges e y at in
              ap (raw_next dir) (sym cell.2) ∙ next_slotted dir cell.0 ∙ shows_edges.next dir e cell.0 cell.1;
        };
      }

  -- in the words of the code
  pub HoldsGraph-filled : {nodes' : List (Node (Option N) Ix)} {edges' : List (Edge (Option E) Ix)}
      → nodes' ≡ map slotted_node nodes → edges' ≡ map slotted_edge edges → HoldsGraph end nodes' edges' g
  HoldsGraph-filled nodes_are edges_are = rw (nodes_are, edges_are) HoldsGraph-slotted
