-- Slots that are appended one by one.
use Rattle.std.specs.Prelude.{ℕ, Option, map}
use Rattle.daggy_base.specs.Graph.{Edge as PlainEdge}
use Rattle.daggy_cells.specs.declared.cell.Node.{Node}
use Rattle.daggy_cells.specs.declared.cell.Edge.{Edge}
use Rattle.daggy_base.specs.FromSlots.{graph_of_slots}
use Rattle.daggy_stable.specs.declared.stable_graph.building.SlotBuilder.{SlotBuilder}
use Rattle.daggy_stable.specs.Stored.{weight_of, plain_edge, Stores}

-- the slots store the graph made of them
abbrev pub IsBuilt : {N E Ix : Type 0}
    → (end : ℕ) → SlotBuilder (Node (Option N) Ix) Ix → SlotBuilder (Edge (Option E) Ix) Ix → Type 0
IsBuilt end nodes edges =
    Stores end nodes.cells.items edges.cells.items nodes.first_vacant edges.first_vacant nodes.count edges.count
    (graph_of_slots (map weight_of nodes.cells.items) (map plain_edge edges.cells.items))

-- an edge from a to b
abbrev pub between : {E : Type 0} → ℕ → ℕ → E → PlainEdge E
between a b w = record { parent = a; child = b; weight = w }
