-- Graphs that differ in the weights of their nodes alone.
use Rattle.std.specs.Prelude.{◌≡◌, ◌↔◌, ℕ, List, Option}
use Rattle.daggy_base.specs.Graph.{Graph, HasNode}

-- the same nodes, edges and lists
abbrev pub IsReweighed : {N E : Type 0} → Graph N E → Graph N E → Type 0
IsReweighed {N} g h =
    (nodes : List (Option N)) × (h ≡ record g { nodes = nodes }) × ((n : ℕ) → HasNode h n ↔ HasNode g n)
