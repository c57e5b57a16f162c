-- What a reference to an edge holds.
use Rattle.std.specs.Prelude.{ℕ}
use Rattle.daggy_base.specs.Graph.{Edge as PlainEdge}
use Rattle.daggy_cells.specs.declared.reference.EdgeReference.{EdgeReference}

-- the edge, with its index
abbrev pub referred : {E Ix : Type 0} → (number : Ix → ℕ) → EdgeReference E Ix → ℕ × PlainEdge E
referred number r = (number r.id, record { parent = number r.source; child = number r.target; weight = r.weight.now })
