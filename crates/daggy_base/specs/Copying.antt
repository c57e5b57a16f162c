-- A copy of a graph.
use Rattle.std.specs.Prelude.{ℕ}
use Rattle.std.specs.Borrow.{Bor}
use Rattle.daggy_base.specs.Graph.{Graph}
use Rattle.daggy_base.specs.Mapping.{IsMapped}

-- a step of a map that clones a weight
abbrev pub clone_step : {W : Type 0} → (is_clone : W → W → Type 0) → Unit {0} → ℕ → Bor W → W → Unit {0} → Type 0
clone_step is_clone state i shown w next = is_clone shown.now w

-- new has the shape of old, and a clone of each weight
abbrev pub IsCopy : {N E : Type 0}
    → (node_clone : N → N → Type 0) → (edge_clone : E → E → Type 0) → (old new : Graph N E) → Type 0
IsCopy node_clone edge_clone old new = IsMapped (λ i. i) (clone_step node_clone) (clone_step edge_clone) tt tt old new
