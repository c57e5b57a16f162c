-- For how many nodes and edges memory is reserved.
use Rattle.std.specs.Prelude.{ℕ}

-- a number of nodes and a number of edges
pub record Capacity : Type 0 where
  pub nodes : ℕ
  pub edges : ℕ
