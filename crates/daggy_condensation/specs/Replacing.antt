-- What folding one more edge does to the slots.
use Rattle.std.specs.Prelude.{◌≡◌, ◌≢◌, ℕ, Option, Some, List, length}
use Rattle.daggy_base.specs.Graph.{Edge, slot}

-- a slot that holds an edge from j to k has another weight now, which P says of the one that it had
pub record IsReplaced {X : Type 0} (P : X → X → Type 0) (old new : List (Option (Edge X))) (at j k : ℕ) : Type 0 where
  pub given : X
  pub made : X
  pub was : slot old at ≡ Some (record { parent = j; child = k; weight = given })
  pub is : slot new at ≡ Some (record { parent = j; child = k; weight = made })
  pub called : P given made
  pub others : (i : ℕ) → i ≢ at → slot new i ≡ slot old i
  pub long : length new ≡ length old
