-- Lines, one for each slot that is in use.
use Rattle.std.specs.Prelude.{ℕ, zero, suc, List, [], Option, Some, None}
use Rattle.std.specs.Fmt.{◌++?◌}
use Rattle.daggy_base.specs.Graph.{slot}

-- the line of what a slot holds, if it holds anything
abbrev pub line_of : {A : Type 0} → (A → Option (List ℕ)) → Option A → Option (List ℕ)
line_of line None = Some []
line_of line (Some x) = line x

-- the lines of the first n slots, one after another
abbrev pub lines_of : {A : Type 0} → (ℕ → A → Option (List ℕ)) → List (Option A) → ℕ → Option (List ℕ)
lines_of line slots zero = Some []
lines_of line slots (suc n) = lines_of line slots n ++? line_of (line n) (slot slots n)
