-- Closures by what their calls return, and what they keep of three nodes.
use Rattle.std.specs.Prelude.{◌≡◌, ℕ, ◌+◌, ◌==◌, Option, Some, None, [], ◌∷◌, if◌then◌else◌}
use Rattle.std.specs.Borrow.{Bor}
use Rattle.daggy_base.specs.Graph.{Graph}
use Rattle.daggy_base.specs.FromSlots.{graph_of_slots}
use Rattle.example_model.specs.Examples.{line}

abbrev pub unless_ten : ℕ → Option ℕ
unless_ten w = if w == 10 then None else Some w

-- a closure that keeps each weight but 10
abbrev pub drops_ten : ℕ → ℕ → Bor ℕ → Option ℕ → ℕ → Type 0
drops_ten f i shown r next = (r ≡ unless_ten shown.now) × (next ≡ f)

-- a closure that returns the number of its earlier calls
abbrev pub numbers_its_calls : ℕ → ℕ → Bor ℕ → Option ℕ → ℕ → Type 0
numbers_its_calls f i shown r next = (r ≡ Some f) × (next ≡ f + 1)

-- two nodes and the third edge
abbrev pub kept : Graph ℕ ℕ
kept = graph_of_slots (None ∷ Some 20 ∷ Some 30 ∷ []) (None ∷ None ∷ Some (line 1 2 0) ∷ [])
