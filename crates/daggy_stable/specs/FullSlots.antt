-- Iterating over the occupied slots.
use Rattle.std.specs.Prelude.{◌≡◌, ℕ, ◌+◌, Bool, true, false, Option, Some, None, List, [], ◌∷◌, ◌++◌, if◌then◌else◌, All}

-- the first occupied slot, with its index and the slots after it; the first slot has the index i
abbrev pub next_full : {C : Type 0} → (vacant : C → Bool) → ℕ → List C → Option (ℕ × (C × List C))
next_full vacant i [] = None
next_full vacant i (x ∷ xs) = if vacant x then next_full vacant (i + 1) xs else Some (i, (x, xs))

-- x is the last occupied slot, and rest are the slots before it
abbrev pub IsLastFull : {C : Type 0} → (vacant : C → Bool) → List C → C → List C → Type 0
IsLastFull {C} vacant cells x rest =
    (vacant x ≡ false) × (tail : List C) × (cells ≡ rest ++ x ∷ tail) × All (λ y. vacant y ≡ true) tail
