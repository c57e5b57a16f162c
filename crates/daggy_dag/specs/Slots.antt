-- The next slot of a cursor.
use Rattle.std.specs.Prelude.{ℕ, ◌+◌, Option, Some, None, List, [], ◌∷◌, drop}
use Rattle.daggy_base.specs.declared.kind.Kind.{Kind}
use Rattle.daggy_base.specs.declared.kind.Kind.TheVariants.{Compact, Stable}

-- how many slots in front are vacant
abbrev pub vacant_in_front : {A : Type 0} → List (Option A) → ℕ
vacant_in_front [] = 0
vacant_in_front (None ∷ xs) = vacant_in_front xs + 1
vacant_in_front (Some x ∷ xs) = 0

-- the first occupied slot from i on, or the number of slots; in the compact kind no slot is vacant
abbrev pub next_slot : {A : Type 0} → Kind → List (Option A) → ℕ → ℕ
next_slot Compact xs i = i
next_slot Stable xs i = i + vacant_in_front (drop i xs)
