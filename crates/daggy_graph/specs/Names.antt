-- The new indices of nodes in a filtered graph.
use Rattle.std.specs.Prelude.{◌≡◌, ℕ, ◌<◌, Option, Some, None, List, [], ◌∷◌}
use Rattle.std.specs.Borrow.{Bor}
use Rattle.daggy_base.specs.Graph.{Graph}
use Rattle.daggy_base.specs.Filtering.{IsFiltered}

-- each new index is below n
abbrev pub AreNamesBelow : ℕ → List (Option ℕ) → Type 0
AreNamesBelow n [] = Unit {0}
AreNamesBelow n (None ∷ xs) = AreNamesBelow n xs
AreNamesBelow n (Some k ∷ xs) = (k < n) × AreNamesBelow n xs

-- new has what f and g keep of old, and `names` has the new index of each node that is kept
abbrev pub IsFilteredAs : {N E V W F G I : Type 0}
    → (of : ℕ → I) (step_f : F → I → Bor N → Option V → F → Type 0) (step_g : G → I → Bor E → Option W → G → Type 0)
    → F → G → (names : List (Option ℕ)) → (old : Graph N E) → (new : Graph V W) → Type 0
IsFilteredAs of step_f step_g f g names old new = (is : IsFiltered of step_f step_g f g old new) × (is.names ≡ names)
