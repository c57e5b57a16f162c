-- Cycles.
use Rattle.std.specs.Prelude.{ℕ, List, [], ◌∷◌}
use Rattle.daggy_base.specs.Graph.{Graph}
use Rattle.daggy_base.specs.Path.{AreJoined, IsPath, end_of}
use Rattle.daggy_base.specs.WellFormed.{AreDistinct}

-- a cycle: a path with no node twice, and the last node joined to the first
abbrev pub IsCycle : {N E : Type 0} → Graph N E → List ℕ → Type 0
IsCycle g [] = ⊥
IsCycle g (u ∷ rest) = IsPath g (u ∷ rest) × AreDistinct (u ∷ rest) × AreJoined g (end_of u rest) u
