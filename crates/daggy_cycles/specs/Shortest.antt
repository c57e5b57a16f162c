-- Shortest cycles.
use Rattle.std.specs.Prelude.{◌≡◌, ◌≢◌, ℕ, ◌≤◌, List, ◌∷◌, length}
use Rattle.daggy_base.specs.Graph.{Graph}
use Rattle.daggy_base.specs.Path.{IsPath, end_of}
use Rattle.daggy_components.specs.Cycles.{IsCycle}

-- no path of one or more edges leads from n back to it
abbrev pub IsOnNoCycle : {N E : Type 0} → Graph N E → ℕ → Type 0
IsOnNoCycle g n = (v : ℕ) (rest : List ℕ) → IsPath g (n ∷ v ∷ rest) → end_of v rest ≢ n

-- a cycle that begins at n, with as few nodes as any has on which n is
pub record IsShortestCycle {N E : Type 0} (g : Graph N E) (n : ℕ) (cycle : List ℕ) : Type 0 where
  pub cycle_is : IsCycle g cycle
  pub rest : List ℕ
  pub begins : cycle ≡ n ∷ rest
  pub shortest : (v : ℕ) (others : List ℕ) → IsPath g (n ∷ v ∷ others) → end_of v others ≡ n
      → length cycle ≤ length (v ∷ others)
