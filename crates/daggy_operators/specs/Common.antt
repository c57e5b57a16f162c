-- Common ancestors of two nodes.
use Rattle.std.specs.Prelude.{ℕ}
use Rattle.daggy_base.specs.Graph.{Graph}
use Rattle.daggy_base.specs.Path.{Reaches}
use Rattle.daggy_reduction.specs.Descendants.{IsDescendantOf}

-- n reaches both a and b, each of which reaches itself
abbrev pub IsCommonAncestor : {N E : Type 0} → Graph N E → (a b n : ℕ) → Type 0
IsCommonAncestor g a b n = Reaches g n a × Reaches g n b

-- and no descendant of n does
pub record IsLowestCommonAncestor {N E : Type 0} (g : Graph N E) (a b n : ℕ) : Type 0 where
  pub common : IsCommonAncestor g a b n
  pub lowest : (m : ℕ) → IsDescendantOf g n m → ¬ IsCommonAncestor g a b m
