-- Keys given to the nodes of a graph.
use Rattle.std.specs.Prelude.{◌≡◌, ℕ, ◌<◌, Bool, true, Option, Some, None, List, [], ◌∷◌, take, slice_get}
use Rattle.std.specs.List.{IsDistinct}

-- the keys by node slot, if they are those of the existing nodes in ascending index order
abbrev pub keys_by_node : {K N : Type 0} → List (Option N) → List K → List (Option K)
keys_by_node [] keys = []
keys_by_node (None ∷ slots) keys = None ∷ keys_by_node slots keys
keys_by_node (Some w ∷ slots) [] = None ∷ keys_by_node slots []
keys_by_node (Some w ∷ slots) (k ∷ keys) = Some k ∷ keys_by_node slots keys

-- the key at position j is the first that equals an earlier one
pub record IsFirstRepeated {K : Type 0} (eq : K → K → Bool) (keys : List K) (j : ℕ) : Type 0 where
  pub distinct : IsDistinct eq (take j keys)
  pub at : ℕ
  pub earlier : at < j
  pub first : K
  pub second : K
  pub first_is : slice_get keys at ≡ Some first
  pub second_is : slice_get keys j ≡ Some second
  pub same : eq second first ≡ true
