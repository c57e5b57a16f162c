-- How the keys are kept: in the entries of a map, each with its node, and for each node slot the place of its entry.
use Rattle.std.specs.Prelude.{◌≡◌, ℕ, Bool, Option, Some, List, map, is_some, slice_get, option_and_then}
use Rattle.std.specs.List.{IsDistinct}
use Rattle.std.specs.Map.{keys_of}
use Rattle.std.specs.Option.{option_map}
use Rattle.daggy_base.specs.Graph.{slot}

-- the key of the entry at a place
abbrev pub key_in : {K I : Type 0} → List (K × I) → ℕ → Option K
key_in entries place = option_map (λ e. e.0) (slice_get entries place)

-- for each slot the key of the entry at its place
abbrev pub keys_at : {K I : Type 0} → List (K × I) → List (Option ℕ) → List (Option K)
keys_at entries places = map (option_and_then (key_in entries)) places

-- Each slot that has a node has a place. The entry there names that node, and each entry is at the place of the node
-- that it names. No two entries have equal keys.
pub record IsKept {K I N : Type 0} (eq : K → K → Bool) (number : I → ℕ) (nodes : List (Option N))
    (entries : List (K × I)) (places : List (Option ℕ)) : Type 0 where
  pub slots : map is_some places ≡ map is_some nodes
  pub back : (p : ℕ) (k : K) (i : I) → slice_get entries p ≡ Some (k, i) → slot places (number i) ≡ Some p
  pub forth : (n p : ℕ) → slot places n ≡ Some p
      → (k : K) × (i : I) × (slice_get entries p ≡ Some (k, i)) × (number i ≡ n)
  pub once : IsDistinct eq (keys_of entries)
