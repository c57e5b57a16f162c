-- Sets of nodes, and of pairs of nodes.
use Rattle.std.specs.Prelude.{ℕ, ◌+◌, ◌*◌, Bool, false, List, [], map, IsTrue, slice_index_or}
use Rattle.std.specs.List.{range_with_len}

-- A set of nodes is a flag for each index below its bound, and has no node above.
abbrev pub IsVisited : List Bool → ℕ → Type 0
IsVisited set n = IsTrue (slice_index_or set n false)

-- A matrix has a row for each index below its bound, and a row has a flag for each such index.
abbrev pub HasPair : List (List Bool) → ℕ → ℕ → Type 0
HasPair matrix a b = IsVisited (slice_index_or matrix a []) b

-- a row of a matrix; each row takes `width` of the flags
abbrev pub row_of : (bound width : ℕ) → List Bool → ℕ → List Bool
row_of bound width flags a = map (λ b. slice_index_or flags (a * width + b) false) (range_with_len 0 bound)

-- the matrix of these flags, with as many rows and columns as the bound
abbrev pub rows : (bound width : ℕ) → List Bool → List (List Bool)
rows bound width flags = map (row_of bound width flags) (range_with_len 0 bound)
