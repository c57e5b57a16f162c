-- How components are stored, and what a search writes.
use Rattle.std.specs.Prelude.{◌≡◌, ℕ, ◌+◌, ◌<◌, ◌≤◌, ◌⊎◌, List, [], ◌∷◌, length, drop, take, slice_set, slice_index_or}
use Rattle.std.specs.Prelude.{Contains}
use Rattle.std.specs.List.{concat}
use Rattle.daggy_components.specs.Components.{component}

-- a list cut at its ends: the first part begins at `start`
abbrev pub cut : (start : ℕ) (ends : List ℕ) → List ℕ → List (List ℕ)
cut start [] xs = []
cut start (e ∷ es) xs = drop start (take e xs) ∷ cut e es xs

-- where each part ends in all of them together, which begin at `start`
abbrev pub ends_of : (start : ℕ) → List (List ℕ) → List ℕ
ends_of start [] = []
ends_of start (c ∷ cs) = (start + length c) ∷ ends_of (start + length c) cs

-- The place of a node in the component k is as many before the last place as k says, and another place is `end`.
pub record ArePlaced (end : ℕ) (places : List ℕ) (cs : List (List ℕ)) : Type 0 where
  pub at : (k v : ℕ) → Contains (component cs k) v → slice_index_or places v end + 1 + k ≡ length places
  pub other : (v : ℕ) → v < length places
      → (slice_index_or places v end ≡ end) ⊎ ((k : ℕ) × Contains (component cs k) v)
  pub few : length places ≤ end

-- the lists hold the components
pub record AreStored (end : ℕ) (nodes ends places : List ℕ) (cs : List (List ℕ)) : Type 0 where
  pub nodes_are : nodes ≡ concat cs
  pub ends_are : ends ≡ ends_of 0 cs
  pub placed : ArePlaced end places cs

-- the places once some nodes got one
abbrev pub placed : (places nodes : List ℕ) → ℕ → List ℕ
placed places [] k = places
placed places (n ∷ ns) k = placed (slice_set places n k) ns k
