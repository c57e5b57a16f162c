-- Words of bits of which some are united with others.
use Rattle.std.specs.Prelude.{◌≡◌, ℕ, ◌+◌, ◌-◌, ◌<◌, ◌≤◌, ◌⊎◌, List, length, slice_index, bit_or}

-- the k words from `to` on are united with the k words from `from` on
pub record AreUnited (old now : List ℕ) (to from k : ℕ) : Type 0 where
  pub sized : length now ≡ length old
  pub done : (m : ℕ) → to ≤ m → m < to + k → slice_index now m ≡ bit_or (slice_index old m) (slice_index old (m - to + from))
  pub left : (m : ℕ) → (m < to) ⊎ (to + k ≤ m) → slice_index now m ≡ slice_index old m
