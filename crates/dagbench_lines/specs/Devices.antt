-- What contracts see of a device.
use Rattle.std.specs.Prelude.{◌≡◌, ℕ, ◌+◌, ◌<◌, ◌≤◌, ◌^◌, ◌⊎◌, Bool, false, Option, List, [], length, take, Result, Ok}
use Rattle.std.specs.Prelude.{Err}
use Rattle.std.specs.Io.KnownBytes.{Appends, Consumes, IsAtEnd, Keeps}

-- what went through a device: the bytes, whether the end was reached, and how many calls failed
pub record Passed : Type 0 where
  pub bytes : List ℕ
  pub is_ended : Bool
  pub failures : ℕ

-- what went through a device that was not used yet
abbrev pub nothing_passed : Passed
nothing_passed = record { bytes = []; is_ended = false; failures = 0 }

-- a source in memory: all its bytes, how many it has given, and how many calls succeed before one fails
pub record SourceState : Type 0 where
  pub bytes : List ℕ
  pub at : ℕ
  pub passes : Option ℕ
  pub is_ended : Bool
  pub failures : ℕ

-- a sink in memory: what it has taken, and how many calls succeed before one fails
pub record SinkState : Type 0 where
  pub taken : List ℕ
  pub passes : Option ℕ
  pub failures : ℕ

-- a reader or a writer, with what it has given and taken
pub record DeviceState (D : Type 0) : Type 0 where
  pub device : D
  pub left : ℕ
  pub given : Passed
  pub taken : Passed

-- What a read takes from the remaining bytes, if these are known. `Ok n` takes n bytes and returns them at the front of
-- the buffer; n is 0 only if no byte is left or the buffer is empty. `Err` takes nothing, or the source has returned
-- 2^64 bytes or more.
abbrev pub TakesFrom : {E : Type 0}
    → (left_old left_new : Option (List ℕ)) → (given : List ℕ) → Result ℕ E → (buffer : List ℕ) → Type 0
TakesFrom left_old left_new given (Ok n) buffer =
    Consumes left_old left_new (take n buffer) × (n ≡ 0 → 0 < length buffer → IsAtEnd left_new)
TakesFrom left_old left_new given (Err e) buffer =
    Keeps left_old left_new
    ⊎ ((n : ℕ) × Consumes left_old left_new (take n buffer) × (2 ^ 64 ≤ length given + length (take n buffer)))

-- What a write puts into the writer: all the bytes if it is `Ok`, the first of them, possibly none, if it is `Err`.
abbrev pub PutsInto : {A E : Type 0} → (held_old held_new : Option (List ℕ)) → Result A E → (bytes : List ℕ) → Type 0
PutsInto held_old held_new (Ok x) bytes = Appends held_old held_new bytes
PutsInto held_old held_new (Err e) bytes = (n : ℕ) × Appends held_old held_new (take n bytes)
