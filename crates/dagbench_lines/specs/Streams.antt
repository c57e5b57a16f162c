-- What calls on a device do to its bytes and to its count of failures.
use Rattle.std.specs.Prelude.{◌≡◌, ℕ, ◌+◌, ◌≤◌, ◌==◌, ◌||◌, ◌&&◌, nat_lt, Bool, List, ◌++◌, length, take, Result, Ok}
use Rattle.std.specs.Prelude.{Err}

-- each call that returns `Err` is counted as a failure
abbrev pub CountsFaults : {A E : Type 0} → Result A E → (old new : ℕ) → Type 0
CountsFaults (Ok x) old new = new ≡ old
CountsFaults (Err e) old new = new ≡ old + 1

-- if the call is `Ok`, the text is appended
abbrev pub Appends : {A E : Type 0} → Result A E → (old new text : List ℕ) → Type 0
Appends (Ok x) old new text = new ≡ old ++ text
Appends (Err e) old new text = Unit {0}

-- `Ok n` returns the first n bytes of the buffer; `Err` returns none
abbrev pub Gives : {E : Type 0} → Result ℕ E → (old new buffer : List ℕ) → Type 0
Gives (Ok n) old new buffer = (n ≤ length buffer) × (new ≡ old ++ take n buffer)
Gives (Err e) old new buffer = new ≡ old

-- the end is reached by `Ok 0` for a nonempty buffer
abbrev pub MeetsEnd : {E : Type 0} → Result ℕ E → (old new : Bool) (buffer : List ℕ) → Type 0
MeetsEnd (Ok n) old new buffer = new ≡ (old || (n == 0 && nat_lt 0 (length buffer)))
MeetsEnd (Err e) old new buffer = new ≡ old
