-- Weights and their encodings, by the functions that write and read them.
use Rattle.std.specs.Prelude.{◌≡◌, Option, Result, Ok}
use Rattle.std.specs.declared.alloc.AllocError.{AllocError}
use Rattle.std.specs.Fn.{Shared, FnReturnsAt}
use Rattle.std.specs.Borrow.{Bor}
use Rattle.serde_json.specs.Data.{Data}
use Rattle.serde_json.specs.View.{view}
use Rattle.serde_json.specs.declared.value.Value.{Value}

-- the function may encode the weight w as a value of this data
abbrev pub WritesAs : {F W : Type 0} → Shared F (Bor W × Unit {0}) (Result Value AllocError) → F → W → Data → Type 0
WritesAs g f w d = (v : Value) × FnReturnsAt g f w (Ok v) × (view v ≡ d)

-- the function may decode a value of this data to a weight, or refuse it
abbrev pub ReadsAs : {F W : Type 0}
    → Shared F (Bor Value × Unit {0}) (Result (Option W) AllocError) → F → Data → Option W → Type 0
ReadsAs g f d o = (v : Value) × FnReturnsAt g f v (Ok o) × (view v ≡ d)
