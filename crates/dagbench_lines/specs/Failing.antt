-- Which call of a device in memory fails.
use Rattle.std.specs.Prelude.{ℕ, zero, suc, Option, Some, None}

-- how many calls succeed before one fails, after one more call; after the failure all calls succeed
abbrev pub passes_after : Option ℕ → Option ℕ
passes_after None = None
passes_after (Some zero) = None
passes_after (Some (suc n)) = Some n
