-- The devices at the end of a run.
use Rattle.std.specs.Prelude.{◌≡◌, ℕ, ◌+◌, Bool, true, false, Option, List, ◌++◌, Result, Ok, Err, IfSome}
use Rattle.daggy_base.specs.declared.kind.Kind.{Kind}
use Rattle.dagbench_engine.specs.declared.stop.Stop.{Stop}
use Rattle.dagbench_engine.specs.declared.stop.Stop.TheVariants.{Read, Write, Memory}
use Rattle.dagbench_lines.specs.Cutting.{lines_of, ended_lines_of}
use Rattle.dagbench_engine.specs.Serving.{Serves}

-- What a run has exchanged with its devices: the bytes that the source has given, those that remain if it knows them,
-- those that the sink has taken, and how many calls of each failed.
pub record Exchange : Type 0 where
  pub given : List ℕ
  pub remaining : Option (List ℕ)
  pub taken : List ℕ
  pub failed_reads : ℕ
  pub failed_writes : ℕ

-- A run of a new session. At most one call fails, and the result says which; `Memory` is not a result. The run is `Ok`
-- only if the source has given all its remaining bytes. If the source fails, no plan is written.
abbrev pub IsRun : Kind → (plans : Bool) → Result (Unit {0}) Stop → (old new : Exchange) → (is_ended : Bool) → Type 0
IsRun kind plans (Ok done) old new is_ended =
    Serves kind plans lines_of old.given new.given old.taken new.taken × (is_ended ≡ true)
    × IfSome old.remaining (λ input. new.given ≡ old.given ++ input)
    × (new.failed_reads ≡ old.failed_reads) × (new.failed_writes ≡ old.failed_writes)
IsRun kind plans (Err Read) old new is_ended =
    Serves kind false ended_lines_of old.given new.given old.taken new.taken
    × (new.failed_reads ≡ old.failed_reads + 1) × (new.failed_writes ≡ old.failed_writes)
IsRun kind plans (Err Write) old new is_ended =
    (new.failed_reads ≡ old.failed_reads) × (new.failed_writes ≡ old.failed_writes + 1)
IsRun kind plans (Err Memory) old new is_ended = ⊥
