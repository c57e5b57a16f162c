-- What the program's arguments ask for.
use Rattle.std.specs.Prelude.{ℕ, ◌&&◌, Bool, true, false, Option, Some, None, List, [], ◌∷◌, codes, if◌then◌else◌}
use Rattle.std.specs.Str.{bytes_eq}
use Rattle.daggy_base.specs.declared.kind.Kind.{Kind}
use Rattle.daggy_base.specs.declared.kind.Kind.TheVariants as kind
use Rattle.dagbench_engine.specs.declared.mode.Mode.{Mode}
use Rattle.dagbench_engine.specs.declared.mode.Mode.TheVariants.{Compact, Stable, PlanCompact, PlanStable}

-- `compact` or `stable`, or one of these after `plan`
abbrev pub mode_by_words : List (List ℕ) → Option Mode
mode_by_words (word ∷ []) =
    if bytes_eq word (codes "compact") then Some Compact
    else if bytes_eq word (codes "stable") then Some Stable
    else None
mode_by_words (word ∷ kind ∷ []) =
    if bytes_eq word (codes "plan") && bytes_eq kind (codes "compact") then Some PlanCompact
    else if bytes_eq word (codes "plan") && bytes_eq kind (codes "stable") then Some PlanStable
    else None
mode_by_words words = None

-- the kind of graph that is served
abbrev pub kind_of : Mode → Kind
kind_of Compact = kind.Compact
kind_of PlanCompact = kind.Compact
kind_of Stable = kind.Stable
kind_of PlanStable = kind.Stable

-- whether a plan is written at the end
abbrev pub plans : Mode → Bool
plans Compact = false
plans Stable = false
plans PlanCompact = true
plans PlanStable = true
