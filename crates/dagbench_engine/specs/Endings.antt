-- How the program ends.
use Rattle.std.specs.Prelude.{ℕ, Option, Some, None, Result, Ok, Err, List, [], codes}
use Rattle.dagbench_engine.specs.declared.stop.Stop.{Stop}
use Rattle.dagbench_engine.specs.declared.stop.Stop.TheVariants.{Read, Write, Memory}

-- the exit status and the text on standard error; `None` is for wrong arguments
abbrev pub ending_of : Option (Result (Unit {0}) Stop) → ℕ × List ℕ
ending_of None = (2, codes "usage: dagbench compact|stable|plan compact|plan stable\n")
ending_of (Some (Ok done)) = (0, [])
ending_of (Some (Err Read)) = (1, codes "dagbench: read failed\n")
ending_of (Some (Err Write)) = (1, codes "dagbench: write failed\n")
ending_of (Some (Err Memory)) = (1, codes "dagbench: out of memory\n")
