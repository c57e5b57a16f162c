use Rattle.std.proofs.Common.{◌≡◌, ℕ, List, ◌++◌}
use Rattle.std.specs.Io.KnownBytes.{Appends}
use Rattle.daggy_json.proofs.text.put_all.Given as goal

abbrev pub invariant-writes : goal.invariant-writes
invariant-writes g l =
    (done : List ℕ) × (l.initial.rest ≡ done ++ l.rest)
    × Appends (g.W.Write.contents l.initial.writer) (g.W.Write.contents l.writer) done
