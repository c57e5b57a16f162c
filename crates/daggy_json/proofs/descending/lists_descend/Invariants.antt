use Rattle.std.proofs.Common.{◌-◌, ◌≤◌, ◌<◌, ℕ}
use Rattle.daggy_base.specs.declared.index.Direction.{Direction}
use Rattle.daggy_base.specs.Graph.{HasEdge}
use Rattle.daggy_json.specs.Passing.{Descends}
use Rattle.daggy_json.proofs.descending.lists_descend.Given as goal

abbrev pub invariant-edges : goal.invariant-edges
invariant-edges g l =
    let graph = g.S.EdgeSource.graph l.store in
    record {
      within : l.i ≤ l.bound;
      so_far : (e : ℕ) → e < l.i → HasEdge graph e → (dir : Direction) → Descends g.Ix.IndexType.greatest graph dir e;
    }

abbrev pub decreases-edges : goal.decreases-edges
decreases-edges g l = l.bound - l.i
