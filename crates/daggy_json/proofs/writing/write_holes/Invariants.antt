use Rattle.std.proofs.Common.{◌≡◌, ◌-◌, ◌≤◌, map, take}
use Rattle.serde_json.specs.View.{view}
use Rattle.daggy_json.specs.Document.{whole, vacant_from}
use Rattle.daggy_json.proofs.writing.write_holes.Given as goal

abbrev pub invariant-nodes : goal.invariant-nodes
invariant-nodes g l =
    record {
      within : l.i ≤ l.bound;
      written : map view l.holes.items ≡ map whole (vacant_from 0 (take l.i (g.S.EdgeSource.graph l.store).nodes));
    }

abbrev pub decreases-nodes : goal.decreases-nodes
decreases-nodes g l = l.bound - l.i
