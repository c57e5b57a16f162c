use Rattle.std.proofs.Common.{◌≡◌, ◌-◌, ◌≤◌, map, take}
use Rattle.serde_json.specs.View.{view}
use Rattle.daggy_base.specs.Iterating.{numbered}
use Rattle.daggy_json.specs.Document.{row_of}
use Rattle.daggy_json.proofs.writing.write_orders.Given as goal

abbrev pub invariant-nodes : goal.invariant-nodes
invariant-nodes g l =
    record {
      within : l.i ≤ l.bound;
      written : map view l.rows.items
          ≡ map (row_of (g.S.EdgeSource.graph l.store))
          (map (λ p. p.0) (numbered 0 (take l.i (g.S.EdgeSource.graph l.store).nodes)));
    }

abbrev pub decreases-nodes : goal.decreases-nodes
decreases-nodes g l = l.bound - l.i
