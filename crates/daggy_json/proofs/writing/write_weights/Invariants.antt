use Rattle.std.proofs.Common.{◌-◌, ◌≤◌, map, take}
use Rattle.std.specs.List.{AllZip}
use Rattle.serde_json.specs.View.{view}
use Rattle.daggy_base.specs.Iterating.{numbered}
use Rattle.daggy_json.specs.Weight.{WritesAs}
use Rattle.daggy_json.proofs.writing.write_weights.Given as goal

abbrev pub invariant-nodes : goal.invariant-nodes
invariant-nodes g l =
    record {
      within : l.i ≤ l.bound;
      written : AllZip (WritesAs g.F.Fn l.fn_node)
          (map (λ p. p.1) (numbered 0 (take l.i (g.S.EdgeSource.graph l.store).nodes))) (map view l.weights.items);
    }

abbrev pub decreases-nodes : goal.decreases-nodes
decreases-nodes g l = l.bound - l.i
