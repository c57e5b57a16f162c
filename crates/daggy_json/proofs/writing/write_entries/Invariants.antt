use Rattle.std.proofs.Common.{◌-◌, ◌≤◌, map, take}
use Rattle.std.specs.List.{AllZip}
use Rattle.serde_json.specs.View.{view}
use Rattle.daggy_json.specs.Document.{IsEntry}
use Rattle.daggy_json.specs.Weight.{WritesAs}
use Rattle.daggy_json.proofs.writing.write_entries.Given as goal

abbrev pub invariant-edges : goal.invariant-edges
invariant-edges g l =
    record {
      within : l.i ≤ l.bound;
      written : AllZip (IsEntry (WritesAs g.G.Fn l.fn_edge)) (take l.i (g.S.EdgeSource.graph l.store).edges)
          (map view l.entries.items);
    }

abbrev pub decreases-edges : goal.decreases-edges
decreases-edges g l = l.bound - l.i
