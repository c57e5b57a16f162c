use Rattle.std.proofs.Common.{◌-◌, ◌≤◌, take}
use Rattle.daggy_json.specs.Document.{whole, vacant_from}
use Rattle.daggy_json.specs.Passing.{Writes, AreTokensOf}
use Rattle.daggy_json.proofs.TokenTrees.{Each}
use Rattle.daggy_json.proofs.streaming.stream_holes.Given as goal

abbrev pub invariant-nodes : goal.invariant-nodes
invariant-nodes g l =
    record {
      within : l.i ≤ l.bound;
      written : Writes g.W.Write.contents l.initial.out l.out
          (Each (λ n us. AreTokensOf (whole n) us) (vacant_from 0 (take l.i (g.S.EdgeSource.graph l.store).nodes)));
    }

abbrev pub decreases-nodes : goal.decreases-nodes
decreases-nodes g l = l.bound - l.i
