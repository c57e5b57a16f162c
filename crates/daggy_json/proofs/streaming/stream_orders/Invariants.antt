use Rattle.std.proofs.Common.{◌-◌, ◌≤◌, map, take}
use Rattle.daggy_base.specs.Iterating.{numbered}
use Rattle.daggy_json.specs.Document.{row_of}
use Rattle.daggy_json.specs.Passing.{Writes, AreTokensOf}
use Rattle.daggy_json.proofs.TokenTrees.{Each}
use Rattle.daggy_json.proofs.streaming.stream_orders.Given as goal

abbrev pub invariant-nodes : goal.invariant-nodes
invariant-nodes g l =
    record {
      within : l.i ≤ l.bound;
      written : Writes g.W.Write.contents l.initial.out l.out
          (Each (λ n us. AreTokensOf (row_of (g.S.EdgeSource.graph l.store) n) us)
          (map (λ p. p.0) (numbered 0 (take l.i (g.S.EdgeSource.graph l.store).nodes))));
    }

abbrev pub decreases-nodes : goal.decreases-nodes
decreases-nodes g l = l.bound - l.i
