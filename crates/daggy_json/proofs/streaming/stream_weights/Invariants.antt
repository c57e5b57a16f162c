use Rattle.std.proofs.Common.{◌-◌, ◌≤◌, map, take}
use Rattle.daggy_base.specs.Iterating.{numbered}
use Rattle.daggy_json.specs.Weight.{WritesAs}
use Rattle.daggy_json.specs.Passing.{HasFailed, Writes, AreTokensOfA, Encodes}
use Rattle.daggy_json.proofs.TokenTrees.{Each}
use Rattle.daggy_json.proofs.streaming.stream_weights.Given as goal

abbrev pub invariant-nodes : goal.invariant-nodes
invariant-nodes g l =
    record {
      within : l.i ≤ l.bound;
      written : Writes g.W.Write.contents l.initial.out l.out
          (Each (λ w us. AreTokensOfA (Encodes (WritesAs g.F.Fn l.fn_node) (HasFailed l.out) w) us)
          (map (λ p. p.1) (numbered 0 (take l.i (g.S.EdgeSource.graph l.store).nodes))));
    }

abbrev pub decreases-nodes : goal.decreases-nodes
decreases-nodes g l = l.bound - l.i
