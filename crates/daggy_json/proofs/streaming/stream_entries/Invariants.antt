use Rattle.std.proofs.Common.{◌-◌, ◌≤◌, take}
use Rattle.daggy_json.specs.Document.{IsEntry}
use Rattle.daggy_json.specs.Weight.{WritesAs}
use Rattle.daggy_json.specs.Passing.{HasFailed, Writes, AreTokensOfA, Encodes}
use Rattle.daggy_json.proofs.TokenTrees.{Each}
use Rattle.daggy_json.proofs.streaming.stream_entries.Given as goal

abbrev pub invariant-edges : goal.invariant-edges
invariant-edges g l =
    record {
      within : l.i ≤ l.bound;
      written : Writes g.W.Write.contents l.initial.out l.out
          (Each (λ o us. AreTokensOfA (IsEntry (Encodes (WritesAs g.G.Fn l.fn_edge) (HasFailed l.out)) o) us)
          (take l.i (g.S.EdgeSource.graph l.store).edges));
    }

abbrev pub decreases-edges : goal.decreases-edges
decreases-edges g l = l.bound - l.i
