use Rattle.std.proofs.Common.{◌≡◌, vec_len}
use Rattle.daggy_schedule.specs.LeastFirst.{IsKeyOf}
use Rattle.daggy_schedule.proofs.KeysFrom.{AreKeysBelow}
use Rattle.daggy_schedule.proofs.ready_by_key.keys_by_index.Given as goal

abbrev pub invariant-nodes : goal.invariant-nodes
invariant-nodes g l =
    record {
      sized : vec_len l.keys ≡ l.i;
      below : AreKeysBelow (IsKeyOf g.Ix.IndexType.of (goal.F-post g) l.key (g.S.EdgeSource.graph l.store))
          (g.S.EdgeSource.graph l.store) l.i l.keys.items;
    }
