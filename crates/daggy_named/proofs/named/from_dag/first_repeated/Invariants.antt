use Rattle.std.proofs.Common.{◌≡◌, map, take}
use Rattle.std.specs.List.{IsDistinct}
use Rattle.std.specs.Map.{keys_of}
use Rattle.daggy_named.proofs.named.from_dag.first_repeated.Given as goal

abbrev pub invariant-keys : goal.invariant-keys
invariant-keys g l =
    record {
      read : map (λ r. r.now) (keys_of l.seen.entries) ≡ take l.i l.keys;
      once : IsDistinct (λ a b. g.K.PartialEq.eq a.now b.now) (keys_of l.seen.entries);
    }
