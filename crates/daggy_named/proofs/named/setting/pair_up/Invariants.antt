use Rattle.std.proofs.Common.{◌≡◌, ◌≤◌, ◌+◌, ◌++◌, map, length, reverse, drop, vec_len, vec_capacity}
use Rattle.std.specs.List.{zip}
use Rattle.daggy_named.proofs.named.setting.pair_up.Given as goal

abbrev pub invariant-pairs : goal.invariant-pairs
invariant-pairs g l = record {
  moved :
      l.to.items ++ zip (drop (length l.to.items) l.firsts) (map (λ x. x.1) (reverse l.from.items))
      ≡ zip l.firsts (map (λ x. x.1) l.fn.from.items);
  as_many : vec_len l.to + vec_len l.from ≡ length l.firsts;
  room : vec_len l.to + vec_len l.from ≤ vec_capacity l.to;
  capacity : vec_capacity l.from ≡ vec_capacity l.fn.from;
}

abbrev pub decreases-pairs : goal.decreases-pairs
decreases-pairs g l = vec_len l.from
