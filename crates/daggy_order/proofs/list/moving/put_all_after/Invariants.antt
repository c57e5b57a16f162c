use Rattle.std.proofs.Common.{◌≡◌, ℕ, List, ◌∷◌, ◌++◌, take}
use Rattle.std.specs.List.{Contains}
use Rattle.daggy_order.proofs.MovedNodes.{Moving}
use Rattle.daggy_order.proofs.list.moving.put_all_after.Given as goal

abbrev pub invariant-nodes : goal.invariant-nodes
invariant-nodes g l =
    (l.links.labels ≡ l.fn.links.labels)
    × ((before behind : List ℕ) → l.fn.links.nodes ≡ before ++ l.fn.a ∷ behind
    → ((n : ℕ) → Contains (take l.count l.work.nodes) n → Contains before n)
    → Moving l.fn.a l.at (take l.i (take l.count l.work.nodes)) before behind l.links.nodes)
