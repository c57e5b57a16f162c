use Rattle.std.proofs.Common.{◌-◌, ◌≡◌}
use Rattle.daggy_base.specs.Externals.{externals_from}
use Rattle.daggy_dag.proofs.acyclic.externals.ExternalsIterator.next.Given as goal

abbrev pub invariant-along : goal.invariant-along
invariant-along g l =
    let at = l.self-inside in
    let from = l.initial.self-inside in
    let graph = g.S.EdgeSource.graph from.store.now in
    record {
      store : at.store ≡ from.store;
      direction : at.direction ≡ from.direction;
      same : externals_from from.direction graph from.next ≡ externals_from from.direction graph at.next;
    }

abbrev pub decreases-along : goal.decreases-along
decreases-along g l = l.slots - l.self-inside.next
