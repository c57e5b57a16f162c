use Rattle.std.proofs.Common.{map, arith, ap, length}
use Rattle.std.proofs.lemmas.List.{length-map}
use Rattle.daggy_stable.specs.Stored.{plain_edge}
use Rattle.daggy_stable.proofs.VacantPassed.{numbered_few}
use Rattle.daggy_stable.proofs.stable_graph.iterators.EdgeReferencesIterator.size_hint.Goals as goal

pub returns-clause-upper : goal.returns-clause-upper
returns-clause-upper g c =
    omega (
      arith,
      numbered_few c.self.inside.slots.index (map plain_edge c.self.inside.slots.cells.now),
      length-map c.self.inside.slots.cells.now plain_edge,
      ap length c.self.view_is,
    )
