use Rattle.std.proofs.Common.{map, arith, ap, length}
use Rattle.std.proofs.lemmas.List.{length-map}
use Rattle.daggy_stable.specs.Stored.{weight_of}
use Rattle.daggy_stable.proofs.VacantPassed.{numbered_few}
use Rattle.daggy_stable.proofs.stable_graph.iterators.NodeReferencesIterator.size_hint.Goals as goal

pub returns-clause-upper : goal.returns-clause-upper
returns-clause-upper g c =
    omega (
      arith,
      numbered_few c.self.inside.slots.index (map weight_of c.self.inside.slots.cells.now),
      length-map c.self.inside.slots.cells.now weight_of,
      ap length c.self.view_is,
    )
