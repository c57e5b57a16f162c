use Rattle.std.proofs.Common.{◌≡◌, Some, map, take}
use Rattle.daggy_named.specs.Naming.{key_at}
use Rattle.daggy_named.specs.Planned.{keys_by_stage}
use Rattle.daggy_run.specs.Plans.{stages_of}
use Rattle.daggy_named.proofs.named.Named.keys_of_stages.Given as goal

abbrev pub invariant-stages : goal.invariant-stages
invariant-stages g l =
    map (map (key_at l.self.keys)) (stages_of g.Ix.IndexType.number (take l.i l.stages))
    ≡ map (map Some) (keys_by_stage l.found.items)
