use Rattle.std.proofs.Common.{List, length, map, take, ap, arith}
use Rattle.std.specs.Vec.{with_items}
use Rattle.daggy_redundant.proofs.FoundEdges.{AreFound, bound_real, are_found}
use Rattle.daggy_reduction.proofs.bounded.leave_redundant_in.Given.{Over}
use Rattle.daggy_reduction.proofs.bounded.leave_redundant_in.Goals.{After-collect_flags}
use Rattle.daggy_reduction.proofs.bounded.leave_redundant_in.Goals as goal

-- the first ones of what was written are those that were flagged
found : (g : Over) (c : After-collect_flags g)
    → AreFound (g.S.EdgeSource.graph c.args.source.now) (map g.Ix.IndexType.number c.args.roots.now)
    (map g.Ix.IndexType.number
    (take c.collect_flags.result (with_items c.scratch.inside.found c.collect_flags.new.flags).items))
found g c =
    let number = g.Ix.IndexType.number in
    are_found c.node_bound-well_formed.ensures.well_formed c.edge_bound-bound.ensures (map number c.args.roots.now)
    (map number c.flag_redundant_in.new.flags) c.flag_redundant_in.ensures.flagged number c.scratch.inside.found
    c.collect_flags.new.flags c.collect_flags.result c.collect_flags.ensures.gathered
    (omega (
      arith,
      c.collect_flags.ensures.kept,
      c.flag_redundant_in.ensures.flags_kept,
      ap (λ (z : List g.row.Ix.Denot). length z) c.as_mut_slice-flags.ensures.value,
      c.scratch.inside.found.ok.0,
    ))

pub collect_flags-requires-clause-real : goal.collect_flags-requires-clause-real
collect_flags-requires-clause-real g c =
    bound_real c.node_bound-well_formed.ensures.well_formed c.edge_bound-bound.ensures

pub returns-clause-ascending : goal.returns-clause-ascending
returns-clause-ascending g c = (found g (goal.at.returns-clause-ascending g c).After-collect_flags).0

pub returns-clause-exact : goal.returns-clause-exact
returns-clause-exact g c = (found g (goal.at.returns-clause-exact g c).After-collect_flags).1
