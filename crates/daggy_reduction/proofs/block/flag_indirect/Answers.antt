use Rattle.std.proofs.Common.{map}
use Rattle.daggy_reduction.specs.Blocks.{is_in_row}
use Rattle.daggy_reduction.proofs.MarkedPlaces.{none_marked, none_to_flag}
use Rattle.daggy_reduction.proofs.block.flag_indirect.Goals as goal

pub returns-then-is_disjoint-clause-flagged : goal.returns-then-is_disjoint-clause-flagged
returns-then-is_disjoint-clause-flagged g c =
    (none_to_flag g.Ix.IndexType.number g.Ix.IndexType.greatest c.args.arcs.now c.args.segment
    (is_in_row c.args.block.low c.args.block.high c.args.reached.now.indirect) c.requires.ordered
    (none_marked c.args.arcs.now c.args.segment c.args.block.low c.args.block.high c.args.reached.now.direct
    c.args.reached.now.indirect c.requires.direct (c.is_disjoint.ensures.0 (cc)))
    (map g.Ix.IndexType.number c.args.flags.now)).0

pub returns-then-is_disjoint-clause-left : goal.returns-then-is_disjoint-clause-left
returns-then-is_disjoint-clause-left g c =
    (none_to_flag g.Ix.IndexType.number g.Ix.IndexType.greatest c.args.arcs.now c.args.segment
    (is_in_row c.args.block.low c.args.block.high c.args.reached.now.indirect) c.requires.ordered
    (none_marked c.args.arcs.now c.args.segment c.args.block.low c.args.block.high c.args.reached.now.direct
    c.args.reached.now.indirect c.requires.direct (c.is_disjoint.ensures.0 (cc)))
    (map g.Ix.IndexType.number c.args.flags.now)).1
