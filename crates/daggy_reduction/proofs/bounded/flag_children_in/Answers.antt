use Rattle.std.proofs.Common.{map, subst}
use Rattle.daggy_base.specs.Graph.{Graph}
use Rattle.daggy_redundant.specs.Flags.{FlagsMarked}
use Rattle.daggy_redundant.proofs.FlaggedRedundant.{flags_met}
use Rattle.daggy_reduction.proofs.bounded.flag_children_in.Goals as goal

pub returns-clause-flagged : goal.returns-clause-flagged
returns-clause-flagged g c =
    let n = g.Ix.IndexType.number c.args.u in
    let marks = c.mark_indirect_children.new.work.marked in
    let flags = map g.Ix.IndexType.number in
    let F : Graph g.row.S-NodeWeight.Denot g.row.S-EdgeWeight.Denot → Type 0 = λ z.
    FlagsMarked g.Ix.IndexType.greatest z n marks (flags c.args.flags.now) (flags c.flag_marked.new.flags) in
    flags_met c.requires.well_formed n c.begin.new.self.marked marks c.begin.ensures.cleared.none_marked
    c.mark_indirect_children.ensures.met (flags c.args.flags.now) (flags c.flag_marked.new.flags)
    (subst F c.mark_indirect_children.ensures.same c.flag_marked.ensures.flagged)
