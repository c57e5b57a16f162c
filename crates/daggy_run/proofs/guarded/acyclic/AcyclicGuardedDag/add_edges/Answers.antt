use Rattle.std.proofs.Common.{◌∙◌}
use Rattle.daggy_run.proofs.EdgesFromVec.{all_added, none_added}
use Rattle.daggy_run.proofs.guarded.acyclic.AcyclicGuardedDag.add_edges.Goals as goal

pub returns-in-Ok-clause-added : goal.returns-in-Ok-clause-added
returns-in-Ok-clause-added g c =
    let added = c.in-Ok.ensures.added in
    rw c.into_vec.ensures (all_added g.Ix.IndexType.number g.Ix.IndexType.greatest c.args.edges.items added.0 added.1.0
    (added.1.1 ∙ c.args.edges.ok.0) added.2 c.add_edges.ensures.acyclic)

pub returns-in-Err-clause-refused : goal.returns-in-Err-clause-refused
returns-in-Err-clause-refused g c =
    let refused = c.in-Err.ensures.refused in
    none_added g.Ix.IndexType.number g.Ix.IndexType.greatest c.args.edges.items refused.0 refused.1.0
    (refused.1.1 ∙ c.args.edges.ok.0) _ _ refused.2
