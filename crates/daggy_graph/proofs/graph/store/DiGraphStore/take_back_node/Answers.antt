use Rattle.std.proofs.Common.{◌≡◌, true, ap, sym, ◌∙◌, refl}
use Rattle.daggy_base.specs.TakingBack.{with_node_taken_back}
use Rattle.daggy_base.proofs.NodeTakenBack.{last_node_dropped}
use Rattle.daggy_graph.proofs.graph.store.DiGraphStore.take_back_node.Goals as goal

pub returns-clause-removed : goal.returns-clause-removed
returns-clause-removed g c =
    let made : c.args.made ≡ true = c.requires.compact refl in
    let f = c.node_count-well_formed.ensures.well_formed in
    let graph = c.args.self.now.graph in
    let n = g.Ix.IndexType.number c.args.n in
    ap (λ s. s.graph) c.drop_node.ensures.dropped
    ∙ last_node_dropped graph n f.out_list_count f.in_list_count (c.requires.last made)
    ∙ ap (λ b. with_node_taken_back b graph n) (sym made)
