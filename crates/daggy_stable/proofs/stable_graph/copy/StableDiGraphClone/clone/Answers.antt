use Rattle.daggy_base.specs.Copying.{clone_step}
use Rattle.daggy_cells.proofs.CloneLemmas.{firsts_cloned, nexts_cloned}
use Rattle.daggy_stable.proofs.CopiedSlots.{node_slots_cloned, edge_slots_cloned}
use Rattle.daggy_stable.proofs.MappedSlots.{MapsStored, Stores-mapped, IsMapped-stored}
use Rattle.daggy_stable.proofs.stable_graph.copy.StableDiGraphClone.clone.Given.{Over}
use Rattle.daggy_stable.proofs.stable_graph.copy.StableDiGraphClone.clone.Goals.{In_ok-clone-2}
use Rattle.daggy_stable.proofs.stable_graph.copy.StableDiGraphClone.clone.Goals as goal

-- the new slots are clones of the old ones
mapped : (g : Over) (c : In_ok-clone-2 g)
    → MapsStored (λ i. i) (clone_step g.N.Clone.is_clone) (clone_step g.E.Clone.is_clone) tt tt
    c.self.inside.nodes.items c.self.inside.edges.items c.in_ok-clone.field-0.items c.in_ok-clone-2.field-0.items
mapped g c =
    let nodes = c.in_ok-clone.ensures.cases.0 in
    let edges = c.in_ok-clone-2.ensures.cases.0 in
    record {
      for_nodes = node_slots_cloned _ g.N.Clone.is_clone (λ x y r. r) (λ x r. r) (λ x r. r) _ _ nodes;
      for_edges = edge_slots_cloned _ g.E.Clone.is_clone (λ x y r. r) (λ x r. r) (λ x r. r) _ _ edges;
      firsts = firsts_cloned _ _ _ nodes;
      nexts = nexts_cloned _ _ _ edges;
    }

pub invariant_of-result : goal.invariant_of-result
invariant_of-result g c =
    Stores-mapped (mapped g (goal.at.invariant_of-result g c).In_ok-clone-2) g.Ix.IndexType.greatest _ _
    c.self.invariant

pub returns : goal.returns
returns g c =
    let copy =
    IsMapped-stored (mapped g (goal.at.returns g c).In_ok-clone-2) g.Ix.IndexType.greatest
    c.self.inside.first_vacant_node c.self.inside.first_vacant_edge in
    record { cases = (rw (← c.self.view_is) copy, c.new.ensures) }
