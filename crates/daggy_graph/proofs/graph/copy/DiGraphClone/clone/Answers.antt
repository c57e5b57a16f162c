use Rattle.std.proofs.Common.{refl, sym, ap, ◌∙◌}
use Rattle.daggy_base.specs.Copying.{clone_step}
use Rattle.daggy_base.specs.Mapping.{weight_in, with_weight}
use Rattle.daggy_cells.specs.Fields.{weight_of, plain_edge}
use Rattle.daggy_cells.proofs.CloneLemmas.{slots_cloned, firsts_cloned, nexts_cloned, ends_cloned}
use Rattle.daggy_graph.proofs.MappingLemmas.{MapsStored, Stores-mapped, IsMapped-stored}
use Rattle.daggy_graph.proofs.graph.copy.DiGraphClone.clone.Given.{Over}
use Rattle.daggy_graph.proofs.graph.copy.DiGraphClone.clone.Goals.{In_ok-clone-2}
use Rattle.daggy_graph.proofs.graph.copy.DiGraphClone.clone.Goals as goal

-- the new nodes and edges are clones of the old ones
mapped : (g : Over) (c : In_ok-clone-2 g)
    → MapsStored (λ i. i) (clone_step g.N.Clone.is_clone) (clone_step g.E.Clone.is_clone) tt tt
    c.self.inside.nodes.items c.self.inside.edges.items c.in_ok-clone.field-0.items c.in_ok-clone-2.field-0.items
mapped g c =
    let nodes = c.in_ok-clone.ensures.cases.0 in
    let edges = c.in_ok-clone-2.ensures.cases.0 in
    record {
      for_nodes =
          slots_cloned g.N.Clone.is_clone (λ w. w) (λ w v. v) _ weight_of (λ x y r. (r.0, refl)) 0 _ _ nodes;
      for_edges = slots_cloned g.E.Clone.is_clone weight_in with_weight _ plain_edge (λ x y r. (
        r.0,
        ap (λ z. record { parent = z; child = y.child; weight = y.weight }) (sym r.1.0)
            ∙ ap (λ z. record { parent = x.parent; child = z; weight = y.weight }) (sym r.1.1.0),
      )) 0 _ _ edges;
      firsts = firsts_cloned _ _ _ nodes;
      nexts = nexts_cloned _ _ _ edges;
      ends = ends_cloned _ _ _ edges;
    }

pub invariant_of-result : goal.invariant_of-result
invariant_of-result g c =
    Stores-mapped (mapped g (goal.at.invariant_of-result g c).In_ok-clone-2) _ c.self.invariant

pub returns : goal.returns
returns g c =
    record {
      cases = (rw (← c.self.view_is) (IsMapped-stored (mapped g (goal.at.returns g c).In_ok-clone-2)), c.new.ensures);
    }
