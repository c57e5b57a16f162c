use Rattle.std.proofs.Common.{ap, ◌∙◌}
use Rattle.daggy_graph.proofs.MappingLemmas.{MapsStored, Stores-mapped, IsMapped-stored}
use Rattle.daggy_graph.proofs.graph.DiGraph.map.Given.{Over}
use Rattle.daggy_graph.proofs.graph.DiGraph.map.Goals.{After-map_edges}
use Rattle.daggy_cells.specs.Fields.{firsts_of, nexts_of, ends_of}
use Rattle.daggy_graph.proofs.graph.DiGraph.map.Goals as goal

-- the new slots are the mapped old ones
mapped : (g : Over) (c : After-map_edges g)
    → MapsStored g.Ix.IndexType.of (goal.F-step g) (goal.G-step g) c.args.f c.args.g
    c.self.inside.nodes.items c.self.inside.edges.items c.map_nodes.new.new.items c.map_edges.new.new.items
mapped g c =
    record {
      for_nodes = rw c.as_slice.ensures.value at c.map_nodes.ensures.mapped;
      for_edges = rw c.as_slice-2.ensures.value at c.map_edges.ensures.mapped;
      firsts = λ dir. c.map_nodes.ensures.links dir ∙ ap (firsts_of dir) c.as_slice.ensures.value;
      nexts = λ dir. c.map_edges.ensures.links dir ∙ ap (nexts_of dir) c.as_slice-2.ensures.value;
      ends = λ dir. c.map_edges.ensures.ends dir ∙ ap (ends_of dir) c.as_slice-2.ensures.value;
    }

pub map_nodes-requires-clause-callable : goal.map_nodes-requires-clause-callable
map_nodes-requires-clause-callable g c =
    rw c.as_slice.ensures.value (rw (← c.self.view_is) at c.requires.nodes)

pub map_edges-requires-clause-callable : goal.map_edges-requires-clause-callable
map_edges-requires-clause-callable g c =
    rw c.as_slice-2.ensures.value (rw (← c.self.view_is) at c.requires.edges)

pub invariant_of-result : goal.invariant_of-result
invariant_of-result g c =
    Stores-mapped (mapped g (goal.at.invariant_of-result g c).After-map_edges) g.Ix.IndexType.greatest c.self.invariant

pub returns-clause-mapped : goal.returns-clause-mapped
returns-clause-mapped g c =
    rw (← c.self.view_is) (IsMapped-stored (mapped g (goal.at.returns-clause-mapped g c).After-map_edges))
