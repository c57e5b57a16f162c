use Rattle.std.proofs.Common.{map, ap, ◌∙◌, arith}
use Rattle.daggy_base.specs.declared.index.Direction.TheVariants.{Outgoing, Incoming}
use Rattle.daggy_base.specs.Orders.{numbers_of}
use Rattle.daggy_cells.specs.Fields.{weight_of, plain_edge}
use Rattle.daggy_cells.proofs.FieldLemmas.{as_many}
use Rattle.daggy_cells.proofs.RelinkedLists.{CanLink-as_long, relinks_both}
use Rattle.daggy_cells.proofs.links.relink_both.Goals as goal

pub relink-requires-clause-list : goal.relink-requires-clause-list
relink-requires-clause-list g c =
    rw c.as_slice.ensures.value (c.requires.lists Outgoing)

pub relink-requires-2-clause-node : goal.relink-requires-2-clause-node
relink-requires-2-clause-node g c =
    omega (arith, c.requires.node, as_many weight_of _ _ c.relink.ensures.nodes.weights)

pub relink-requires-2-clause-list : goal.relink-requires-2-clause-list
relink-requires-2-clause-list g c =
    rw c.as_slice-2.ensures.value (CanLink-as_long _ _ _ (c.requires.lists Incoming)
    (as_many plain_edge _ _ c.relink.ensures.edges.edges))

pub returns-clause-links : goal.returns-clause-links
returns-clause-links g c =
    relinks_both (numbers_of g.Ix.IndexType.number c.args.order.now)
    (ap (map g.Ix.IndexType.number) c.as_slice.ensures.value)
    (ap (map g.Ix.IndexType.number) c.as_slice-2.ensures.value)
    (record {
      links = c.relink.ensures.links;
      keeps = c.relink.ensures.nodes;
      keeps_edges = c.relink.ensures.edges;
    })
    (record {
      links = c.relink-2.ensures.links;
      keeps = c.relink-2.ensures.nodes;
      keeps_edges = c.relink-2.ensures.edges;
    })

pub returns-clause-nodes : goal.returns-clause-nodes
returns-clause-nodes g c = c.relink-2.ensures.nodes.weights ∙ c.relink.ensures.nodes.weights

pub returns-clause-edges : goal.returns-clause-edges
returns-clause-edges g c = c.relink-2.ensures.edges.edges ∙ c.relink.ensures.edges.edges
