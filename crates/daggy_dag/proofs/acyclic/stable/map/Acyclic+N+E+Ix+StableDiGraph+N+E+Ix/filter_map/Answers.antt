use Rattle.std.proofs.Common.{◌∙◌, ap, sym, subst, length}
use Rattle.daggy_base.specs.Filtering.{ListsDescend}
use Rattle.daggy_dag.proofs.OrderKept.{order_below}
use Rattle.daggy_dag.proofs.KeptInPlace.{kept_in_place}
use Rattle.daggy_dag.proofs.acyclic.stable.map.Acyclic+N+E+Ix+StableDiGraph+N+E+Ix.filter_map.Goals as goal

pub filter_map-requires-clause-nodes : goal.filter_map-requires-clause-nodes
filter_map-requires-clause-nodes g c = rw c.graph-graph.ensures.graph c.requires.nodes

pub filter_map-requires-clause-edges : goal.filter_map-requires-clause-edges
filter_map-requires-clause-edges g c = rw c.graph-graph.ensures.graph c.requires.edges

pub keep_existing-requires-clause-below : goal.keep_existing-requires-clause-below
keep_existing-requires-clause-below g c =
    order_below _ _ _ (c.node_slots.ensures ∙ ap (λ h. length h.nodes) c.graph-graph.ensures.graph)
    c.in_ok-order.ensures.ordered

pub from_parts-requires : goal.from_parts-requires
from_parts-requires g c =
    kept_in_place (rw c.graph-graph.ensures.graph at c.in_ok-store.ensures.filtered) _ _ _
    c.invariant-2.ensures.well_formed c.keep_existing.ensures c.in_ok-order.ensures.ordered c.in_ok-order.ensures.fits

pub returns-clause-filtered : goal.returns-clause-filtered
returns-clause-filtered g c =
    rw (c.from_parts.ensures.value, ← c.graph-graph.ensures.graph) c.in_ok-store.ensures.filtered

pub returns-clause-descending : goal.returns-clause-descending
returns-clause-descending g c =
    subst (λ s. ListsDescend s.graph) (sym c.from_parts.ensures.value) c.in_ok-store.ensures.descending
