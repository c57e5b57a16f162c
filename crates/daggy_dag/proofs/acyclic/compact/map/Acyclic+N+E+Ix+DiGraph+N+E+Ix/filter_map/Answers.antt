use Rattle.std.proofs.Common.{sym, ◌∙◌, arith, subst}
use Rattle.daggy_base.specs.Filtering.{ListsDescend}
use Rattle.daggy_dag.proofs.Filtered.{names_lower, names_differ, names_many, names_cover, kept_renamed}
use Rattle.daggy_dag.proofs.acyclic.compact.map.Acyclic+N+E+Ix+DiGraph+N+E+Ix.filter_map.Goals as goal

pub filter_map_named-requires-clause-nodes : goal.filter_map_named-requires-clause-nodes
filter_map_named-requires-clause-nodes g c = rw c.graph-graph.ensures.graph c.requires.nodes

pub filter_map_named-requires-clause-edges : goal.filter_map_named-requires-clause-edges
filter_map_named-requires-clause-edges g c = rw c.graph-graph.ensures.graph c.requires.edges

pub rename_all-requires-clause-few : goal.rename_all-requires-clause-few
rename_all-requires-clause-few g c =
    let made = c.in_ok-store.ensures.filtered in
    omega (
      arith,
      names_many made.0 (made.1 ∙ sym c.as_slice.ensures.value),
      c.invariant.ensures.well_formed.few_nodes,
    )

pub rename_all-requires-clause-covered : goal.rename_all-requires-clause-covered
rename_all-requires-clause-covered g c =
    let made = rw c.graph-graph.ensures.graph at c.in_ok-store.ensures.filtered in
    names_cover made.0 (made.1 ∙ sym c.as_slice.ensures.value) _ c.in_ok-order.ensures.ordered

pub rename_all-requires-clause-lower : goal.rename_all-requires-clause-lower
rename_all-requires-clause-lower g c =
    let made = c.in_ok-store.ensures.filtered in
    names_lower made.0 (made.1 ∙ sym c.as_slice.ensures.value)

pub rename_all-requires-clause-distinct : goal.rename_all-requires-clause-distinct
rename_all-requires-clause-distinct g c =
    let made = c.in_ok-store.ensures.filtered in
    names_differ made.0 (made.1 ∙ sym c.as_slice.ensures.value)

pub from_parts-requires : goal.from_parts-requires
from_parts-requires g c =
    let made = rw c.graph-graph.ensures.graph at c.in_ok-store.ensures.filtered in
    kept_renamed made.0 (made.1 ∙ sym c.as_slice.ensures.value) _ _ _ c.rename_all.ensures
    c.in_ok-order.ensures.ordered c.in_ok-order.ensures.fits

pub returns-clause-filtered : goal.returns-clause-filtered
returns-clause-filtered g c =
    rw (c.from_parts.ensures.value, ← c.graph-graph.ensures.graph) c.in_ok-store.ensures.filtered.0

pub returns-clause-whole : goal.returns-clause-whole
returns-clause-whole g c =
    rw (c.from_parts.ensures.value, ← c.graph-graph.ensures.graph) c.in_ok-store.ensures.whole

pub returns-clause-descending : goal.returns-clause-descending
returns-clause-descending g c =
    subst (λ s. ListsDescend s.graph) (sym c.from_parts.ensures.value) c.in_ok-store.ensures.descending
