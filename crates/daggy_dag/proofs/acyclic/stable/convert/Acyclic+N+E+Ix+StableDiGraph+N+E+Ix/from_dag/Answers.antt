use Rattle.std.proofs.Common.{◌≡◌, length, refl, sym, ap, subst, ◌∙◌}
use Rattle.daggy_base.specs.Graph.{Graph, IsCompact}
use Rattle.daggy_dag.proofs.OrderKept.{kept_copied}
use Rattle.daggy_dag.proofs.acyclic.stable.convert.Acyclic+N+E+Ix+StableDiGraph+N+E+Ix.from_dag.Goals as goal

pub from_parts-requires : goal.from_parts-requires
from_parts-requires g c =
    let parts = c.into_parts-graph in
    let many : c.node_count-nodes.result ≡ length parts.result.0.graph.nodes =
    c.node_count-nodes.ensures.slot_count
    ∙ ap (λ s. length s.nodes) (c.graph.ensures.graph ∙ sym parts.ensures.graph) in
    kept_copied _ _ c.fill-store.ensures refl many c.in-Ok.ensures.searches parts.ensures.ordered

pub returns-in-Ok-clause-compact : goal.returns-in-Ok-clause-compact
returns-in-Ok-clause-compact g c =
    let P : Graph g.row.N.Denot g.row.E.Denot → Type 0 = λ z. IsCompact z in
    let same : c.from_parts.result.graph ≡ c.graph.result.now.graph =
    ap (λ s. s.graph) c.from_parts.ensures.value ∙ ap (λ s. s.graph) c.fill-store.ensures ∙ c.into_parts-graph.ensures.graph ∙ sym c.graph.ensures.graph in
    subst P (sym same) c.node_count-nodes.ensures.compact
