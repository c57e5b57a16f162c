use Rattle.daggy_base.specs.Copying.{clone_step}
use Rattle.daggy_dag.proofs.Mapped.{kept_mapped}
use Rattle.daggy_dag.proofs.acyclic.compact.copies.AcyclicDiGraphClone.clone.Goals as goal

pub from_parts-requires : goal.from_parts-requires
from_parts-requires g c =
    let copy = rw c.graph.ensures.graph at c.in_ok-store.ensures.cases.0 in
    kept_mapped (λ i. i) (clone_step g.N.Clone.is_clone) (clone_step g.E.Clone.is_clone) tt tt _ _ copy _ _
    c.in_ok-order.ensures.ordered c.in_ok-order.ensures.fits

pub returns : goal.returns
returns g c = record {
  cases = rw (c.from_parts.ensures.value, ← c.graph.ensures.graph) c.in_ok-store.ensures.cases;
}
