use Rattle.std.proofs.Common.{ap, ◌∙◌}
use Rattle.daggy_dag.proofs.OrderKept.{kept_empty}
use Rattle.daggy_dag.proofs.acyclic.compact.copies.Acyclic+N+E+Ix+DiGraph+N+E+Ix.with_capacity.Goals as goal

pub from_parts-requires : goal.from_parts-requires
from_parts-requires g c =
    kept_empty _ _ _ (ap (λ s. s.graph) c.in_ok-store.ensures.value) (c.reserve-2.ensures ∙ c.new-order.ensures)
