use Rattle.std.proofs.Common.{ap, sym, subst}
use Rattle.daggy_base.specs.Graph.{Graph, HasNode}
use Rattle.daggy_base.specs.FromSlots.{vacant_down, edges_by}
use Rattle.daggy_cycles.proofs.Tried.{full, none_is_vacant}
use Rattle.daggy_cycles.proofs.feedback.edgeless.Goals as goal

pub from_slots-requires-clause-compact : goal.from_slots-requires-clause-compact
from_slots-requires-clause-compact g c =
    λ _. record { nodes = none_is_vacant c.args.count c.in_ok-slots.slots.items c.in_ok-slots.ensures; edges = ap (λ z. vacant_down (edges_by g.Ix.IndexType.number z)) c.new.ensures.items }

pub returns-in-Ok-clause-nodes : goal.returns-in-Ok-clause-nodes
returns-in-Ok-clause-nodes g c =
    λ n lt.
    let P : Graph _ _ → Type 0 = λ z. HasNode z n in
    subst P (sym c.in-Ok.ensures.made) (full c.args.count c.in_ok-slots.slots.items c.in_ok-slots.ensures n lt)
