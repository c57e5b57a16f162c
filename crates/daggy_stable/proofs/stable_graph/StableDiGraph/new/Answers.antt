use Rattle.daggy_stable.proofs.Stores.{Stores-itself, Stores-empty}
use Rattle.daggy_stable.proofs.stable_graph.StableDiGraph.new.Goals as goal

pub invariant_of-result : goal.invariant_of-result
invariant_of-result g c =
    rw (c.new.ensures.items, c.new-2.ensures.items)
    (Stores-itself (Stores-empty _ _ _ c.end.ensures.value c.end-2.ensures.value))
