use Rattle.daggy_stable.proofs.Stores.{Stores-itself, Stores-empty}
use Rattle.daggy_stable.proofs.stable_graph.StableDiGraph.clear.Goals as goal

pub invariant_of-self : goal.invariant_of-self
invariant_of-self g c =
    rw (c.clear.ensures.items, c.clear-2.ensures.items)
    (Stores-itself (Stores-empty _ _ _ c.end-self-inside.ensures.value c.end-self-inside-2.ensures.value))
