-- Batches of edges as lists: all are added in order, or none.
use Rattle.std.specs.Prelude.{◌≡◌, ℕ, List, ◌∷◌, ◌++◌}
use Rattle.daggy_base.specs.Graph.{Graph}
use Rattle.daggy_base.specs.Path.{IsAcyclic}
use Rattle.daggy_base.specs.declared.error.EdgesError.{EdgesError}
use Rattle.daggy_base.specs.declared.error.EdgesError.TheVariants.{BadEndpoint, Full, Memory, WouldCycle}
use Rattle.daggy_guard.specs.EdgeBatch.{with_edges, new_edges, IsFaultless, LacksEnd, LacksIndex, LacksMemory}
use Rattle.daggy_base.specs.Adding.{NewEdge}
use Rattle.daggy_guard.specs.EdgeBatch.{weights_back}

module _ {N E : Type 0} (limit : ℕ) (g : Graph N E) (edges : List (NewEdge E)) where
  -- no edge is invalid, and with all of them there is no cycle, so all are added
  pub record AddsAll (indices : List ℕ) (new : Graph N E) : Type 0 where
    pub faultless : IsFaultless limit g edges
    pub acyclic : IsAcyclic (with_edges g edges)
    pub indices_are : indices ≡ new_edges g edges
    pub added : new ≡ with_edges g edges

  -- after some valid edges comes one that is refused for this reason. The weights are its own, and those of the edges
  -- before it, the last one first
  pub record StopsAt (IsCause : Graph N E → NewEdge E → Type 0) (last : E) (before : List E) : Type 0 where
    pub front : List (NewEdge E)
    pub at : NewEdge E
    pub behind : List (NewEdge E)
    pub edges_are : edges ≡ front ++ at ∷ behind
    pub faultless : IsFaultless limit g front
    pub cause : IsCause (with_edges g front) at
    pub last_is : last ≡ at.2
    pub before_is : before ≡ weights_back front

  -- no edge is invalid, but with all of them there is a cycle
  pub record ClosesCycle (weights : List E) : Type 0 where
    pub faultless : IsFaultless limit g edges
    pub cyclic : ¬ (IsAcyclic (with_edges g edges))
    pub weights_are : weights ≡ weights_back edges

  -- why none is added: an endpoint or an index is missing, or neither is but memory, or there would be a cycle
  abbrev pub IsRefused : EdgesError E → Type 0
  IsRefused (BadEndpoint last before) = StopsAt LacksEnd last before.items
  IsRefused (Full last before) = StopsAt (LacksIndex limit) last before.items
  IsRefused (Memory last before) = StopsAt (LacksMemory limit) last before.items
  IsRefused (WouldCycle w) = ClosesCycle w.0.items
