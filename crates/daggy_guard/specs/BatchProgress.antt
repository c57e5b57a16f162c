-- The progress of a batch of edges.
use Rattle.std.specs.Prelude.{◌≡◌, ◌≢◌, ℕ, ◌+◌, ◌<◌, ◌≤◌, ◌⊎◌, List, [], length, take, Vec}
use Rattle.std.specs.declared.alloc.Global.{Global}
use Rattle.daggy_base.specs.Graph.{Graph}
use Rattle.daggy_base.specs.Path.{Reaches}
use Rattle.daggy_base.specs.declared.kind.Kind.{Kind}
use Rattle.daggy_base.specs.declared.kind.Kind.TheVariants.{Compact}
use Rattle.daggy_base.specs.WellFormed.{IsWellFormed}
use Rattle.daggy_base.specs.declared.error.EdgesError.{EdgesError}
use Rattle.daggy_base.specs.declared.error.EdgesError.TheVariants as edges
use Rattle.daggy_base.specs.Ordered.{IsOrderOf, place}
use Rattle.daggy_guard.specs.EdgeBatch.{with_edges, new_edges, LacksEnd, LacksIndex, LacksMemory}
use Rattle.daggy_base.specs.Adding.{NewEdge}
use Rattle.daggy_guard.specs.declared.edge_batch.Fault.{Fault}
use Rattle.daggy_guard.specs.declared.edge_batch.Fault.TheVariants.{BadEndpoint, Full, Memory}
use Rattle.daggy_guard.specs.declared.edge_batch.Standing.{Standing}
use Rattle.daggy_guard.specs.declared.edge_batch.Standing.TheVariants.{Kept, Left, Closed}

-- now is before with the edges xs added, which got these indices; slot_count is the number of edge slots before
pub record IsBatchSoFar {N E : Type 0} (limit : ℕ) (kind : Kind) (before now : Graph N E) (xs : List (NewEdge E))
    (indices : List ℕ) (slot_count : ℕ) : Type 0 where
  pub now_is : now ≡ with_edges before xs
  pub indices_are : indices ≡ new_edges before xs
  pub well_formed : (k : ℕ) → k < length xs → IsWellFormed limit (with_edges before (take k xs))
  pub compact : kind ≡ Compact → before.vacant_edges ≡ []
  pub slot_count_is : slot_count ≡ length before.edges

-- why an edge cannot be added
abbrev pub IsFault : {N E : Type 0} → (limit : ℕ) → Graph N E → NewEdge E → Fault E → Type 0
IsFault limit g x (BadEndpoint w) = (w ≡ x.2) × LacksEnd g x
IsFault limit g x (Full w) = (w ≡ x.2) × LacksIndex limit g x
IsFault limit g x (Memory w) = (w ≡ x.2) × LacksMemory limit g x

-- the refusal of the whole batch
abbrev pub refusal : {E : Type 0} → Fault E → Vec E Global → EdgesError E
refusal (BadEndpoint w) before = edges.BadEndpoint w before
refusal (Full w) before = edges.Full w before
refusal (Memory w) before = edges.Memory w before

-- the order agrees with all edges of the batch so far
abbrev pub IsKept : Standing → Type 0
IsKept (Kept left) = Unit {0}
IsKept Left = ⊥
IsKept Closed = ⊥

-- the order during a batch: how it relates to the edges so far, and what it is
pub record BatchOrder : Type 0 where
  pub standing : Standing
  pub order : List ℕ

-- how the order can relate to the edges after one more, from a to b
abbrev pub CanStand : {N E : Type 0} → Graph N E → (a b : ℕ) → (old new : BatchOrder) → Standing → Type 0
CanStand g a b old new (Kept left) =
    IsKept old.standing × IsOrderOf g new.order × (place new.order a < place new.order b)
CanStand g a b old new Left = (old.standing ≢ Closed) × (new.order ≡ old.order)
CanStand g a b old new Closed =
    ((old.standing ≡ Closed) × (new.order ≡ old.order))
    ⊎ (IsKept old.standing × IsOrderOf g new.order × Reaches g b a)

-- the order before and after that edge
abbrev pub IsStep : {N E : Type 0} → Graph N E → (a b : ℕ) → (old new : BatchOrder) → Type 0
IsStep g a b old new = CanStand g a b old new new.standing

-- The count of edge reads during a batch; it was `start` before the batch. The searches read no more than the budget,
-- except for the last one, which read no more than all edges.
abbrev pub IsWithin : (budget edges start looks : ℕ) → Standing → Type 0
IsWithin budget edges start looks (Kept left) =
    (0 < left → looks + left ≤ start + budget) × (looks ≤ start + budget + edges)
IsWithin budget edges start looks Left = looks ≤ start + budget + edges
IsWithin budget edges start looks Closed = looks ≤ start + budget + edges
