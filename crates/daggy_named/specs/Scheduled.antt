-- When the nodes of a graph start and finish, by keys.
use Rattle.std.specs.Prelude.{◌≡◌, ℕ, ◌+◌, Some, List, map, slice_index}
use Rattle.std.specs.Borrow.{Bor}
use Rattle.daggy_base.specs.Graph.{HasNode, node_weight}
use Rattle.daggy_schedule.specs.Times.{AreEarliest, AreLatest, IsMakespan, IsCritical, IsTracedBack}
use Rattle.daggy_named.specs.Naming.{Naming, key_at}

-- a graph, the keys of its nodes, the times of its nodes by index, and the keys along a critical path
pub record NamedTimes (K N E : Type 0) : Type 0 where
  pub named : Naming K N E
  pub durations : List ℕ
  pub starts : List ℕ
  pub finishes : List ℕ
  pub slack : List ℕ
  pub critical : List K
  pub makespan : ℕ

-- the latest start of a node: its earliest start and its slack
abbrev pub latest_start_of : {K N E : Type 0} → NamedTimes K N E → ℕ → ℕ
latest_start_of s n = slice_index s.starts n + slice_index s.slack n

module _ {K N E F : Type 0} where
  -- f may be called with the key and the weight of each node
  abbrev pub CanCallAtEachKey : (pre : F → Bor K → Bor N → Type 0) → F → Naming K N E → Type 0
  CanCallAtEachKey pre f s =
      (n : ℕ) (key : Bor K) (weight : Bor N) → key_at s.keys n ≡ Some key.now → node_weight s.graph n ≡ Some weight.now
      → pre f key weight

  -- each node has a duration that f returned for its key and its weight
  abbrev pub AreDurationsByKey : (post : F → Bor K → Bor N → ℕ → Type 0) → F → Naming K N E → List ℕ → Type 0
  AreDurationsByKey post f s durations =
      (n : ℕ) → HasNode s.graph n
      → (key : Bor K) × (weight : Bor N) × (key_at s.keys n ≡ Some key.now) × (node_weight s.graph n ≡ Some weight.now)
      × post f key weight (slice_index durations n)

-- the times of a schedule in which each node waits only for its parents, and the keys along its critical path
pub record IsScheduleByKey {K N E : Type 0} (s : NamedTimes K N E) : Type 0 where
  pub path : List ℕ
  pub path_named : map (key_at s.named.keys) path ≡ map Some s.critical
  pub starts : AreEarliest s.named.graph s.durations (slice_index s.starts)
  pub finishes : (n : ℕ) → HasNode s.named.graph n
      → slice_index s.finishes n ≡ slice_index s.starts n + slice_index s.durations n
  pub makespan : IsMakespan s.named.graph s.durations (slice_index s.starts) s.makespan
  pub slack : AreLatest s.named.graph s.durations (latest_start_of s) s.makespan
  pub along : IsCritical s.named.graph s.durations path s.makespan
  pub traced_back : IsTracedBack s.named.graph (slice_index s.finishes) path
