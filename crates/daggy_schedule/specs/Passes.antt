-- What the passes over the nodes compute, first along the order and then against it.
use Rattle.std.specs.Prelude.{◌≡◌, ℕ, ◌+◌, ◌<◌, ◌≤◌, ◌^◌, ◌⊎◌, List, slice_index}
use Rattle.daggy_base.specs.Graph.{Graph, HasNode}
use Rattle.daggy_base.specs.Path.{AreJoined}
use Rattle.daggy_schedule.specs.Times.{IsLowestLast}
use Rattle.daggy_schedule.specs.Lags.{WaitsForWithLags}

-- whether n, which finishes at that time, is preferred to m: it finishes later, or at the same time and has the lower
-- index
abbrev pub GoesBefore : (finish n time m : ℕ) → Type 0
GoesBefore finish n time m = (time < finish) ⊎ ((time ≡ finish) × (n < m))

-- The children of n start, for each edge to them, no earlier than its lag after n finishes. The children that recorded a
-- node to which n is then preferred start when the last of these lags ends, and record n.
pub record AreDelayed {N E : Type 0} (g : Graph N E) (n finish : ℕ) (lags starts parents starts' parents' : List ℕ) : Type 0 where
  pub late : (v : ℕ) (edge : AreJoined g n v)
      → ¬ GoesBefore (finish + slice_index lags edge.0) n (slice_index starts' v) (slice_index parents' v)
  pub up : (v : ℕ) → slice_index starts v ≤ slice_index starts' v
  pub noted : (v : ℕ)
      → ((slice_index starts' v ≡ slice_index starts v) × (slice_index parents' v ≡ slice_index parents v))
      ⊎ ((edge : AreJoined g n v)
      × GoesBefore (finish + slice_index lags edge.0) n (slice_index starts v) (slice_index parents v)
      × (slice_index starts' v ≡ finish + slice_index lags edge.0) × (slice_index parents' v ≡ n))

-- the lag of some edge that leaves n ends at 2 ^ 64 or later
abbrev pub IsDelayedTooLong : {N E : Type 0} → Graph N E → (n finish : ℕ) (lags : List ℕ) → Type 0
IsDelayedTooLong g n finish lags = (v : ℕ) × (edge : AreJoined g n v) × (2 ^ 64 ≤ finish + slice_index lags edge.0)

-- Each node takes its duration. A node without parents starts at 0 and records `end`; any other node records the parent
-- that it waits for, and starts when the lag of an edge from that parent ends.
pub record AreNoted {N E : Type 0} (end : ℕ) (g : Graph N E) (durations lags starts parents finishes : List ℕ) : Type 0 where
  pub takes : (n : ℕ) → HasNode g n → slice_index starts n + slice_index durations n ≡ slice_index finishes n
  pub noted : (n : ℕ) → HasNode g n → ((slice_index parents n ≡ end) × (slice_index starts n ≡ 0) × ((u : ℕ) → ¬ AreJoined g u n))
      ⊎ ((waits : WaitsForWithLags g (slice_index finishes) lags n (slice_index parents n))
      × (slice_index finishes (slice_index parents n) + slice_index lags waits.edge.0 ≡ slice_index starts n))

-- the makespan is when the last node finishes, the lowest of several; there is one unless there are no nodes
pub record IsLast {N E : Type 0} (end : ℕ) (g : Graph N E) (finishes : List ℕ) (makespan last : ℕ) : Type 0 where
  pub most : (n : ℕ) → HasNode g n → slice_index finishes n ≤ makespan
  pub is_last : (IsLowestLast (HasNode g) (slice_index finishes) last × (slice_index finishes last ≡ makespan))
      ⊎ (((n : ℕ) → ¬ HasNode g n) × (makespan ≡ 0) × (last ≡ end))

-- how much later each node starts at the latest
abbrev pub later_by : (starts slack : List ℕ) → ℕ → ℕ
later_by starts slack n = slice_index starts n + slice_index slack n

-- The latest time at which n finishes: the least of the makespan and, for each edge that leaves n, the latest start of the
-- child less the lag.
pub record IsLatestFinish {N E : Type 0} (g : Graph N E) (n : ℕ) (lags : List ℕ) (start : ℕ → ℕ) (makespan finish : ℕ) : Type 0 where
  pub most : finish ≤ makespan
  pub below : (v : ℕ) (edge : AreJoined g n v) → finish + slice_index lags edge.0 ≤ start v
  pub met : (finish ≡ makespan) ⊎ ((v : ℕ) × (edge : AreJoined g n v) × (finish + slice_index lags edge.0 ≡ start v))

-- each node finishes after it starts and by the makespan, and for each edge, its lag has passed by the start of its child
pub record AreInTime {N E : Type 0} (g : Graph N E) (lags starts finishes : List ℕ) (makespan : ℕ) : Type 0 where
  pub begun : (n : ℕ) → HasNode g n → slice_index starts n ≤ slice_index finishes n
  pub met : (n : ℕ) → HasNode g n → slice_index finishes n ≤ makespan
  pub passed : (u v : ℕ) → HasNode g u → (edge : AreJoined g u v)
      → slice_index finishes u + slice_index lags edge.0 ≤ slice_index starts v

-- the greatest level of the children of n, or 0 if it has none
pub record IsGreatestBelow {N E : Type 0} (g : Graph N E) (levels : List ℕ) (n greatest : ℕ) : Type 0 where
  pub most : (v : ℕ) → AreJoined g n v → slice_index levels v ≤ greatest
  pub met : (greatest ≡ 0) ⊎ ((v : ℕ) × AreJoined g n v × (slice_index levels v ≡ greatest))
