-- When the nodes of a graph start and finish, with a duration for each node and a lag for each edge: that long does the
-- child wait after the parent has finished.
use Rattle.std.specs.Prelude.{◌≡◌, ℕ, ◌+◌, ◌<◌, ◌≤◌, ◌^◌, ◌⊎◌, Some, List, [], ◌∷◌, length, slice_index}
use Rattle.std.specs.Borrow.{Bor}
use Rattle.daggy_base.specs.Graph.{Graph, HasNode, HasEdge, node_bound, edge_bound}
use Rattle.daggy_base.specs.Weights.{edge_weight}
use Rattle.daggy_base.specs.Path.{AreJoined, IsPath}
use Rattle.daggy_schedule.specs.Times.{span, AreEarliestOf, AreLatestOf, IsMakespanOf, IsTracedBackBy}

module _ {N E F I : Type 0} (of : ℕ → I) where
  -- f may be called with the index of each existing edge, which is below the bound, and a `&` to its weight
  abbrev pub CanCallAtEachEdge : (pre : F → I → Bor E → Type 0) → F → Graph N E → Type 0
  CanCallAtEachEdge pre f g =
      (e : ℕ) (w : E) → edge_weight g e ≡ Some w → e < edge_bound g → (shown : Bor E) → shown.now ≡ w
      → pre f (of e) shown

  -- each existing edge has a lag that f returned for it
  abbrev pub AreLags : (post : F → I → Bor E → ℕ → Type 0) → F → Graph N E → List ℕ → Type 0
  AreLags post f g lags =
      (e : ℕ) (w : E) → edge_weight g e ≡ Some w
      → (shown : Bor E) × (shown.now ≡ w) × post f (of e) shown (slice_index lags e)

-- 0 at each index where there is no edge
abbrev pub IsZeroWithoutEdge : {N E : Type 0} → Graph N E → List ℕ → Type 0
IsZeroWithoutEdge g lags = (e : ℕ) → ¬ HasEdge g e → slice_index lags e ≡ 0

-- for each edge, its child starts no earlier than its lag after its parent has finished
abbrev pub AreFeasibleWithLags : {N E : Type 0} → Graph N E → (durations lags : List ℕ) (start : ℕ → ℕ) → Type 0
AreFeasibleWithLags g durations lags start =
    (u v : ℕ) (edge : AreJoined g u v) → start u + slice_index durations u + slice_index lags edge.0 ≤ start v

-- feasible starts, of which none can be earlier
abbrev pub AreEarliestWithLags : {N E : Type 0} → Graph N E → (durations lags : List ℕ) (start : ℕ → ℕ) → Type 0
AreEarliestWithLags g durations lags start = AreEarliestOf g (AreFeasibleWithLags g durations lags) start

-- feasible starts with which all have finished by then, of which none can be later
abbrev pub AreLatestWithLags : {N E : Type 0} → Graph N E → (durations lags : List ℕ) (start : ℕ → ℕ) (time : ℕ) → Type 0
AreLatestWithLags g durations lags start time = AreLatestOf g (AreFeasibleWithLags g durations lags) durations start time

-- with these starts all have finished by then, and with no feasible starts do all finish earlier
abbrev pub IsMakespanWithLags : {N E : Type 0} → Graph N E → (durations lags : List ℕ) (start : ℕ → ℕ) (time : ℕ) → Type 0
IsMakespanWithLags g durations lags start time =
    IsMakespanOf g (AreFeasibleWithLags g durations lags) durations start time

module _ {N E : Type 0} (g : Graph N E) where
  -- the sum of the lags of the edges of a path
  abbrev pub lags_along : (lags path : List ℕ) → IsPath g path → ℕ
  lags_along lags [] p = 0
  lags_along lags (n ∷ []) p = 0
  lags_along lags (u ∷ v ∷ rest) p = slice_index lags p.1.0 + lags_along lags (v ∷ rest) p.2

  -- the durations and the lags along some path sum up to 2 ^ 64 or more
  abbrev pub TakesTooLongWithLags : (durations lags : List ℕ) → Type 0
  TakesTooLongWithLags durations lags =
      (path : List ℕ) × (p : IsPath g path) × (2 ^ 64 ≤ span durations path + lags_along lags path p)

  -- a path whose durations and lags sum up to the time, or nothing and 0 if there are no nodes
  abbrev pub IsCriticalWithLags : (durations lags nodes : List ℕ) (time : ℕ) → Type 0
  IsCriticalWithLags durations lags nodes time =
      ((p : IsPath g nodes) × (span durations nodes + lags_along lags nodes p ≡ time))
      ⊎ ((nodes ≡ []) × ((n : ℕ) → ¬ HasNode g n) × (time ≡ 0))

  -- v waits for u: some edge from u ends its lag last of all edges that lead to v, and u is the lowest such parent
  pub record WaitsForWithLags (finish : ℕ → ℕ) (lags : List ℕ) (v u : ℕ) : Type 0 where
    pub edge : AreJoined g u v
    pub last : (m : ℕ) (other : AreJoined g m v)
        → finish m + slice_index lags other.0 ≤ finish u + slice_index lags edge.0
    pub lowest : (m : ℕ) (other : AreJoined g m v)
        → finish m + slice_index lags other.0 ≡ finish u + slice_index lags edge.0 → u ≤ m

  -- The nodes from the lowest of those that finish last back, each time to the node that it waits for, to a node without
  -- parents.
  abbrev pub IsTracedBackWithLags : (finish : ℕ → ℕ) (lags nodes : List ℕ) → Type 0
  IsTracedBackWithLags finish lags nodes = IsTracedBackBy g (WaitsForWithLags finish lags) finish nodes

module _ {N E : Type 0} (g : Graph N E) (durations lags : List ℕ) where
  -- what a schedule of the graph says: when each node starts and finishes, how much later it can start, and the makespan
  pub record IsScheduleOf (starts finishes slack : List ℕ) (makespan : ℕ) : Type 0 where
    pub all_start : length starts ≡ node_bound g
    pub all_finish : length finishes ≡ node_bound g
    pub earliest : AreEarliestWithLags g durations lags (slice_index starts)
    pub takes : (n : ℕ) → HasNode g n → slice_index finishes n ≡ slice_index starts n + slice_index durations n
    pub latest : AreLatestWithLags g durations lags (λ n. slice_index starts n + slice_index slack n) makespan
    pub ends : IsMakespanWithLags g durations lags (slice_index starts) makespan

  -- with n so much later than its start, each child can still start at its start, and n has finished by the makespan
  pub record DelaysNoOther (starts : List ℕ) (makespan n delay : ℕ) : Type 0 where
    pub children : (v : ℕ) (edge : AreJoined g n v)
        → slice_index starts n + delay + slice_index durations n + slice_index lags edge.0 ≤ slice_index starts v
    pub met : slice_index starts n + delay + slice_index durations n ≤ makespan

  -- the greatest delay of n with which nothing else is delayed
  pub record IsFreeFloat (starts : List ℕ) (makespan n float : ℕ) : Type 0 where
    pub free : DelaysNoOther starts makespan n float
    pub most : (delay : ℕ) → DelaysNoOther starts makespan n delay → delay ≤ float
