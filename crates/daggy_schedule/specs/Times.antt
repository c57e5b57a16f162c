-- When the nodes of a graph start and finish, with a duration for each.
use Rattle.std.specs.Prelude.{◌≡◌, ℕ, ◌+◌, ◌<◌, ◌≤◌, ◌^◌, ◌⊎◌, Some, List, [], ◌∷◌, slice_index}
use Rattle.std.specs.Borrow.{Bor}
use Rattle.daggy_base.specs.Graph.{Graph, HasNode, node_weight, node_bound}
use Rattle.daggy_base.specs.Path.{AreJoined, IsPath}

module _ {N F I : Type 0} (of : ℕ → I) where
  -- f may have returned this duration for the node n of weight w
  abbrev pub IsDuration : (post : F → I → Bor N → ℕ → Type 0) → F → ℕ → N → (duration : ℕ) → Type 0
  IsDuration post f n w duration = (shown : Bor N) × (shown.now ≡ w) × post f (of n) shown duration

module _ {N E F I : Type 0} (of : ℕ → I) where
  -- f may be called with the index of each existing node, which is below the bound, and a `&` to its weight
  abbrev pub CanCallAtEachNode : (pre : F → I → Bor N → Type 0) → F → Graph N E → Type 0
  CanCallAtEachNode pre f g =
      (n : ℕ) (w : N) → node_weight g n ≡ Some w → n < node_bound g → (shown : Bor N) → shown.now ≡ w
      → pre f (of n) shown

  -- each existing node has a duration that f returned for it
  abbrev pub AreDurations : (post : F → I → Bor N → ℕ → Type 0) → F → Graph N E → List ℕ → Type 0
  AreDurations post f g durations =
      (n : ℕ) (w : N) → node_weight g n ≡ Some w → IsDuration of post f n w (slice_index durations n)

-- 0 at each index where there is no node
abbrev pub IsZeroElsewhere : {N E : Type 0} → Graph N E → List ℕ → Type 0
IsZeroElsewhere g times = (n : ℕ) → ¬ HasNode g n → slice_index times n ≡ 0

-- the sum of the durations of the nodes of a list
abbrev pub span : (durations : List ℕ) → List ℕ → ℕ
span durations [] = 0
span durations (n ∷ ns) = slice_index durations n + span durations ns

-- the greatest sum of the durations along a path that begins with n
pub record IsLongestFrom {N E : Type 0} (g : Graph N E) (durations : List ℕ) (n time : ℕ) : Type 0 where
  pub reached : (rest : List ℕ) × IsPath g (n ∷ rest) × (span durations (n ∷ rest) ≡ time)
  pub longest : (rest : List ℕ) → IsPath g (n ∷ rest) → span durations (n ∷ rest) ≤ time

-- the durations along some path sum up to 2 ^ 64 or more
abbrev pub TakesTooLong : {N E : Type 0} → Graph N E → (durations : List ℕ) → Type 0
TakesTooLong g durations = (path : List ℕ) × IsPath g path × (2 ^ 64 ≤ span durations path)

-- no node starts before its parents have finished
abbrev pub AreFeasible : {N E : Type 0} → Graph N E → (durations : List ℕ) (start : ℕ → ℕ) → Type 0
AreFeasible g durations start = (u v : ℕ) → AreJoined g u v → start u + slice_index durations u ≤ start v

-- all nodes have finished by then
abbrev pub AreDoneBy : {N E : Type 0} → Graph N E → (durations : List ℕ) (start : ℕ → ℕ) (time : ℕ) → Type 0
AreDoneBy g durations start time = (n : ℕ) → HasNode g n → start n + slice_index durations n ≤ time

module _ {N E : Type 0} (g : Graph N E) where
  -- starts that are allowed, of which none can be earlier
  pub record AreEarliestOf (IsAllowed : (ℕ → ℕ) → Type 0) (start : ℕ → ℕ) : Type 0 where
    pub feasible : IsAllowed start
    pub least : (other : ℕ → ℕ) → IsAllowed other → (n : ℕ) → HasNode g n → start n ≤ other n

  -- starts that are allowed and with which all have finished by then, of which none can be later
  pub record AreLatestOf (IsAllowed : (ℕ → ℕ) → Type 0) (durations : List ℕ) (start : ℕ → ℕ) (time : ℕ) : Type 0 where
    pub feasible : IsAllowed start
    pub met : AreDoneBy g durations start time
    pub greatest : (other : ℕ → ℕ) → IsAllowed other → AreDoneBy g durations other time
        → (n : ℕ) → HasNode g n → other n ≤ start n

  -- with these starts all have finished by then, and with no starts that are allowed do all finish earlier
  pub record IsMakespanOf (IsAllowed : (ℕ → ℕ) → Type 0) (durations : List ℕ) (start : ℕ → ℕ) (time : ℕ) : Type 0 where
    pub met : AreDoneBy g durations start time
    pub least : (other : ℕ → ℕ) (earlier : ℕ) → IsAllowed other → AreDoneBy g durations other earlier → time ≤ earlier

-- feasible starts, of which none can be earlier
abbrev pub AreEarliest : {N E : Type 0} → Graph N E → (durations : List ℕ) (start : ℕ → ℕ) → Type 0
AreEarliest g durations start = AreEarliestOf g (AreFeasible g durations) start

-- feasible starts with which all have finished by then, of which none can be later
abbrev pub AreLatest : {N E : Type 0} → Graph N E → (durations : List ℕ) (start : ℕ → ℕ) (time : ℕ) → Type 0
AreLatest g durations start time = AreLatestOf g (AreFeasible g durations) durations start time

-- with these starts all have finished by then, and with no feasible starts do all finish earlier
abbrev pub IsMakespan : {N E : Type 0} → Graph N E → (durations : List ℕ) (start : ℕ → ℕ) (time : ℕ) → Type 0
IsMakespan g durations start time = IsMakespanOf g (AreFeasible g durations) durations start time

-- of the nodes for which this holds, the lowest of those that finish last
pub record IsLowestLast (holds : ℕ → Type 0) (finish : ℕ → ℕ) (n : ℕ) : Type 0 where
  pub here : holds n
  pub last : (m : ℕ) → holds m → finish m ≤ finish n
  pub lowest : (m : ℕ) → holds m → finish m ≡ finish n → n ≤ m

module _ {N E : Type 0} (g : Graph N E) (WaitsFor : ℕ → ℕ → Type 0) (finish : ℕ → ℕ) where
  -- the last node of a list is the lowest of all that finish last, and each other one the one that the next waits for
  abbrev pub AreWaitedFor : List ℕ → Type 0
  AreWaitedFor [] = Unit {0}
  AreWaitedFor (n ∷ []) = IsLowestLast (HasNode g) finish n
  AreWaitedFor (u ∷ v ∷ rest) = WaitsFor v u × AreWaitedFor (v ∷ rest)

  -- The nodes from the lowest of those that finish last back, each time to the node that it waits for, to a node without
  -- parents.
  pub record IsTracedBackBy (nodes : List ℕ) : Type 0 where
    pub waited_for : AreWaitedFor nodes
    pub first : (n : ℕ) (rest : List ℕ) → nodes ≡ n ∷ rest → (u : ℕ) → ¬ AreJoined g u n

-- The nodes from the lowest of those that finish last back, each time to the lowest of the parents that finish last, to a
-- node without parents.
abbrev pub IsTracedBack : {N E : Type 0} → Graph N E → (finish : ℕ → ℕ) (nodes : List ℕ) → Type 0
IsTracedBack g finish nodes = IsTracedBackBy g (λ v u. IsLowestLast (λ m. AreJoined g m v) finish u) finish nodes

-- a path, or nothing if there are no nodes, whose durations sum up to the time
pub record IsCritical {N E : Type 0} (g : Graph N E) (durations nodes : List ℕ) (time : ℕ) : Type 0 where
  pub path : IsPath g nodes ⊎ ((nodes ≡ []) × ((n : ℕ) → ¬ HasNode g n))
  pub sum : span durations nodes ≡ time
