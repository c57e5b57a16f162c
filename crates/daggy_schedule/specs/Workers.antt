-- Workers that process nodes: which nodes wait and which are in progress, with keys, and which workers are free.
use Rattle.std.specs.Prelude.{◌≡◌, ℕ, ◌+◌, ◌<◌, ◌≤◌, ◌^◌, ◌⊎◌, List, [], ◌∷◌, ◌++◌, length, Contains, slice_index, slice_set, IsPermutation}
use Rattle.std.specs.List.{AllByRecursion}
use Rattle.std.specs.Ordering.{nat_cmp}
use Rattle.daggy_schedule.specs.LeastFirst.{Precedes, nodes_of}

-- Which nodes wait, with their latest starts; which are in progress, with their finishes; which workers are free; when
-- each node that was started started, and which worker processes it; and the current time.
pub record Progress : Type 0 where
  pub waiting : List (ℕ × ℕ)
  pub running : List (ℕ × ℕ)
  pub free : List ℕ
  pub starts : List ℕ
  pub workers : List ℕ
  pub now : ℕ

-- a node with its latest start waits
pub record Waits (p : ℕ × ℕ) (old new : Progress) : Type 0 where
  pub added : IsPermutation (p ∷ old.waiting) new.waiting
  pub running : new.running ≡ old.running
  pub free : new.free ≡ old.free
  pub starts : new.starts ≡ old.starts
  pub workers : new.workers ≡ old.workers
  pub now : new.now ≡ old.now

-- a worker that was free, or else the next one
abbrev pub IsIdleWorker : (busy : ℕ) (free left : List ℕ) → ℕ → Type 0
IsIdleWorker busy free left worker =
    IsPermutation free (worker ∷ left) ⊎ ((free ≡ []) × (left ≡ []) × (worker ≡ busy))

-- a waiting node is taken by a free worker, once every node that finishes by now has finished
pub record Begins (durations : List ℕ) (count : ℕ) (old new : Progress) : Type 0 where
  pub key : ℕ
  pub node : ℕ
  pub finish : ℕ
  pub worker : ℕ
  pub taken : IsPermutation old.waiting ((key, node) ∷ new.waiting)
  pub first : AllByRecursion (Precedes nat_cmp (key, node)) new.waiting
  pub later : AllByRecursion (λ p. old.now < p.0) old.running
  pub finish_is : finish ≡ old.now + slice_index durations node
  pub added : IsPermutation ((finish, node) ∷ old.running) new.running
  pub room : length old.running < count
  pub hired : IsIdleWorker (length old.running) old.free new.free worker
  pub starts : new.starts ≡ slice_set old.starts node old.now
  pub workers : new.workers ≡ slice_set old.workers node worker
  pub now : new.now ≡ old.now

-- the node that finishes next finishes, and its worker is free
pub record Finishes (n : ℕ) (old new : Progress) : Type 0 where
  pub taken : IsPermutation old.running ((new.now, n) ∷ new.running)
  pub first : AllByRecursion (λ p. new.now ≤ p.0) new.running
  pub free : new.free ≡ old.free ++ slice_index old.workers n ∷ []
  pub waiting : new.waiting ≡ old.waiting
  pub starts : new.starts ≡ old.starts
  pub workers : new.workers ≡ old.workers

-- no node can start: none waits, all workers are busy, or a node has to finish first
abbrev pub IsStuck : (count : ℕ) → Progress → Type 0
IsStuck count progress =
    (progress.waiting ≡ []) ⊎ ((count ≤ length progress.running) ⊎ ((n : ℕ) × Contains progress.running (progress.now, n)))

-- a waiting node would finish at 2 ^ 64 or later
abbrev pub IsTooLate : (durations : List ℕ) → Progress → Type 0
IsTooLate durations progress =
    (n : ℕ) × Contains (nodes_of progress.waiting) n × (2 ^ 64 ≤ progress.now + slice_index durations n)
