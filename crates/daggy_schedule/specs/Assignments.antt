-- Nodes that are processed by workers, each of which processes one node at a time.
use Rattle.std.specs.Prelude.{◌≡◌, ◌≢◌, ℕ, ◌+◌, ◌-◌, ◌*◌, ◌^◌, ◌<◌, ◌≤◌, ◌⊎◌, List, slice_index}
use Rattle.daggy_base.specs.Graph.{Graph, HasNode}
use Rattle.std.specs.Ordering.{nat_cmp}
use Rattle.daggy_base.specs.Path.{AreJoined, IsPath}
use Rattle.daggy_base.specs.Ordered.{IsOrderOf}
use Rattle.daggy_schedule.specs.Times.{span, AreFeasible, AreDoneBy, AreLatest, IsCritical}
use Rattle.daggy_schedule.specs.LeastFirst.{Precedes}

-- Each node starts after its parents have finished, and is processed by a worker whose number is below the count. Of
-- two nodes of one worker, one has finished when the other starts. The makespan is the time when the last node
-- finishes.
pub record IsAssignment {N E : Type 0} (g : Graph N E) (durations starts workers : List ℕ) (count makespan : ℕ) : Type 0 where
  pub feasible : AreFeasible g durations (slice_index starts)
  pub below : (n : ℕ) → HasNode g n → slice_index workers n < count
  pub apart : (n m : ℕ) → HasNode g n → HasNode g m → n ≢ m → slice_index workers n ≡ slice_index workers m
      → (slice_index starts n + slice_index durations n ≤ slice_index starts m)
      ⊎ (slice_index starts m + slice_index durations m ≤ slice_index starts n)
  pub met : AreDoneBy g durations (slice_index starts) makespan
  pub last : ((n : ℕ) × HasNode g n × (slice_index starts n + slice_index durations n ≡ makespan))
      ⊎ (((n : ℕ) → ¬ HasNode g n) × (makespan ≡ 0))

-- no worker is idle while a node whose parents have finished waits
abbrev pub AreKeptBusy : {N E : Type 0} → Graph N E → (durations starts workers : List ℕ) (count : ℕ) → Type 0
AreKeptBusy g durations starts workers count =
    (m time : ℕ) → HasNode g m
    → ((u : ℕ) → AreJoined g u m → slice_index starts u + slice_index durations u ≤ time) → time < slice_index starts m
    → (worker : ℕ) → worker < count
    → (n : ℕ) × HasNode g n × (slice_index workers n ≡ worker) × (slice_index starts n ≤ time)
    × (time < slice_index starts n + slice_index durations n)

-- If a node starts while another node waits whose parents have started before and finished by then, the first node has
-- priority: its latest start is earlier, or the latest starts are equal and its index is lower. The latest starts are
-- those with which all nodes can finish by some time if each waits only for its parents. The earlier the latest start
-- of a node, the longer is the longest path from it.
pub record IsMostUrgentFirst {N E : Type 0} (g : Graph N E) (durations starts : List ℕ) : Type 0 where
  pub time : ℕ
  pub latest : ℕ → ℕ
  pub are_latest : AreLatest g durations latest time
  pub first : (n m : ℕ) → HasNode g n → HasNode g m → slice_index starts n < slice_index starts m
      → ((u : ℕ) → AreJoined g u m → (slice_index starts u < slice_index starts n)
      × (slice_index starts u + slice_index durations u ≤ slice_index starts n))
      → Precedes nat_cmp (latest n, n) (latest m, m)

-- Graham's bound: the makespan times the number of workers is at most the sum of all durations, plus the durations
-- along the longest path times one less than the number of workers.
pub record IsWithinBound {N E : Type 0} (g : Graph N E) (durations : List ℕ) (count makespan : ℕ) : Type 0 where
  pub path : List ℕ
  pub longest : ℕ
  pub critical : IsCritical g durations path longest
  pub bound : (order : List ℕ) → IsOrderOf g order → count * makespan ≤ span durations order + (count - 1) * longest

-- no schedule on as many workers is faster than that by more than a factor of 2 - 1 / count
abbrev pub IsNearBest : {N E : Type 0} → Graph N E → (durations : List ℕ) (count makespan : ℕ) → Type 0
IsNearBest g durations count makespan =
    (starts workers : List ℕ) (time : ℕ) → IsAssignment g durations starts workers count time
    → count * makespan ≤ (2 * count - 1) * time

-- Graham's bound is 2 ^ 64 or more: 2 ^ 64 times the number of workers is at most the sum of all durations, plus the
-- durations along some path times one less than the number of workers.
pub record HasLongBound {N E : Type 0} (g : Graph N E) (durations : List ℕ) (count : ℕ) : Type 0 where
  pub path : List ℕ
  pub joined : IsPath g path
  pub long : (order : List ℕ) → IsOrderOf g order
      → count * 2 ^ 64 ≤ span durations order + (count - 1) * span durations path
