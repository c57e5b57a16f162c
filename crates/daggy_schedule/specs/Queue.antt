-- How a ready queue keeps its work.
use Rattle.std.specs.Prelude.{◌≡◌, ℕ, ◌+◌, ◌≤◌, ◌<◌, ◌==◌, ◌↔◌, Bool, true, false, List, [], ◌∷◌, Some, Contains}
use Rattle.std.specs.Prelude.{slice_index_or, take, length, if◌then◌else◌}
use Rattle.std.specs.List.{range_with_len}
use Rattle.daggy_base.specs.Graph.{Graph, Edge, HasNode, edge_at, in_list}
use Rattle.daggy_base.specs.Path.{AreJoined, Reaches}
use Rattle.daggy_base.specs.WellFormed.{AreDistinct}
use Rattle.daggy_schedule.specs.Work.{Work, IsSet, IsOut, is_set}

-- how many numbers of a list pass a test
abbrev pub count_of : (ℕ → Bool) → List ℕ → ℕ
count_of p [] = 0
count_of p (x ∷ xs) = (if p x then 1 else 0) + count_of p xs

-- whether nothing is left to wait for
abbrev pub waits_for_none : List ℕ → ℕ → Bool
waits_for_none waiting n = slice_index_or waiting n 0 == 0

-- Each node waits for its edges that still count: the edges whose parent is not done, and the edges of a list, which
-- are yet to be counted down. The queue has the nodes that wait for no edge, each once.
pub record IsCounted {N E : Type 0} (g : Graph N E) (done : List Bool) (rest waiting queue : List ℕ) : Type 0 where
  pub still : ℕ → Bool
  pub settled : (e : ℕ) (x : Edge E) → edge_at g e ≡ Some x → IsSet done x.parent → ¬ Contains rest e → still e ≡ false
  pub unsettled : (e : ℕ) (x : Edge E) → edge_at g e ≡ Some x → ¬ IsSet done x.parent → still e ≡ true
  pub to_come : (e : ℕ) → Contains rest e → still e ≡ true
  pub waits : (n : ℕ) → HasNode g n → slice_index_or waiting n 0 ≡ count_of still (in_list g n)
  pub queued : (n : ℕ) → Contains queue n ↔ (HasNode g n × (slice_index_or waiting n 0 ≡ 0))
  pub once : AreDistinct queue

-- The lists of a ready queue, whatever the graph. Up to `tail` the queue has the nodes that became ready, in order, and
-- up to `head` those that were returned, of which `finished` are done.
pub record IsKept (waiting queue : List ℕ) (head tail : ℕ) (out done : List Bool) (finished : ℕ) : Type 0 where
  pub queue_long : length queue ≡ length waiting
  pub out_long : length out ≡ length waiting
  pub done_long : length done ≡ length waiting
  pub handed_low : head ≤ tail
  pub queued_low : tail ≤ length queue
  pub once : AreDistinct (take tail queue)
  pub within : (n : ℕ) → Contains (take tail queue) n → n < length waiting
  pub handed : (n : ℕ) → IsSet out n ↔ Contains (take head queue) n
  pub begun : (n : ℕ) → IsSet done n → IsSet out n
  pub finished_is : finished ≡ count_of (is_set done) (take head queue)

-- Failures, whatever the graph: only nodes that are out fail, and `failures` of them did.
pub record IsTallied (work : Work) (failed : List Bool) (failures : ℕ) : Type 0 where
  pub failed_out : (n : ℕ) → IsSet failed n → IsOut work n
  pub failures_is : failures ≡ count_of (is_set failed) (range_with_len 0 (length failed))

-- a path of one or more edges leads to the node from a node that failed
abbrev pub IsBelowFailed : {N E : Type 0} → Graph N E → List Bool → ℕ → Type 0
IsBelowFailed g failed n = (f : ℕ) × IsSet failed f × (v : ℕ) × AreJoined g f v × Reaches g v n
