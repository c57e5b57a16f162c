-- Work on the nodes of a graph of which some fail.
use Rattle.std.specs.Prelude.{◌≡◌, ℕ, ◌<◌, ◌⊎◌, ◌↔◌, ◌&&◌, ◌∷◌, ◌++◌, Bool, not, List, [], length, count_by}
use Rattle.std.specs.List.{range_with_len}
use Rattle.daggy_base.specs.Graph.{Graph, HasNode}
use Rattle.daggy_base.specs.Path.{Reaches}
use Rattle.daggy_schedule.specs.Work.{Work, IsSet, IsOut, IsUnderWay, is_set, is_out, released}

-- The work, and by index whether a node failed. A node that failed was returned, and is never done.
pub record FallibleWork : Type 0 where
  pub work : Work
  pub failed : List Bool

-- the node is in progress: it was returned, is not done and did not fail
abbrev pub IsInProgress : FallibleWork → ℕ → Type 0
IsInProgress w n = IsOut w.work n × ¬ IsSet w.failed n

-- no node is ready, and none is in progress
abbrev pub IsOver : FallibleWork → Type 0
IsOver w = (w.work.ready ≡ []) × ((n : ℕ) → ¬ IsInProgress w n)

-- the node is skipped: a node that failed reaches it, and it did not fail itself
abbrev pub IsSkipped : {N E : Type 0} → Graph N E → FallibleWork → ℕ → Type 0
IsSkipped g w n = ((f : ℕ) × IsSet w.failed f × Reaches g f n) × ¬ IsSet w.failed n

-- The work on the graph is under way, each node has a flag for its failure, and only nodes that were returned and are
-- not done failed.
pub record IsUnderWayWithFailures {N E : Type 0} (g : Graph N E) (w : FallibleWork) : Type 0 where
  pub under_way : IsUnderWay g w.work
  pub flagged : (n : ℕ) → HasNode g n → n < length w.failed
  pub failed : (n : ℕ) → IsSet w.failed n → IsOut w.work n

-- n was the first of the ready nodes, and is returned
pub record HandsOut (n : ℕ) (old new : Work) : Type 0 where
  pub first : old.ready ≡ n ∷ new.ready
  pub out : (m : ℕ) → IsSet new.out m ↔ (IsSet old.out m ⊎ (m ≡ n))
  pub done : new.done ≡ old.done
  pub waiting : new.waiting ≡ old.waiting

-- n is done, and the children whose parents are now all done become ready, after the nodes that are ready already
pub record Finishes {N E : Type 0} (g : Graph N E) (n : ℕ) (old new : Work) : Type 0 where
  pub done : (m : ℕ) → IsSet new.done m ↔ (IsSet old.done m ⊎ (m ≡ n))
  pub ready : new.ready ≡ old.ready ++ released g new.done n
  pub out : new.out ≡ old.out

-- whether the node is in progress
abbrev pub is_in_progress : FallibleWork → ℕ → Bool
is_in_progress w n = is_out w.work n && not (is_set w.failed n)

-- how many nodes are in progress
abbrev pub in_progress_count : FallibleWork → ℕ
in_progress_count w = count_by (is_in_progress w) (range_with_len 0 (length w.work.out))

-- how many flags of a list are set
abbrev pub set_count : List Bool → ℕ
set_count flags = count_by (is_set flags) (range_with_len 0 (length flags))
