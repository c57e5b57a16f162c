-- Work on the nodes of a graph, each after its parents, by keys.
use Rattle.std.specs.Prelude.{ℕ, ◌↔◌, List, not, count_by, Contains}
use Rattle.std.specs.List.Sorted.{IsStrictlyIncreasing}
use Rattle.daggy_base.specs.Graph.{Graph, HasNode}
use Rattle.daggy_base.specs.Iterating.{node_identifiers}
use Rattle.daggy_schedule.specs.Work.{Work, IsSet, is_set}
use Rattle.daggy_schedule.specs.Fallible.{FallibleWork, IsOver, IsSkipped}
use Rattle.daggy_named.specs.Naming.{Naming}

-- a graph, the keys of its nodes, and the queue of the work on them
pub record NamedWork (K N E : Type 0) : Type 0 where
  pub named : Naming K N E
  pub queue : FallibleWork

-- how many nodes were not returned yet
abbrev pub remaining_of : {N E : Type 0} → Graph N E → Work → ℕ
remaining_of g work = count_by (λ n. not (is_set work.out n)) (node_identifiers g)

-- These are the nodes that are skipped, in ascending order. When the work is over, they are all nodes that were not
-- returned.
pub record AreSkipped {N E : Type 0} (g : Graph N E) (queue : FallibleWork) (nodes : List ℕ) : Type 0 where
  pub exact : (n : ℕ) → Contains nodes n ↔ IsSkipped g queue n
  pub ascending : IsStrictlyIncreasing nodes
  pub over : IsOver queue → (n : ℕ) → Contains nodes n ↔ (HasNode g n × ¬ IsSet queue.work.out n)
