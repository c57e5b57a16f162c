-- The dependencies of a node, set all at once by items: each has the key of a node to depend on and the weight of an edge.
use Rattle.std.specs.Prelude.{◌≡◌, ℕ, Bool, Option, Some, None, List, Result, IsErrAnd, is_none, position}
use Rattle.std.specs.List.{filter_map}
use Rattle.std.specs.Option.{option_map}
use Rattle.daggy_named.specs.Naming.{index_by}
use Rattle.daggy_named.specs.declared.error.DependenciesError.{DependenciesError}
use Rattle.daggy_named.specs.declared.error.DependenciesError.TheVariants as set
use Rattle.daggy_base.specs.declared.error.ParentsError.{ParentsError}
use Rattle.daggy_base.specs.declared.error.ParentsError.TheVariants as parents

-- why dependencies are not set; an unknown one with the place of its item
pub data Cause : Type 0 where
  unknown_dependent : Cause
  unknown_dependency : ℕ → Cause
  would_cycle : Cause
  full : Cause
  memory : Cause

-- the cause is not a key that no node has
abbrev pub IsOfDag : Cause → Type 0
IsOfDag unknown_dependent = ⊥
IsOfDag (unknown_dependency place) = ⊥
IsOfDag would_cycle = Unit {0}
IsOfDag full = Unit {0}
IsOfDag memory = Unit {0}

-- why the dag does not set the parents of a node
abbrev pub dag_cause_of : {I E : Type 0} → ParentsError E I → Cause
dag_cause_of (parents.WouldCycle items) = would_cycle
dag_cause_of (parents.Full items) = full
dag_cause_of (parents.Memory items) = memory

module _ {Q E : Type 0} where
  -- the cause that an error tells
  abbrev pub cause_of : DependenciesError Q E → Cause
  cause_of (set.UnknownDependent items) = unknown_dependent
  cause_of (set.UnknownDependency place items) = unknown_dependency place
  cause_of (set.WouldCycle items) = would_cycle
  cause_of (set.Full items) = full
  cause_of (set.Memory items) = memory

  -- the items that were refused
  abbrev pub items_of : DependenciesError Q E → List (Q × E)
  items_of (set.UnknownDependent items) = items.items
  items_of (set.UnknownDependency place items) = items.items
  items_of (set.WouldCycle items) = items.items
  items_of (set.Full items) = items.items
  items_of (set.Memory items) = items.items

  -- the dependencies were not set, for this cause
  abbrev pub IsRefusedFor : {A : Type 0} → Cause → Result A (DependenciesError Q E) → Type 0
  IsRefusedFor cause r = IsErrAnd r (λ e. cause_of e ≡ cause)

-- `same q` is a test of keys for each key q of an item
module _ {K Q E : Type 0} (same : Q → K → Bool) (keys : List (Option K)) where
  -- the place of the first item whose key no node has, if there is one
  abbrev pub first_unknown : List (Q × E) → Option ℕ
  first_unknown items = position (λ x. is_none (index_by (same x.0) keys)) items

  -- for each item whose key a node has, that node and the weight of the item, in the order of the items
  abbrev pub parents_by : List (Q × E) → List (ℕ × E)
  parents_by items = filter_map (λ x. option_map (λ u. (u, x.1)) (index_by (same x.0) keys)) items

  -- a node whose key passes the test and the nodes of all items exist, and P holds of the one and of the others with the weights
  abbrev pub ForParents : (test : K → Bool) → List (Q × E) → (ℕ → List (ℕ × E) → Type 0) → Type 0
  ForParents test items P =
      (n : ℕ) × (index_by test keys ≡ Some n) × (first_unknown items ≡ None) × P n (parents_by items)
