-- Work on nodes by keys, the greatest first.
use Rattle.std.specs.Prelude.{◌≡◌, ℕ, ◌<◌, ◌≤◌, ◌⊎◌, Bool, List, ◌∷◌, ◌++◌, length, true, All, IsPermutation}
use Rattle.std.specs.declared.cmp.Ordering.{Ordering}
use Rattle.std.specs.declared.cmp.Ordering.TheVariants.{Greater, Equal}
use Rattle.daggy_base.specs.Graph.{Graph, HasNode}
use Rattle.daggy_schedule.specs.Work.{Work, IsSet, IsUnderWay, is_among}
use Rattle.daggy_schedule.specs.LeastFirst.{nodes_of}

-- Work on nodes, with the keys of the nodes that were not returned yet: of the nodes that are ready, and of the nodes
-- that are not ready yet.
pub record KeyedWork (K : Type 0) : Type 0 where
  pub waiting : List ℕ
  pub ready : List (K × ℕ)
  pub later : List (K × ℕ)
  pub out : List Bool
  pub done : List Bool

module _ {K : Type 0} where
  -- the work without the keys
  abbrev pub work_of : KeyedWork K → Work
  work_of work =
      record { waiting = work.waiting; ready = nodes_of work.ready; out = work.out; done = work.done }

  -- all keys that are left, each with its node
  abbrev pub keys_of : KeyedWork K → List (K × ℕ)
  keys_of work = work.ready ++ work.later

  -- p's key is greater than q's, or they are equal and p's index is not greater
  abbrev pub IsAhead : (cmp : K → K → Ordering) → (p q : K × ℕ) → Type 0
  IsAhead cmp p q = (cmp p.0 q.0 ≡ Greater) ⊎ ((cmp p.0 q.0 ≡ Equal) × (p.1 ≤ q.1))

  -- n is taken out of a list of nodes and their keys, and is ahead of all that are left
  pub record TakesGreatest (cmp : K → K → Ordering) (n : ℕ) (old new : List (K × ℕ)) : Type 0 where
    pub key : K
    pub taken : IsPermutation old ((key, n) ∷ new)
    pub ahead : All (IsAhead cmp (key, n)) new

  -- the work on the graph is under way, each node has a flag, and each node that was not returned has a key
  pub record IsUnderWayByKey {N E : Type 0} (g : Graph N E) (work : KeyedWork K) : Type 0 where
    pub under_way : IsUnderWay g (work_of work)
    pub flagged : (n : ℕ) → HasNode g n → n < length work.out
    pub keyed : (n : ℕ) → HasNode g n → ¬ IsSet work.out n → is_among (nodes_of (keys_of work)) n ≡ true
