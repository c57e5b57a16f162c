-- Extensions: edges added one by one, each after the nodes that it needs.
use Rattle.std.specs.Prelude.{◌≡◌, ℕ, ◌+◌, ◌-◌, ◌*◌, ◌<◌, max, List, [], ◌∷◌, ◌++◌, length, map, Option}
use Rattle.std.specs.List.{AllByRecursion, AllZip, FoldsTo}
use Rattle.std.specs.Iterator.{Yields, Drains}
use Rattle.daggy_base.specs.Graph.{Graph, node_count, edge_count}
use Rattle.daggy_base.specs.Path.{Reaches}
use Rattle.daggy_base.specs.Adding.{with_node, with_edge}
use Rattle.daggy_base.specs.declared.error.EdgeError.{EdgeError}
use Rattle.daggy_base.specs.declared.error.EdgeError.TheVariants.{WouldCycle, Memory, BadEndpoint, Full, NodeMemory}
use Rattle.daggy_guard.specs.EdgeBatch.{HasEnds, LacksEnd}
use Rattle.daggy_base.specs.Adding.{NewEdge, by_numbers}

-- with nodes of these weights, added in order
abbrev pub with_nodes : {N E : Type 0} → Graph N E → List N → Graph N E
with_nodes g [] = g
with_nodes g (w ∷ ws) = with_nodes (with_node g w) ws

module _ {N E : Type 0} (IsDefault : N → Type 0) where
  -- with that many more nodes, of default weights
  pub record HasMore (count : ℕ) (old new : Graph N E) : Type 0 where
    pub weights : List N
    pub defaults : AllByRecursion IsDefault weights
    pub as_many : length weights ≡ count
    pub added : new ≡ with_nodes old weights

  -- how many nodes are added until there are more than n
  abbrev pub missing : Graph N E → ℕ → ℕ
  missing g n = (n + 1) - node_count g

  -- nodes were added until there were more than n
  abbrev pub IsFilled : (n : ℕ) → (old new : Graph N E) → Type 0
  IsFilled n old new = HasMore (missing old n) old new

  -- nodes were added, but too few
  abbrev pub IsPartFilled : (n : ℕ) → (old new : Graph N E) → Type 0
  IsPartFilled n old new = (count : ℕ) × (count < missing old n) × HasMore count old new

  -- an index is left for the edge, and its endpoints are valid indices
  abbrev pub HasIndices : (limit : ℕ) → Graph N E → NewEdge E → Type 0
  HasIndices limit g x = (x.0 < limit) × (x.1 < limit) × (edge_count g < limit)

  -- the edge is added, after the nodes that it needs
  pub record IsExtended (limit : ℕ) (old : Graph N E) (x : NewEdge E) (new : Graph N E) : Type 0 where
    pub filled : Graph N E
    pub indices : HasIndices limit old x
    pub nodes : IsFilled (max x.0 x.1) old filled
    pub ends : HasEnds filled x
    pub apart : Reaches filled x.1 x.0 → ⊥
    pub added : new ≡ with_edge filled x.0 x.1 x.2

  -- why the edge is refused, and the graph then
  abbrev pub IsStopped : (limit : ℕ) → (old : Graph N E) → NewEdge E → EdgeError E → (new : Graph N E) → Type 0
  IsStopped limit old x (Full w) new = (w ≡ x.2) × (HasIndices limit old x → ⊥) × (new ≡ old)
  IsStopped limit old x (NodeMemory w) new = (w ≡ x.2) × HasIndices limit old x × IsPartFilled (max x.0 x.1) old new
  IsStopped limit old x (BadEndpoint w) new =
      (w ≡ x.2) × HasIndices limit old x × IsFilled (max x.0 x.1) old new × LacksEnd new x
  IsStopped limit old x (WouldCycle w) new =
      (w.0 ≡ x.2) × HasIndices limit old x × IsFilled (max x.0 x.1) old new × HasEnds new x × Reaches new x.1 x.0
  IsStopped limit old x (Memory w) new =
      (w ≡ x.2) × HasIndices limit old x × IsFilled (max x.0 x.1) old new × HasEnds new x × (Reaches new x.1 x.0 → ⊥)

  module _ {I A S : Type 0} (number : I → ℕ) (limit : ℕ) (becomes : A → I × I × E → Type 0)
      (gives : S → Option A → S → Type 0) (items : S) where
    -- extended by all the edges of the items
    pub record Extends (old new : Graph N E) : Type 0 where
      pub given : List A
      pub drained : Drains gives items given
      pub edges : List (I × I × E)
      pub become : AllZip becomes given edges
      pub extension : FoldsTo (IsExtended limit) old (map (by_numbers number) edges) new

    -- extended by the edges before the first one that is refused, which was the last item consumed
    pub record Stops (old : Graph N E) (error : EdgeError E) (new : Graph N E) : Type 0 where
      pub given : List A
      pub at : A
      pub rest : S
      pub asked : Yields gives items (given ++ at ∷ []) rest
      pub edges : List (I × I × E)
      pub become : AllZip becomes given edges
      pub edge : I × I × E
      pub at_becomes : becomes at edge
      pub mid : Graph N E
      pub extension : FoldsTo (IsExtended limit) old (map (by_numbers number) edges) mid
      pub stopped : IsStopped limit mid (by_numbers number edge) error new

-- The most edge reads that an extension takes: as many as there are edges in the end, for each edge that it added and
-- for the edge that was refused.
abbrev pub extension_looks : {N E : Type 0} → (old new : Graph N E) → ℕ
extension_looks old new = (edge_count new - edge_count old + 1) * edge_count new
