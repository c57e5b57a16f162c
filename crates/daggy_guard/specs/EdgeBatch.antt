-- Batches of edges: all are added in order, or none.
use Rattle.std.specs.Prelude.{◌≡◌, ℕ, ◌+◌, ◌*◌, ◌<◌, ◌≤◌, max, List, [], ◌∷◌, ◌++◌, length, map, reverse, Option}
use Rattle.std.specs.Prelude.{Result, Ok, Err}
use Rattle.std.specs.Iterator.{Yields, Drains}
use Rattle.daggy_base.specs.Graph.{Graph, HasNode, node_count, edge_count}
use Rattle.daggy_base.specs.Path.{Reaches, IsAcyclic}
use Rattle.daggy_base.specs.Adding.{NewEdge, by_numbers, with_edge, next_edge}
use Rattle.daggy_base.specs.declared.error.EdgesError.{EdgesError}
use Rattle.daggy_base.specs.declared.error.EdgesError.TheVariants.{BadEndpoint, Full, Memory, WouldCycle}

-- with all edges of a list, added in order
abbrev pub with_edges : {N E : Type 0} → Graph N E → List (NewEdge E) → Graph N E
with_edges g [] = g
with_edges g (x ∷ xs) = with_edges (with_edge g x.0 x.1 x.2) xs

-- the indices that they get
abbrev pub new_edges : {N E : Type 0} → Graph N E → List (NewEdge E) → List ℕ
new_edges g [] = []
new_edges g (x ∷ xs) = next_edge g ∷ new_edges (with_edge g x.0 x.1 x.2) xs

-- the endpoints of an edge exist
abbrev pub HasEnds : {N E : Type 0} → Graph N E → NewEdge E → Type 0
HasEnds g x = HasNode g x.0 × HasNode g x.1

-- no edge is invalid: the endpoints of each exist, and an index is left after the edges before it
abbrev pub IsFaultless : {N E : Type 0} → (limit : ℕ) → Graph N E → List (NewEdge E) → Type 0
IsFaultless limit g [] = Unit {0}
IsFaultless limit g (x ∷ xs) = HasEnds g x × (edge_count g < limit) × IsFaultless limit (with_edge g x.0 x.1 x.2) xs

-- each edge would be accepted after those before it: no path leads from its child to its parent
abbrev pub AreAccepted : {N E : Type 0} → Graph N E → List (NewEdge E) → Type 0
AreAccepted g [] = Unit {0}
AreAccepted g (x ∷ xs) = (Reaches g x.1 x.0 → ⊥) × AreAccepted (with_edge g x.0 x.1 x.2) xs

-- an endpoint of the edge is missing
abbrev pub LacksEnd : {N E : Type 0} → Graph N E → NewEdge E → Type 0
LacksEnd g x = HasEnds g x → ⊥

-- its endpoints exist, but no index is left
abbrev pub LacksIndex : {N E : Type 0} → (limit : ℕ) → Graph N E → NewEdge E → Type 0
LacksIndex limit g x = HasEnds g x × (limit ≤ edge_count g)

-- only memory is missing
abbrev pub LacksMemory : {N E : Type 0} → (limit : ℕ) → Graph N E → NewEdge E → Type 0
LacksMemory limit g x = HasEnds g x × (edge_count g < limit)

-- the weights of edges, the last one first
abbrev pub weights_back : {A E : Type 0} → List (A × A × E) → List E
weights_back xs = reverse (map (λ x. x.2) xs)

module _ {I N E S : Type 0} (number : I → ℕ) (limit : ℕ) (gives : S → Option (I × I × E) → S → Type 0) (items : S) where
  -- all edges that the iterator yields were added
  pub record IsAdded (old new : Graph N E) (edges : List ℕ) : Type 0 where
    pub given : List (I × I × E)
    pub drained : Drains gives items given
    pub faultless : IsFaultless limit old (map (by_numbers number) given)
    pub added : new ≡ with_edges old (map (by_numbers number) given)
    pub indices : edges ≡ new_edges old (map (by_numbers number) given)
    pub accepted : AreAccepted old (map (by_numbers number) given)

  -- the first invalid edge, which was the last item consumed
  pub record IsFirstFault (IsCause : Graph N E → NewEdge E → Type 0) (g : Graph N E) (last : E)
      (before : List E) : Type 0 where
    pub given : List (I × I × E)
    pub at : I × I × E
    pub rest : S
    pub asked : Yields gives items (given ++ at ∷ []) rest
    pub faultless : IsFaultless limit g (map (by_numbers number) given)
    pub cause : IsCause (with_edges g (map (by_numbers number) given)) (by_numbers number at)
    pub last_is : last ≡ at.2
    pub before_is : before ≡ weights_back given

  -- no edge is invalid, but with all of them the graph would have a cycle
  pub record ClosesCycle (g : Graph N E) (weights : List E) : Type 0 where
    pub given : List (I × I × E)
    pub drained : Drains gives items given
    pub faultless : IsFaultless limit g (map (by_numbers number) given)
    pub cyclic : IsAcyclic (with_edges g (map (by_numbers number) given)) → ⊥
    pub refused : AreAccepted g (map (by_numbers number) given) → ⊥
    pub weights_are : weights ≡ weights_back given

  -- why the edges were not added
  abbrev pub IsRefused : Graph N E → EdgesError E → Type 0
  IsRefused g (BadEndpoint last before) = IsFirstFault LacksEnd g last before.items
  IsRefused g (Full last before) = IsFirstFault (LacksIndex limit) g last before.items
  IsRefused g (Memory last before) = IsFirstFault (LacksMemory limit) g last before.items
  IsRefused g (WouldCycle w) = ClosesCycle g w.0.items

-- The most edges that are read for a batch of `count` edges: as many as there were nodes or edges before by searches,
-- all edges by one more search, and all edges by sorting.
abbrev pub batch_looks : {N E : Type 0} → Graph N E → (count : ℕ) → ℕ
batch_looks g count = max (node_count g) (edge_count g) + 2 * (edge_count g + count)

-- the most that were read, for the edges that were accepted or refused together, or that came before the invalid one
abbrev pub most_looks : {N E : Type 0} → Graph N E → Result (List ℕ) (EdgesError E) → ℕ
most_looks g (Ok edges) = batch_looks g (length edges)
most_looks g (Err (WouldCycle w)) = batch_looks g (length w.0.items)
most_looks g (Err (Memory last before)) = batch_looks g (length before.items)
most_looks g (Err (BadEndpoint last before)) = batch_looks g (length before.items)
most_looks g (Err (Full last before)) = batch_looks g (length before.items)
