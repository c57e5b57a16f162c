-- A graph whose nodes are given new weights one after another, by a closure that reads the graph.
use Rattle.std.specs.Prelude.{◌≡◌, ◌↔◌, ℕ, ◌<◌, Option, Result, Ok, Err, List, [], ◌∷◌, ◌++◌}
use Rattle.std.specs.Borrow.{Bor}
use Rattle.daggy_base.specs.Graph.{Graph, HasNode, node_bound}
use Rattle.daggy_base.specs.Ordered.{IsOrderOf}
use Rattle.daggy_base.specs.Weights.{with_node_weight}

-- h is g but for the weights of nodes
abbrev pub DiffersInWeights : {N E : Type 0} → Graph N E → Graph N E → Type 0
DiffersInWeights {N} {E} g h =
    (nodes : List (Option N)) × (h ≡ record g { nodes = nodes }) × ((n : ℕ) → HasNode h n ↔ HasNode g n)

module _ {N E S F I : Type 0} (graph : S → Graph N E) (of : ℕ → I) where
  -- f returned the weight w when it was called with the graph g and the node n
  abbrev pub IsComputed : (post : F → Bor S → I → N → Type 0) → F → Graph N E → ℕ → N → Type 0
  IsComputed post f g n w = (shown : Bor S) × (graph shown.now ≡ g) × post f shown (of n) w

  -- one after another, the nodes were given the weights that f returned for the graph as it was then
  abbrev pub Recomputes : (post : F → Bor S → I → N → Type 0) → F → List ℕ → Graph N E → Graph N E → Type 0
  Recomputes post f [] old new = new ≡ old
  Recomputes post f (n ∷ ns) old new =
      (w : N) × IsComputed post f old n w × Recomputes post f ns (with_node_weight old n w) new

  -- f may be called with each node of the list, which exists and is below the bound, and with the graph as the calls for
  -- the nodes before it left it
  abbrev pub CanRecomputeAlong : (pre : F → Bor S → I → Type 0) → (post : F → Bor S → I → N → Type 0)
      → F → List ℕ → Graph N E → Type 0
  CanRecomputeAlong pre post f nodes g =
      (done rest : List ℕ) (n : ℕ) (shown : Bor S) → nodes ≡ done ++ n ∷ rest
      → Recomputes post f done g (graph shown.now) → DiffersInWeights g (graph shown.now)
      → HasNode g n → n < node_bound g → pre f shown (of n)

  -- the same along each order of the graph
  abbrev pub CanRecompute : (pre : F → Bor S → I → Type 0) → (post : F → Bor S → I → N → Type 0)
      → F → Graph N E → Type 0
  CanRecompute pre post f g = (order : List ℕ) → IsOrderOf g order → CanRecomputeAlong pre post f order g

module _ {N E S F I X : Type 0} (graph : S → Graph N E) (of : ℕ → I)
    (step : F → Bor S → I → Result N X → F → Type 0) where
  -- f returned this result when it was called with the graph g and the node n, and became next
  abbrev pub Answers : F → Graph N E → ℕ → Result N X → F → Type 0
  Answers f g n answer next = (shown : Bor S) × (graph shown.now ≡ g) × step f shown (of n) answer next

  -- one after another, the nodes were given the weights that f returned for the graph as it was then
  abbrev pub RecomputesInTurn : List ℕ → F → Graph N E → F → Graph N E → Type 0
  RecomputesInTurn [] f old last new = (last ≡ f) × (new ≡ old)
  RecomputesInTurn (n ∷ ns) f old last new =
      (w : N) × (next : F) × Answers f old n (Ok w) next × RecomputesInTurn ns next (with_node_weight old n w) last new

  -- f failed at a node of the list, after the nodes before it were given their weights
  abbrev pub StopsInTurn : List ℕ → F → Graph N E → X → Graph N E → Type 0
  StopsInTurn nodes f old error new =
      (done rest : List ℕ) × (n : ℕ) × (now last : F) × (nodes ≡ done ++ n ∷ rest)
      × RecomputesInTurn done f old now new × Answers now new n (Err error) last

  -- f may be called with each node of the list in turn, as long as no call failed
  abbrev pub CanTryAlong : (pre : F → Bor S → I → Type 0) → F → List ℕ → Graph N E → Type 0
  CanTryAlong pre f nodes g =
      (done rest : List ℕ) (n : ℕ) (now : F) (shown : Bor S) → nodes ≡ done ++ n ∷ rest
      → RecomputesInTurn done f g now (graph shown.now) → DiffersInWeights g (graph shown.now)
      → HasNode g n → n < node_bound g → pre now shown (of n)

  -- the same along each order of the graph
  abbrev pub CanTryRecompute : (pre : F → Bor S → I → Type 0) → F → Graph N E → Type 0
  CanTryRecompute pre f g = (order : List ℕ) → IsOrderOf g order → CanTryAlong pre f order g
