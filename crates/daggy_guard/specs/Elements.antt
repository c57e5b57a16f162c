-- Graphs made of elements: nodes, and edges between earlier nodes.
use Rattle.std.specs.Prelude.{◌≡◌, ℕ, ◌<◌, ◌≤◌, List, [], ◌∷◌, ◌++◌, Option, None, MatchOption}
use Rattle.std.specs.List.{FoldsTo}
use Rattle.std.specs.Iterator.{Yields, Drains}
use Rattle.daggy_base.specs.Graph.{Graph, node_count, edge_count}
use Rattle.daggy_base.specs.Path.{Reaches}
use Rattle.daggy_base.specs.Adding.{with_node, with_edge}
use Rattle.daggy_base.specs.Finding.{find_edge}
use Rattle.daggy_base.specs.Weights.{with_edge_weight}
use Rattle.daggy_base.specs.declared.error.EdgeError.{EdgeError}
use Rattle.daggy_base.specs.declared.error.EdgeError.TheVariants as edge
use Rattle.daggy_base.specs.declared.error.NodeError.{NodeError}
use Rattle.daggy_base.specs.declared.error.NodeError.TheVariants as node
use Rattle.daggy_base.specs.declared.error.ElementError.{ElementError}
use Rattle.daggy_base.specs.declared.error.ElementError.TheVariants as error
use Rattle.daggy_base.specs.declared.element.Element.{Element}
use Rattle.daggy_base.specs.declared.element.Element.TheVariants.{Node, Edge}
use Rattle.daggy_guard.specs.EdgeBatch.{HasEnds, LacksEnd}
use Rattle.daggy_base.specs.Adding.{NewEdge}

-- the edge replaces the weight of the edge that is found between its endpoints, or is added
abbrev pub IsJoined : {N E : Type 0} → (limit : ℕ) → (old : Graph N E) → NewEdge E → (new : Graph N E) → Type 0
IsJoined limit old x new =
    HasEnds old x × MatchOption (find_edge old x.0 x.1)
    ((edge_count old < limit) × (Reaches old x.1 x.0 → ⊥) × (new ≡ with_edge old x.0 x.1 x.2))
    (λ e. new ≡ with_edge_weight old e x.2)

-- an edge that would have to be added
abbrev pub IsNew : {N E : Type 0} → Graph N E → NewEdge E → Type 0
IsNew g x = HasEnds g x × (find_edge g x.0 x.1 ≡ None)

-- why the edge is refused
abbrev pub IsEdgeRefused : {N E : Type 0} → (limit : ℕ) → Graph N E → NewEdge E → EdgeError E → Type 0
IsEdgeRefused limit g x (edge.BadEndpoint w) = (w ≡ x.2) × LacksEnd g x
IsEdgeRefused limit g x (edge.Full w) = (w ≡ x.2) × IsNew g x × (limit ≤ edge_count g)
IsEdgeRefused limit g x (edge.WouldCycle w) = (w.0 ≡ x.2) × IsNew g x × (edge_count g < limit) × Reaches g x.1 x.0
IsEdgeRefused limit g x (edge.Memory w) = (w ≡ x.2) × IsNew g x × (edge_count g < limit) × (Reaches g x.1 x.0 → ⊥)
IsEdgeRefused limit g x (edge.NodeMemory w) = ⊥

-- why the node is refused
abbrev pub IsNodeRefused : {N E : Type 0} → (limit : ℕ) → Graph N E → N → NodeError N → Type 0
IsNodeRefused limit g w (node.Full v) = (v ≡ w) × (limit ≤ node_count g)
IsNodeRefused limit g w (node.Memory v) = (v ≡ w) × (node_count g < limit)

-- with one more element
abbrev pub WithElement : {N E : Type 0} → (limit : ℕ) → (old : Graph N E) → Element N E → (new : Graph N E) → Type 0
WithElement limit old (Node w) new = (node_count old < limit) × (new ≡ with_node old w)
WithElement limit old (Edge source target w) new = IsJoined limit old (source, target, w) new

-- why the element is refused
abbrev pub IsElementRefused : {N E : Type 0} → (limit : ℕ) → Graph N E → Element N E → ElementError N E → Type 0
IsElementRefused limit g (Node w) (error.Node e) = IsNodeRefused limit g w e
IsElementRefused limit g (Node w) (error.Edge e) = ⊥
IsElementRefused limit g (Edge source target w) (error.Node e) = ⊥
IsElementRefused limit g (Edge source target w) (error.Edge e) = IsEdgeRefused limit g (source, target, w) e

module _ {N E S : Type 0} (limit : ℕ) (gives : S → Option (Element N E) → S → Type 0) (items : S) where
  -- with all elements that the iterator yields
  pub record IsMade (old new : Graph N E) : Type 0 where
    pub given : List (Element N E)
    pub drained : Drains gives items given
    pub made : FoldsTo (WithElement limit) old given new

  -- the first element that is refused, after those before it; it was the last item consumed
  pub record IsUnmade (old : Graph N E) (error : ElementError N E) : Type 0 where
    pub given : List (Element N E)
    pub at : Element N E
    pub rest : S
    pub asked : Yields gives items (given ++ at ∷ []) rest
    pub mid : Graph N E
    pub made : FoldsTo (WithElement limit) old given mid
    pub refused : IsElementRefused limit mid at error
