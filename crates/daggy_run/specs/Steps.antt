-- The answers to a request, and the graph after it. The limit is the greatest value of the index type.
use Rattle.std.specs.Prelude.{◌≡◌, ℕ, ◌<◌, ◌≤◌, ◌⊎◌, Option, Some, None, List, map, OnSome, IfNone}
use Rattle.std.specs.Option.{option_map}
use Rattle.daggy_base.specs.declared.index.Direction.{Direction}
use Rattle.daggy_base.specs.declared.index.Direction.TheVariants.{Outgoing, Incoming}
use Rattle.daggy_base.specs.Graph.{Graph, empty, HasNode, node_weight, edge_at, ends_of, far_end, node_count}
use Rattle.daggy_base.specs.Graph.{edge_count}
use Rattle.daggy_base.specs.Path.{Reaches}
use Rattle.daggy_base.specs.Adding.{next_node, next_edge, with_node, with_edge, with_neighbor}
use Rattle.daggy_base.specs.Removal.{without_edge, without_node, without_all_edges}
use Rattle.daggy_base.specs.declared.kind.Kind.{Kind}
use Rattle.daggy_base.specs.Reduction.{IsReduction}
use Rattle.daggy_base.specs.Weights.{edge_weight, with_edge_weight}
use Rattle.daggy_base.specs.Finding.{find_edge}
use Rattle.daggy_base.specs.Iterating.{edges_at}
use Rattle.daggy_guard.specs.EdgeBatch.{HasEnds, LacksEnd, LacksIndex, LacksMemory}
use Rattle.daggy_base.specs.Adding.{NewEdge}
use Rattle.daggy_run.specs.EdgeLists.{AddsAll, StopsAt, ClosesCycle}
use Rattle.daggy_base.specs.Requests as request
use Rattle.daggy_base.specs.Requests.{Request}
use Rattle.daggy_base.specs.Answers as answer
use Rattle.daggy_base.specs.Answers.{Answer, OfNothing, OfNode, OfEdge, OfEdgeNode, OfEdges}

-- the edges of a node's list in that direction with their far endpoints, newest first; none if the node is missing
abbrev pub walk_of : {N E : Type 0} → Direction → Graph N E → ℕ → List (ℕ × ℕ)
walk_of dir g n = map (λ p. (p.0, far_end dir p.1)) (edges_at dir g n)

-- both endpoints of the edge exist, an index is left for it, and it closes no cycle
abbrev pub IsAddable : {N E : Type 0} → (limit : ℕ) → Graph N E → NewEdge E → Type 0
IsAddable limit g x = HasEnds g x × (edge_count g < limit) × ¬ (Reaches g x.1 x.0)

-- adding an edge
abbrev pub IsEdgeStep : {N E : Type 0} → (limit : ℕ) → Graph N E → NewEdge E → Answer N E → Graph N E → Type 0
IsEdgeStep limit old x (answer.Edge e) new =
    IsAddable limit old x × (e ≡ next_edge old) × (new ≡ with_edge old x.0 x.1 x.2)
IsEdgeStep limit old x (answer.Missing (OfEdge back)) new = LacksEnd old x × (back ≡ x.2) × (new ≡ old)
IsEdgeStep limit old x (answer.Full (OfEdge back)) new = LacksIndex limit old x × (back ≡ x.2) × (new ≡ old)
IsEdgeStep limit old x (answer.Cycle back) new =
    HasEnds old x × (edge_count old < limit) × Reaches old x.1 x.0 × (back ≡ x.2) × (new ≡ old)
IsEdgeStep limit old x (answer.Memory (OfEdge back)) new = IsAddable limit old x × (back ≡ x.2) × (new ≡ old)
IsEdgeStep limit old x other new = ⊥

-- writing the weight of the edge that is found between two nodes, or adding one if there is none
abbrev pub IsUpdateStep : {N E : Type 0}
    → (limit : ℕ) → (found : Option ℕ) → Graph N E → NewEdge E → Answer N E → Graph N E → Type 0
IsUpdateStep limit None old x said new = IsEdgeStep limit old x said new
IsUpdateStep limit (Some found) old x (answer.Edge e) new = (e ≡ found) × (new ≡ with_edge_weight old found x.2)
IsUpdateStep limit (Some found) old x other new = ⊥

-- a node exists, and an index is left for an edge and for a node
abbrev pub HasIndicesAt : {N E : Type 0} → (limit : ℕ) → Graph N E → ℕ → Type 0
HasIndicesAt limit g n = HasNode g n × (edge_count g < limit) × (node_count g < limit)

-- adding a node with an edge to it, or from it
abbrev pub IsNeighborStep : {N E : Type 0}
    → Direction → (limit : ℕ) → Graph N E → ℕ → E → N → Answer N E → Graph N E → Type 0
IsNeighborStep dir limit old n edge node (answer.EdgeNode e m) new =
    HasIndicesAt limit old n × (e ≡ next_edge old) × (m ≡ next_node old) × (new ≡ with_neighbor dir old n edge node)
IsNeighborStep dir limit old n edge node (answer.Missing (OfEdgeNode e w)) new =
    ¬ (HasNode old n) × (e ≡ edge) × (w ≡ node) × (new ≡ old)
IsNeighborStep dir limit old n edge node (answer.Full (OfEdgeNode e w)) new =
    HasNode old n × ((limit ≤ edge_count old) ⊎ (limit ≤ node_count old)) × (e ≡ edge) × (w ≡ node) × (new ≡ old)
IsNeighborStep dir limit old n edge node (answer.Memory (OfEdgeNode e w)) new =
    HasIndicesAt limit old n × (e ≡ edge) × (w ≡ node) × (new ≡ old)
IsNeighborStep dir limit old n edge node other new = ⊥

-- adding all edges of a list, or none
abbrev pub IsBatchStep : {N E : Type 0} → (limit : ℕ) → Graph N E → List (NewEdge E) → Answer N E → Graph N E → Type 0
IsBatchStep limit old edges (answer.Edges indices) new = AddsAll limit old edges indices new
IsBatchStep limit old edges (answer.Missing (OfEdges last before)) new =
    StopsAt limit old edges LacksEnd last before × (new ≡ old)
IsBatchStep limit old edges (answer.Full (OfEdges last before)) new =
    StopsAt limit old edges (LacksIndex limit) last before × (new ≡ old)
IsBatchStep limit old edges (answer.Memory (OfEdges last before)) new =
    StopsAt limit old edges (LacksMemory limit) last before × (new ≡ old)
IsBatchStep limit old edges (answer.CycleAll weights) new = ClosesCycle limit old edges weights × (new ≡ old)
IsBatchStep limit old edges other new = ⊥

-- The possible answers to a request, and the graph after each. A missing node is reported before a full index type, and
-- that before a cycle. An allocation failure is reported only if nothing else is wrong, and then nothing has changed.
abbrev pub IsStep : {N E : Type 0} → Kind → (limit : ℕ) → Graph N E → Request N E → Answer N E → Graph N E → Type 0
IsStep kind limit old (request.Node weight) (answer.Node n) new =
    (node_count old < limit) × (n ≡ next_node old) × (new ≡ with_node old weight)
IsStep kind limit old (request.Node weight) (answer.Full (OfNode back)) new =
    (limit ≤ node_count old) × (back ≡ weight) × (new ≡ old)
IsStep kind limit old (request.Node weight) (answer.Memory (OfNode back)) new =
    (node_count old < limit) × (back ≡ weight) × (new ≡ old)
IsStep kind limit old (request.Node weight) other new = ⊥
IsStep kind limit old (request.Edge x) said new = IsEdgeStep limit old x said new
IsStep kind limit old (request.Update x) said new = IsUpdateStep limit (find_edge old x.0 x.1) old x said new
IsStep kind limit old (request.Child parent edge node) said new =
    IsNeighborStep Outgoing limit old parent edge node said new
IsStep kind limit old (request.Parent child edge node) said new =
    IsNeighborStep Incoming limit old child edge node said new
IsStep kind limit old (request.Edges edges) said new = IsBatchStep limit old edges said new
IsStep kind limit old (request.Find parent child) (answer.Found e) new = (e ≡ find_edge old parent child) × (new ≡ old)
IsStep kind limit old (request.Find parent child) other new = ⊥
IsStep kind limit old (request.Ends e) (answer.Ends ends) new =
    (ends ≡ option_map ends_of (edge_at old e)) × (new ≡ old)
IsStep kind limit old (request.Ends e) other new = ⊥
IsStep kind limit old (request.RemoveNode n) (answer.NodeGone weight) new =
    (weight ≡ node_weight old n) × OnSome weight (new ≡ without_node kind old n) × IfNone weight (new ≡ old)
IsStep kind limit old (request.RemoveNode n) other new = ⊥
IsStep kind limit old (request.RemoveEdge e) (answer.EdgeGone weight) new =
    (weight ≡ edge_weight old e) × OnSome weight (new ≡ without_edge kind old e) × IfNone weight (new ≡ old)
IsStep kind limit old (request.RemoveEdge e) other new = ⊥
IsStep kind limit old (request.Children n) (answer.Walk items) new = (items ≡ walk_of Outgoing old n) × (new ≡ old)
IsStep kind limit old (request.Children n) (answer.Memory OfNothing) new = new ≡ old
IsStep kind limit old (request.Children n) other new = ⊥
IsStep kind limit old (request.Parents n) (answer.Walk items) new = (items ≡ walk_of Incoming old n) × (new ≡ old)
IsStep kind limit old (request.Parents n) (answer.Memory OfNothing) new = new ≡ old
IsStep kind limit old (request.Parents n) other new = ⊥
IsStep kind limit old request.ClearEdges answer.Done new = new ≡ without_all_edges old
IsStep kind limit old request.ClearEdges other new = ⊥
IsStep kind limit old request.Clear answer.Done new = new ≡ empty
IsStep kind limit old request.Clear other new = ⊥
IsStep kind limit old (request.Reduce roots) answer.Done new = IsReduction kind roots old new
IsStep kind limit old (request.Reduce roots) (answer.Memory OfNothing) new = new ≡ old
IsStep kind limit old (request.Reduce roots) other new = ⊥
