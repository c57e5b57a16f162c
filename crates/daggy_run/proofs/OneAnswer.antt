-- Where memory is found, a request has one answer, and leaves one graph.
use Rattle.std.proofs.Common.{◌≡◌, ℕ, ◌<◌, ◌≤◌, ◌⊎◌, List, [], ◌∷◌, ◌++◌, Option, Some, None, refl, sym, ap, subst, ◌∙◌}
use Rattle.std.proofs.Common.{inl, inr, arith}
use Rattle.std.specs.List.{AllByRecursion}
use Rattle.daggy_base.specs.declared.index.Direction.{Direction}
use Rattle.daggy_base.specs.declared.index.Direction.TheVariants.{Outgoing, Incoming}
use Rattle.daggy_base.specs.Graph.{Graph, edge_count}
use Rattle.daggy_base.specs.Adding.{with_edge}
use Rattle.daggy_base.specs.declared.kind.Kind.{Kind}
use Rattle.daggy_base.specs.declared.kind.Kind.TheVariants.{Compact}
use Rattle.daggy_base.specs.Finding.{find_edge}
use Rattle.daggy_guard.specs.EdgeBatch.{with_edges, HasEnds, IsFaultless, LacksEnd, LacksIndex, weights_back}
use Rattle.daggy_base.specs.Adding.{NewEdge}
use Rattle.daggy_run.specs.EdgeLists.{StopsAt}
use Rattle.daggy_base.specs.Requests as request
use Rattle.daggy_base.specs.Requests.{Request}
use Rattle.daggy_base.specs.Answers.{Answer, Node, Edge, EdgeNode, Edges, Found, Ends, Walk, Done, Missing, Full}
use Rattle.daggy_base.specs.Answers.{Cycle}
use Rattle.daggy_base.specs.Answers.{CycleAll, Memory, OfNode, OfEdge, OfEdgeNode, OfEdges}
use Rattle.daggy_run.specs.Steps.{IsStep, IsEdgeStep, IsUpdateStep, IsNeighborStep, IsBatchStep}
use Rattle.daggy_run.specs.Runs.{IsRun, IsForBothKinds, FindsMemory, IsAsCompact}
use Rattle.daggy_run.proofs.RunSteps.{compact_run}

no_room : (limit m n : ℕ) → m < limit → n < limit → (limit ≤ m) ⊎ (limit ≤ n) → ⊥
no_room limit m n few_edges few_nodes (inl h) = omega arith
no_room limit m n few_edges few_nodes (inr h) = omega arith

-- two edges at fault are one
pub record AreOne {E : Type 0} (front other : List (NewEdge E)) (at it : NewEdge E) : Type 0 where
  pub fronts : front ≡ other
  pub ats : at ≡ it

-- a new node, and the edge between it and a node that is there: out of that node, or into it
record NewNeighbor (N E : Type 0) : Type 0 where
  dir : Direction
  at : ℕ
  edge : E
  node : N

module _ {N E : Type 0} (limit : ℕ) where
  -- the same answer, and the same graph after it
  abbrev Agree : (a b : Answer N E) (h k : Graph N E) → Type 0
  Agree a b h k = (a ≡ b) × (h ≡ k)

  -- ---- a node
  same_node : (g : Graph N E) (weight : N) (a b : Answer N E) {h k : Graph N E} → FindsMemory a → FindsMemory b
      → IsStep Compact limit g (request.Node weight) a h → IsStep Compact limit g (request.Node weight) b k
      → Agree a b h k
  same_node g weight (Memory w) b fa fb s t = absurd fa
  same_node g weight a (Memory w) fa fb s t = absurd fb
  same_node g weight (Node n) (Node m) fa fb s t = (ap Node (s.1 ∙ sym t.1), s.2 ∙ sym t.2)
  same_node g weight (Node n) (Full (OfNode v)) fa fb s t = absurd (omega (arith, s.0, t.0))
  same_node g weight (Node n) other fa fb s t = absurd t
  same_node g weight (Full (OfNode v)) (Node m) fa fb s t = absurd (omega (arith, s.0, t.0))
  same_node g weight (Full (OfNode v)) (Full (OfNode w)) fa fb s t = (rw (s.1 ∙ sym t.1), s.2 ∙ sym t.2)
  same_node g weight (Full (OfNode v)) other fa fb s t = absurd t
  same_node g weight other b fa fb s t = absurd s

  -- ---- an edge
  same_edge : (g : Graph N E) (x : NewEdge E) (a b : Answer N E) {h k : Graph N E} → FindsMemory a → FindsMemory b
      → IsEdgeStep limit g x a h → IsEdgeStep limit g x b k → Agree a b h k
  same_edge g x (Memory w) b fa fb s t = absurd fa
  same_edge g x a (Memory w) fa fb s t = absurd fb
  same_edge g x (Edge e) (Edge f) fa fb s t = (ap Edge (s.1 ∙ sym t.1), s.2 ∙ sym t.2)
  same_edge g x (Edge e) (Missing (OfEdge w)) fa fb s t = absurd (t.0 s.0.0)
  same_edge g x (Edge e) (Full (OfEdge w)) fa fb s t = absurd (omega (arith, s.0.1, t.0.1))
  same_edge g x (Edge e) (Cycle w) fa fb s t = absurd (s.0.2 t.2)
  same_edge g x (Edge e) other fa fb s t = absurd t
  same_edge g x (Missing (OfEdge v)) (Edge f) fa fb s t = absurd (s.0 t.0.0)
  same_edge g x (Missing (OfEdge v)) (Missing (OfEdge w)) fa fb s t = (rw (s.1 ∙ sym t.1), s.2 ∙ sym t.2)
  same_edge g x (Missing (OfEdge v)) (Full (OfEdge w)) fa fb s t = absurd (s.0 t.0.0)
  same_edge g x (Missing (OfEdge v)) (Cycle w) fa fb s t = absurd (s.0 t.0)
  same_edge g x (Missing (OfEdge v)) other fa fb s t = absurd t
  same_edge g x (Full (OfEdge v)) (Edge f) fa fb s t = absurd (omega (arith, s.0.1, t.0.1))
  same_edge g x (Full (OfEdge v)) (Missing (OfEdge w)) fa fb s t = absurd (t.0 s.0.0)
  same_edge g x (Full (OfEdge v)) (Full (OfEdge w)) fa fb s t = (rw (s.1 ∙ sym t.1), s.2 ∙ sym t.2)
  same_edge g x (Full (OfEdge v)) (Cycle w) fa fb s t = absurd (omega (arith, s.0.1, t.1))
  same_edge g x (Full (OfEdge v)) other fa fb s t = absurd t
  same_edge g x (Cycle v) (Edge f) fa fb s t = absurd (t.0.2 s.2)
  same_edge g x (Cycle v) (Missing (OfEdge w)) fa fb s t = absurd (t.0 s.0)
  same_edge g x (Cycle v) (Full (OfEdge w)) fa fb s t = absurd (omega (arith, s.1, t.0.1))
  same_edge g x (Cycle v) (Cycle w) fa fb s t = (ap Cycle (s.3 ∙ sym t.3), s.4 ∙ sym t.4)
  same_edge g x (Cycle v) other fa fb s t = absurd t
  same_edge g x other b fa fb s t = absurd s

  same_update : (g : Graph N E) (found : Option ℕ) (x : NewEdge E) (a b : Answer N E) {h k : Graph N E}
      → FindsMemory a → FindsMemory b
      → IsUpdateStep limit found g x a h → IsUpdateStep limit found g x b k → Agree a b h k
  same_update g None x a b fa fb s t = same_edge g x a b fa fb s t
  same_update g (Some found) x (Edge e) (Edge f) fa fb s t = (ap Edge (s.0 ∙ sym t.0), s.1 ∙ sym t.1)
  same_update g (Some found) x (Edge e) other fa fb s t = absurd t
  same_update g (Some found) x other b fa fb s t = absurd s

  -- ---- a node with an edge
  same_neighbor : (g : Graph N E) (x : NewNeighbor N E) (a b : Answer N E) {h k : Graph N E}
      → FindsMemory a → FindsMemory b → IsNeighborStep x.dir limit g x.at x.edge x.node a h
      → IsNeighborStep x.dir limit g x.at x.edge x.node b k → Agree a b h k
  same_neighbor g x (Memory w) b fa fb s t = absurd fa
  same_neighbor g x a (Memory w) fa fb s t = absurd fb
  same_neighbor g x (EdgeNode e m) (EdgeNode f o) fa fb s t =
      (rw (s.1 ∙ sym t.1, s.2 ∙ sym t.2), s.3 ∙ sym t.3)
  same_neighbor g x (EdgeNode e m) (Missing (OfEdgeNode f w)) fa fb s t = absurd (t.0 s.0.0)
  same_neighbor g x (EdgeNode e m) (Full (OfEdgeNode f w)) fa fb s t =
      absurd (no_room limit _ _ s.0.1 s.0.2 t.1)
  same_neighbor g x (EdgeNode e m) other fa fb s t = absurd t
  same_neighbor g x (Missing (OfEdgeNode e v)) (EdgeNode f o) fa fb s t = absurd (s.0 t.0.0)
  same_neighbor g x (Missing (OfEdgeNode e v)) (Missing (OfEdgeNode f w)) fa fb s t =
      (rw (s.1 ∙ sym t.1, s.2 ∙ sym t.2), s.3 ∙ sym t.3)
  same_neighbor g x (Missing (OfEdgeNode e v)) (Full (OfEdgeNode f w)) fa fb s t = absurd (s.0 t.0)
  same_neighbor g x (Missing (OfEdgeNode e v)) other fa fb s t = absurd t
  same_neighbor g x (Full (OfEdgeNode e v)) (EdgeNode f o) fa fb s t =
      absurd (no_room limit _ _ t.0.1 t.0.2 s.1)
  same_neighbor g x (Full (OfEdgeNode e v)) (Missing (OfEdgeNode f w)) fa fb s t = absurd (t.0 s.0)
  same_neighbor g x (Full (OfEdgeNode e v)) (Full (OfEdgeNode f w)) fa fb s t =
      (rw (s.2 ∙ sym t.2, s.3 ∙ sym t.3), s.4 ∙ sym t.4)
  same_neighbor g x (Full (OfEdgeNode e v)) other fa fb s t = absurd t
  same_neighbor g x other b fa fb s t = absurd s

  -- ---- a list of edges
  -- the edge has something against it
  abbrev IsFaulty : Graph N E → NewEdge E → Type 0
  IsFaulty g x = HasEnds g x → edge_count g < limit → ⊥

  by_end : (g : Graph N E) (x : NewEdge E) → LacksEnd g x → IsFaulty g x
  by_end g x lacks ends few = lacks ends

  by_index : (g : Graph N E) (x : NewEdge E) → LacksIndex limit g x → IsFaulty g x
  by_index g x lacks ends few = omega (arith, lacks.1)

  -- an edge that has something against it, behind edges that have nothing
  record IsFaultAfter (g : Graph N E) (front : List (NewEdge E)) (at : NewEdge E) : Type 0 where
    faultless : IsFaultless limit g front
    faulty : IsFaulty (with_edges g front) at

  one_fault : (g : Graph N E) (front other behind rest : List (NewEdge E)) {at it : NewEdge E}
      → front ++ at ∷ behind ≡ other ++ it ∷ rest
      → IsFaultAfter g front at → IsFaultAfter g other it → AreOne front other at it
  one_fault g [] [] behind rest same a b = record { fronts = refl; ats = cc }
  one_fault g [] (y ∷ other) behind rest {at} {it} same a b =
      let here : at ≡ y = cc in absurd (subst (IsFaulty g) here a.faulty b.faultless.0 b.faultless.1)
  one_fault g (x ∷ front) [] behind rest {at} {it} same a b =
      let here : it ≡ x = cc in absurd (subst (IsFaulty g) here b.faulty a.faultless.0 a.faultless.1)
  one_fault g (x ∷ front) (y ∷ other) behind rest {at} {it} same a b =
      let here : x ≡ y = cc in
      let there : front ++ at ∷ behind ≡ other ++ it ∷ rest = cc in
      let r =
      one_fault (with_edge g x.0 x.1 x.2) front other behind rest there
      (record { faultless = a.faultless.2; faulty = a.faulty })
      (rw here (record { faultless = b.faultless.2; faulty = b.faulty })) in
      record { fronts = ap (λ z. z ∷ front) here ∙ ap (λ zs. y ∷ zs) r.fronts; ats = r.ats }

  no_fault : (g : Graph N E) (edges front behind : List (NewEdge E)) (at : NewEdge E)
      → edges ≡ front ++ at ∷ behind → IsFaultless limit g edges → IsFaulty (with_edges g front) at → ⊥
  no_fault g [] [] behind at same f a = absurd cc
  no_fault g [] (y ∷ front) behind at same f a = absurd cc
  no_fault g (x ∷ edges) [] behind at same f a = let here : at ≡ x = cc in subst (IsFaulty g) here a f.0 f.1
  no_fault g (x ∷ edges) (y ∷ front) behind at same f a =
      let here : y ≡ x = cc in
      let there : edges ≡ front ++ at ∷ behind = cc in
      no_fault (with_edge g x.0 x.1 x.2) edges front behind at there f.2 (rw here at a)

  module _ (g : Graph N E) (edges : List (NewEdge E)) where
    -- two stops are at the same edge
    same_stop : (C D : Graph N E → NewEdge E → Type 0) → ((h : Graph N E) (x : NewEdge E) → C h x → IsFaulty h x)
        → ((h : Graph N E) (x : NewEdge E) → D h x → IsFaulty h x)
        → {l m : E} {ls bs : List E} (s : StopsAt limit g edges C l ls) (t : StopsAt limit g edges D m bs)
        → AreOne s.front t.front s.at t.at
    same_stop C D c d s t =
        one_fault g s.front t.front s.behind t.behind (sym s.edges_are ∙ t.edges_are)
        (record { faultless = s.faultless; faulty = c _ _ s.cause })
        (record { faultless = t.faultless; faulty = d _ _ t.cause })

    same_weights : (C D : Graph N E → NewEdge E → Type 0) (l m : E) (ls bs : List E) (s : StopsAt limit g edges C l ls)
        (t : StopsAt limit g edges D m bs)
        → AreOne s.front t.front s.at t.at → (l ≡ m) × (ls ≡ bs)
    same_weights C D l m ls bs s t one = (
      s.last_is ∙ ap (λ (x : NewEdge E). x.2) one.ats ∙ sym t.last_is,
      s.before_is ∙ ap weights_back one.fronts ∙ sym t.before_is,
    )

    -- an end and an index are not missing at one edge
    apart : (l m : E) (ls bs : List E)
        → StopsAt limit g edges LacksEnd l ls → StopsAt limit g edges (LacksIndex limit) m bs → ⊥
    apart l m ls bs s t =
        let one = same_stop LacksEnd (LacksIndex limit) by_end by_index s t in
        let lacks = rw (one.fronts, one.ats) at s.cause in lacks t.cause.0

    faultless_no_end : (l : E) (ls : List E) → IsFaultless limit g edges → StopsAt limit g edges LacksEnd l ls → ⊥
    faultless_no_end l ls f s =
        no_fault g edges s.front s.behind s.at s.edges_are f (by_end (with_edges g s.front) s.at s.cause)

    faultless_no_index : (l : E) (ls : List E)
        → IsFaultless limit g edges → StopsAt limit g edges (LacksIndex limit) l ls → ⊥
    faultless_no_index l ls f s =
        no_fault g edges s.front s.behind s.at s.edges_are f (by_index (with_edges g s.front) s.at s.cause)

    same_series : (a b : Answer N E) {h k : Graph N E}
        → FindsMemory a → FindsMemory b → IsBatchStep limit g edges a h → IsBatchStep limit g edges b k → Agree a b h k
    same_series (Memory w) b fa fb s t = absurd fa
    same_series a (Memory w) fa fb s t = absurd fb
    same_series (Edges es) (Edges fs) fa fb s t = (rw (s.indices_are ∙ sym t.indices_are), s.added ∙ sym t.added)
    same_series (Edges es) (Missing (OfEdges l ls)) fa fb s t = absurd (faultless_no_end l ls s.faultless t.0)
    same_series (Edges es) (Full (OfEdges l ls)) fa fb s t = absurd (faultless_no_index l ls s.faultless t.0)
    same_series (Edges es) (CycleAll ws) fa fb s t = absurd (t.0.cyclic s.acyclic)
    same_series (Edges es) other fa fb s t = absurd t
    same_series (Missing (OfEdges l ls)) (Edges es) fa fb s t = absurd (faultless_no_end l ls t.faultless s.0)
    same_series (Missing (OfEdges l ls)) (Missing (OfEdges m bs)) fa fb s t =
        let same =
        same_weights LacksEnd LacksEnd l m ls bs s.0 t.0
        (same_stop LacksEnd LacksEnd by_end by_end s.0 t.0) in
        (ap (λ y. Missing (OfEdges y ls)) same.0 ∙ ap (λ ys. Missing (OfEdges m ys)) same.1, s.1 ∙ sym t.1)
    same_series (Missing (OfEdges l ls)) (Full (OfEdges m bs)) fa fb s t = absurd (apart l m ls bs s.0 t.0)
    same_series (Missing (OfEdges l ls)) (CycleAll ws) fa fb s t = absurd (faultless_no_end l ls t.0.faultless s.0)
    same_series (Missing (OfEdges l ls)) other fa fb s t = absurd t
    same_series (Full (OfEdges l ls)) (Edges es) fa fb s t = absurd (faultless_no_index l ls t.faultless s.0)
    same_series (Full (OfEdges l ls)) (Missing (OfEdges m bs)) fa fb s t = absurd (apart m l bs ls t.0 s.0)
    same_series (Full (OfEdges l ls)) (Full (OfEdges m bs)) fa fb s t =
        let same =
        same_weights (LacksIndex limit) (LacksIndex limit) l m ls bs s.0 t.0
        (same_stop (LacksIndex limit) (LacksIndex limit) by_index by_index s.0 t.0) in
        (ap (λ y. Full (OfEdges y ls)) same.0 ∙ ap (λ ys. Full (OfEdges m ys)) same.1, s.1 ∙ sym t.1)
    same_series (Full (OfEdges l ls)) (CycleAll ws) fa fb s t = absurd (faultless_no_index l ls t.0.faultless s.0)
    same_series (Full (OfEdges l ls)) other fa fb s t = absurd t
    same_series (CycleAll vs) (Edges es) fa fb s t = absurd (s.0.cyclic t.acyclic)
    same_series (CycleAll vs) (Missing (OfEdges l ls)) fa fb s t = absurd (faultless_no_end l ls s.0.faultless t.0)
    same_series (CycleAll vs) (Full (OfEdges l ls)) fa fb s t = absurd (faultless_no_index l ls s.0.faultless t.0)
    same_series (CycleAll vs) (CycleAll ws) fa fb s t = (rw (s.0.weights_are ∙ sym t.0.weights_are), s.1 ∙ sym t.1)
    same_series (CycleAll vs) other fa fb s t = absurd t
    same_series other b fa fb s t = absurd s

  -- ---- what is asked alone
  same_find : (g : Graph N E) (u v : ℕ) (a b : Answer N E) {h k : Graph N E}
      → IsStep Compact limit g (request.Find u v) a h → IsStep Compact limit g (request.Find u v) b k → Agree a b h k
  same_find g u v (Found e) (Found f) s t = (ap Found (s.0 ∙ sym t.0), s.1 ∙ sym t.1)
  same_find g u v (Found e) other s t = absurd t
  same_find g u v other b s t = absurd s

  same_ends : (g : Graph N E) (e : ℕ) (a b : Answer N E) {h k : Graph N E}
      → IsStep Compact limit g (request.Ends e) a h → IsStep Compact limit g (request.Ends e) b k → Agree a b h k
  same_ends g e (Ends x) (Ends y) s t = (ap Ends (s.0 ∙ sym t.0), s.1 ∙ sym t.1)
  same_ends g e (Ends x) other s t = absurd t
  same_ends g e other b s t = absurd s

  same_children : (g : Graph N E) (n : ℕ) (a b : Answer N E) {h k : Graph N E} → FindsMemory a → FindsMemory b
      → IsStep Compact limit g (request.Children n) a h → IsStep Compact limit g (request.Children n) b k
      → Agree a b h k
  same_children g n (Memory w) b fa fb s t = absurd fa
  same_children g n (Walk xs) (Memory w) fa fb s t = absurd fb
  same_children g n (Walk xs) (Walk ys) fa fb s t = (ap Walk (s.0 ∙ sym t.0), s.1 ∙ sym t.1)
  same_children g n (Walk xs) other fa fb s t = absurd t
  same_children g n other b fa fb s t = absurd s

  same_parents : (g : Graph N E) (n : ℕ) (a b : Answer N E) {h k : Graph N E} → FindsMemory a → FindsMemory b
      → IsStep Compact limit g (request.Parents n) a h → IsStep Compact limit g (request.Parents n) b k → Agree a b h k
  same_parents g n (Memory w) b fa fb s t = absurd fa
  same_parents g n (Walk xs) (Memory w) fa fb s t = absurd fb
  same_parents g n (Walk xs) (Walk ys) fa fb s t = (ap Walk (s.0 ∙ sym t.0), s.1 ∙ sym t.1)
  same_parents g n (Walk xs) other fa fb s t = absurd t
  same_parents g n other b fa fb s t = absurd s

  same_clear_edges : (g : Graph N E) (a b : Answer N E) {h k : Graph N E}
      → IsStep Compact limit g request.ClearEdges a h → IsStep Compact limit g request.ClearEdges b k → Agree a b h k
  same_clear_edges g Done Done s t = (refl, s ∙ sym t)
  same_clear_edges g Done other s t = absurd t
  same_clear_edges g other b s t = absurd s

  same_clear : (g : Graph N E) (a b : Answer N E) {h k : Graph N E}
      → IsStep Compact limit g request.Clear a h → IsStep Compact limit g request.Clear b k → Agree a b h k
  same_clear g Done Done s t = (refl, s ∙ sym t)
  same_clear g Done other s t = absurd t
  same_clear g other b s t = absurd s

  -- ---- a step, and a run
  same_step : (g : Graph N E) (q : Request N E) (a b : Answer N E) {h k : Graph N E}
      → IsForBothKinds q → FindsMemory a → FindsMemory b
      → IsStep Compact limit g q a h → IsStep Compact limit g q b k → Agree a b h k
  same_step g (request.Node weight) a b both fa fb s t = same_node g weight a b fa fb s t
  same_step g (request.Edge x) a b both fa fb s t = same_edge g x a b fa fb s t
  same_step g (request.Update x) a b both fa fb s t = same_update g (find_edge g x.0 x.1) x a b fa fb s t
  same_step g (request.Child n edge node) a b both fa fb s t =
      same_neighbor g (record { dir = Outgoing; at = n; edge = edge; node = node }) a b fa fb s t
  same_step g (request.Parent n edge node) a b both fa fb s t =
      same_neighbor g (record { dir = Incoming; at = n; edge = edge; node = node }) a b fa fb s t
  same_step g (request.Edges edges) a b both fa fb s t = same_series g edges a b fa fb s t
  same_step g (request.Find u v) a b both fa fb s t = same_find g u v a b s t
  same_step g (request.Ends e) a b both fa fb s t = same_ends g e a b s t
  same_step g (request.Children n) a b both fa fb s t = same_children g n a b fa fb s t
  same_step g (request.Parents n) a b both fa fb s t = same_parents g n a b fa fb s t
  same_step g request.ClearEdges a b both fa fb s t = same_clear_edges g a b s t
  same_step g request.Clear a b both fa fb s t = same_clear g a b s t
  same_step g other a b both fa fb s t = absurd both

  pub same_run : (g : Graph N E) (requests : List (Request N E)) (answers others : List (Answer N E)) {h k : Graph N E}
      → AllByRecursion IsForBothKinds requests → AllByRecursion FindsMemory answers → AllByRecursion FindsMemory others
      → IsRun Compact limit g requests answers h → IsRun Compact limit g requests others k
      → (others ≡ answers) × (k ≡ h)
  same_run g [] [] [] both fa fb s t = (refl, t ∙ sym s)
  same_run g (q ∷ requests) (a ∷ answers) (b ∷ others) {h} {k} both fa fb s t =
      let here = same_step g q b a both.0 fb.0 fa.0 t.1 s.1 in
      let there = same_run s.0 requests answers others both.1 fa.1 fb.1 s.2 (rw here.1 at t.2) in
      (ap (λ x. x ∷ others) here.0 ∙ ap (λ xs. a ∷ xs) there.0, there.1)
  same_run g [] [] _ both fa fb s t = absurd t
  same_run g (q ∷ requests) (a ∷ answers) _ both fa fb s t = absurd t
  same_run g _ _ others both fa fb s t = absurd s

  -- what a run of a kind says, where memory is found, is what the compact kind says
  pub as_compact : (kind : Kind) (g : Graph N E) (requests : List (Request N E)) (answers : List (Answer N E))
      (h : Graph N E)
      → IsRun kind limit g requests answers h → IsAsCompact limit g requests answers h
  as_compact kind g requests answers h run both found =
      let compact = compact_run kind limit g h requests answers both run in
      record {
        run = compact;
        only = λ others end other_run other_found.
            same_run g requests answers others both found other_found compact other_run;
      }
