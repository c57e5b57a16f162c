-- One more node or edge in a graph that is made of given slots.
use Rattle.std.proofs.Common.{◌≡◌, ℕ, ◌<◌, List, [], ◌∷◌, ◌++◌, map, length, Option, Some, IsSome, refl, sym, ap, subst}
use Rattle.std.proofs.Common.{◌∙◌, arith}
use Rattle.std.proofs.lemmas.List.{length-map}
use Rattle.std.proofs.lemmas.Option.{none-some}
use Rattle.daggy_base.specs.declared.index.Direction.TheVariants.{Outgoing, Incoming}
use Rattle.daggy_base.specs.Graph.{Edge as PlainEdge, slot}
use Rattle.daggy_base.specs.Adding.{with_node, with_edge}
use Rattle.daggy_base.specs.FromSlots.{vacant_down, graph_of_slots, MakeGraph}
use Rattle.daggy_base.proofs.Lists.{Contains-nil}
use Rattle.daggy_base.proofs.MappedSlots.{slot_holds, slot_within}
use Rattle.daggy_base.proofs.SlotLists.{none_vacant, slot_between, of_slots_with_node, of_slots_with_edge}
use Rattle.daggy_cells.specs.declared.cell.Node.{Node}
use Rattle.daggy_cells.specs.declared.cell.Edge.{Edge}
use Rattle.daggy_cells.specs.Fields.{weight_of, plain, plain_edge}
use Rattle.daggy_graph.specs.Stored.{stored_graph, Stores, IsBuilt}
use Rattle.daggy_graph.proofs.StoredLemmas.{stored_is}

pub built_none : {N E Ix : Type 0} (end : ℕ) (nodes : List (Node N Ix)) (edges : List (Edge E Ix))
    → nodes ≡ [] → edges ≡ [] → IsBuilt end nodes edges
built_none {N} {E} {Ix} end nodes edges no_nodes no_edges =
    let empty : IsBuilt {N = N} {E = E} {Ix = Ix} end [] [] =
    record {
      nodes_are = refl;
      edges_are = refl;
      no_vacant_node = refl;
      no_vacant_edge = refl;
      linked = elim [
        | Outgoing ↦ record { rows = refl; each = λ n within. absurd (omega (arith, within)) }
        | Incoming ↦ record { rows = refl; each = λ n within. absurd (omega (arith, within)) }
      ];
      listed = elim [
        | Outgoing ↦ λ n e. (λ p. absurd (Contains-nil e p), λ q. absurd (none-some n q))
        | Incoming ↦ λ n e. (λ p. absurd (Contains-nil e p), λ q. absurd (none-some n q))
      ];
      few_nodes = omega arith;
      few_edges = omega arith;
    } in
    rw (no_nodes, no_edges) empty

full : {A B : Type 0} (f : A → B) (xs : List A) → vacant_down (map (λ x. Some (f x)) xs) ≡ []
full f xs =
    none_vacant (map (λ x. Some (f x)) xs)
    (λ i within. slot_holds f xs i (omega (arith, within, length-map xs (λ x. Some (f x)))))

-- both ends of the edge that is taken next are nodes
pub ends_within : {N E Ix : Type 0} {end : ℕ} {weights : List (Option N)}
    {whole : List (Option (PlainEdge E))} (made later : List (Option (PlainEdge E))) (x : PlainEdge E)
    (nodes : List (Node N Ix))
    → MakeGraph end weights whole → made ++ Some x ∷ later ≡ whole → map weight_of nodes ≡ weights
    → (x.parent < length nodes) × (x.child < length nodes)
ends_within {N} {E} {Ix} {end} {weights} {whole} made later x nodes slots is same =
    let at : slot whole (length made) ≡ Some x =
    ap (λ l. slot l (length made)) (sym is) ∙ slot_between made (Some x) later in (
      slot_within (λ y. y.weight) nodes x.parent
          (subst (λ l. IsSome (slot l x.parent)) (sym same) (slots.parents (length made) x at)),
      slot_within (λ y. y.weight) nodes x.child
          (subst (λ l. IsSome (slot l x.child)) (sym same) (slots.children (length made) x at)),
    )

module _ {N E Ix : Type 0} (end : ℕ) (nodes : List (Node N Ix)) (edges : List (Edge E Ix))
    (built : IsBuilt end nodes edges) where
  -- what is stored once a node of this weight is added
  pub record NodeBuilt (w : N) (new : List (Node N Ix)) : Type 0 where
    pub stored : IsBuilt end new edges
    pub made : map weight_of new ≡ map weight_of nodes ++ Some w ∷ []

  pub node_built : edges ≡ [] → (w : N) (new : List (Node N Ix))
      → Stores end new edges (with_node (stored_graph nodes edges) w) → NodeBuilt w new
  node_built none w new s =
      let weights = map weight_of nodes in
      let made : weights ++ Some w ∷ [] ≡ map weight_of new = s.nodes_are in
      let shown = stored_is end nodes edges _ built in
      let graph : with_node (stored_graph nodes edges) w ≡ graph_of_slots (map weight_of new) (map plain_edge edges) =
      ap (λ h. with_node h w) shown ∙ ap (λ l. with_node (graph_of_slots weights (map plain_edge l)) w) none
      ∙ of_slots_with_node weights w (full (λ x. x.weight) nodes)
      ∙ ap (λ l. graph_of_slots l []) made
      ∙ ap (λ l. graph_of_slots (map weight_of new) (map plain_edge l)) (sym none) in
      record { stored = subst (Stores end new edges) graph s; made = sym made }

  pub record EdgeBuilt (x : PlainEdge E) (nodes' : List (Node N Ix)) (edges' : List (Edge E Ix)) : Type 0 where
    pub stored : IsBuilt end nodes' edges'
    pub same : map weight_of nodes' ≡ map weight_of nodes
    pub made : map plain_edge edges' ≡ map plain_edge edges ++ Some x ∷ []

  pub edge_built : (a b : ℕ) (w : E)
      → a < length nodes → b < length nodes → {nodes' : List (Node N Ix)} {edges' : List (Edge E Ix)}
      → Stores end nodes' edges' (with_edge (stored_graph nodes edges) a b w)
      → EdgeBuilt (record { parent = a; child = b; weight = w }) nodes' edges'
  edge_built a b w a_in b_in {nodes'} {edges'} s =
      let weights = map weight_of nodes in
      let old = map plain_edge edges in
      let x : PlainEdge E = record { parent = a; child = b; weight = w } in
      let same : weights ≡ map weight_of nodes' = s.nodes_are in
      let made : old ++ Some x ∷ [] ≡ map plain_edge edges' = s.edges_are in
      let shown = stored_is end nodes edges _ built in
      let long = length-map nodes weight_of in
      let graph : with_edge (stored_graph nodes edges) a b w
      ≡ graph_of_slots (map weight_of nodes') (map plain_edge edges') =
      ap (λ h. with_edge h a b w) shown
      ∙ of_slots_with_edge weights old a b w (full plain edges) (omega (arith, a_in, long)) (omega (arith, b_in, long))
      ∙ ap (λ l. graph_of_slots l (old ++ Some x ∷ [])) same ∙ ap (graph_of_slots (map weight_of nodes')) made in
      record { stored = subst (Stores end nodes' edges') graph s; same = sym same; made = sym made }
