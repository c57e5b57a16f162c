-- Each change keeps the invariant of a stored graph.
use Rattle.std.proofs.Common.{◌≡◌, ℕ, ◌<◌, List, [], ◌∷◌, ◌++◌, length, get_or, set, Some, refl, sym, ap, subst, ◌∙◌}
use Rattle.std.proofs.Common.{arith}
use Rattle.std.proofs.lemmas.List.{length-set, length_push, length-map, map-set, map_push}
use Rattle.daggy_base.specs.Graph.{Graph, Edge as PlainEdge, slot}
use Rattle.std.specs.Option.{option_map}
use Rattle.daggy_base.specs.Adding.{with_node, with_edge}
use Rattle.daggy_cells.specs.declared.cell.Node.{Node}
use Rattle.daggy_cells.specs.declared.cell.Edge.{Edge}
use Rattle.daggy_base.specs.declared.index.Direction.TheVariants.{Outgoing, Incoming}
use Rattle.daggy_base.specs.Weights.{edge_with_weight}
use Rattle.daggy_cells.specs.Raw.{raw_first, raw_next}
use Rattle.daggy_cells.specs.Fields.{weight_of, plain_edge, end_at, lists_from, AreLedTo, edge_put_first}
use Rattle.daggy_graph.specs.Stored.{stored_graph, Stores}
use Rattle.daggy_cells.proofs.LinkedListChanges.{rows_are, AreLinkedLists-node, ListsEach-node, AreLinkedLists-edge}
use Rattle.daggy_cells.proofs.LinkedListChanges.{ListsEach-edge}
use Rattle.daggy_base.proofs.Lists.{map-set_same}
use Rattle.daggy_base.proofs.MappedSlots.{slot_is}
use Rattle.daggy_cells.proofs.FieldLemmas.{same_graph}

module _ {N E Ix : Type 0} (end : ℕ) (nodes : List (Node N Ix)) (edges : List (Edge E Ix)) where
  -- what is stored is what the view shows
  pub stored_is : (g : Graph N E) → Stores end nodes edges g → stored_graph nodes edges ≡ g
  stored_is g s =
      let out : lists_from Outgoing nodes edges ≡ g.out_lists =
      rows_are end _ _ _ (s.linked Outgoing) (omega (arith, s.few_edges, length-map edges (raw_next Outgoing))) in
      let into : lists_from Incoming nodes edges ≡ g.in_lists =
      rows_are end _ _ _ (s.linked Incoming) (omega (arith, s.few_edges, length-map edges (raw_next Incoming))) in
      same_graph g (sym s.nodes_are) (sym s.edges_are) out into (sym s.no_vacant_node) (sym s.no_vacant_edge)

  pub Stores-itself : (g : Graph N E) → Stores end nodes edges g → Stores end nodes edges (stored_graph nodes edges)
  Stores-itself g s = subst (Stores end nodes edges) (sym (stored_is g s)) s

-- one side of a graph
module _ {N E Ix : Type 0} (end : ℕ) (nodes : List (Node N Ix)) (edges : List (Edge E Ix)) (g : Graph N E)
    (s : Stores end nodes edges g) where
  pub Stores-node : (w : N) → length nodes < end
      → Stores end (nodes ++ (record { weight = w; first_out = end; first_in = end }) ∷ []) edges (with_node g w)
  Stores-node w few =
      let x : Node N Ix = record { weight = w; first_out = end; first_in = end } in
      rw s.no_vacant_node (
      record {
        nodes_are = ap (λ l. l ++ Some w ∷ []) s.nodes_are ∙ sym (map_push weight_of nodes x);
        edges_are = s.edges_are;
        no_vacant_node = refl;
        no_vacant_edge = s.no_vacant_edge;
        linked = elim [
          | Outgoing ↦ rw (map_push (raw_first Outgoing) nodes x) (AreLinkedLists-node end _ _ _ (s.linked Outgoing))
          | Incoming ↦ rw (map_push (raw_first Incoming) nodes x) (AreLinkedLists-node end _ _ _ (s.linked Incoming))
        ];
        listed = elim [
          | Outgoing ↦ ListsEach-node _ _ (s.listed Outgoing)
          | Incoming ↦ ListsEach-node _ _ (s.listed Incoming)
        ];
        few_nodes = omega (arith, few, length_push nodes x);
        few_edges = s.few_edges;
      })

  pub Stores-edge : (u v : ℕ) (w : E) → u < length nodes → v < length nodes → length edges < end
      → {nodes' : List (Node N Ix)} → AreLedTo nodes nodes' u v (length edges)
      → Stores end nodes' (edges ++ edge_put_first nodes u v w ∷ []) (with_edge g u v w)
  Stores-edge u v w u_in v_in few {nodes'} led =
      let x : Edge E Ix = edge_put_first nodes u v w in
      let index : length g.edges ≡ length edges = ap length s.edges_are ∙ length-map edges plain_edge in
      let same_nodes : length nodes' ≡ length nodes =
      sym (length-map nodes' weight_of) ∙ ap length led.weights ∙ length-map nodes weight_of in
      rw (s.no_vacant_edge, index) (
      record {
        nodes_are = s.nodes_are ∙ sym led.weights;
        edges_are = ap (λ l. l ++ plain_edge x ∷ []) s.edges_are ∙ sym (map_push plain_edge edges x);
        no_vacant_node = s.no_vacant_node;
        no_vacant_edge = refl;
        linked = elim [
          | Outgoing ↦
              rw (led.outs, map_push (raw_next Outgoing) edges x)
              (AreLinkedLists-edge end _ _ _ u (length edges) (sym (length-map edges (raw_next Outgoing)))
              (s.linked Outgoing) (omega (arith, u_in, length-map nodes (raw_first Outgoing))))
          | Incoming ↦
              rw (led.ins, map_push (raw_next Incoming) edges x)
              (AreLinkedLists-edge end _ _ _ v (length edges) (sym (length-map edges (raw_next Incoming)))
              (s.linked Incoming) (omega (arith, v_in, length-map nodes (raw_first Incoming))))
        ];
        listed = elim [
          | Outgoing ↦
              rw (map_push (end_at Outgoing) edges x)
              (ListsEach-edge _ _ u (length edges) (sym (length-map edges (end_at Outgoing))) (omega (
                arith,
                u_in,
                length-map nodes (raw_first Outgoing),
                (s.linked Outgoing).rows,
              )) (s.listed Outgoing))
          | Incoming ↦
              rw (map_push (end_at Incoming) edges x)
              (ListsEach-edge _ _ v (length edges) (sym (length-map edges (end_at Incoming))) (omega (
                arith,
                v_in,
                length-map nodes (raw_first Incoming),
                (s.linked Incoming).rows,
              )) (s.listed Incoming))
        ];
        few_nodes = omega (arith, s.few_nodes, same_nodes);
        few_edges = omega (arith, few, length_push edges x);
      })

  pub Stores-weight : (n : ℕ) (w : N) (x : Node N Ix) → x ≡ get_or nodes n x
      → Stores end (set nodes n (record x { weight = w })) edges (record g { nodes = set g.nodes n (Some w) })
  Stores-weight n w x is =
      record {
        nodes_are = ap (λ l. set l n (Some w)) s.nodes_are ∙ sym (map-set weight_of nodes n _);
        edges_are = s.edges_are;
        no_vacant_node = s.no_vacant_node;
        no_vacant_edge = s.no_vacant_edge;
        linked = elim [
          | Outgoing ↦
              rw (map-set_same (raw_first Outgoing) nodes n x (record x { weight = w }) is refl) (s.linked Outgoing)
          | Incoming ↦
              rw (map-set_same (raw_first Incoming) nodes n x (record x { weight = w }) is refl) (s.linked Incoming)
        ];
        listed = elim [ Outgoing ↦ s.listed Outgoing | Incoming ↦ s.listed Incoming ];
        few_nodes = omega (arith, s.few_nodes, length-set nodes n (record x { weight = w }));
        few_edges = s.few_edges;
      }

  -- in the words of the code
  pub Stores-edge_code : {a b e : ℕ} {w : E}
      → e ≡ length edges → a < length nodes → b < length nodes → length edges < end
      → {nodes' : List (Node N Ix)} → AreLedTo nodes nodes' a b e → {x : Edge E Ix} → x ≡ edge_put_first nodes a b w
      → {edges' : List (Edge E Ix)} → edges' ≡ edges ++ x ∷ [] → Stores end nodes' edges' (with_edge g a b w)
  Stores-edge_code {a} {b} {e} {w} e_is a_in b_in few {nodes'} led x_is pushed =
      rw (pushed, x_is) (Stores-edge a b w a_in b_in few (subst (AreLedTo nodes nodes' a b) e_is led))

  pub Stores-node_code : (w : N)
      → length nodes < end → {x : Node N Ix} → x ≡ record { weight = w; first_out = end; first_in = end }
      → {nodes' : List (Node N Ix)} → nodes' ≡ nodes ++ x ∷ [] → Stores end nodes' edges (with_node g w)
  Stores-node_code w few x_is pushed = rw (pushed, x_is) (Stores-node w few)

pub Stores-edge_weight : {N E Ix : Type 0} {end : ℕ} {nodes : List (Node N Ix)} {edges : List (Edge E Ix)}
    {g : Graph N E}
    → Stores end nodes edges g → (e : ℕ) (w : E) {x : Edge E Ix} → e < length edges → x ≡ get_or edges e x
    → Stores end nodes (set edges e (record x { weight = w }))
    (record g { edges = set g.edges e (option_map (edge_with_weight w) (slot g.edges e)) })
Stores-edge_weight {N} {E} {Ix} {end} {nodes} {edges} {g} s e w {x} within is =
    let P : Edge E Ix → PlainEdge E = λ z. record { parent = z.parent; child = z.child; weight = z.weight } in
    let slot_e : slot g.edges e ≡ Some (P x) = ap (λ l. slot l e) s.edges_are ∙ slot_is P edges e x within is in
    record {
      nodes_are = s.nodes_are;
      edges_are =
          ap (λ o. set g.edges e (option_map (edge_with_weight w) o)) slot_e
          ∙ ap (λ l. set l e (plain_edge (record x { weight = w }))) s.edges_are ∙ sym (map-set plain_edge edges e _);
      no_vacant_node = s.no_vacant_node;
      no_vacant_edge = s.no_vacant_edge;
      linked = elim [
        | Outgoing ↦
            rw (map-set_same (raw_next Outgoing) edges e x (record x { weight = w }) is refl) (s.linked Outgoing)
        | Incoming ↦
            rw (map-set_same (raw_next Incoming) edges e x (record x { weight = w }) is refl) (s.linked Incoming)
      ];
      listed = elim [
        | Outgoing ↦ rw (map-set_same (end_at Outgoing) edges e x (record x { weight = w }) is refl) (s.listed Outgoing)
        | Incoming ↦ rw (map-set_same (end_at Incoming) edges e x (record x { weight = w }) is refl) (s.listed Incoming)
      ];
      few_nodes = s.few_nodes;
      few_edges = omega (arith, s.few_edges, length-set edges e (record x { weight = w }));
    }

-- the graph with one more edge, in other words
pub added_same : {N E Ix : Type 0} (nodes : List (Node N Ix)) {edges edges' : List (Edge E Ix)} {p q a b : ℕ} (w : E)
    → edges' ≡ edges → p ≡ a → q ≡ b
    → with_edge (stored_graph nodes edges') p q w ≡ with_edge (stored_graph nodes edges) a b w
added_same nodes {edges} {edges'} {p} {q} {a} w same p_is q_is =
    ap (λ l. with_edge (stored_graph nodes l) p q w) same ∙ ap (λ u. with_edge (stored_graph nodes edges) u q w) p_is
    ∙ ap (λ v. with_edge (stored_graph nodes edges) a v w) q_is
