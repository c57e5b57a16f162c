-- The parts of a document, written one after another.
use Rattle.std.proofs.Common.{◌≡◌, ℕ, inl, inr, Option, List, [], ◌∷◌, ◌++◌, map, take, codes, refl, sym, ap, subst, ◌∙◌}
use Rattle.std.proofs.Common.{append_assoc}
use Rattle.std.specs.List.{AllZip}
use Rattle.json.specs.Token.{Token, begin_object, end_object, key, string}
use Rattle.serde_json.specs.Data.{Data}
use Rattle.daggy_base.specs.Graph.{Graph, Edge, edge_bound}
use Rattle.daggy_base.specs.Iterating.{node_identifiers, node_weights}
use Rattle.daggy_json.specs.Document.{whole, listed, wholes, holes_of, row_of, document_of, document_without_orders}
use Rattle.daggy_json.specs.Document.{IsEntry, IsDocumentOf, IsDocumentWithoutOrders, IsShortDocumentOf}
use Rattle.daggy_json.specs.Passing.{HasFailed, Passes, Writes, AreTokensOf, AreTokensOfA, Encodes, IsArrayOf}
use Rattle.daggy_json.specs.Passing.{AreTokensOfParts}
use Rattle.daggy_json.specs.declared.text.TextWriter.{TextWriter}
use Rattle.daggy_json.proofs.PassedTokens.{stays_then, passes_then}
use Rattle.daggy_json.proofs.TokenTrees.{document_tokens_of, tokens_without_orders}
use Rattle.daggy_json.proofs.WrittenTokens.{encodes_later, entry_later}

pub zip_weaker : {A B : Type 0} (R R' : A → B → Type 0) → ((x : A) (y : B) → R x y → R' x y)
    → (xs : List A) (ys : List B) → AllZip R xs ys → AllZip R' xs ys
zip_weaker R R' weaker [] [] all = tt
zip_weaker R R' weaker (x ∷ xs) (y ∷ ys) all = (weaker x y all.0, zip_weaker R R' weaker xs ys all.1)
zip_weaker R R' weaker [] (y ∷ ys) all = absurd all
zip_weaker R R' weaker (x ∷ xs) [] all = absurd all

-- with other encodings of the weights
pub document_weaker : {N E : Type 0} (node_as node_as' : N → Data → Type 0) (edge_as edge_as' : E → Data → Type 0)
    (g : Graph N E) (d : Data) → ((w : N) (v : Data) → node_as w v → node_as' w v)
    → ((o : Option (Edge E)) (v : Data) → IsEntry edge_as o v → IsEntry edge_as' o v)
    → IsDocumentOf node_as edge_as g d → IsDocumentOf node_as' edge_as' g d
document_weaker node_as node_as' edge_as edge_as' g d nodes edges doc =
    record {
      entries = doc.entries;
      weights = doc.weights;
      edges = zip_weaker (IsEntry edge_as) (IsEntry edge_as') edges _ _ doc.edges;
      nodes = zip_weaker node_as node_as' nodes _ _ doc.nodes;
      is = doc.is;
    }

pub without_orders_weaker : {N E : Type 0} (node_as node_as' : N → Data → Type 0) (edge_as edge_as' : E → Data → Type 0)
    (g : Graph N E) (d : Data) → ((w : N) (v : Data) → node_as w v → node_as' w v)
    → ((o : Option (Edge E)) (v : Data) → IsEntry edge_as o v → IsEntry edge_as' o v)
    → IsDocumentWithoutOrders node_as edge_as g d → IsDocumentWithoutOrders node_as' edge_as' g d
without_orders_weaker node_as node_as' edge_as edge_as' g d nodes edges doc =
    record {
      entries = doc.entries;
      weights = doc.weights;
      edges = zip_weaker (IsEntry edge_as) (IsEntry edge_as') edges _ _ doc.edges;
      nodes = zip_weaker node_as node_as' nodes _ _ doc.nodes;
      is = doc.is;
    }

pub short_weaker : {N E : Type 0} (node_as node_as' : N → Data → Type 0) (edge_as edge_as' : E → Data → Type 0)
    (g : Graph N E) (d : Data) → ((w : N) (v : Data) → node_as w v → node_as' w v)
    → ((o : Option (Edge E)) (v : Data) → IsEntry edge_as o v → IsEntry edge_as' o v)
    → IsShortDocumentOf node_as edge_as g d → IsShortDocumentOf node_as' edge_as' g d
short_weaker node_as node_as' edge_as edge_as' g d nodes edges doc =
    elim doc [
      | inl short ↦ inl (short.0, without_orders_weaker node_as node_as' edge_as edge_as' g d nodes edges short.1)
      | inr long ↦ inr (long.0, document_weaker node_as node_as' edge_as edge_as' g d nodes edges long.1)
    ]

-- more tokens after those of the parts
more_tokens : (es hs ws more : List Token) (k l : Token)
    → (es ++ (k ∷ (hs ++ (l ∷ ws)))) ++ more ≡ es ++ (k ∷ (hs ++ (l ∷ (ws ++ more))))
more_tokens es hs ws more k l =
    append_assoc es (k ∷ (hs ++ (l ∷ ws))) more ∙ ap (λ t. es ++ (k ∷ t)) (append_assoc hs (l ∷ ws) more)

module _ {W : Type 0} {contents : W → Option (List ℕ)} {N E : Type 0} (node_as : N → Data → Type 0)
    (edge_as : E → Data → Type 0) (graph : Graph N E) where
  pub writes_parts : {a b c d e f g h i j : TextWriter W} → Passes contents a b (begin_object ∷ [])
      → Passes contents b c (key (codes "edge_property") ∷ [])
      → Passes contents c d (string (codes "directed") ∷ []) → Passes contents d e (key (codes "edges") ∷ [])
      → Writes contents e f (AreTokensOfA (IsArrayOf (IsEntry (Encodes edge_as (HasFailed f)))
      (take (edge_bound graph) graph.edges)))
      → Passes contents f g (key (codes "node_holes") ∷ [])
      → Writes contents g h (AreTokensOf (wholes (holes_of graph)))
      → Passes contents h i (key (codes "nodes") ∷ [])
      → Writes contents i j (AreTokensOfA (IsArrayOf (Encodes node_as (HasFailed j)) (node_weights graph)))
      → Writes contents a j (AreTokensOfParts (Encodes node_as (HasFailed j)) (Encodes edge_as (HasFailed j)) graph)
  writes_parts {f = f} {j = j} opened property directed edges es holes hs nodes ws =
      let later = stays_then holes.stays (stays_then hs.2.stays (stays_then nodes.stays ws.2.stays)) in (
        _,
        record {
          entries = es.1.1.0;
          weights = ws.1.1.0;
          edges = zip_weaker (IsEntry (Encodes edge_as (HasFailed f))) (IsEntry (Encodes edge_as (HasFailed j)))
              (entry_later edge_as later.failed) _ _ es.1.1.1;
          nodes = ws.1.1.1;
          of_entries = es.0;
          of_holes = hs.0;
          of_weights = ws.0;
          are_entries = subst (λ v. AreTokensOf v es.0) es.1.1.2 es.1.2;
          are_holes = hs.1;
          are_weights = subst (λ v. AreTokensOf v ws.0) ws.1.1.2 ws.1.2;
          is = refl;
        },
        passes_then opened (passes_then property (passes_then directed (passes_then edges (passes_then es.2
            (passes_then holes (passes_then hs.2 (passes_then nodes ws.2))))))),
      )

  -- with the orders after them
  pub writes_document : {a b c d e : TextWriter W}
      → Writes contents a b (AreTokensOfParts (Encodes node_as (HasFailed b)) (Encodes edge_as (HasFailed b)) graph)
      → Passes contents b c (key (codes "orders") ∷ [])
      → Writes contents c d (AreTokensOf (listed (map (row_of graph) (node_identifiers graph))))
      → Passes contents d e (end_object ∷ [])
      → Writes contents a e (AreTokensOfA (IsDocumentOf (Encodes node_as (HasFailed e))
      (Encodes edge_as (HasFailed e)) graph))
  writes_document {b = b} {e = e} parts orders os closed =
      let p = parts.1 in
      let later = stays_then orders.stays (stays_then os.2.stays closed.stays) in
      let holes_in = map whole (holes_of graph) in
      let rows = map (row_of graph) (node_identifiers graph) in
      let more = key (codes "orders") ∷ (os.0 ++ end_object ∷ []) in (
        parts.0 ++ more,
        (
          document_of p.entries holes_in p.weights rows,
          record {
            entries = p.entries;
            weights = p.weights;
            edges = zip_weaker (IsEntry (Encodes edge_as (HasFailed b))) (IsEntry (Encodes edge_as (HasFailed e)))
                (entry_later edge_as later.failed) _ _ p.edges;
            nodes = zip_weaker (Encodes node_as (HasFailed b)) (Encodes node_as (HasFailed e))
                (encodes_later node_as later.failed) _ _ p.nodes;
            is = refl;
          },
          subst (AreTokensOf (document_of p.entries holes_in p.weights rows))
              (sym (ap (λ t. t ++ more) p.is ∙ ap (λ t. begin_object ∷ key (codes "edge_property")
              ∷ string (codes "directed") ∷ key (codes "edges") ∷ t)
              (more_tokens p.of_entries p.of_holes p.of_weights more (key (codes "node_holes")) (key (codes "nodes")))))
              (document_tokens_of p.entries holes_in p.weights rows p.are_entries p.are_holes p.are_weights os.1),
        ),
        passes_then parts.2 (passes_then orders (passes_then os.2 closed)),
      )

  -- without them
  pub writes_without_orders : {a b c : TextWriter W}
      → Writes contents a b (AreTokensOfParts (Encodes node_as (HasFailed b)) (Encodes edge_as (HasFailed b)) graph)
      → Passes contents b c (end_object ∷ [])
      → Writes contents a c (AreTokensOfA (IsDocumentWithoutOrders (Encodes node_as (HasFailed c))
      (Encodes edge_as (HasFailed c)) graph))
  writes_without_orders {b = b} {c = c} parts closed =
      let p = parts.1 in
      let later = closed.stays in
      let holes_in = map whole (holes_of graph) in (
        parts.0 ++ end_object ∷ [],
        (
          document_without_orders p.entries holes_in p.weights,
          record {
            entries = p.entries;
            weights = p.weights;
            edges = zip_weaker (IsEntry (Encodes edge_as (HasFailed b))) (IsEntry (Encodes edge_as (HasFailed c)))
                (entry_later edge_as later.failed) _ _ p.edges;
            nodes = zip_weaker (Encodes node_as (HasFailed b)) (Encodes node_as (HasFailed c))
                (encodes_later node_as later.failed) _ _ p.nodes;
            is = refl;
          },
          subst (AreTokensOf (document_without_orders p.entries holes_in p.weights))
              (sym (ap (λ t. t ++ end_object ∷ []) p.is ∙ ap (λ t. begin_object ∷ key (codes "edge_property")
              ∷ string (codes "directed") ∷ key (codes "edges") ∷ t)
              (more_tokens p.of_entries p.of_holes p.of_weights (end_object ∷ []) (key (codes "node_holes"))
              (key (codes "nodes")))))
              (tokens_without_orders p.entries holes_in p.weights p.are_entries p.are_holes p.are_weights),
        ),
        passes_then parts.2 closed,
      )
