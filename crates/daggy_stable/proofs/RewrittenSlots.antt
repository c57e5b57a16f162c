-- What stays of a stored graph when the weights in its slots are written.
use Rattle.std.proofs.Common.{◌≡◌, ℕ, ◌+◌, List, [], ◌∷◌, map, Option, Some, None, refl, sym, ap}
use Rattle.std.specs.Borrow.{Bor, MutBor}
use Rattle.daggy_base.specs.declared.index.Direction.{Direction}
use Rattle.daggy_base.specs.Mapping.{MapsSlots, weight_in, with_weight}
use Rattle.daggy_base.specs.Rewriting.{Leaves, RewritesNodes, RewritesEdges}
use Rattle.daggy_cells.specs.declared.cell.Node.{Node}
use Rattle.daggy_cells.specs.declared.cell.Edge.{Edge}
use Rattle.daggy_cells.specs.Fields.{firsts_of, nexts_of}
use Rattle.daggy_cells.proofs.FieldLemmas.{same_graph}
use Rattle.daggy_stable.specs.Stored.{weight_of, plain_edge, stored_graph, Stores}
use Rattle.daggy_stable.proofs.MappedSlots.{MapsStored, Stores-mapped, IsMapped-stored}

-- slots that stay are mapped to what they hold
abbrev pub stays : {I W : Type 0} → Unit {0} → I → Bor W → W → Unit {0} → Type 0
stays f i shown v next = shown.now ≡ v

slots_stay : {I A W : Type 0} (of : ℕ → I) (weight : A → W) (with : A → W → A) → ((x : A) → with x (weight x) ≡ x)
    → (i : ℕ) (xs : List (Option A)) → MapsSlots stays of weight with tt i xs xs
slots_stay of weight with same i [] = refl
slots_stay of weight with same i (None ∷ xs) = (xs, refl, slots_stay of weight with same (i + 1) xs)
slots_stay of weight with same i (Some x ∷ xs) = (
  weight x,
  tt,
  record { shown = record { ref_ptr = (0, 0); now = weight x }; shows = refl; called = refl },
  xs,
  ap (λ z. Some z ∷ xs) (sym (same x)),
  slots_stay of weight with same (i + 1) xs,
)

-- a stored graph whose nodes were rewritten
module _ {N E Ix F I : Type 0} (step : F → I → MutBor N → Unit {0} → MutBor N → F → Type 0) (of : ℕ → I) (f : F)
    (nodes nodes' : List (Node (Option N) Ix)) (edges : List (Edge (Option E) Ix))
    (written : MapsSlots (Leaves step) of (λ w. w) (λ w v. v) f 0 (map weight_of nodes) (map weight_of nodes'))
    (links : (dir : Direction) → firsts_of dir nodes' ≡ firsts_of dir nodes) (end node_head edge_head : ℕ) where
  nodes_stored : MapsStored of (Leaves step) stays f tt nodes edges nodes' edges
  nodes_stored =
      record {
        for_nodes = written;
        for_edges = slots_stay of weight_in with_weight (λ x. refl) 0 (map plain_edge edges);
        firsts = links;
        nexts = λ dir. refl;
      }

  pub Stores-nodes_rewritten : {nodes_counted edges_counted : ℕ}
      → Stores end nodes edges node_head edge_head nodes_counted edges_counted
      (stored_graph end nodes edges node_head edge_head)
      → Stores end nodes' edges node_head edge_head nodes_counted edges_counted
      (stored_graph end nodes' edges node_head edge_head)
  Stores-nodes_rewritten = Stores-mapped nodes_stored end node_head edge_head

  pub RewritesNodes-stored : RewritesNodes of step f (stored_graph end nodes edges node_head edge_head)
      (stored_graph end nodes' edges node_head edge_head)
  RewritesNodes-stored =
      let m = IsMapped-stored nodes_stored end node_head edge_head in (
        map weight_of nodes',
        written,
        same_graph _ refl refl m.out_lists m.in_lists m.vacant_nodes m.vacant_edges,
      )

-- a stored graph whose edges were rewritten
module _ {N E Ix F I : Type 0} (step : F → I → MutBor E → Unit {0} → MutBor E → F → Type 0) (of : ℕ → I) (f : F)
    (nodes : List (Node (Option N) Ix)) (edges edges' : List (Edge (Option E) Ix))
    (written : MapsSlots (Leaves step) of weight_in with_weight f 0 (map plain_edge edges) (map plain_edge edges'))
    (links : (dir : Direction) → nexts_of dir edges' ≡ nexts_of dir edges) (end node_head edge_head : ℕ) where
  edges_stored : MapsStored of stays (Leaves step) tt f nodes edges nodes edges'
  edges_stored =
      record {
        for_nodes = slots_stay of (λ w. w) (λ w v. v) (λ x. refl) 0 (map weight_of nodes);
        for_edges = written;
        firsts = λ dir. refl;
        nexts = links;
      }

  pub Stores-edges_rewritten : {nodes_counted edges_counted : ℕ}
      → Stores end nodes edges node_head edge_head nodes_counted edges_counted
      (stored_graph end nodes edges node_head edge_head)
      → Stores end nodes edges' node_head edge_head nodes_counted edges_counted
      (stored_graph end nodes edges' node_head edge_head)
  Stores-edges_rewritten = Stores-mapped edges_stored end node_head edge_head

  pub RewritesEdges-stored : RewritesEdges of step f (stored_graph end nodes edges node_head edge_head)
      (stored_graph end nodes edges' node_head edge_head)
  RewritesEdges-stored =
      let m = IsMapped-stored edges_stored end node_head edge_head in (
        map plain_edge edges',
        written,
        same_graph _ refl refl m.out_lists m.in_lists m.vacant_nodes m.vacant_edges,
      )
