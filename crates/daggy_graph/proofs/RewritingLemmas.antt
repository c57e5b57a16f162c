-- What stays of a stored graph when its weights are written.
use Rattle.std.proofs.Common.{◌≡◌, ℕ, List, map, refl, ◌⊎◌, inl, inr}
use Rattle.std.specs.Borrow.{MutBor}
use Rattle.daggy_base.specs.declared.index.Direction.{Direction}
use Rattle.daggy_base.specs.declared.index.Direction.TheVariants.{Outgoing, Incoming}
use Rattle.daggy_cells.specs.declared.cell.Node.{Node}
use Rattle.daggy_cells.specs.declared.cell.Edge.{Edge}
use Rattle.daggy_base.specs.Mapping.{MapsSlots, weight_in, with_weight}
use Rattle.daggy_cells.specs.Raw.{raw_next}
use Rattle.daggy_base.specs.Rewriting.{Leaves, RewritesNodes, RewritesEdges}
use Rattle.daggy_cells.specs.Fields.{end_at, firsts_of, nexts_of, ends_of, weight_of, plain_edge}
use Rattle.daggy_cells.proofs.FieldLemmas.{same_graph}
use Rattle.daggy_graph.specs.Stored.{stored_graph, Stores}
use Rattle.daggy_graph.proofs.MappingLemmas.{same_rows, Stores-relinked}

-- a stored graph whose nodes were rewritten
module _ {N E Ix F I : Type 0} (step : F → I → MutBor N → Unit {0} → MutBor N → F → Type 0) (of : ℕ → I) (f : F)
    (nodes nodes' : List (Node N Ix)) (edges : List (Edge E Ix))
    (written : MapsSlots (Leaves step) of (λ w. w) (λ w v. v) f 0 (map weight_of nodes) (map weight_of nodes'))
    (firsts : (d : Direction) → firsts_of d nodes' ≡ firsts_of d nodes) where
  pub Stores-nodes_rewritten : (end : ℕ)
      → Stores end nodes edges (stored_graph nodes edges) → Stores end nodes' edges (stored_graph nodes' edges)
  Stores-nodes_rewritten end s = Stores-relinked end nodes edges nodes' edges firsts (λ d. refl) (λ d. refl) s

  pub RewritesNodes-stored : RewritesNodes of step f (stored_graph nodes edges) (stored_graph nodes' edges)
  RewritesNodes-stored = (
    map weight_of nodes',
    written,
    same_graph _ refl refl
        (same_rows 0 nodes edges nodes' edges firsts (λ d. refl) Outgoing)
        (same_rows 0 nodes edges nodes' edges firsts (λ d. refl) Incoming) refl refl,
  )

-- a stored graph whose edges were rewritten
module _ {N E Ix F I : Type 0} (step : F → I → MutBor E → Unit {0} → MutBor E → F → Type 0) (of : ℕ → I) (f : F)
    (nodes : List (Node N Ix)) (edges edges' : List (Edge E Ix))
    (written : MapsSlots (Leaves step) of weight_in with_weight f 0 (map plain_edge edges) (map plain_edge edges'))
    (nexts : (d : Direction) → nexts_of d edges' ≡ nexts_of d edges)
    (ends : (d : Direction) → ends_of d edges' ≡ ends_of d edges) where
  pub Stores-edges_rewritten : (end : ℕ)
      → Stores end nodes edges (stored_graph nodes edges) → Stores end nodes edges' (stored_graph nodes edges')
  Stores-edges_rewritten end s = Stores-relinked end nodes edges nodes edges' (λ d. refl) nexts ends s

  pub RewritesEdges-stored : RewritesEdges of step f (stored_graph nodes edges) (stored_graph nodes edges')
  RewritesEdges-stored = (
    map plain_edge edges',
    written,
    same_graph _ refl refl
        (same_rows 0 nodes edges nodes edges' (λ d. refl) nexts Outgoing)
        (same_rows 0 nodes edges nodes edges' (λ d. refl) nexts Incoming) refl refl,
  )
