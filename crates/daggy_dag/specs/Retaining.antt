-- The graph after a closure was called for each node, or for each edge, to decide whether it stays.
use Rattle.std.specs.Prelude.{◌≡◌, ℕ, zero, suc, Bool, if◌then◌else◌, Option, Some, None, List, length}
use Rattle.std.specs.Borrow.{Bor}
use Rattle.std.specs.Iterator.{CallableAtEachTurn, YieldsLast}
use Rattle.daggy_base.specs.declared.kind.Kind.{Kind}
use Rattle.daggy_base.specs.CallsInTurn.{TakesSlot, CalledAtSlot}
use Rattle.daggy_base.specs.Graph.{Graph, node_weight, edge_at}
use Rattle.daggy_base.specs.Iterating.{numbered}
use Rattle.daggy_base.specs.Mapping.{CalledAt, weight_in}
use Rattle.daggy_base.specs.Removal.{without_node, without_edge}

module _ {F I W A : Type 0} (of : ℕ → I) (pre : F → I → Bor W → Type 0)
    (step : F → I → Bor W → Bool → F → Type 0) (weight : A → W) where
  -- f may be called for each occupied slot, the last one first, whatever it returned before
  abbrev pub CanAskDown : List (Option A) → F → List (ℕ × A) → Type 0
  CanAskDown slots f left =
      CallableAtEachTurn (YieldsLast (λ l. l)) (CalledAtSlot of pre step weight) (TakesSlot of pre step weight slots) left f

module _ {F I W A G : Type 0} (of : ℕ → I) (step : F → I → Bor W → Bool → F → Type 0) (weight : A → W)
    (at : G → ℕ → Option A) (removed : G → ℕ → G) where
  -- f was called with what is at n, if anything is, and became next; h is g without it if f returned false
  abbrev pub Asks : F → G → ℕ → Option A → F → G → Type 0
  Asks f g n None next h = (next ≡ f) × (h ≡ g)
  Asks f g n (Some x) next h =
      (stays : Bool) × CalledAt step of f n (weight x) stays next × (h ≡ (if stays then g else removed g n))

  -- f was called with all that is below n, the last one first, and h is what remained
  abbrev pub AsksDown : F → G → ℕ → G → Type 0
  AsksDown f g zero h = h ≡ g
  AsksDown f g (suc n) h = (next : F) × (left : G) × Asks f g n (at g n) next left × AsksDown next left n h

module _ {N E F I : Type 0} (of : ℕ → I) where
  -- f may be called for each node in descending index order, whatever it returned before
  abbrev pub CanAskNodes : (pre : F → I → Bor N → Type 0) → (step : F → I → Bor N → Bool → F → Type 0)
      → F → Graph N E → Type 0
  CanAskNodes pre step f g = CanAskDown of pre step (λ w. w) g.nodes f (numbered 0 g.nodes)

  -- the same for edges
  abbrev pub CanAskEdges : (pre : F → I → Bor E → Type 0) → (step : F → I → Bor E → Bool → F → Type 0)
      → F → Graph N E → Type 0
  CanAskEdges pre step f g = CanAskDown of pre step weight_in g.edges f (numbered 0 g.edges)

  -- f was called for each node in descending index order, and each node for which it returned false was removed with
  -- its edges
  abbrev pub RetainsNodes : (step : F → I → Bor N → Bool → F → Type 0) → Kind → F → Graph N E → Graph N E → Type 0
  RetainsNodes step kind f g h = AsksDown of step (λ w. w) node_weight (without_node kind) f g (length g.nodes) h

  -- the same for edges
  abbrev pub RetainsEdges : (step : F → I → Bor E → Bool → F → Type 0) → Kind → F → Graph N E → Graph N E → Type 0
  RetainsEdges step kind f g h = AsksDown of step weight_in edge_at (without_edge kind) f g (length g.edges) h
