-- The edges that enter a node, replaced all at once.
use Rattle.std.specs.Prelude.{◌≡◌, ◌≢◌, ℕ, ◌↔◌, List, Some, map, Contains}
use Rattle.daggy_base.specs.Graph.{Graph, Edge, edge_at, in_list}
use Rattle.daggy_base.specs.Path.{Reaches}
use Rattle.daggy_base.specs.Adding.{NewEdge}
use Rattle.daggy_base.specs.Iterating.{edges_at}
use Rattle.daggy_base.specs.Reduction.{IsDescending}
use Rattle.daggy_base.specs.Removal.{without_edges}
use Rattle.daggy_base.specs.declared.kind.Kind.{Kind}
use Rattle.daggy_base.specs.declared.index.Direction.TheVariants.{Incoming}
use Rattle.daggy_base.specs.declared.error.ParentsError.{ParentsError}
use Rattle.daggy_base.specs.declared.error.ParentsError.TheVariants.{WouldCycle, Full, Memory}
use Rattle.daggy_guard.specs.EdgeBatch.{with_edges}

-- an edge to n from the parent of each item, with its weight
abbrev pub edges_to : {I E : Type 0} → (number : I → ℕ) → ℕ → List (I × E) → List (NewEdge E)
edges_to number n items = map (λ x. (number x.0, n, x.1)) items

-- n reaches the parent of some item, so an edge from it to n would close a cycle
abbrev pub ReachesParent : {I N E : Type 0} → (number : I → ℕ) → Graph N E → ℕ → List (I × E) → Type 0
ReachesParent {I} {N} {E} number g n items = (x : I × E) × Contains items x × Reaches g n (number x.0)

-- new is old with the edges xs added, and then without the edges that entered n before, removed from the highest index
-- down
pub record HasParentsSet {N E : Type 0} (kind : Kind) (n : ℕ) (xs : List (NewEdge E)) (old new : Graph N E)
    : Type 0 where
  pub replaced : List ℕ
  pub descending : IsDescending replaced
  pub exact : (e : ℕ) → Contains replaced e ↔ Contains (in_list old n) e
  pub new_is : new ≡ without_edges kind (with_edges old xs) replaced

-- the edges that enter a node, newest first: the parent and the weight of each
abbrev pub entering : {N E : Type 0} → Graph N E → ℕ → List (ℕ × E)
entering g n = map (λ p. (p.1.parent, p.1.weight)) (edges_at Incoming g n)

-- memory ran out, and the error holds the items
abbrev pub IsMemory : {I E : Type 0} → List (I × E) → ParentsError E I → Type 0
IsMemory items (WouldCycle back) = ⊥
IsMemory items (Full back) = ⊥
IsMemory items (Memory back) = back.items ≡ items

-- an edge that does not enter n exists if and only if it existed at the same index, with the same endpoints and weight
abbrev pub KeepsOtherEdges : {N E : Type 0} → ℕ → (old new : Graph N E) → Type 0
KeepsOtherEdges {N} {E} n old new =
    (e : ℕ) (x : Edge E) → x.child ≢ n → (edge_at new e ≡ Some x) ↔ (edge_at old e ≡ Some x)
