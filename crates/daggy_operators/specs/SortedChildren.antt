-- The children of a node, sorted by keys.
use Rattle.std.specs.Prelude.{◌≡◌, ℕ, ◌+◌, ◌<◌, ◌≤◌, ◌⊎◌, Some, List, map, length, Contains, slice_get, slice_index_or}
use Rattle.std.specs.Borrow.{Bor}
use Rattle.std.specs.declared.cmp.Ordering.{Ordering}
use Rattle.std.specs.declared.cmp.Ordering.TheVariants.{Less, Equal}
use Rattle.daggy_base.specs.Graph.{Graph, Edge, edge_at, node_weight, out_list}
use Rattle.daggy_base.specs.Orders.{IsOrder}

-- an edge of a list: its key, its place in the list, and the edge
pub record Keyed (K : Type 0) : Type 0 where
  pub key : K
  pub place : ℕ
  pub edge : ℕ

-- p's key is less than q's, or they are equal and p's place is not behind q's
abbrev pub Precedes : {K : Type 0} → (cmp : K → K → Ordering) → (p q : Keyed K) → Type 0
Precedes cmp p q = (cmp p.key q.key ≡ Less) ⊎ ((cmp p.key q.key ≡ Equal) × (p.place ≤ q.place))

-- f may be called with each child of the node n and a `&` to its weight
abbrev pub CanCallAtChildren : {N E F I : Type 0} → (of : ℕ → I) → (pre : F → I → Bor N → Type 0) → F → Graph N E → (n : ℕ) → Type 0
CanCallAtChildren {N} {E} of pre f g n =
    (e : ℕ) (x : Edge E) (w : N) → Contains (out_list g n) e → edge_at g e ≡ Some x → node_weight g x.child ≡ Some w
    → (shown : Bor N) → shown.now ≡ w → pre f (of x.child) shown

module _ {N E F I K : Type 0} (of : ℕ → I) where
  -- the key may be what f returned for the child of the edge
  pub record HasKey (post : F → I → Bor N → K → Type 0) (f : F) (g : Graph N E) (p : Keyed K) : Type 0 where
    pub edge : Edge E
    pub at : edge_at g p.edge ≡ Some edge
    pub shown : Bor N
    pub weight : node_weight g edge.child ≡ Some shown.now
    pub returned : post f (of edge.child) shown p.key

  -- The edges of the old list in ascending order of keys that f returned for their children. Edges with equal keys are in
  -- the order of the old list.
  pub record IsSortedByKeys (post : F → I → Bor N → K → Type 0) (f : F) (cmp : K → K → Ordering) (g : Graph N E)
      (old new : List ℕ) : Type 0 where
    pub permuted : IsOrder old new
    pub keyed : List (Keyed K)
    pub edges : map (λ p. p.edge) keyed ≡ new
    pub keys : (p : Keyed K) → Contains keyed p → HasKey post f g p
    pub places : (p : Keyed K) → Contains keyed p → slice_get old p.place ≡ Some p.edge
    pub sorted : (k : ℕ) (d : Keyed K)
        → k + 1 < length keyed → Precedes cmp (slice_index_or keyed k d) (slice_index_or keyed (k + 1) d)

-- edges with their keys and places, by numbers
abbrev pub keyed_by : {K I : Type 0} → (number : I → ℕ) → List (K × (ℕ × I)) → List (Keyed K)
keyed_by number ps = map (λ p. record { key = p.0; place = p.1.0; edge = number p.1.1 }) ps
