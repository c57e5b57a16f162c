-- The graph after a closure was called with a `&mut` to each weight in turn.
use Rattle.std.specs.Prelude.{◌≡◌, ℕ, Option, List}
use Rattle.std.specs.Borrow.{Bor, MutBor}
use Rattle.daggy_base.specs.Graph.{Graph, Edge}
use Rattle.daggy_base.specs.Mapping.{MapsSlots, weight_in, with_weight}

module _ {F I W : Type 0} (step : F → I → MutBor W → Unit {0} → MutBor W → F → Type 0) where
  -- the call left this weight behind the `&mut`
  abbrev pub Leaves : F → I → Bor W → W → F → Type 0
  Leaves f i shown w next =
      (lent : MutBor W) × (left : MutBor W) × (lent.now ≡ shown.now) × (left.now ≡ w) × step f i lent tt left next

module _ {N E F I : Type 0} (of : ℕ → I) where
  -- f was called for each node in ascending index order, and each node has the weight that its call left. Nothing else
  -- changed
  abbrev pub RewritesNodes : (step : F → I → MutBor N → Unit {0} → MutBor N → F → Type 0)
      → F → Graph N E → Graph N E → Type 0
  RewritesNodes step f old new =
      (nodes : List (Option N)) × MapsSlots (Leaves step) of (λ w. w) (λ w v. v) f 0 old.nodes nodes
      × (new ≡ record old { nodes = nodes })

  -- the same for edges
  abbrev pub RewritesEdges : (step : F → I → MutBor E → Unit {0} → MutBor E → F → Type 0)
      → F → Graph N E → Graph N E → Type 0
  RewritesEdges step f old new =
      (edges : List (Option (Edge E))) × MapsSlots (Leaves step) of weight_in with_weight f 0 old.edges edges
      × (new ≡ record old { edges = edges })
