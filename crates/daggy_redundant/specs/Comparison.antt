-- Graphs compared by their nodes, their joined pairs and their reachability.
use Rattle.std.specs.Prelude.{ℕ, ◌<◌, ◌↔◌, List, [], ◌∷◌}
use Rattle.daggy_base.specs.Graph.{Graph, HasNode}
use Rattle.daggy_base.specs.Path.{AreJoined, Reaches}
use Rattle.daggy_base.specs.declared.kind.Kind.{Kind}
use Rattle.daggy_base.specs.WellFormed.{IsDag}
use Rattle.daggy_base.specs.Reduction.{IsBelow, IsRedundant, IsReduction, Covers}

module _ {N E M F : Type 0} (g : Graph N E) (h : Graph M F) where
  -- the same nodes exist
  abbrev pub HaveSameNodes : Type 0
  HaveSameNodes = (n : ℕ) → HasNode g n ↔ HasNode h n

  -- h joins all pairs that g joins
  abbrev pub JoinsAll : Type 0
  JoinsAll = (u v : ℕ) → AreJoined g u v → AreJoined h u v

  -- both join the same pairs
  abbrev pub JoinSamePairs : Type 0
  JoinSamePairs = (u v : ℕ) → AreJoined g u v ↔ AreJoined h u v

  -- both have the same reachability
  abbrev pub HaveSameReachability : Type 0
  HaveSameReachability = (u v : ℕ) → Reaches g u v ↔ Reaches h u v

-- each element is greater than the one before it
abbrev pub IsAscending : List ℕ → Type 0
IsAscending [] = Unit {0}
IsAscending (x ∷ []) = Unit {0}
IsAscending (x ∷ y ∷ xs) = (x < y) × IsAscending (y ∷ xs)

-- each node is reachable from an existing root
abbrev pub ReachAll : {N E : Type 0} → Graph N E → List ℕ → Type 0
ReachAll g roots = (n : ℕ) → HasNode g n → IsBelow g roots n

-- below the roots, new joins two nodes if and only if one covers the other in old
abbrev pub JoinsCovers : {N E : Type 0} → (roots : List ℕ) (old new : Graph N E) → Type 0
JoinsCovers roots old new = (u v : ℕ) → IsBelow old roots u → AreJoined new u v ↔ Covers old u v

-- elsewhere, new joins the same pairs as old
abbrev pub JoinsOthers : {N E : Type 0} → (roots : List ℕ) (old new : Graph N E) → Type 0
JoinsOthers roots old new = (u v : ℕ) → ¬ IsBelow old roots u → AreJoined new u v ↔ AreJoined old u v

-- every graph with the same reachability joins the pairs that new joins below the roots
abbrev pub IsLeast : {N E : Type 0} → (roots : List ℕ) (old new : Graph N E) → Type 0
IsLeast {N} {E} roots old new =
    (h : Graph N E) → HaveSameReachability old h → (u v : ℕ) → IsBelow old roots u → AreJoined new u v → AreJoined h u v

-- no edge is redundant below the roots
abbrev pub HasNoneRedundant : {N E : Type 0} → (roots : List ℕ) → Graph N E → Type 0
HasNoneRedundant roots g = (e : ℕ) → ¬ IsRedundant g roots e

-- h is a dag on the nodes of old, and h' is its reduction from roots that reach all of its nodes
pub record IsReducedFrom {N E : Type 0} (limit : ℕ) (old : Graph N E) (h h' : Graph N E) : Type 0 where
  pub dag : IsDag limit h
  pub nodes : HaveSameNodes old h
  pub kind : Kind
  pub roots : List ℕ
  pub all : ReachAll h roots
  pub reduced : IsReduction kind roots h h'

-- If the roots reach all nodes: new joins the same pairs as the reduction of another dag on the same nodes if and only
-- if old has the same reachability as that dag.
abbrev pub IsCanonical : {N E : Type 0} → (limit : ℕ) (roots : List ℕ) (old new : Graph N E) → Type 0
IsCanonical {N} {E} limit roots old new =
    ReachAll old roots → (h h' : Graph N E) → IsReducedFrom limit old h h'
    → JoinSamePairs new h' ↔ HaveSameReachability old h

-- shape is the reduction of a dag with the nodes and the reachability of g, from roots that reach all nodes
pub record IsReducedShape {N E M F : Type 0} (limit : ℕ) (g : Graph N E) (shape : Graph M F) : Type 0 where
  pub whole : Graph M F
  pub dag : IsDag limit whole
  pub nodes : HaveSameNodes g whole
  pub reachability : HaveSameReachability g whole
  pub kind : Kind
  pub roots : List ℕ
  pub all : ReachAll whole roots
  pub reduced : IsReduction kind roots whole shape
