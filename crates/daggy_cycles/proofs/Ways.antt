-- Edges that follow each other, and paths.
use Rattle.std.proofs.Common.{◌≡◌, ℕ, List, [], ◌∷◌, Some, sym, subst}
use Rattle.daggy_base.specs.Graph.{Graph, Edge, HasNode, edge_at}
use Rattle.daggy_base.specs.Path.{AreJoined, Reaches}
use Rattle.daggy_base.specs.WellFormed.{IsWellFormed}
use Rattle.daggy_base.proofs.PathsWithEdge.{reaches_itself, reaches_before}
use Rattle.daggy_cycles.specs.EdgeWays.{Lead}

-- an edge joins its ends
pub joins : {N E : Type 0} (g : Graph N E) (e : ℕ) (x : Edge E) → edge_at g e ≡ Some x → AreJoined g x.parent x.child
joins g e x at = (e, x.weight, at)

-- what an edge that joins two nodes is
pub joins_at : {N E : Type 0} (g : Graph N E) (e u v : ℕ) (x : Edge E)
    → edge_at g e ≡ Some x → x.parent ≡ u → x.child ≡ v → AreJoined g u v
joins_at g e u v x at from to =
    let P : ℕ → Type 0 = λ z. AreJoined g z v in
    let Q : ℕ → Type 0 = λ z. AreJoined g x.parent z in
    subst P from (subst Q to (joins g e x at))

module _ {N E : Type 0} {end : ℕ} {g : Graph N E} (w : IsWellFormed end g) where
  pub lead_reaches : (way : List ℕ) (u v : ℕ) → HasNode g v → Lead g way u v → Reaches g u v
  lead_reaches [] u v h l = let P : ℕ → Type 0 = λ z. Reaches g z v in subst P (sym l) (reaches_itself g v h)
  lead_reaches (e ∷ es) u v h l =
      let x = l.0 in
      let P : ℕ → Type 0 = λ z. Reaches g z v in
      subst P l.2 (reaches_before g x.parent x.child v (w.parents e x l.1) (joins g e x l.1)
      (lead_reaches es x.child v h l.3))
