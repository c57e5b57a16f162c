-- Edges that follow each other.
use Rattle.std.specs.Prelude.{◌≡◌, ℕ, List, [], ◌∷◌, Some}
use Rattle.daggy_base.specs.Graph.{Graph, Edge, edge_at}

-- these edges lead from u to v, each from where the one before it leads
abbrev pub Lead : {N E : Type 0} → Graph N E → List ℕ → (u v : ℕ) → Type 0
Lead g [] u v = u ≡ v
Lead {N} {E} g (e ∷ es) u v = (x : Edge E) × (edge_at g e ≡ Some x) × (x.parent ≡ u) × Lead g es x.child v
