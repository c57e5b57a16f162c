-- The first and the last node of a path exist.
use Rattle.std.proofs.Common.{ℕ, List, [], ◌∷◌, subst}
use Rattle.daggy_base.specs.Graph.{Graph, HasNode}
use Rattle.daggy_base.specs.Path.{IsPath, Reaches, end_of}

module _ {N E : Type 0} (g : Graph N E) where
  pub path_begins : (u : ℕ) (rest : List ℕ) → IsPath g (u ∷ rest) → HasNode g u
  path_begins u [] p = p
  path_begins u (v ∷ rest) p = p.0

  pub path_ends : (u : ℕ) (rest : List ℕ) → IsPath g (u ∷ rest) → HasNode g (end_of u rest)
  path_ends u [] p = p
  path_ends u (v ∷ rest) p = path_ends v rest p.2

  pub reached_exists : (u v : ℕ) → Reaches g u v → HasNode g v
  reached_exists u v r = let P : ℕ → Type 0 = λ z. HasNode g z in subst P r.2 (path_ends u r.0 r.1)
