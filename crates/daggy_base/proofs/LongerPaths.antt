-- Paths that one more edge extends.
use Rattle.std.proofs.Common.{◌≡◌, ℕ, List, [], ◌∷◌, ◌++◌, refl, sym, subst}
use Rattle.daggy_base.specs.Graph.{Graph, HasNode}
use Rattle.daggy_base.specs.Path.{AreJoined, IsPath, Reaches, end_of}

pub path_more : {N E : Type 0} (g : Graph N E) (u : ℕ) (rest : List ℕ) (v w : ℕ)
    → IsPath g (u ∷ rest) → end_of u rest ≡ v → AreJoined g v w → HasNode g w
    → IsPath g (u ∷ (rest ++ w ∷ [])) × (end_of u (rest ++ w ∷ []) ≡ w)
path_more g u [] v w p e j h = let P : ℕ → Type 0 = λ z. AreJoined g z w in ((p, subst P (sym e) j, h), refl)
path_more g u (x ∷ rest) v w p e j h = let more = path_more g x rest v w p.2 e j h in ((p.0, p.1, more.0), more.1)

pub reaches_more : {N E : Type 0} (g : Graph N E) (u v w : ℕ)
    → Reaches g u v → AreJoined g v w → HasNode g w → Reaches g u w
reaches_more g u v w r j h = let more = path_more g u r.0 v w r.1 r.2 j h in (r.0 ++ w ∷ [], more.0, more.1)
