-- Another weight at an edge changes no path.
use Rattle.std.proofs.Common.{ℕ, inl, inr, ap, subst}
use Rattle.std.specs.Option.{option_map}
use Rattle.daggy_base.specs.Graph.{Graph, Edge, edge_at}
use Rattle.daggy_base.specs.Path.{AreJoined}
use Rattle.daggy_base.specs.Weights.{with_edge_weight, edge_with_weight}
use Rattle.daggy_base.proofs.PathsWithoutEdge.{slot_put}
use Rattle.daggy_base.proofs.PathsWithoutNode.{from_map}

pub joined_before : {N E : Type 0} (g : Graph N E) (e : ℕ) (w : E) (u v : ℕ)
    → AreJoined (with_edge_weight g e w) u v → AreJoined g u v
joined_before {N} {E} g e w u v j =
    elim (slot_put g.edges e j.0 (option_map (edge_with_weight w) (edge_at g e)) _ j.2) [
      | inl new ↦
          let old = from_map (edge_with_weight w) (edge_at g e) _ new in
          let P : ℕ → Type 0 = λ z. AreJoined g z v in
          let Q : ℕ → Type 0 = λ z. AreJoined g old.0.parent z in
          subst P (ap (λ (x : Edge E). x.parent) old.2)
          (subst Q (ap (λ (x : Edge E). x.child) old.2) (e, old.0.weight, old.1))
      | inr kept ↦ (j.0, j.1, kept)
    ]
