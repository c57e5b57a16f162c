-- One step along the list of a node.
use Rattle.std.proofs.Common.{◌≡◌, ℕ, ◌<◌, Option, Some, None, [], ◌∷◌, length, refl, sym, ap, subst, ◌∙◌, arith}
use Rattle.std.specs.Option.{option_map}
use Rattle.std.proofs.lemmas.Option.{same_Some}
use Rattle.daggy_base.specs.declared.index.Direction.{Direction}
use Rattle.daggy_base.specs.declared.index.Direction.TheVariants.{Outgoing, Incoming}
use Rattle.daggy_base.specs.Cursor.{IsWalkStep, item_at}
use Rattle.daggy_base.specs.Graph.{Graph, Edge, HasNode, edge_at, pair_of, far_end}
use Rattle.daggy_base.specs.WellFormed.{IsWellFormed}
use Rattle.daggy_dag.specs.Walks.{rest_of_walk}
use Rattle.daggy_dag.proofs.WalkSteps.{step_gives}
use Rattle.daggy_computed.specs.Marking.{far_nodes, end_before}

module _ {N E I : Type 0} (number : I → ℕ) (dir : Direction) {end : ℕ} {g : Graph N E} (w : IsWellFormed end g)
    {cursor next : ℕ} where
  -- nothing is left
  pub over : (item : Option (I × I)) → item ≡ None → IsWalkStep dir end g cursor (option_map (pair_of number) item) next
      → rest_of_walk dir g cursor ≡ []
  over item is s =
      (step_gives end g w dir cursor None next
      (subst (λ z. IsWalkStep dir end g cursor (option_map (pair_of number) z) next) is s)).0

  module _ (item : I × I) (s : IsWalkStep dir end g cursor (Some (pair_of number item)) next) where
    pub ahead : rest_of_walk dir g cursor ≡ number item.0 ∷ rest_of_walk dir g next
    ahead = step_gives end g w dir cursor (Some (pair_of number item)) next s

    pub shorter : length (rest_of_walk dir g next) < length (rest_of_walk dir g cursor)
    shorter = omega (arith, ap length ahead)

    edge_there : (o : Option (Edge E)) → edge_at g cursor ≡ o → Some (pair_of number item) ≡ item_at dir g cursor o
        → (x : Edge E) × (edge_at g (number item.0) ≡ Some x) × (far_end dir x ≡ number item.1)
    edge_there None h is = absurd cc
    edge_there (Some x) h is =
        let pair = same_Some (pair_of number item) (cursor, far_end dir x) is in
        (x, ap (λ z. edge_at g z.0) pair ∙ h, sym (ap (λ z. z.1) pair))

    pub edge : (x : Edge E) × (edge_at g (number item.0) ≡ Some x) × (far_end dir x ≡ number item.1)
    edge = edge_there (edge_at g cursor) refl s.item_is

    pub far_ahead : far_nodes dir g (rest_of_walk dir g cursor) ≡ number item.1 ∷ far_nodes dir g (rest_of_walk dir g next)
    far_ahead =
        let rest = far_nodes dir g (rest_of_walk dir g next) in
        ap (far_nodes dir g) ahead ∙ (ap (λ z. end_before dir z rest) edge.1 ∙ ap (λ z. z ∷ rest) edge.2)

    far_there : (d : Direction) (x : Edge E) (e : ℕ) → edge_at g e ≡ Some x → HasNode g (far_end d x)
    far_there Outgoing x e h = w.children e x h
    far_there Incoming x e h = w.parents e x h

    pub far_exists : HasNode g (number item.1)
    far_exists = subst (HasNode g) edge.2 (far_there dir edge.0 (number item.0) edge.1)
