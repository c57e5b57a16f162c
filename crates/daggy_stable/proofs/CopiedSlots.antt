-- Clones of slots: each weight is mapped to its clone.
use Rattle.std.proofs.Common.{◌≡◌, ℕ, List, map, Option, Some, None, refl, sym, ap, ◌∙◌}
use Rattle.std.specs.List.{AllZip}
use Rattle.std.specs.Option.{option_map}
use Rattle.daggy_base.specs.Copying.{clone_step}
use Rattle.daggy_base.specs.Graph.{Edge as PlainEdge}
use Rattle.daggy_base.specs.Mapping.{MapsSlots, weight_in, with_weight}
use Rattle.daggy_cells.specs.declared.cell.Node.{Node}
use Rattle.daggy_cells.specs.declared.cell.Edge.{Edge}
use Rattle.daggy_cells.proofs.CloneLemmas.{IsNodeClone, IsEdgeClone, AreCloned, slots_cloned}
use Rattle.daggy_stable.specs.Stored.{weight_of, plain_edge}

-- R says what the clone of a slot may be: one of the weight in it, and only vacant slots give vacant ones
module _ {W : Type 0} (R : Option W → Option W → Type 0) (is : W → W → Type 0)
    (some : (x y : W) → R (Some x) (Some y) → is x y) (more : (x : W) → R None (Some x) → ⊥)
    (fewer : (x : W) → R (Some x) None → ⊥) where
  node_cloned : (o p : Option W) → R o p → AreCloned is (λ w. w) (λ w v. v) o p
  node_cloned None None r = tt
  node_cloned None (Some y) r = absurd (more y r)
  node_cloned (Some x) None r = absurd (fewer x r)
  node_cloned (Some x) (Some y) r = (some x y r, refl)

  pub node_slots_cloned : {Ix : Type 0} (xs ys : List (Node (Option W) Ix)) → AllZip (IsNodeClone R) xs ys
      → MapsSlots (clone_step is) (λ n. n) (λ w. w) (λ w v. v) tt 0 (map weight_of xs) (map weight_of ys)
  node_slots_cloned =
      slots_cloned is (λ w. w) (λ w v. v) (IsNodeClone R) weight_of (λ x y r. node_cloned x.weight y.weight r.0) 0

  abbrev edge_of : ℕ → ℕ → W → PlainEdge W
  edge_of a b w = record { parent = a; child = b; weight = w }

  edge_cloned : {a b a' b' : ℕ} → a ≡ a' → b ≡ b' → (o p : Option W) → R o p
      → AreCloned is weight_in with_weight (option_map (edge_of a b) o) (option_map (edge_of a' b') p)
  edge_cloned q s None None r = tt
  edge_cloned q s None (Some y) r = absurd (more y r)
  edge_cloned q s (Some x) None r = absurd (fewer x r)
  edge_cloned {a} {b} {a'} {b'} q s (Some x) (Some y) r =
      (some x y r, ap (λ z. edge_of z b' y) (sym q) ∙ ap (λ z. edge_of a z y) (sym s))

  pub edge_slots_cloned : {Ix : Type 0} (xs ys : List (Edge (Option W) Ix)) → AllZip (IsEdgeClone R) xs ys
      → MapsSlots (clone_step is) (λ n. n) weight_in with_weight tt 0 (map plain_edge xs) (map plain_edge ys)
  edge_slots_cloned =
      slots_cloned is weight_in with_weight (IsEdgeClone R) plain_edge
      (λ x y r. edge_cloned r.1.0 r.1.1.0 x.weight y.weight r.0) 0
