-- A dag of the first weights of a list.
use Rattle.std.proofs.Common.{◌≡◌, ℕ, ◌+◌, ◌<◌, List, [], ◌∷◌, ◌++◌, map, take, length, get_or, Some, ap, ◌∙◌, sym}
use Rattle.std.proofs.lemmas.List.{map_push, take_more}
use Rattle.daggy_base.specs.Adding.{with_node, with_slot_filled, remaining_vacant}
use Rattle.daggy_base.specs.Graph.{Graph}

-- the nodes have the first k weights, and there are no edges and no vacant slots
pub record HasFirst {E : Type 0} (weights : List ℕ) (k : ℕ) (g : Graph ℕ E) : Type 0 where
  pub nodes : g.nodes ≡ map Some (take k weights)
  pub edges : g.edges ≡ []
  pub vacant : g.vacant_nodes ≡ []

-- after the next weight was added
pub one_node : {E : Type 0} (weights : List ℕ) (k : ℕ) (g h : Graph ℕ E) → HasFirst weights k g → k < length weights
    → h ≡ with_node g (get_or weights k 0) → HasFirst weights (k + 1) h
one_node weights k g h first low e =
    let w = get_or weights k 0 in
    record {
      nodes =
          ap (λ z. z.nodes) e ∙ (ap (λ z. with_slot_filled g.nodes z (Some w)) first.vacant
          ∙ (ap (λ z. z ++ Some w ∷ []) first.nodes
          ∙ (sym (map_push Some (take k weights) w) ∙ ap (map Some) (sym (take_more weights k 0 low)))));
      edges = ap (λ z. z.edges) e ∙ first.edges;
      vacant = ap (λ z. z.vacant_nodes) e ∙ ap remaining_vacant first.vacant;
    }
