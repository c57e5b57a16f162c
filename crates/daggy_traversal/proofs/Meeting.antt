-- How the neighbors of a node are met, one after the other.
use Rattle.std.proofs.Common.{◌≡◌, ℕ, ◌<◌, ◌≤◌, Bool, true, false, ◌⊎◌, ◌↔◌, List, [], ◌∷◌, ◌++◌, length, sym, ap, subst, ◌∙◌}
use Rattle.std.proofs.Common.{arith}
use Rattle.daggy_base.specs.declared.index.Direction.{Direction}
use Rattle.daggy_base.specs.Graph.{Graph, node_bound}
use Rattle.daggy_base.specs.WellFormed.{IsWellFormed}
use Rattle.daggy_visit.specs.Visit.{IsVisited}
use Rattle.daggy_traversal.specs.Traversal.{IsNeighbor, neighbors_left}
use Rattle.daggy_traversal.specs.Traversal.{AreMarked}
use Rattle.daggy_traversal.proofs.Edges.{left_next, neighbor_low}
use Rattle.daggy_traversal.proofs.Fresh.{with_fresh, met_already, met_now}
use Rattle.daggy_traversal.proofs.Marks.{marked_again, marked_more, marked_room, was_new, listed, unlisted}

-- at the edge e the nodes of the queue have been met, and all are met in the end
pub record Meeting {N E : Type 0} (dir : Direction) (g : Graph N E) (all : List ℕ) (bound : ℕ) (met : List Bool)
    (queue : List ℕ) (e : ℕ) : Type 0 where
  pub whole : with_fresh queue (neighbors_left dir g e) ≡ all
  pub marked : AreMarked met queue
  pub sized : length met ≡ bound

module _ {N E : Type 0} {end : ℕ} {g : Graph N E} (w : IsWellFormed end g) (dir : Direction) {all : List ℕ} {bound : ℕ}
    {met : List Bool} {queue : List ℕ} {e : ℕ} (s : Meeting dir g all bound met queue e) (fits : node_bound g ≤ bound)
    {v next : ℕ} (found : IsNeighbor dir end g e v next) where
  pub neighbor_fits : v < length met
  neighbor_fits = omega (arith, neighbor_low w dir found, s.sized)

  pub one_less : length (neighbors_left dir g next) < length (neighbors_left dir g e)
  one_less = omega (arith, ap (λ z. length z) (left_next w dir found))

  module _ {answer : Bool} (says : (answer ≡ false) ↔ IsVisited met v) where
    pub neighbor_room : answer ≡ true → length queue < bound
    neighbor_room new = omega (arith, marked_room s.marked v (was_new says new) neighbor_fits, s.sized)

    module _ (met' : List Bool) (visited : (m : ℕ) → IsVisited met' m ↔ ((m ≡ v) ⊎ IsVisited met m))
        (same_size : length met' ≡ length met) where
      pub meets_more : answer ≡ true → {queue' : List ℕ} {x : ℕ}
          → queue' ≡ queue ++ x ∷ [] → x ≡ v → Meeting dir g all bound met' queue' next
      meets_more new {queue'} {x} pushed is =
          let unmet : IsVisited met v → ⊥ = was_new says new in
          let push : queue' ≡ queue ++ v ∷ [] = pushed ∙ ap (λ z. queue ++ z ∷ []) is in
          let P : List ℕ → Type 0 = λ z. AreMarked met' z in
          record {
            whole =
                ap (λ z. with_fresh z (neighbors_left dir g next)) push
                ∙ (sym (met_now queue (neighbors_left dir g next) v (unlisted s.marked v unmet))
                ∙ (ap (λ z. with_fresh queue z) (sym (left_next w dir found)) ∙ s.whole));
            marked = subst P (sym push) (marked_more s.marked v visited unmet);
            sized = same_size ∙ s.sized;
          }

      pub meets_again : answer ≡ false → Meeting dir g all bound met' queue next
      meets_again old =
          let there : IsVisited met v = says.0 old in
          record {
            whole =
                sym (met_already queue (neighbors_left dir g next) v (listed s.marked v there))
                ∙ (ap (λ z. with_fresh queue z) (sym (left_next w dir found)) ∙ s.whole);
            marked = marked_again s.marked v visited there;
            sized = same_size ∙ s.sized;
          }
