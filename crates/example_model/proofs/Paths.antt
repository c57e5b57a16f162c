-- Paths in small graphs.
use Rattle.std.proofs.Common.{ℕ, List, [], ◌∷◌, refl}
use Rattle.std.proofs.lemmas.Bool.{false≢true}
use Rattle.daggy_base.specs.Graph.{Graph, HasNode}
use Rattle.daggy_base.specs.Path.{IsPath, Reaches, IsAcyclic}
use Rattle.example_model.specs.Examples.{line, nothing, one_node, self_loop, with_lines, fan, chain, ring}
use Rattle.example_model.specs.Examples.{shortcuts, diamond}
use Rattle.example_model.proofs.Checks.{not_reached, acyclic_if_ascending}

first_exists : (g : Graph ℕ ℕ) (u : ℕ) (rest : List ℕ) → IsPath g (u ∷ rest) → HasNode g u
first_exists g u [] p = p
first_exists g u (v ∷ rest) p = p.0

pub one_reaches_itself : Reaches one_node 0 0
one_reaches_itself = ([], refl, refl)

pub nothing_reaches_none : Reaches nothing 0 0 → ⊥
nothing_reaches_none r = false≢true (first_exists nothing 0 r.0 r.1)

pub missing_reaches_none : Reaches chain 9 9 → ⊥
missing_reaches_none r = false≢true (first_exists chain 9 r.0 r.1)

pub chain_reaches_its_end : Reaches chain 0 2
chain_reaches_its_end = (1 ∷ 2 ∷ [], (refl, (0, 10, refl), (refl, (1, 20, refl), refl)), refl)

pub ring_reaches_round : Reaches ring 2 1
ring_reaches_round = (0 ∷ 1 ∷ [], (refl, (2, 30, refl), (refl, (0, 10, refl), refl)), refl)

pub chain_reaches_no_start : Reaches chain 2 0 → ⊥
chain_reaches_no_start = not_reached chain 1 2 0 refl refl refl

pub siblings_reach_not : Reaches diamond 2 1 → ⊥
siblings_reach_not = not_reached diamond 1 2 1 refl refl refl

pub self_loop_is_cyclic : IsAcyclic self_loop → ⊥
self_loop_is_cyclic h = h 0 0 [] (refl, (0, 9, refl), refl) refl

pub ring_is_cyclic : IsAcyclic ring → ⊥
ring_is_cyclic h = h 0 1 (2 ∷ 0 ∷ []) (refl, (0, 10, refl), (refl, (1, 20, refl), (refl, (2, 30, refl), refl))) refl

pub fan_is_acyclic : IsAcyclic fan
fan_is_acyclic = acyclic_if_ascending fan refl

pub shortcuts_are_acyclic : IsAcyclic shortcuts
shortcuts_are_acyclic = acyclic_if_ascending shortcuts refl

pub fan_with_a_loop_is_cyclic : IsAcyclic (with_lines (line 3 3 3 ∷ []) fan) → ⊥
fan_with_a_loop_is_cyclic h = h 3 3 [] (refl, (3, 3, refl), refl) refl

pub fan_with_a_way_back_is_cyclic : IsAcyclic (with_lines (line 3 0 3 ∷ []) fan) → ⊥
fan_with_a_way_back_is_cyclic h = h 0 3 (0 ∷ []) (refl, (2, 30, refl), (refl, (3, 3, refl), refl)) refl
