-- A node more, by paths.
use Rattle.std.proofs.Common.{◌≡◌, ℕ, zero, suc, ◌≤◌, List, [], ◌∷◌, length, Option, Some, None, ap, arith}
use Rattle.daggy_base.specs.Graph.{Graph}
use Rattle.daggy_base.specs.Adding.{with_node}
use Rattle.daggy_base.specs.Graph.{bound_of, bound_step, node_bound}

step_low : {A : Type 0} (x : Option A) (n k : ℕ) → n ≤ k → bound_step x n ≤ suc k
step_low None zero k h = omega arith
step_low (Some x) zero k h = omega arith
step_low x (suc n) k h = omega arith

pub bound_low : {A : Type 0} (xs : List (Option A)) → bound_of xs ≤ length xs
bound_low [] = omega arith
bound_low (x ∷ xs) = step_low x (bound_of xs) (length xs) (bound_low xs)

pub fits_after : {N E : Type 0} (old new : Graph N E) (w : N) (slots capacity : ℕ) → new ≡ with_node old w
    → ((w : N) → length (with_node old w).nodes ≡ slots) → slots ≤ capacity → node_bound new ≤ capacity
fits_after old new w slots capacity is many h =
    let low = bound_low new.nodes in
    let size : length new.nodes ≡ length (with_node old w).nodes = ap (λ z. length z.nodes) is in
    omega (arith, low, size, many w, h)
