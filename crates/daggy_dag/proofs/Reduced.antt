-- What a dag keeps when edges go and its nodes stay.
use Rattle.std.proofs.Common.{◌≡◌, ℕ, ◌≤◌, ◌↔◌, List, Option, Result, Ok, Err, OnOk, IsSome, sym, ap, subst, arith}
use Rattle.daggy_base.specs.Graph.{Graph, HasNode, slot, bound_of}
use Rattle.daggy_redundant.specs.Comparison.{JoinsAll}
use Rattle.daggy_order.proofs.OrderLaws.{order_fewer}
use Rattle.daggy_dag.proofs.OrderKept.{IsKept}

pub on_ok : {T F : Type 0} (r : Result T F) {P Q : Type 0} → (P → Q) → OnOk r P → OnOk r Q
on_ok (Ok x) f p = f p
on_ok (Err e) f p = p

-- the order of the nodes stays one
pub kept_fewer : {N E : Type 0} (order : List ℕ) (capacity capacity' : ℕ) (old new : Graph N E) → new.nodes ≡ old.nodes
    → JoinsAll new old → IsKept old order capacity → capacity ≤ capacity' → IsKept new order capacity'
kept_fewer {N} order capacity capacity' old new nodes joined kept more =
    let P : ℕ → List (Option N) → Type 0 = λ n z. IsSome (slot z n) in
    let there : (n : ℕ) → HasNode new n ↔ HasNode old n = λ n. (subst (P n) nodes, subst (P n) (sym nodes)) in
    let bound = ap (λ (z : List (Option N)). bound_of z) nodes in
    (order_fewer order kept.0 there joined, omega (arith, bound, kept.1, more))
