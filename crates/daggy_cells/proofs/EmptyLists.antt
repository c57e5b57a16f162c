-- Emptying the lists of nodes, node by node.
use Rattle.std.proofs.Common.{◌≡◌, ℕ, suc, ◌<◌, List, ◌++◌, map, length, get_or, set, take, drop, sym, ap, ◌∙◌}
use Rattle.daggy_cells.specs.declared.cell.Node.{Node}
use Rattle.daggy_cells.specs.Fields.{with_lists_emptied}
use Rattle.daggy_base.proofs.Lists.{map_so_far}

-- in the words of the code: the lists of one more node are emptied
pub unlinking_step : {N Ix : Type 0} {end : ℕ} (old : List (Node N Ix)) {now : List (Node N Ix)} (i : ℕ) {j a : ℕ}
    (x : Node N Ix) → j ≡ suc i
    → now ≡ map (with_lists_emptied end) (take i old) ++ drop i old → i < length old → x ≡ get_or now i x → a ≡ end
    → set now i (record x { first_out = a; first_in = a }) ≡ map (with_lists_emptied end) (take j old) ++ drop j old
unlinking_step {N} {Ix} {end} old {now} i x j_is is within reads a_is =
    ap (λ z. set now i (record x { first_out = z; first_in = z })) a_is
    ∙ ap (λ l. set l i (with_lists_emptied end x)) is
    ∙ map_so_far (with_lists_emptied end) old i x within (reads ∙ ap (λ l. get_or l i x) is)
    ∙ ap (λ k. map (with_lists_emptied end) (take k old) ++ drop k old) (sym j_is)
