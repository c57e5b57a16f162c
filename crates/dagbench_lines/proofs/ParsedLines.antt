-- A parsed line, and lists of indices by their numbers.
use Rattle.std.proofs.Common.{◌≡◌, ℕ, ℤ, List, [], ◌∷◌, map, Result, refl, sym, ap, subst, ◌∙◌}
use Rattle.std.specs.Option.{option_map}
use Rattle.daggy_base.specs.Graph.{pair_of}
use Rattle.daggy_base.specs.Adding.{NewEdge, by_numbers}
use Rattle.dagbench_lines.specs.Commands.{if_done}
use Rattle.dagbench_lines.specs.Replies.{item_text, parted}
use Rattle.dagbench_lines.specs.Streams.{Appends}

pub done_map : {A B : Type 0} (f : A → B) (words : List (List ℕ)) (x : A)
    → option_map f (if_done words x) ≡ if_done words (f x)
done_map f [] x = refl
done_map f (word ∷ words) x = refl

-- an index of 32 bits is its number
pub edges_by_numbers : (xs : List (NewEdge ℤ)) → map (by_numbers (λ i. i)) xs ≡ xs
edges_by_numbers [] = refl
edges_by_numbers (x ∷ xs) = ap (λ ys. x ∷ ys) (edges_by_numbers xs)

pub pairs_by_numbers : (xs : List (ℕ × ℕ)) → map (pair_of (λ i. i)) xs ≡ xs
pairs_by_numbers [] = refl
pairs_by_numbers (x ∷ xs) = ap (λ ys. x ∷ ys) (pairs_by_numbers xs)

pub walk_told : {A E : Type 0} (r : Result A E) (before now : List ℕ) (items told : List (ℕ × ℕ)) → told ≡ items
    → Appends r before now (parted item_text told)
    → Appends r before now (parted item_text (map (pair_of (λ i. i)) items))
walk_told r before now items told same appended =
    subst (λ xs. Appends r before now (parted item_text xs)) (same ∙ sym (pairs_by_numbers items)) appended
