-- Parts of lists, item by item.
use Rattle.std.proofs.Common.{◌≡◌, ℕ, suc, ◌+◌, ◌-◌, ◌<◌, ◌≤◌, List, [], ◌∷◌, ◌++◌, length, drop, take, get_or, map}
use Rattle.std.proofs.Common.{refl, sym, ap, ◌∙◌, arith}
use Rattle.std.proofs.lemmas.List.{drop_more}

-- so many items of a list, from a position on
abbrev pub part : (from count : ℕ) → List ℕ → List ℕ
part from count xs = take count (drop from xs)

pub part_step : (xs : List ℕ) (k to n : ℕ) → k < to → to ≤ length xs → n ≡ get_or xs k n
    → part k (to - k) xs ≡ n ∷ part (k + 1) (to - (k + 1)) xs
part_step xs k to n here within is =
    let one : to - k ≡ suc (to - (k + 1)) = omega arith in
    let first : drop k xs ≡ get_or xs k n ∷ drop (k + 1) xs = drop_more xs k n (omega arith) in
    ap (λ (z : ℕ). take z (drop k xs)) one
    ∙ (ap (λ (z : List ℕ). take (suc (to - (k + 1))) z) first
    ∙ ap (λ (z : ℕ). z ∷ take (to - (k + 1)) (drop (k + 1) xs)) (sym is))

pub map_push : {A : Type 0} (f : A → ℕ) (xs : List A) (x : A) (ys : List ℕ)
    → map f (xs ++ x ∷ []) ++ ys ≡ map f xs ++ f x ∷ ys
map_push f [] x ys = refl
map_push f (y ∷ xs) x ys = ap (λ (z : List ℕ). f y ∷ z) (map_push f xs x ys)
