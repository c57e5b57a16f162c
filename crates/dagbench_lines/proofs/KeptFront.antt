-- Keeping the front of a list.
use Rattle.std.proofs.Common.{◌≡◌, ℕ, ◌-◌, ◌≤◌, min, List, ◌++◌, length, take, sym, ap, ◌∙◌, arith, Bool, true, cond}
use Rattle.std.proofs.Math.Seq.{take-append-add}
use Rattle.std.proofs.lemmas.List.{take_min}
use Rattle.std.proofs.lemmas.Bool.{cond-true}

-- as much of more as there is room for, behind what is kept already
pub keeps_more : (most : ℕ) (kept more : List ℕ)
    → length kept ≤ most → kept ++ take (min (most - length kept) (length more)) more ≡ take most (kept ++ more)
keeps_more most kept more few =
    ap (λ front. kept ++ front) (take_min (most - length kept) more)
    ∙ (sym (take-append-add kept more (most - length kept)) ∙ ap (λ n. take n (kept ++ more)) (omega arith))

-- the same, in the words of the code
pub kept_more : {inside kept : List ℕ} (more : List ℕ) {front items : List ℕ} {length_before count : ℕ} {fits : Bool}
    → inside ≡ kept → front ≡ take count more
    → count ≡ min (4097 - length_before) (length more) → length_before ≡ length inside → length_before ≤ 4097
    → fits ≡ true
    → items ≡ cond fits (inside ++ front) inside → items ≡ take 4097 (kept ++ more)
kept_more {inside} more {front} {items} {length_before} {count} {fits} same front_is count_is length_is few ok items_is
    =
    let all : items ≡ inside ++ front = items_is ∙ cond-true fits _ _ ok in
    let part : front ≡ take (min (4097 - length inside) (length more)) more =
    front_is ∙ ap (λ n. take n more) (count_is ∙ ap (λ n. min (4097 - n) (length more)) length_is) in
    all
    ∙ (ap (λ f. inside ++ f) part
    ∙ (keeps_more 4097 inside more (omega arith) ∙ ap (λ xs. take 4097 (xs ++ more)) same))
