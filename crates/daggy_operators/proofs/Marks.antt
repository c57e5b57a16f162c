-- Marks by node index: those of the nodes of a list, and those that are all set.
use Rattle.std.proofs.Common.{◌≡◌, ℕ, ◌+◌, ◌<◌, Bool, true, false, List, [], ◌∷◌, ◌++◌, map, length, get_or, set}
use Rattle.std.proofs.Common.{take, replicate, Contains, sym, ap, subst, ◌∙◌, ◌↔◌, inl, inr, arith}
use Rattle.std.proofs.lemmas.Bool.{cases_eq, cases_lt, false≢true}
use Rattle.std.proofs.lemmas.List.{map_more, get_or-set_same, get_or-set_other, get_or-replicate}
use Rattle.std.proofs.lemmas.List.Elements.{Contains-append_left, Contains-append_right, Contains-append_cases}
use Rattle.daggy_base.proofs.Lists.{Contains-nil, Contains-cases, Contains-here}

-- the mark of each slot tells whether its number is in the list
abbrev pub AreMarked : (slots : ℕ) → List ℕ → List Bool → Type 0
AreMarked slots given marks = (n : ℕ) → n < slots → (get_or marks n false ≡ true) ↔ Contains given n

pub none_marked : (slots : ℕ) (marks : List Bool) → marks ≡ replicate slots false → AreMarked slots [] marks
none_marked slots marks is n low = (
  λ m. absurd (false≢true (sym (ap (λ z. get_or z n false) is ∙ get_or-replicate slots n false false low) ∙ m)),
  λ c. absurd (Contains-nil n c),
)

only_one : (x n : ℕ) → Contains (x ∷ []) n → x ≡ n
only_one x n c = elim (Contains-cases x n [] c) [ inl here ↦ here | inr none ↦ absurd (Contains-nil n none) ]

-- one more number, which is marked if it is that of a slot
pub one_marked : (slots x : ℕ) (given : List ℕ) (marks marks' : List Bool) → length marks ≡ slots → AreMarked slots given marks
    → (x < slots → marks' ≡ set marks x true) → (¬ (x < slots) → marks' ≡ marks) → AreMarked slots (given ++ x ∷ []) marks'
one_marked slots x given marks marks' long so_far in_it out_of_it n low =
    elim (cases_eq n x) [
      | inl same ↦ (
          let here : x < slots = omega (arith, low, same) in
          let marked : get_or marks' n false ≡ true =
          ap (λ z. get_or z n false) (in_it here) ∙ ap (λ z. get_or (set marks x true) z false) same
          ∙ get_or-set_same marks x true false (omega (arith, here, long)) in
          (λ _. Contains-append_right given (x ∷ []) n (subst (Contains (x ∷ [])) (sym same) (Contains-here x [])), λ _. marked)
          )
      | inr other ↦ (
          let kept : get_or marks' n false ≡ get_or marks n false = as_before n other in (
            λ m. Contains-append_left given (x ∷ []) n ((so_far n low).0 (sym kept ∙ m)),
            λ c. elim (Contains-append_cases given (x ∷ []) n c) [
              | inl before ↦ kept ∙ (so_far n low).1 before
              | inr one ↦ absurd (other (sym (only_one x n one)))
            ],
          )
          )
    ]
  where
    as_before : (n : ℕ) → ¬ (n ≡ x) → get_or marks' n false ≡ get_or marks n false
    as_before n other =
        elim (cases_lt x slots) [
          | inl here ↦ ap (λ z. get_or z n false) (in_it here) ∙ get_or-set_other marks x n true false other
          | inr there ↦ ap (λ z. get_or z n false) (out_of_it (λ l. omega (arith, l, there)))
        ]

-- the numbers of one element more
pub numbers_more : {I : Type 0} (number : I → ℕ) (xs : List I) (k : ℕ) (x : I) → k < length xs → x ≡ get_or xs k x
    → map number (take (k + 1) xs) ≡ map number (take k xs) ++ number x ∷ []
numbers_more number xs k x low at =
    map_more number xs k x low ∙ ap (λ z. map number (take k xs) ++ number z ∷ []) (sym at)

pub all_set : (slots : ℕ) (marks : List Bool) (n : ℕ) → marks ≡ replicate slots true → n < slots → get_or marks n false ≡ true
all_set slots marks n is low = ap (λ z. get_or z n false) is ∙ get_or-replicate slots n true false low
