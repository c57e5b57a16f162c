-- Moving nodes to after another one, one by one.
use Rattle.std.proofs.Common.{◌≡◌, ℕ, suc, ◌<◌, ◌≤◌, ◌⊎◌, ◌↔◌, inl, inr, Bool, true, false, List, [], ◌∷◌, ◌++◌, length}
use Rattle.std.proofs.Common.{get_or, not, eqb, cond, refl, sym, ap, subst, ◌∙◌, arith, append_assoc}
use Rattle.std.specs.List.{filter}
use Rattle.std.specs.List.Sorted.{IsNonDecreasingBy}
use Rattle.std.proofs.lemmas.Bool.{cases_eq, cases_lt, cases_Bool, false≢true, eq-eqb, ne_eqb, cond-true, cond-false}
use Rattle.std.proofs.lemmas.List.{length-append}
use Rattle.std.proofs.lemmas.List.Elements.{filter-append}
use Rattle.daggy_base.specs.Removal.{without}
use Rattle.daggy_base.proofs.Lists.{Mem, Unique, mem_left, mem_right, mem_cases, mem_mid, mem_out, mem_into, split_at}
use Rattle.daggy_base.proofs.Lists.{unique_right}
use Rattle.daggy_order.specs.Links.{without_all, LabelsAscend}
use Rattle.daggy_base.proofs.Sorted.{mem_filter, filter_mem, unique_cross}
use Rattle.daggy_base.proofs.ListParts.{filter_yes, filter_no, is_held, held_is}
use Rattle.daggy_order.proofs.LinkedNodes.{without_none, unique_without}
use Rattle.daggy_order.proofs.AscendingLabels.{asc_above, asc_lower}

without_all_more : (done : List ℕ) (n : ℕ) (xs : List ℕ)
    → without_all (done ++ n ∷ []) xs ≡ without n (without_all done xs)
without_all_more [] n xs = refl
without_all_more (d ∷ done) n xs = without_all_more done n (without d xs)

mem_without_all : (done : List ℕ) (n : ℕ) (xs : List ℕ) → Mem n xs → (Mem n done → ⊥) → Mem n (without_all done xs)
mem_without_all [] n xs m d = m
mem_without_all (e ∷ done) n xs m d =
    mem_without_all done n (without e xs) (mem_filter (λ z. not (eqb z e)) xs n m (is_held e n (λ is. d (inl is))))
    (λ h. d (inr h))

without_all_mem : (done : List ℕ) (n : ℕ) (xs : List ℕ) → Mem n (without_all done xs) → Mem n xs
without_all_mem [] n xs m = m
without_all_mem (e ∷ done) n xs m = (filter_mem (λ z. not (eqb z e)) xs n (without_all_mem done n (without e xs) m)).0

-- so far `done` stand behind a, and `at` is the last of them
pub record Moving (a at : ℕ) (done before behind now : List ℕ) : Type 0 where
  pub front : List ℕ
  pub ends : a ∷ done ≡ front ++ at ∷ []
  pub is : now ≡ without_all done before ++ ((a ∷ done) ++ behind)

pub moves_none : (a : ℕ) (before behind now : List ℕ) → now ≡ before ++ a ∷ behind → Moving a a [] before behind now
moves_none a before behind now is = record { front = []; ends = refl; is = is }

module _ {a at : ℕ} {done before behind now : List ℕ} (s : Moving a at done before behind now)
    (once : Unique (before ++ a ∷ behind)) (n : ℕ) (m : Mem n before) (new : Mem n done → ⊥) where
  pub moves_in : Mem n now
  moves_in = let P : List ℕ → Type 0 = λ z. Mem n z in
      subst P (sym s.is)
      (mem_left (without_all done before) ((a ∷ done) ++ behind) n (mem_without_all done n before m new))

  not_later : Mem n ((a ∷ done) ++ behind) → ⊥
  not_later h =
      elim (mem_cases (a ∷ done) behind n h) [
        | inl x ↦ elim x [ inl e ↦ unique_cross before (a ∷ behind) once n m (inl e) | inr d ↦ new d ]
        | inr b ↦ unique_cross before (a ∷ behind) once n m (inr b)
      ]

  -- without n
  pub moves_left : without n now ≡ without_all (done ++ n ∷ []) before ++ (s.front ++ at ∷ behind)
  moves_left =
      ap (without n) s.is
      ∙ (filter-append (λ z. not (eqb z n)) (without_all done before) ((a ∷ done) ++ behind)
      ∙ (ap (λ (z : List ℕ). z ++ without n ((a ∷ done) ++ behind)) (sym (without_all_more done n before))
      ∙ (ap (λ (z : List ℕ). without_all (done ++ n ∷ []) before ++ z) (without_none n ((a ∷ done) ++ behind) not_later)
      ∙ ap (λ (z : List ℕ). without_all (done ++ n ∷ []) before ++ z)
      (ap (λ (z : List ℕ). z ++ behind) s.ends ∙ append_assoc s.front (at ∷ []) behind))))

  pub moves_at : Mem at (without n now)
  moves_at =
      let P : List ℕ → Type 0 = λ z. Mem at z in
      subst P (sym moves_left)
      (mem_right (without_all (done ++ n ∷ []) before) (s.front ++ at ∷ behind) at (mem_mid s.front behind at))

  pub moves_absent : Mem n (without n now) → ⊥
  moves_absent h = held_is n n (filter_mem (λ z. not (eqb z n)) now n h).1 refl

  pub moves_more : (now' : List ℕ) → ((ns ms : List ℕ) → without n now ≡ ns ++ at ∷ ms → now' ≡ ns ++ at ∷ (n ∷ ms))
      → Moving a n (done ++ n ∷ []) before behind now'
  moves_more now' on =
      let left = without_all (done ++ n ∷ []) before in
      record {
        front = s.front ++ at ∷ [];
        ends = ap (λ (z : List ℕ). z ++ n ∷ []) s.ends;
        is = on (left ++ s.front) behind (moves_left ∙ sym (append_assoc left s.front (at ∷ behind)))
            ∙ (append_assoc left s.front (at ∷ (n ∷ behind))
            ∙ ap (λ (z : List ℕ). left ++ z) (sym (append_assoc s.front (at ∷ []) (n ∷ behind))
            ∙ (ap (λ (z : List ℕ). z ++ n ∷ behind) (sym s.ends) ∙ sym (append_assoc (a ∷ done) (n ∷ []) behind))));
      }

-- whether a number is in a list
abbrev pub stands_in : List ℕ → ℕ → Bool
stands_in [] n = false
stands_in (x ∷ xs) n = cond (eqb x n) true (stands_in xs n)

pub stands_exact : (xs : List ℕ) (n : ℕ) → (stands_in xs n ≡ true) ↔ Mem n xs
stands_exact [] n = (λ h. absurd (false≢true h), λ m. absurd m)
stands_exact (x ∷ xs) n =
    elim (cases_eq x n) [
      | inl e ↦ (λ h. inl (sym e), λ m. cond-true (eqb x n) true (stands_in xs n) (eq-eqb x n e))
      | inr d ↦ (
          let is : cond (eqb x n) true (stands_in xs n) ≡ stands_in xs n =
          cond-false (eqb x n) true (stands_in xs n) (ne_eqb x n d) in (
            λ h. inr ((stands_exact xs n).0 (sym is ∙ h)),
            λ m. is ∙ (stands_exact xs n).1 (elim m [ inl e ↦ absurd (d (sym e)) | inr b ↦ b ]),
          )
          )
    ]

filter_both : (p q r : ℕ → Bool) (xs : List ℕ)
    → ((x : ℕ) → q x ≡ false → r x ≡ false) → ((x : ℕ) → q x ≡ true → r x ≡ p x) → filter p (filter q xs) ≡ filter r xs
filter_both p q r [] fails passes = refl
filter_both p q r (x ∷ xs) fails passes =
    let rest = filter_both p q r xs fails passes in
    elim (cases_Bool (q x)) [
      | inl t ↦ (
          let same = passes x t in
          ap (filter p) (filter_yes q x xs t) ∙ elim (cases_Bool (p x)) [
            | inl u ↦
                filter_yes p x (filter q xs) u ∙ (ap (λ (z : List ℕ). x ∷ z) rest ∙ sym (filter_yes r x xs (same ∙ u)))
            | inr u ↦ filter_no p x (filter q xs) u ∙ (rest ∙ sym (filter_no r x xs (same ∙ u)))
          ]
          )
      | inr f ↦ ap (filter p) (filter_no q x xs f) ∙ (rest ∙ sym (filter_no r x xs (fails x f)))
    ]

pub without_all_is : (ns xs : List ℕ) → without_all ns xs ≡ filter (λ n. not (stands_in ns n)) xs
without_all_is [] xs = sym (all xs) where
  all : (ys : List ℕ) → filter (λ n. true) ys ≡ ys
  all [] = refl
  all (y ∷ ys) = ap (λ (z : List ℕ). y ∷ z) (all ys)
without_all_is (m ∷ ns) xs =
    without_all_is ns (without m xs)
    ∙ filter_both (λ n. not (stands_in ns n)) (λ n. not (eqb n m)) (λ n. not (stands_in (m ∷ ns) n)) xs
    (λ x f. ap not (elim (cases_eq x m) [
      | inl e ↦ cond-true (eqb m x) true (stands_in ns x) (eq-eqb m x (sym e))
      | inr d ↦ absurd (false≢true (sym f ∙ is_held m x d))
    ])) (λ x t. ap not (cond-false (eqb m x) true (stands_in ns x) (ne_eqb m x (λ e. held_is m x t (sym e)))))

-- ascending lists of the same members are one
module _ (labels : List ℕ) where
  pub asc_filter : (test : ℕ → Bool) (low : ℕ) (xs : List ℕ) (high : ℕ)
      → LabelsAscend labels low xs high → LabelsAscend labels low (filter test xs) high
  asc_filter test low [] high c = c
  asc_filter test low (x ∷ xs) high c =
      let rest = asc_filter test (get_or labels x 0) xs high c.1 in
      let P : List ℕ → Type 0 = λ z. LabelsAscend labels low z high in
      elim (cases_Bool (test x)) [
        | inl t ↦ subst P (sym (filter_yes test x xs t)) (c.0, rest)
        | inr f ↦
            subst P (sym (filter_no test x xs f))
            (asc_lower labels (get_or labels x 0) low (filter test xs) high (omega (arith, c.0)) rest)
      ]

  pub asc_equal : (low : ℕ) (xs ys : List ℕ) (high : ℕ) → LabelsAscend labels low xs high
      → LabelsAscend labels low ys high → ((n : ℕ) → Mem n xs → Mem n ys) → ((n : ℕ) → Mem n ys → Mem n xs) → xs ≡ ys
  asc_equal low [] [] high c d in_ys in_xs = refl
  asc_equal low [] (y ∷ ys) high c d in_ys in_xs = absurd (in_xs y (inl refl))
  asc_equal low (x ∷ xs) [] high c d in_ys in_xs = absurd (in_ys x (inl refl))
  asc_equal low (x ∷ xs) (y ∷ ys) high c d in_ys in_xs =
      let above_x : (n : ℕ) → Mem n xs → get_or labels x 0 < get_or labels n 0 =
      asc_above labels (get_or labels x 0) xs high c.1 in
      let above_y : (n : ℕ) → Mem n ys → get_or labels y 0 < get_or labels n 0 =
      asc_above labels (get_or labels y 0) ys high d.1 in
      let head : x ≡ y = elim (in_ys x (inl refl)) [
        | inl e ↦ e
        | inr m ↦ elim (in_xs y (inl refl)) [
          | inl e ↦ sym e
          | inr k ↦ (let up = above_y x m in let down = above_x y k in absurd (omega (arith, up, down)))
        ]
      ] in
      let at : get_or labels y 0 ≡ get_or labels x 0 = ap (λ z. get_or labels z 0) (sym head) in
      let P : ℕ → Type 0 = λ z. LabelsAscend labels z ys high in
      let rest = asc_equal (get_or labels x 0) xs ys high c.1 (subst P at d.1) (λ n m. elim (in_ys n (inr m)) [
        | inl e ↦ (let up = above_x n m in absurd (omega (arith, up, at, ap (λ z. get_or labels z 0) e)))
        | inr b ↦ b
      ]) (λ n m. elim (in_xs n (inr m)) [
        | inl e ↦ (let up = above_y n m in absurd (omega (arith, up, at, ap (λ z. get_or labels z 0) e)))
        | inr b ↦ b
      ]) in
      ap (λ (z : ℕ). z ∷ xs) head ∙ ap (λ (z : List ℕ). y ∷ z) rest

  pub asc_sorted : (low : ℕ) (xs : List ℕ) (high : ℕ) → Unique xs → IsNonDecreasingBy (λ n. get_or labels n 0) xs
      → ((n : ℕ) → Mem n xs → low < get_or labels n 0) → ((n : ℕ) → Mem n xs → get_or labels n 0 < high) → low < high
      → ((u v : ℕ) → Mem u xs → Mem v xs → get_or labels u 0 ≡ get_or labels v 0 → u ≡ v)
      → LabelsAscend labels low xs high
  asc_sorted low [] high u s above below between one = between
  asc_sorted low (x ∷ xs) high u s above below between one = (
    above x (inl refl),
    asc_sorted (get_or labels x 0) xs high u.1 (λ i j d h w. s (suc i) (suc j) d (omega arith) (omega arith)) (λ n m.
        let up = least n xs m (λ j w. s 0 (suc j) 0 (omega arith) (omega arith)) in
        elim (cases_lt (get_or labels x 0) (get_or labels n 0)) [
          | inl l ↦ l
          | inr h ↦
              absurd (u.0 (let P : ℕ → Type 0 = λ z. Mem z xs in
              subst P (sym (one x n (inl refl) (inr m) (omega (arith, up, h)))) m))
        ]) (λ n m. below n (inr m)) (below x (inl refl)) (λ a b m k. one a b (inr m) (inr k)),
  ) where
    least : (n : ℕ) (ys : List ℕ)
        → Mem n ys → ((j : ℕ) → j < length ys → get_or labels x 0 ≤ get_or labels (get_or ys j 0) 0)
        → get_or labels x 0 ≤ get_or labels n 0
    least n [] m h = absurd m
    least n (y ∷ ys) m h =
        elim m [
          | inl e ↦ omega (arith, h 0 (omega arith), ap (λ z. get_or labels z 0) e)
          | inr b ↦ least n ys b (λ j w. h (suc j) (omega arith))
        ]

-- differing members of a list are no more than its members
pub no_longer : (xs ys : List ℕ) → Unique xs → ((x : ℕ) → Mem x xs → Mem x ys) → length xs ≤ length ys
no_longer [] ys u h = omega arith
no_longer (x ∷ xs) ys u h =
    let s = split_at ys x (h x (inl refl)) in
    let rest : length xs ≤ length (s.0 ++ s.1) = no_longer xs (s.0 ++ s.1) u.1 (λ y m.
    let P : List ℕ → Type 0 = λ z. Mem y z in
    elim (mem_out s.0 s.1 x y (subst P s.2 (h y (inr m)))) [
      | inl e ↦ absurd (u.0 (let Q : ℕ → Type 0 = λ z. Mem z xs in subst Q e m))
      | inr b ↦ b
    ]) in
    let whole : length ys ≡ length (s.0 ++ x ∷ s.1) = ap length s.2 in
    omega (arith, whole, rest, length-append s.0 (x ∷ s.1), length-append s.0 s.1)

-- a list with the members of one whose members differ, and no longer, has differing members
pub unique_same : (xs ys : List ℕ) → Unique xs → length ys ≤ length xs → ((x : ℕ) → Mem x xs → Mem x ys) → Unique ys
unique_same xs [] u short h = tt
unique_same xs (y ∷ ys) u short h =
    elim (member y xs) [
      | inr absent ↦ absurd (omega (
        arith,
        short,
        no_longer xs ys u (λ x m. elim (h x m) [
          | inl e ↦ absurd (absent (let P : ℕ → Type 0 = λ z. Mem z xs in subst P e m))
          | inr b ↦ b
        ]),
      ))
      | inl m ↦ (
          let s = split_at xs y m in
          let U : List ℕ → Type 0 = λ z. Unique z in
          let u' : Unique (s.0 ++ y ∷ s.1) = subst U s.2 u in
          let long : length xs ≡ length (s.0 ++ y ∷ s.1) = ap length s.2 in (
            λ again. omega (
              arith,
              short,
              no_longer xs ys u (λ x k. elim (h x k) [
                | inl e ↦ (let P : ℕ → Type 0 = λ z. Mem z ys in subst P (sym e) again)
                | inr b ↦ b
              ]),
            ),
            unique_same (s.0 ++ s.1) ys (unique_without s.0 y s.1 u')
                (omega (arith, short, long, length-append s.0 (y ∷ s.1), length-append s.0 s.1)) (λ x k.
                let P : List ℕ → Type 0 = λ z. Mem x z in
                elim (h x (subst P (sym s.2) (mem_into s.0 s.1 y x k))) [
                  | inl e ↦ absurd (apart s.0 y s.1 u' (let Q : ℕ → Type 0 = λ z. Mem z (s.0 ++ s.1) in subst Q e k))
                  | inr b ↦ b
                ]),
          )
          )
    ]
  where
    apart : (ps : List ℕ) (x : ℕ) (qs : List ℕ) → Unique (ps ++ x ∷ qs) → Mem x (ps ++ qs) → ⊥
    apart ps x qs v m =
        elim (mem_cases ps qs x m) [
          | inl a ↦ unique_cross ps (x ∷ qs) v x a (inl refl)
          | inr b ↦ (unique_right ps (x ∷ qs) v).0 b
        ]

    member : (x : ℕ) (zs : List ℕ) → Mem x zs ⊎ (Mem x zs → ⊥)
    member x [] = inr (λ m. m)
    member x (z ∷ zs) =
        elim (cases_eq x z) [
          | inl e ↦ inl (inl e)
          | inr d ↦ elim (member x zs) [
            | inl m ↦ inl (inr m)
            | inr none ↦ inr (λ m. elim m [ inl e ↦ d e | inr b ↦ none b ])
          ]
        ]
