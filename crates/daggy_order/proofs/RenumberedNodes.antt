-- Nodes that get ascending new indices, one by one.
use Rattle.std.proofs.Common.{◌≡◌, ℕ, zero, suc, ◌+◌, ◌<◌, ◌≤◌, ◌⊎◌, inl, inr, Bool, true, false, not, cond, eqb, ltb}
use Rattle.std.proofs.Common.{List, [], ◌∷◌, length, get_or, map, Option, Some, None, refl, sym, ap, subst, ◌∙◌, arith}
use Rattle.std.specs.List.{filter, filter_map, cons_option}
use Rattle.std.specs.Option.{option_map}
use Rattle.std.proofs.lemmas.Bool.{cases_eq, cases_lt, eq-eqb, ne_eqb, lt-ltb, le-ltb, cond-true, cond-false}
use Rattle.std.proofs.lemmas.Option.{same_Some}
use Rattle.daggy_base.specs.Graph.{slot}
use Rattle.daggy_base.specs.Removal.{without, renamed}
use Rattle.daggy_base.proofs.Lists.{Mem}
use Rattle.daggy_order.proofs.SortedListChanges.{was_named, is_named}

-- a slot, as it is read
pub slot_read : {A : Type 0} (xs : List (Option A)) (i : ℕ) (d x : Option A)
    → i < length xs → get_or xs i d ≡ x → slot xs i ≡ x
slot_read [] i d x within is = absurd (omega (arith, within))
slot_read (y ∷ ys) zero d x within is = is
slot_read (y ∷ ys) (suc i) d x within is = slot_read ys i d x (omega arith) is

-- the same names for the elements of a list
filter_map_same : (f g : ℕ → Option ℕ) (xs : List ℕ)
    → ((x : ℕ) → Mem x xs → f x ≡ g x) → filter_map f xs ≡ filter_map g xs
filter_map_same f g [] same = refl
filter_map_same f g (x ∷ xs) same =
    ap (λ (z : Option ℕ). cons_option z (filter_map f xs)) (same x (inl refl))
    ∙ ap (cons_option (g x)) (filter_map_same f g xs (λ y m. same y (inr m)))

-- the names renamed
map_named : (h : ℕ → ℕ) (o p : Option ℕ) (xs ys : List ℕ)
    → option_map h o ≡ p → map h xs ≡ ys → map h (cons_option o xs) ≡ cons_option p ys
map_named h None p xs ys is rest = rest ∙ ap (λ (z : Option ℕ). cons_option z ys) is
map_named h (Some x) p xs ys is rest = ap (λ (z : List ℕ). h x ∷ z) rest ∙ ap (λ (z : Option ℕ). cons_option z ys) is

map_filter_map : (h : ℕ → ℕ) (f g : ℕ → Option ℕ) (xs : List ℕ)
    → ((x : ℕ) → Mem x xs → option_map h (f x) ≡ g x) → map h (filter_map f xs) ≡ filter_map g xs
map_filter_map h f g [] same = refl
map_filter_map h f g (x ∷ xs) same =
    map_named h (f x) (g x) (filter_map f xs) (filter_map g xs) (same x (inl refl))
    (map_filter_map h f g xs (λ y m. same y (inr m)))

-- some of the names taken out
abbrev pub if_passes : (ℕ → Bool) → Option ℕ → Option ℕ
if_passes p None = None
if_passes p (Some x) = cond (p x) (Some x) None

filter_one : (b : Bool) (x : ℕ) (ys : List ℕ) → cond b (x ∷ ys) ys ≡ cons_option (cond b (Some x) None) ys
filter_one true x ys = refl
filter_one false x ys = refl

filter_named : (p : ℕ → Bool) (o q : Option ℕ) (xs ys : List ℕ)
    → if_passes p o ≡ q → filter p xs ≡ ys → filter p (cons_option o xs) ≡ cons_option q ys
filter_named p None q xs ys is rest = rest ∙ ap (λ (z : Option ℕ). cons_option z ys) is
filter_named p (Some x) q xs ys is rest =
    ap (λ (z : List ℕ). cond (p x) (x ∷ z) z) rest
    ∙ (filter_one (p x) x ys ∙ ap (λ (z : Option ℕ). cons_option z ys) is)

filter_filter_map : (p : ℕ → Bool) (f g : ℕ → Option ℕ) (xs : List ℕ)
    → ((x : ℕ) → Mem x xs → if_passes p (f x) ≡ g x) → filter p (filter_map f xs) ≡ filter_map g xs
filter_filter_map p f g [] same = refl
filter_filter_map p f g (x ∷ xs) same =
    filter_named p (f x) (g x) (filter_map f xs) (filter_map g xs) (same x (inl refl))
    (filter_filter_map p f g xs (λ y m. same y (inr m)))

module _ (names : List (Option ℕ)) where
  -- the names of the nodes below i, and of the others themselves
  abbrev pub names_to : ℕ → ℕ → Option ℕ
  names_to i n = cond (ltb n i) (slot names n) (Some n)

  names_low : (i n : ℕ) → n < i → names_to i n ≡ slot names n
  names_low i n low = cond-true (ltb n i) (slot names n) (Some n) (lt-ltb n i low)

  names_high : (i n : ℕ) → i ≤ n → names_to i n ≡ Some n
  names_high i n high = cond-false (ltb n i) (slot names n) (Some n) (le-ltb n i high)

  -- no other node changes its name at i
  names_next : (i n : ℕ) → (n ≡ i → ⊥) → names_to i n ≡ names_to (i + 1) n
  names_next i n differs =
      elim (cases_lt n i) [
        | inl low ↦ names_low i n low ∙ sym (names_low (i + 1) n (omega arith))
        | inr high ↦ names_high i n high ∙ sym (names_high (i + 1) n (omega (arith, differs)))
      ]

  names_here : (i : ℕ) → names_to (i + 1) i ≡ slot names i
  names_here i = names_low (i + 1) i (omega arith)

  module _ (old : List ℕ) where
    pub named_start : old ≡ filter_map (names_to 0) old
    named_start =
        sym (filter_map_same (names_to 0) (λ n. Some n) old (λ n m. names_high 0 n (omega arith)) ∙ all_named old) where
          all_named : (xs : List ℕ) → filter_map (λ n. Some n) xs ≡ xs
          all_named [] = refl
          all_named (x ∷ xs) = ap (λ (z : List ℕ). x ∷ z) (all_named xs)

    pub named_end : (i : ℕ) → ((n : ℕ) → Mem n old → n < i) → filter_map (names_to i) old ≡ filter_map (slot names) old
    named_end i covered = filter_map_same (names_to i) (slot names) old (λ n m. names_low i n (covered n m))

    module _ (i : ℕ) where
      -- the node i does not stand
      pub named_past : (Mem i (filter_map (names_to i) old) → ⊥)
          → filter_map (names_to i) old ≡ filter_map (names_to (i + 1)) old
      named_past absent =
          filter_map_same (names_to i) (names_to (i + 1)) old (λ n m. names_next i n (λ e.
          let P : ℕ → Type 0 = λ z. Mem z old in
          absent (is_named (names_to i) old i i (subst P e m) (names_high i i (omega arith)))))

      module _ (lower : (n k : ℕ) → slot names n ≡ Some k → k ≤ n)
          (one : (a b k : ℕ) → slot names a ≡ Some k → slot names b ≡ Some k → a ≡ b) where
        -- only the node i has the name i so far
        not_yet : (n k : ℕ) → names_to i n ≡ Some k → (n ≡ i → ⊥) → k ≡ i → ⊥
        not_yet n k is differs e =
            elim (cases_lt n i) [
              | inl low ↦ absurd (omega (arith, lower n k (sym (names_low i n low) ∙ is), low, e))
              | inr high ↦ differs (same_Some n k (sym (names_high i n high) ∙ is) ∙ e)
            ]

        -- the node i gets its name
        pub named_step : (k : ℕ) → slot names i ≡ Some k
            → map (renamed i k) (filter_map (names_to i) old) ≡ filter_map (names_to (i + 1)) old
        named_step k is =
            map_filter_map (renamed i k) (names_to i) (names_to (i + 1)) old (λ n m.
            elim (cases_eq n i) [
              | inl e ↦ (
                  let P : ℕ → Type 0 = λ z. option_map (renamed i k) (names_to i z) ≡ names_to (i + 1) z in
                  let here : renamed i k i ≡ k = cond-true (eqb i i) k i (eq-eqb i i refl) in
                  subst P (sym e) (ap (option_map (renamed i k)) (names_high i i (omega arith))
                  ∙ (ap Some here ∙ (sym is ∙ sym (names_here i))))
                  )
              | inr d ↦ others k (names_to i n) (λ j at. not_yet n j at d) ∙ names_next i n d
            ]) where
              others : (k : ℕ) (o : Option ℕ) → ((j : ℕ) → o ≡ Some j → j ≡ i → ⊥) → option_map (renamed i k) o ≡ o
              others k None apart = refl
              others k (Some j) apart = ap Some (cond-false (eqb j i) k j (ne_eqb j i (apart j refl)))

        -- the node i is taken out
        pub named_gone : slot names i ≡ None
            → without i (filter_map (names_to i) old) ≡ filter_map (names_to (i + 1)) old
        named_gone is =
            filter_filter_map (λ x. not (eqb x i)) (names_to i) (names_to (i + 1)) old (λ n m.
            elim (cases_eq n i) [
              | inl e ↦ (
                  let P : ℕ → Type 0 = λ z. if_passes (λ x. not (eqb x i)) (names_to i z) ≡ names_to (i + 1) z in
                  let here : not (eqb i i) ≡ false = ap not (eq-eqb i i refl) in
                  subst P (sym e) (ap (if_passes (λ x. not (eqb x i))) (names_high i i (omega arith))
                  ∙ (cond-false (not (eqb i i)) (Some i) None here ∙ (sym is ∙ sym (names_here i))))
                  )
              | inr d ↦ others (names_to i n) (λ j at. not_yet n j at d) ∙ names_next i n d
            ]) where
              others : (o : Option ℕ) → ((j : ℕ) → o ≡ Some j → j ≡ i → ⊥) → if_passes (λ x. not (eqb x i)) o ≡ o
              others None apart = refl
              others (Some j) apart = cond-true (not (eqb j i)) (Some j) None (ap not (ne_eqb j i (apart j refl)))

        -- no other node has that name so far
        pub name_free : (k : ℕ) → slot names i ≡ Some k → (Mem k (filter_map (names_to i) old) → ⊥) ⊎ (k ≡ i)
        name_free k is =
            elim (cases_eq k i) [
              | inl e ↦ inr e
              | inr d ↦ inl (λ m.
                  let w = was_named (names_to i) old k m in
                  elim (cases_lt w.0 i) [
                    | inl low ↦ absurd (omega (arith, low, one w.0 i k (sym (names_low i w.0 low) ∙ w.2) is))
                    | inr high ↦ absurd (omega (
                      arith,
                      high,
                      same_Some w.0 k (sym (names_high i w.0 high) ∙ w.2),
                      lower i k is,
                      d,
                    ))
                  ])
            ]
