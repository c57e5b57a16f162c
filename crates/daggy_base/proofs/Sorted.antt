-- Lists in which no relation leads back, and how they are parted.
use Rattle.std.proofs.Common.{◌≡◌, ℕ, suc, ◌+◌, ◌<◌, Bool, true, not, inl, inr, List, [], ◌∷◌, ◌++◌, length, get_or, refl, sym}
use Rattle.std.proofs.Common.{ap, subst, ◌∙◌, arith, eqb, append_assoc}
use Rattle.std.specs.List.{filter}
use Rattle.std.proofs.lemmas.Bool.{false≢true, cases_eq, cases_Bool, eq-eqb, ne_eqb, cond-true, cond-false}
use Rattle.daggy_base.specs.Ordered.{place}
use Rattle.daggy_base.specs.WellFormed.{AreDistinct}
use Rattle.daggy_base.proofs.Lists.{Mem, Unique, mem_left, mem_right, mem_cases, unique_append, unique_right}
use Rattle.daggy_base.proofs.Lists.{contains_mem}

pub distinct_from_unique : (xs : List ℕ) → Unique xs → AreDistinct xs
distinct_from_unique [] u = tt
distinct_from_unique (x ∷ xs) u = (λ h. u.0 (contains_mem xs x h), distinct_from_unique xs u.1)

-- a filter
pub mem_filter : (test : ℕ → Bool) (xs : List ℕ) (x : ℕ) → Mem x xs → test x ≡ true → Mem x (filter test xs)
mem_filter test [] x m h = m
mem_filter test (y ∷ ys) x m h =
    let P : List ℕ → Type 0 = λ z. Mem x z in
    elim m [
      | inl e ↦ subst P (sym (cond-true (test y) (y ∷ filter test ys) (filter test ys) (ap test (sym e) ∙ h))) (inl e)
      | inr b ↦ (
          let rest = mem_filter test ys x b h in
          elim (cases_Bool (test y)) [
            | inl t ↦ subst P (sym (cond-true (test y) (y ∷ filter test ys) (filter test ys) t)) (inr rest)
            | inr f ↦ subst P (sym (cond-false (test y) (y ∷ filter test ys) (filter test ys) f)) rest
          ]
          )
    ]

pub filter_mem : (test : ℕ → Bool) (xs : List ℕ) (x : ℕ) → Mem x (filter test xs) → Mem x xs × (test x ≡ true)
filter_mem test [] x m = absurd m
filter_mem test (y ∷ ys) x m =
    let P : List ℕ → Type 0 = λ z. Mem x z in
    elim (cases_Bool (test y)) [
      | inl t ↦ (
          let here : Mem x (y ∷ filter test ys) =
          subst P (cond-true (test y) (y ∷ filter test ys) (filter test ys) t) m in
          elim here [ inl e ↦ (inl e, ap test e ∙ t) | inr b ↦ let r = filter_mem test ys x b in (inr r.0, r.1) ]
          )
      | inr f ↦ (
          let r = filter_mem test ys x (subst P (cond-false (test y) (y ∷ filter test ys) (filter test ys) f) m) in
          (inr r.0, r.1)
          )
    ]

pub unique_filter : (test : ℕ → Bool) (xs : List ℕ) → Unique xs → Unique (filter test xs)
unique_filter test [] u = tt
unique_filter test (y ∷ ys) u =
    let P : List ℕ → Type 0 = λ z. Unique z in
    elim (cases_Bool (test y)) [
      | inl t ↦
          subst P (sym (cond-true (test y) (y ∷ filter test ys) (filter test ys) t))
          (λ m. u.0 (filter_mem test ys y m).0, unique_filter test ys u.1)
      | inr f ↦ subst P (sym (cond-false (test y) (y ∷ filter test ys) (filter test ys) f)) (unique_filter test ys u.1)
    ]

-- parts of a list whose members differ
pub unique_left : (xs ys : List ℕ) → Unique (xs ++ ys) → Unique xs
unique_left [] ys u = tt
unique_left (x ∷ xs) ys u = (λ m. u.0 (mem_left xs ys x m), unique_left xs ys u.1)

pub unique_cross : (xs ys : List ℕ) → Unique (xs ++ ys) → (x : ℕ) → Mem x xs → Mem x ys → ⊥
unique_cross [] ys u x m n = m
unique_cross (y ∷ xs) ys u x m n =
    elim m [
      | inl e ↦ u.0 (let P : ℕ → Type 0 = λ z. Mem z (xs ++ ys) in subst P e (mem_right xs ys x n))
      | inr b ↦ unique_cross xs ys u.1 x b n
    ]

-- places
pub place_same : (x n : ℕ) (xs : List ℕ) → x ≡ n → place (x ∷ xs) n ≡ 0
place_same x n xs e = cond-true {A = ℕ} (eqb x n) 0 (suc (place xs n)) (eq-eqb x n e)

pub place_other : (x n : ℕ) (xs : List ℕ) → (x ≡ n → ⊥) → place (x ∷ xs) n ≡ suc (place xs n)
place_other x n xs d = cond-false {A = ℕ} (eqb x n) 0 (suc (place xs n)) (ne_eqb x n d)

pub place_left : (xs ys : List ℕ) (x : ℕ) → Mem x xs → place (xs ++ ys) x < length xs
place_left [] ys x m = absurd m
place_left (y ∷ xs) ys x m =
    elim (cases_eq y x) [
      | inl e ↦ omega (arith, place_same y x (xs ++ ys) e)
      | inr d ↦ (
          let b : Mem x xs = elim m [ inl e ↦ absurd (d (sym e)) | inr b ↦ b ] in
          omega (arith, place_other y x (xs ++ ys) d, place_left xs ys x b)
          )
    ]

pub place_right : (xs ys : List ℕ) (x : ℕ) → (Mem x xs → ⊥) → place (xs ++ ys) x ≡ length xs + place ys x
place_right [] ys x n = omega arith
place_right (y ∷ xs) ys x n =
    omega (arith, place_other y x (xs ++ ys) (λ e. n (inl (sym e))), place_right xs ys x (λ m. n (inr m)))

-- a member stands at its place, and no other member does
pub place_at : (xs : List ℕ) (n : ℕ) → Mem n xs → (place xs n < length xs) × (get_or xs (place xs n) 0 ≡ n)
place_at [] n m = absurd m
place_at (x ∷ xs) n m =
    elim (cases_eq x n) [
      | inl e ↦ (let at = place_same x n xs e in (omega (arith, at), ap (λ k. get_or (x ∷ xs) k 0) at ∙ e))
      | inr d ↦ (
          let b : Mem n xs = elim m [ inl e ↦ absurd (d (sym e)) | inr b ↦ b ] in
          let rest = place_at xs n b in
          let at = place_other x n xs d in
          (omega (arith, at, rest.0), ap (λ k. get_or (x ∷ xs) k 0) at ∙ rest.1)
          )
    ]

pub same_place : (xs : List ℕ) (a b : ℕ) → Mem a xs → Mem b xs → place xs a ≡ place xs b → a ≡ b
same_place xs a b m n e = sym (place_at xs a m).1 ∙ (ap (λ k. get_or xs k 0) e ∙ (place_at xs b n).1)

-- no relation leads from a later element, or from the same, to an earlier one
abbrev pub Sorted : (ℕ → ℕ → Type 0) → List ℕ → Type 0
Sorted R [] = Unit {0}
Sorted R (x ∷ xs) = ((y : ℕ) → Mem y (x ∷ xs) → R y x → ⊥) × Sorted R xs

module _ (R : ℕ → ℕ → Type 0) where
  pub sorted_append : (xs ys : List ℕ)
      → Sorted R xs → Sorted R ys → ((x y : ℕ) → Mem x xs → Mem y ys → R y x → ⊥) → Sorted R (xs ++ ys)
  sorted_append [] ys s t c = t
  sorted_append (x ∷ xs) ys s t c = (
    λ y m r. elim m [
      | inl e ↦ s.0 y (inl e) r
      | inr b ↦ elim (mem_cases xs ys y b) [ inl l ↦ s.0 y (inr l) r | inr h ↦ c x y (inl refl) h r ]
    ],
    sorted_append xs ys s.1 t (λ z y m n r. c z y (inr m) n r),
  )

  pub sorted_left : (xs ys : List ℕ) → Sorted R (xs ++ ys) → Sorted R xs
  sorted_left [] ys s = tt
  sorted_left (x ∷ xs) ys s = (
    λ y m r. elim m [ inl e ↦ s.0 y (inl e) r | inr b ↦ s.0 y (inr (mem_left xs ys y b)) r ],
    sorted_left xs ys s.1,
  )

  pub sorted_right : (xs ys : List ℕ) → Sorted R (xs ++ ys) → Sorted R ys
  sorted_right [] ys s = s
  sorted_right (x ∷ xs) ys s = sorted_right xs ys s.1

  pub sorted_cross : (xs ys : List ℕ) → Sorted R (xs ++ ys) → (x y : ℕ) → Mem x xs → Mem y ys → R y x → ⊥
  sorted_cross [] ys s x y m n r = m
  sorted_cross (z ∷ xs) ys s x y m n r =
      elim m [
        | inl e ↦ s.0 y (inr (mem_right xs ys y n)) (let P : ℕ → Type 0 = λ w. R y w in subst P e r)
        | inr b ↦ sorted_cross xs ys s.1 x y b n r
      ]

  pub sorted_filter : (test : ℕ → Bool) (xs : List ℕ) → Sorted R xs → Sorted R (filter test xs)
  sorted_filter test [] s = tt
  sorted_filter test (x ∷ xs) s =
      let P : List ℕ → Type 0 = λ z. Sorted R z in
      elim (cases_Bool (test x)) [
        | inl t ↦ subst P (sym (cond-true (test x) (x ∷ filter test xs) (filter test xs) t)) (
          λ y m r. elim m [ inl e ↦ s.0 y (inl e) r | inr b ↦ s.0 y (inr (filter_mem test xs y b).0) r ],
          sorted_filter test xs s.1,
        )
        | inr f ↦
            subst P (sym (cond-false (test x) (x ∷ filter test xs) (filter test xs) f)) (sorted_filter test xs s.1)
      ]

  -- by places
  pub sorted_from_places : (xs : List ℕ)
      → Unique xs → ((u v : ℕ) → Mem u xs → Mem v xs → R u v → place xs u < place xs v) → Sorted R xs
  sorted_from_places [] u h = tt
  sorted_from_places (x ∷ xs) u h = (
    λ y m r. let low = h y x m (inl refl) r in absurd (omega (arith, low, place_same x x xs refl)),
    sorted_from_places xs u.1 (λ y z m n r.
        let apart_y : x ≡ y → ⊥ = λ e. u.0 (let P : ℕ → Type 0 = λ w. Mem w xs in subst P (sym e) m) in
        let apart_z : x ≡ z → ⊥ = λ e. u.0 (let P : ℕ → Type 0 = λ w. Mem w xs in subst P (sym e) n) in
        let low = h y z (inr m) (inr n) r in
        omega (arith, low, place_other x y xs apart_y, place_other x z xs apart_z)),
  )

  pub places_from_sorted : (xs : List ℕ)
      → Sorted R xs → (u v : ℕ) → Mem u xs → Mem v xs → R u v → place xs u < place xs v
  places_from_sorted [] s u v m n r = absurd m
  places_from_sorted (x ∷ xs) s u v m n r =
      elim (cases_eq x v) [
        | inl e ↦ absurd (s.0 u m (let P : ℕ → Type 0 = λ w. R u w in subst P (sym e) r))
        | inr d ↦ (
            let n' : Mem v xs = elim n [ inl e ↦ absurd (d (sym e)) | inr b ↦ b ] in
            elim (cases_eq x u) [
              | inl e ↦ omega (arith, place_same x u xs e, place_other x v xs d)
              | inr f ↦ (
                  let m' : Mem u xs = elim m [ inl e ↦ absurd (f (sym e)) | inr b ↦ b ] in
                  omega (arith, places_from_sorted xs s.1 u v m' n' r, place_other x u xs f, place_other x v xs d)
                  )
            ]
            )
      ]

-- A list parted by a test: what fails it, then what passes it.
abbrev pub parts : (ℕ → Bool) → (pre seg post : List ℕ) → List ℕ
parts test pre seg post = pre ++ (filter (λ n. not (test n)) seg ++ (filter test seg ++ post))

pub apart : (test : ℕ → Bool) (x : ℕ) → not (test x) ≡ true → test x ≡ true → ⊥
apart test x f t = false≢true (sym (ap not t) ∙ f)

module _ (test : ℕ → Bool) (pre seg post : List ℕ) where
  pub parts_out : (x : ℕ) → Mem x (parts test pre seg post) → Mem x (pre ++ (seg ++ post))
  parts_out x m =
      let fails = filter (λ n. not (test n)) seg in
      let passes = filter test seg in
      elim (mem_cases pre (fails ++ (passes ++ post)) x m) [
        | inl p ↦ mem_left pre (seg ++ post) x p
        | inr r ↦ elim (mem_cases fails (passes ++ post) x r) [
          | inl f ↦ mem_right pre (seg ++ post) x (mem_left seg post x (filter_mem (λ n. not (test n)) seg x f).0)
          | inr q ↦ elim (mem_cases passes post x q) [
            | inl t ↦ mem_right pre (seg ++ post) x (mem_left seg post x (filter_mem test seg x t).0)
            | inr z ↦ mem_right pre (seg ++ post) x (mem_right seg post x z)
          ]
        ]
      ]

  pub parts_in : (x : ℕ) → Mem x (pre ++ (seg ++ post)) → Mem x (parts test pre seg post)
  parts_in x m =
      let fails = filter (λ n. not (test n)) seg in
      let passes = filter test seg in
      elim (mem_cases pre (seg ++ post) x m) [
        | inl p ↦ mem_left pre (fails ++ (passes ++ post)) x p
        | inr r ↦ mem_right pre (fails ++ (passes ++ post)) x (elim (mem_cases seg post x r) [
          | inl q ↦ elim (cases_Bool (test x)) [
            | inl t ↦ mem_right fails (passes ++ post) x (mem_left passes post x (mem_filter test seg x q t))
            | inr f ↦ mem_left fails (passes ++ post) x (mem_filter (λ n. not (test n)) seg x q (ap not f))
          ]
          | inr z ↦ mem_right fails (passes ++ post) x (mem_right passes post x z)
        ])
      ]

  pub parts_unique : Unique (pre ++ (seg ++ post)) → Unique (parts test pre seg post)
  parts_unique u =
      let fails = filter (λ n. not (test n)) seg in
      let passes = filter test seg in
      let v = unique_right pre (seg ++ post) u in
      let inner : Unique (passes ++ post) =
      unique_append passes post (unique_filter test seg (unique_left seg post v)) (unique_right seg post v)
      (λ x t z. unique_cross seg post v x (filter_mem test seg x t).0 z) in
      let rest : Unique (fails ++ (passes ++ post)) =
      unique_append fails (passes ++ post) (unique_filter (λ n. not (test n)) seg (unique_left seg post v)) inner
      (λ x f q.
      let h = filter_mem (λ n. not (test n)) seg x f in
      elim (mem_cases passes post x q) [
        | inl t ↦ apart test x h.1 (filter_mem test seg x t).1
        | inr z ↦ unique_cross seg post v x h.0 z
      ]) in
      unique_append pre (fails ++ (passes ++ post)) (unique_left pre (seg ++ post) u) rest (λ x p q.
      unique_cross pre (seg ++ post) u x p (elim (mem_cases fails (passes ++ post) x q) [
        | inl f ↦ mem_left seg post x (filter_mem (λ n. not (test n)) seg x f).0
        | inr r ↦ elim (mem_cases passes post x r) [
          | inl t ↦ mem_left seg post x (filter_mem test seg x t).0
          | inr z ↦ mem_right seg post x z
        ]
      ]))

  -- what passes leads to nothing that fails
  pub parts_sorted : (R : ℕ → ℕ → Type 0) → Sorted R (pre ++ (seg ++ post))
      → ((x y : ℕ) → Mem x seg → Mem y seg → not (test x) ≡ true → test y ≡ true → R y x → ⊥)
      → Sorted R (parts test pre seg post)
  parts_sorted R s closed =
      let fails = filter (λ n. not (test n)) seg in
      let passes = filter test seg in
      let v = sorted_right R pre (seg ++ post) s in
      let inner : Sorted R (passes ++ post) =
      sorted_append R passes post (sorted_filter R test seg (sorted_left R seg post v)) (sorted_right R seg post v)
      (λ x y t z r. sorted_cross R seg post v x y (filter_mem test seg x t).0 z r) in
      let rest : Sorted R (fails ++ (passes ++ post)) =
      sorted_append R fails (passes ++ post) (sorted_filter R (λ n. not (test n)) seg (sorted_left R seg post v)) inner
      (λ x y f q r.
      let h = filter_mem (λ n. not (test n)) seg x f in
      elim (mem_cases passes post y q) [
        | inl t ↦ (let k = filter_mem test seg y t in closed x y h.0 k.0 h.1 k.1 r)
        | inr z ↦ sorted_cross R seg post v x y h.0 z r
      ]) in
      sorted_append R pre (fails ++ (passes ++ post)) (sorted_left R pre (seg ++ post) s) rest (λ x y p q r.
      sorted_cross R pre (seg ++ post) s x y p (elim (mem_cases fails (passes ++ post) y q) [
        | inl f ↦ mem_left seg post y (filter_mem (λ n. not (test n)) seg y f).0
        | inr h ↦ elim (mem_cases passes post y h) [
          | inl t ↦ mem_left seg post y (filter_mem test seg y t).0
          | inr z ↦ mem_right seg post y z
        ]
      ]) r)

  -- what fails stands before what passes
  pub parts_before : Unique (pre ++ (seg ++ post)) → (x y : ℕ) → Mem x seg → Mem y seg → not (test x) ≡ true
      → test y ≡ true → place (parts test pre seg post) x < place (parts test pre seg post) y
  parts_before u x y m n f t =
      let fails = filter (λ n. not (test n)) seg in
      let passes = filter test seg in
      let is : (pre ++ fails) ++ (passes ++ post) ≡ parts test pre seg post = append_assoc pre fails (passes ++ post) in
      let early : place ((pre ++ fails) ++ (passes ++ post)) x < length (pre ++ fails) =
      place_left (pre ++ fails) (passes ++ post) x (mem_right pre fails x (mem_filter (λ n. not (test n)) seg x m f)) in
      let absent : Mem y (pre ++ fails) → ⊥ = λ h. elim (mem_cases pre fails y h) [
        | inl p ↦ unique_cross pre (seg ++ post) u y p (mem_left seg post y n)
        | inr q ↦ apart test y (filter_mem (λ n. not (test n)) seg y q).1 t
      ] in
      let late = place_right (pre ++ fails) (passes ++ post) y absent in
      let P : List ℕ → Type 0 = λ z. place z x < place z y in
      subst P is (omega (arith, early, late))
