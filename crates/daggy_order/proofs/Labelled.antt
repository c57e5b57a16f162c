-- The invariant of the labels as nodes are put in and taken out.
use Rattle.std.proofs.Common.{◌≡◌, ◌≢◌, ℕ, ◌<◌, ◌⊎◌, ◌^◌, inl, inr, List, [], ◌∷◌, ◌++◌, length, map, get_or, set, eqb}
use Rattle.std.proofs.Common.{refl, sym, ap, subst, ◌∙◌, arith}
use Rattle.std.specs.List.{Contains}
use Rattle.std.proofs.lemmas.Bool.{cases_eq, eq-eqb, ne_eqb, cond-true, cond-false}
use Rattle.std.proofs.lemmas.List.{get_or-set_other, get_or-set_same, length-set, map-append}
use Rattle.daggy_base.specs.Removal.{without, renamed}
use Rattle.daggy_base.proofs.Lists.{Mem, mem_left, mem_right, mem_cases, mem_out, mem_into, contains_mem, mem_contains}
use Rattle.daggy_base.proofs.Lists.{split_at}
use Rattle.daggy_order.specs.Links.{LabelsAscend, IsLabelled}
use Rattle.daggy_base.specs.Ordered.{place}
use Rattle.daggy_base.proofs.Sorted.{place_same, place_other}
use Rattle.daggy_order.proofs.LinkedNodes.{without_mid}
use Rattle.daggy_order.proofs.AscendingLabels.{asc_append, asc_left, asc_right, asc_same, asc_drop, asc_above}
use Rattle.daggy_order.proofs.AscendingLabels.{asc_before, asc_held}

-- labels are ordered as places
pub asc_cases : (labels : List ℕ) (low : ℕ) (xs : List ℕ) (high : ℕ)
    → LabelsAscend labels low xs high → (u v : ℕ) → Mem u xs → Mem v xs
    → (u ≡ v)
    ⊎ (((get_or labels u 0 < get_or labels v 0) × (place xs u < place xs v))
    ⊎ ((get_or labels v 0 < get_or labels u 0) × (place xs v < place xs u)))
asc_cases labels low [] high c u v m n = absurd m
asc_cases labels low (x ∷ xs) high c u v m n =
    elim m [
      | inl e ↦ elim n [
        | inl f ↦ inl (e ∙ sym f)
        | inr b ↦ (
            let up : get_or labels x 0 < get_or labels v 0 = asc_above labels (get_or labels x 0) xs high c.1 v b in
            let at : get_or labels u 0 ≡ get_or labels x 0 = ap (λ z. get_or labels z 0) e in
            let apart : x ≡ v → ⊥ = λ is. absurd (omega (arith, up, ap (λ z. get_or labels z 0) is)) in
            inr (inl (omega (arith, up, at), omega (arith, place_same x u xs (sym e), place_other x v xs apart)))
            )
      ]
      | inr a ↦ (
          let up : get_or labels x 0 < get_or labels u 0 = asc_above labels (get_or labels x 0) xs high c.1 u a in
          let apart : x ≡ u → ⊥ = λ is. absurd (omega (arith, up, ap (λ z. get_or labels z 0) is)) in
          elim n [
            | inl f ↦ (
                let at : get_or labels v 0 ≡ get_or labels x 0 = ap (λ z. get_or labels z 0) f in
                inr (inr (omega (arith, up, at), omega (arith, place_same x v xs (sym f), place_other x u xs apart)))
                )
            | inr b ↦ (
                let up_v : get_or labels x 0 < get_or labels v 0 =
                asc_above labels (get_or labels x 0) xs high c.1 v b in
                let apart_v : x ≡ v → ⊥ = λ is. absurd (omega (arith, up_v, ap (λ z. get_or labels z 0) is)) in
                elim (asc_cases labels (get_or labels x 0) xs high c.1 u v a b) [
                  | inl e ↦ inl e
                  | inr r ↦ elim r [
                    | inl before ↦
                        inr
                        (inl (before.0, omega (arith, before.1, place_other x u xs apart, place_other x v xs apart_v)))
                    | inr behind ↦
                        inr
                        (inr (behind.0, omega (arith, behind.1, place_other x u xs apart, place_other x v xs apart_v)))
                  ]
                ]
                )
          ]
          )
    ]

module _ {labels nodes : List ℕ} (s : IsLabelled labels nodes) where
  pub label_some : (n : ℕ) → Mem n nodes → 0 < get_or labels n 0
  label_some n m = asc_above labels 0 nodes (2 ^ 64) s.ascending n m

  pub label_within : (n : ℕ) → Mem n nodes → n < length labels
  label_within n m = asc_held labels n (label_some n m)

  pub label_places : (u v : ℕ) → Mem u nodes → Mem v nodes
      → (u ≡ v)
      ⊎ (((get_or labels u 0 < get_or labels v 0) × (place nodes u < place nodes v))
      ⊎ ((get_or labels v 0 < get_or labels u 0) × (place nodes v < place nodes u)))
  label_places = asc_cases labels 0 nodes (2 ^ 64) s.ascending

  pub label_once : (us : List ℕ) (n : ℕ) (vs : List ℕ) → nodes ≡ us ++ n ∷ vs → (k : ℕ) → Mem k (us ++ vs) → k ≢ n
  label_once us n vs is k m e =
      let P : List ℕ → Type 0 = λ z. LabelsAscend labels 0 z (2 ^ 64) in
      let c = subst P is s.ascending in
      let M : ℕ → Type 0 = λ z. Mem z (us ++ vs) in
      elim (mem_cases us vs n (subst M e m)) [
        | inl a ↦ (let low = asc_before labels 0 us n vs (2 ^ 64) c n a in absurd (omega arith))
        | inr b ↦
            (let up = asc_above labels (get_or labels n 0) vs (2 ^ 64) (asc_right labels 0 us n vs (2 ^ 64) c) n b in
            absurd (omega arith))
      ]

  -- the same labels, in a longer list
  pub labelled_grown : (new nodes' : List ℕ)
      → nodes' ≡ nodes → ((k : ℕ) → get_or new k 0 ≡ get_or labels k 0) → IsLabelled new nodes'
  labelled_grown new nodes' is same =
      let P : List ℕ → Type 0 = λ z. IsLabelled new z in
      subst P (sym is) (record {
        ascending = asc_same labels new 0 nodes (2 ^ 64) (λ k m. same k) s.ascending;
        held = λ n h. s.held n (omega (arith, h, same n));
      })

  -- labels of more nodes
  pub labelled_more : (new nodes' : List ℕ)
      → LabelsAscend new 0 nodes' (2 ^ 64) → ((k : ℕ) → (Contains nodes' k → ⊥) → get_or new k 0 ≡ get_or labels k 0)
      → ((k : ℕ) → Mem k nodes → Mem k nodes') → IsLabelled new nodes'
  labelled_more new nodes' asc others more =
      record {
        ascending = asc;
        held = λ n h. mem_contains nodes' n (elim (member n nodes') [
          | inl m ↦ m
          | inr d ↦
              more n (contains_mem nodes n (s.held n (omega (arith, h, others n (λ c. d (contains_mem nodes' n c))))))
        ]);
      }
    where
      member : (x : ℕ) (xs : List ℕ) → Mem x xs ⊎ (Mem x xs → ⊥)
      member x [] = inr (λ m. m)
      member x (y ∷ ys) =
          elim (cases_eq x y) [
            | inl e ↦ inl (inl e)
            | inr d ↦ elim (member x ys) [
              | inl m ↦ inl (inr m)
              | inr none ↦ inr (λ m. elim m [ inl e ↦ d e | inr b ↦ none b ])
            ]
          ]

  -- a node less
  module _ (n : ℕ) (m : Mem n nodes) where
    pub labelled_without : IsLabelled (set labels n 0) (without n nodes)
    labelled_without =
        let at = split_at nodes n m in
        let us = at.0 in
        let vs = at.1 in
        let once = label_once us n vs at.2 in
        let P : List ℕ → Type 0 = λ z. LabelsAscend labels 0 z (2 ^ 64) in
        let is : without n nodes ≡ us ++ vs =
        ap (without n) at.2
        ∙ without_mid n us vs (λ h. once n (mem_left us vs n h) refl) (λ h. once n (mem_right us vs n h) refl) in
        let Q : List ℕ → Type 0 = λ z. IsLabelled (set labels n 0) z in
        subst Q (sym is) (record {
          ascending =
              asc_same labels (set labels n 0) 0 (us ++ vs) (2 ^ 64) (λ k h. get_or-set_other labels n k 0 0 (once k h))
              (asc_drop labels 0 us n vs (2 ^ 64) (subst P at.2 s.ascending));
          held = λ k h. mem_contains (us ++ vs) k (elim (cases_eq k n) [
            | inl e ↦ absurd (omega (
              arith,
              h,
              ap (λ z. get_or (set labels n 0) z 0) e,
              get_or-set_same labels n 0 0 (label_within n m),
            ))
            | inr d ↦ (
                let M : List ℕ → Type 0 = λ z. Mem k z in
                elim (mem_out us vs n k (subst M at.2
                (contains_mem nodes k (s.held k (omega (arith, h, get_or-set_other labels n k 0 0 d)))))) [
                  | inl e ↦ absurd (d e)
                  | inr b ↦ b
                ]
                )
          ]);
        })

    -- a node renamed
    module _ (to : ℕ) (apart : to ≢ n) (low : to < length labels) (absent : Mem to nodes → ⊥) (us vs : List ℕ)
        (at : nodes ≡ us ++ n ∷ vs) where
      pub labelled_renamed : IsLabelled (set (set labels n 0) to (get_or labels n 0)) (us ++ to ∷ vs)
      labelled_renamed =
          let new = set (set labels n 0) to (get_or labels n 0) in
          let once = label_once us n vs at in
          let absent_here : Mem to (us ++ n ∷ vs) → ⊥ = let A : List ℕ → Type 0 = λ z. Mem to z → ⊥ in
          subst A at absent in
          let P : List ℕ → Type 0 = λ z. LabelsAscend labels 0 z (2 ^ 64) in
          let c = subst P at s.ascending in
          let low' : to < length (set labels n 0) = omega (arith, low, length-set labels n 0) in
          let here : get_or new to 0 ≡ get_or labels n 0 =
          get_or-set_same (set labels n 0) to (get_or labels n 0) 0 low' in
          let other : (k : ℕ) → k ≢ n → k ≢ to → get_or new k 0 ≡ get_or labels k 0 = λ k d e.
          get_or-set_other (set labels n 0) to k (get_or labels n 0) 0 e ∙ get_or-set_other labels n k 0 0 d in
          let kept : (k : ℕ) → Mem k (us ++ vs) → get_or new k 0 ≡ get_or labels k 0 = λ k h.
          other k (once k h)
          (λ e. absent_here (let M : ℕ → Type 0 = λ z. Mem z (us ++ n ∷ vs) in subst M e (mem_into us vs n k h))) in
          let left =
          asc_same labels new 0 us (get_or labels n 0) (λ k h. kept k (mem_left us vs k h))
          (asc_left labels 0 us n vs (2 ^ 64) c) in
          let right =
          asc_same labels new (get_or labels n 0) vs (2 ^ 64) (λ k h. kept k (mem_right us vs k h))
          (asc_right labels 0 us n vs (2 ^ 64) c) in
          let L : ℕ → Type 0 = λ z. LabelsAscend new 0 us z in
          let R : ℕ → Type 0 = λ z. LabelsAscend new z vs (2 ^ 64) in
          record {
            ascending = asc_append new 0 us to vs (2 ^ 64) (subst L (sym here) left) (subst R (sym here) right);
            held = λ k h. mem_contains (us ++ to ∷ vs) k (elim (cases_eq k to) [
              | inl e ↦ mem_right us (to ∷ vs) k (inl e)
              | inr d ↦ elim (cases_eq k n) [
                | inl e ↦ (
                    let gone : get_or new n 0 ≡ 0 =
                    get_or-set_other (set labels n 0) to n (get_or labels n 0) 0 (λ f. apart (sym f))
                    ∙ get_or-set_same labels n 0 0 (label_within n m) in
                    absurd (omega (arith, h, gone, ap (λ z. get_or new z 0) e))
                    )
                | inr f ↦ (
                    let M : List ℕ → Type 0 = λ z. Mem k z in
                    elim (mem_out us vs n k
                    (subst M at (contains_mem nodes k (s.held k (omega (arith, h, other k f d)))))) [
                      | inl e ↦ absurd (f e)
                      | inr b ↦ mem_into us vs to k b
                    ]
                    )
              ]
            ]);
          }

-- a list with a node renamed
renamed_other : (n m x : ℕ) → (x ≡ n → ⊥) → renamed n m x ≡ x
renamed_other n m x d = cond-false {A = ℕ} (eqb x n) m x (ne_eqb x n d)

renamed_none : (n m : ℕ) (xs : List ℕ) → (Mem n xs → ⊥) → map (renamed n m) xs ≡ xs
renamed_none n m [] d = refl
renamed_none n m (x ∷ xs) d =
    ap (λ (z : ℕ). z ∷ map (renamed n m) xs) (renamed_other n m x (λ e. d (inl (sym e))))
    ∙ ap (λ (z : List ℕ). x ∷ z) (renamed_none n m xs (λ k. d (inr k)))

pub renamed_mid : (n m : ℕ) (xs ys : List ℕ)
    → (Mem n xs → ⊥) → (Mem n ys → ⊥) → map (renamed n m) (xs ++ n ∷ ys) ≡ xs ++ m ∷ ys
renamed_mid n m xs ys d e =
    map-append (renamed n m) xs (n ∷ ys)
    ∙ (ap (λ (z : List ℕ). z ++ renamed n m n ∷ map (renamed n m) ys) (renamed_none n m xs d)
    ∙ (ap (λ (z : ℕ). xs ++ z ∷ map (renamed n m) ys) (cond-true {A = ℕ} (eqb n n) m n (eq-eqb n n refl))
    ∙ ap (λ (z : List ℕ). xs ++ m ∷ z) (renamed_none n m ys e)))

pub renamed_self : (n m : ℕ) (xs : List ℕ) → m ≡ n → map (renamed n m) xs ≡ xs
renamed_self n m [] is = refl
renamed_self n m (x ∷ xs) is =
    ap (λ (z : ℕ). z ∷ map (renamed n m) xs) (elim (cases_eq x n) [
      | inl e ↦ cond-true {A = ℕ} (eqb x n) m x (eq-eqb x n e) ∙ (is ∙ sym e)
      | inr d ↦ renamed_other n m x d
    ]) ∙ ap (λ (z : List ℕ). x ∷ z) (renamed_self n m xs is)
