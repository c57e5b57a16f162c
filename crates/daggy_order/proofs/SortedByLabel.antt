-- Nodes sorted by label and moved to after another one.
use Rattle.std.proofs.Common.{◌≡◌, ℕ, ◌^◌, inl, inr, List, [], ◌∷◌, ◌++◌, length, get_or, not, refl, sym, ap, subst}
use Rattle.std.proofs.Common.{◌∙◌, arith}
use Rattle.std.specs.List.{Contains, filter}
use Rattle.std.specs.List.Sorted.{IsPermutation, IsNonDecreasingBy}
use Rattle.std.proofs.lemmas.Bool.{cases_Bool}
use Rattle.std.proofs.lemmas.List.Sorted.{Contains-permutation, IsPermutation-sym, length_permutation}
use Rattle.daggy_base.specs.Cursor.{first_of}
use Rattle.daggy_base.proofs.Lists.{Mem, Unique, mem_left, mem_right, mem_cases, contains_mem, mem_contains}
use Rattle.daggy_order.specs.Links.{without_all, LabelsAscend, IsLabelled, HasGap, IsMoved, StandBefore}
use Rattle.daggy_base.proofs.Sorted.{mem_filter, filter_mem}
use Rattle.daggy_order.proofs.AscendingLabels.{asc_left, asc_right, asc_append, asc_above, asc_below, asc_between}
use Rattle.daggy_order.proofs.Labelled.{label_places, labelled_more}
use Rattle.daggy_order.proofs.MovedNodes.{stands_in, stands_exact, without_all_is, asc_filter, asc_equal, asc_sorted}
use Rattle.daggy_order.proofs.MovedNodes.{unique_same}

module _ {labels nodes : List ℕ} (s : IsLabelled labels nodes) {a : ℕ} {ns : List ℕ} (h : StandBefore nodes a ns)
    (once : Unique ns) (ys : List ℕ) (perm : IsPermutation ns ys)
    (sorted : IsNonDecreasingBy (λ n. get_or labels n 0) ys) where
  same_members : (n : ℕ) → Mem n ys → Mem n ns
  same_members n m =
      contains_mem ns n (Contains-permutation ys ns n (IsPermutation-sym ns ys perm) (mem_contains ys n m))

  members_same : (n : ℕ) → Mem n ns → Mem n ys
  members_same n m = contains_mem ys n (Contains-permutation ns ys n perm (mem_contains ns n m))

  pub once_sorted : Unique ys
  once_sorted = unique_same ns ys once (omega (arith, length_permutation ns ys perm)) members_same

  pub sorted_in : (n : ℕ) → Contains ys n → Contains h.before n
  sorted_in n c = h.stand n (mem_contains ns n (same_members n (contains_mem ys n c)))

  pub sorted_stand : StandBefore nodes a ys
  sorted_stand =
      record {
        before = h.before;
        behind = h.behind;
        is = h.is;
        stand = sorted_in;
      }

  in_before : (n : ℕ) → Mem n ys → Mem n h.before
  in_before n m = contains_mem h.before n (h.stand n (mem_contains ns n (same_members n m)))

  in_nodes : (n : ℕ) → Mem n h.before → Mem n nodes
  in_nodes n m = let P : List ℕ → Type 0 = λ z. Mem n z in subst P (sym h.is) (mem_left h.before (a ∷ h.behind) n m)

  ascending : LabelsAscend labels 0 (h.before ++ a ∷ h.behind) (2 ^ 64)
  ascending = let P : List ℕ → Type 0 = λ z. LabelsAscend labels 0 z (2 ^ 64) in subst P h.is s.ascending

  ascending_before : LabelsAscend labels 0 h.before (get_or labels a 0)
  ascending_before = asc_left labels 0 h.before a h.behind (2 ^ 64) ascending

  one_label : (u v : ℕ) → Mem u ys → Mem v ys → get_or labels u 0 ≡ get_or labels v 0 → u ≡ v
  one_label u v m n e =
      elim (label_places s u v (in_nodes u (in_before u m)) (in_nodes v (in_before v n))) [
        | inl is ↦ is
        | inr r ↦ elim r [ inl b ↦ absurd (omega (arith, e, b.0)) | inr b ↦ absurd (omega (arith, e, b.0)) ]
      ]

  ascending_sorted : LabelsAscend labels 0 ys (get_or labels a 0)
  ascending_sorted =
      asc_sorted labels 0 ys (get_or labels a 0) once_sorted sorted
      (λ n m. asc_above labels 0 h.before (get_or labels a 0) ascending_before n (in_before n m))
      (λ n m. asc_below labels 0 h.before (get_or labels a 0) ascending_before n (in_before n m))
      (asc_between labels 0 h.before (get_or labels a 0) ascending_before) one_label

  pub sorted_is : ys ≡ filter (stands_in ys) h.before
  sorted_is =
      asc_equal labels 0 ys (filter (stands_in ys) h.before) (get_or labels a 0) ascending_sorted
      (asc_filter labels (stands_in ys) 0 h.before (get_or labels a 0) ascending_before) (λ n m.
      mem_filter (stands_in ys) h.before n (in_before n m) ((stands_exact ys n).1 m)) (λ n m.
      (stands_exact ys n).0 (filter_mem (stands_in ys) h.before n m).1)

  module _ (new : List ℕ) (is : new ≡ without_all ys h.before ++ a ∷ (ys ++ h.behind)) where
    pub sorted_moved : IsMoved a ns nodes new
    sorted_moved =
        record {
          test = stands_in ys;
          exact = λ n. (
            λ t. mem_contains ns n (same_members n ((stands_exact ys n).0 t)),
            λ c. (stands_exact ys n).1 (members_same n (contains_mem ns n c)),
          );
          before = h.before;
          behind = h.behind;
          was = h.is;
          is =
              is
              ∙ (ap (λ (z : List ℕ). z ++ a ∷ (ys ++ h.behind)) (without_all_is ys h.before)
              ∙ ap (λ (z : List ℕ). filter (λ n. not (stands_in ys n)) h.before ++ a ∷ (z ++ h.behind)) sorted_is);
        }

    pub sorted_gap : (end from count after : ℕ) → length ys ≡ count → from ≡ first_of end (ys ++ h.behind)
        → after ≡ first_of end h.behind → HasGap end labels new a from count after
    sorted_gap end from count after counted begins ends =
        let P : List ℕ → Type 0 = λ z. LabelsAscend labels 0 z (get_or labels a 0) in
        record {
          before = without_all ys h.before;
          run = ys;
          behind = h.behind;
          is = is;
          counted = counted;
          begins = begins;
          ends = ends;
          ascending =
              asc_append labels 0 (without_all ys h.before) a h.behind (2 ^ 64)
              (subst P (sym (without_all_is ys h.before))
              (asc_filter labels (λ n. not (stands_in ys n)) 0 h.before (get_or labels a 0) ascending_before))
              (asc_right labels 0 h.before a h.behind (2 ^ 64) ascending);
        }

    pub from_moved : (n : ℕ) → Mem n new → Mem n nodes
    from_moved n m =
        let P : List ℕ → Type 0 = λ z. Mem n z in
        subst P (sym h.is) (elim (mem_cases (without_all ys h.before) (a ∷ (ys ++ h.behind)) n (subst P is m)) [
          | inl k ↦
              mem_left h.before (a ∷ h.behind) n
              (filter_mem (λ z. not (stands_in ys z)) h.before n (subst P (without_all_is ys h.before) k)).0
          | inr k ↦ elim k [
            | inl e ↦ mem_right h.before (a ∷ h.behind) n (inl e)
            | inr r ↦ elim (mem_cases ys h.behind n r) [
              | inl y ↦ mem_left h.before (a ∷ h.behind) n (in_before n y)
              | inr b ↦ mem_right h.before (a ∷ h.behind) n (inr b)
            ]
          ]
        ])

    pub into_moved : (n : ℕ) → Mem n nodes → Mem n new
    into_moved n m =
        let P : List ℕ → Type 0 = λ z. Mem n z in
        let left = without_all ys h.before in
        subst P (sym is) (elim (mem_cases h.before (a ∷ h.behind) n (subst P h.is m)) [
          | inl k ↦ elim (cases_Bool (stands_in ys n)) [
            | inl t ↦ mem_right left (a ∷ (ys ++ h.behind)) n (inr (mem_left ys h.behind n ((stands_exact ys n).0 t)))
            | inr f ↦
                mem_left left (a ∷ (ys ++ h.behind)) n (subst P (sym (without_all_is ys h.before))
                (mem_filter (λ z. not (stands_in ys z)) h.before n k (ap not f)))
          ]
          | inr k ↦ elim k [
            | inl e ↦ mem_right left (a ∷ (ys ++ h.behind)) n (inl e)
            | inr b ↦ mem_right left (a ∷ (ys ++ h.behind)) n (inr (mem_right ys h.behind n b))
          ]
        ])

    pub sorted_labelled : (written : List ℕ) → LabelsAscend written 0 new (2 ^ 64)
        → ((k : ℕ) → (Contains new k → ⊥) → get_or written k 0 ≡ get_or labels k 0) → IsLabelled written new
    sorted_labelled written asc others = labelled_more s written new asc others into_moved

pub first_of_run : (end : ℕ) (ys behind : List ℕ) (x : ℕ)
    → (length ys ≡ 0 → ⊥) → x ≡ get_or ys 0 x → x ≡ first_of end (ys ++ behind)
first_of_run end [] behind x some is = absurd (some refl)
first_of_run end (y ∷ ys) behind x some is = is

pub first_of_none : (end : ℕ) (ys behind : List ℕ) (x : ℕ)
    → length ys ≡ 0 → x ≡ first_of end behind → x ≡ first_of end (ys ++ behind)
first_of_none end [] behind x none is = is
first_of_none end (y ∷ ys) behind x none is = absurd (omega arith)
