-- Values of nodes or edges, gathered one by one.
use Rattle.std.proofs.Common.{◌≡◌, ◌∙◌, ℕ, ◌+◌, ◌<◌, List, [], ◌∷◌, ◌++◌, length, Some, None, inl, inr, ap, refl, sym, subst, arith}
use Rattle.std.proofs.lemmas.Bool.{cases_eq, cases_lt}
use Rattle.std.specs.Prelude.{Option}
use Rattle.std.specs.Option.{option_map}
use Rattle.daggy_base.specs.Graph.{slot}
use Rattle.daggy_base.proofs.SlotLists.{slot_push_new, slot_push_old, none_past}

pub one_more : {D : Type 0} (P : ℕ → Option D → Type 0) (xs : List (Option D)) (v : Option D) (k : ℕ) → length xs ≡ k
    → ((n : ℕ) → n < k → P n (slot xs n)) → P k v → (ys : List (Option D)) → ys ≡ xs ++ v ∷ []
    → (n : ℕ) → n < k + 1 → P n (slot ys n)
one_more P xs v k long before now ys is n low =
    let all = xs ++ v ∷ [] in
    subst (λ zs. P n (slot zs n)) (sym is)
    (elim (cases_eq n k) [
      | inl same ↦
          subst (λ m. P m (slot all m)) (sym same)
          (subst (λ z. P k z) (sym (ap (slot all) (sym long) ∙ slot_push_new xs v)) now)
      | inr other ↦
          subst (λ z. P n z) (sym (slot_push_old xs v n (omega (arith, low, other, long))))
          (before n (omega (arith, low, other)))
    ])

pub in_use : {A : Type 0} (xs : List (Option A)) (n : ℕ) (x : A) → slot xs n ≡ Some x → n < length xs
in_use xs n x has =
    elim (cases_lt n (length xs)) [
      | inl low ↦ low
      | inr past ↦ absurd (let both : Some x ≡ None = sym has ∙ none_past xs n past in cc)
    ]

pub mapped_in_use : {A B : Type 0} (f : A → B) (o : Option A) (y : B) → option_map f o ≡ Some y → (x : A) × (o ≡ Some x)
mapped_in_use f None y is = absurd cc
mapped_in_use f (Some x) y is = (x, refl)
