-- Searching for the last occupied slot.
use Rattle.std.proofs.Common.{◌≡◌, ℕ, zero, suc, ◌-◌, ◌<◌, ◌≤◌, Bool, true, false, List, [], ◌∷◌, map, length, get_or}
use Rattle.std.proofs.Common.{take, Option, Some, None, is_some, true≢false, refl, sym, ap, ◌∙◌, arith}
use Rattle.std.specs.Option.{option_map}
use Rattle.std.proofs.lemmas.List.{length-map, take_all}
use Rattle.std.proofs.lemmas.Option.{none-some}
use Rattle.daggy_base.specs.Graph.{slot, bound_of, bound_step}
use Rattle.daggy_cells.specs.declared.cell.Edge.{Edge}
use Rattle.daggy_base.proofs.MappedSlots.{slot_read}
use Rattle.daggy_stable.specs.Stored.{plain, plain_edge}

pub bound_found : {A : Type 0} (xs : List (Option A)) (n : ℕ) (x : A)
    → slot xs n ≡ Some x → bound_of (take (suc n) xs) ≡ suc n
bound_found [] n x at = absurd (none-some x at)
bound_found (None ∷ zs) zero x at = absurd (none-some x at)
bound_found (Some z ∷ zs) zero x at = refl
bound_found (z ∷ zs) (suc n) x at = ap (bound_step z) (bound_found zs n x at)

pub bound_back : {A : Type 0} (xs : List (Option A)) (n : ℕ)
    → n < length xs → slot xs n ≡ None → bound_of (take (suc n) xs) ≡ bound_of (take n xs)
bound_back [] n within at = absurd (omega (arith, within))
bound_back (None ∷ zs) zero within at = refl
bound_back (Some z ∷ zs) zero within at = absurd (none-some z (sym at))
bound_back (z ∷ zs) (suc n) within at = ap (bound_step z) (bound_back zs n (omega (arith, within)) at)

module _ {A B : Type 0} (f : A → Option B) (cells : List A) (n : ℕ) (x : A) (some : Bool) (within : n ≤ length cells)
    (reads : x ≡ get_or cells (n - 1) x) (is : some ≡ is_some (f x)) where
  seen : 0 < n → slot (map f cells) (n - 1) ≡ f x
  seen positive = slot_read f cells (n - 1) x (omega (arith, within, positive)) reads

  one_less : 0 < n → suc (n - 1) ≡ n
  one_less positive = omega (arith, positive)

  -- in the words of the code: the slot before n is vacant
  pub back_step : 0 < n → some ≡ false → bound_of (take n (map f cells)) ≡ bound_of (map f cells)
      → bound_of (take (n - 1) (map f cells)) ≡ bound_of (map f cells)
  back_step positive fails same = go (f x) refl
    where
      go : (o : Option B) → f x ≡ o → bound_of (take (n - 1) (map f cells)) ≡ bound_of (map f cells)
      go (Some y) at = absurd (true≢false (sym (is ∙ ap is_some at) ∙ fails))
      go None at =
          let inside : n - 1 < length (map f cells) = omega (arith, positive, within, length-map cells f) in
          sym (bound_back (map f cells) (n - 1) inside (seen positive ∙ at))
          ∙ ap (λ k. bound_of (take k (map f cells))) (one_less positive) ∙ same

  -- and it is not
  pub back_found : 0 < n → some ≡ true → bound_of (take n (map f cells)) ≡ bound_of (map f cells)
      → n ≡ bound_of (map f cells)
  back_found positive passes same = go (f x) refl
    where
      go : (o : Option B) → f x ≡ o → n ≡ bound_of (map f cells)
      go None at = absurd (true≢false (sym passes ∙ is ∙ ap is_some at))
      go (Some y) at =
          sym (one_less positive) ∙ sym (bound_found (map f cells) (n - 1) y (seen positive ∙ at))
          ∙ ap (λ k. bound_of (take k (map f cells))) (one_less positive) ∙ same

pub back_start : {A B : Type 0} (f : A → Option B) (cells : List A) (n : ℕ)
    → n ≡ length cells → bound_of (take n (map f cells)) ≡ bound_of (map f cells)
back_start f cells n is = ap bound_of (take_all n (map f cells) (omega (arith, is, length-map cells f)))

pub back_all : {A : Type 0} (xs : List (Option A)) (n : ℕ)
    → n ≤ 0 → bound_of (take n xs) ≡ bound_of xs → 0 ≡ bound_of xs
back_all xs n none same = let is : n ≡ 0 = omega (arith, none) in ap (λ k. bound_of (take k xs)) (sym is) ∙ same

pub plain_some : {E Ix : Type 0} (x : Edge (Option E) Ix) → is_some (plain_edge x) ≡ is_some x.weight
plain_some {E} {Ix} x = go x.weight
  where
    go : (o : Option E) → is_some (option_map (plain x) o) ≡ is_some o
    go None = refl
    go (Some w) = refl

pub none_from : {A : Type 0} (o : Option A) → is_some o ≡ false → o ≡ None
none_from None p = refl
none_from (Some x) p = absurd (true≢false p)

pub some_from : {A : Type 0} (o : Option A) → is_some o ≡ true → (x : A) × (o ≡ Some x)
some_from None p = absurd (true≢false (sym p))
some_from (Some x) p = (x, refl)
