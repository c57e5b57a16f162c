-- Values at the indices of a list.
use Rattle.std.proofs.Common.{◌≡◌, ℕ, zero, suc, Option, Some, None, List, [], ◌∷◌, ◌++◌, length, reverse, refl, sym, ap, subst, ◌∙◌, true, false}
use Rattle.std.specs.Prelude.{option_and_then, slice_get, IsSome, is_some, option_copied, Result, Ok, Err, OnOk, is_err}
use Rattle.std.specs.Borrow.{Bor}
use Rattle.std.proofs.lemmas.List.{reverse-append, append-nil}
use Rattle.daggy_computed.specs.declared.entry.Entry.{Entry}
use Rattle.daggy_computed.specs.Cells.{value_of, values_of, HaveValues}
use Rattle.daggy_computed.specs.Inputs.{value_before}

module _ {V : Type 0} (es : List (Entry V)) where
  none_there : (o : Option V) → IsSome o → o ≡ None → ⊥
  none_there None h e = absurd cc
  none_there (Some v) h e = absurd cc

  get_before : (o : Option V) (vs : List V) (ps : List ℕ) (p : ℕ) → value_of es p ≡ o → IsSome o
      → ((i : ℕ) → slice_get vs i ≡ option_and_then (value_of es) (slice_get ps i)) → (i : ℕ)
      → slice_get (value_before o vs) i ≡ option_and_then (value_of es) (slice_get (p ∷ ps) i)
  get_before None vs ps p e h rest i = absurd (none_there None h refl)
  get_before (Some v) vs ps p e h rest zero = sym e
  get_before (Some v) vs ps p e h rest (suc i) = rest i

  pub get_value : (ps : List ℕ) → HaveValues es ps → (i : ℕ)
      → slice_get (values_of es ps) i ≡ option_and_then (value_of es) (slice_get ps i)
  get_value [] h i = refl
  get_value (p ∷ ps) h i = get_before (value_of es p) (values_of es ps) ps p refl h.0 (get_value ps h.1) i

  count_before : (o : Option V) (vs : List V) → IsSome o → length (value_before o vs) ≡ suc (length vs)
  count_before None vs h = absurd (none_there None h refl)
  count_before (Some v) vs h = refl

  pub count_values : (ps : List ℕ) → HaveValues es ps → length (values_of es ps) ≡ length ps
  count_values [] h = refl
  count_values (p ∷ ps) h = count_before (value_of es p) (values_of es ps) h.0 ∙ ap suc (count_values ps h.1)

  before_append : (o : Option V) (vs ws : List V) → value_before o (vs ++ ws) ≡ value_before o vs ++ ws
  before_append None vs ws = refl
  before_append (Some v) vs ws = refl

  pub values_append : (ps qs : List ℕ) → values_of es (ps ++ qs) ≡ values_of es ps ++ values_of es qs
  values_append [] qs = refl
  values_append (p ∷ ps) qs =
      ap (value_before (value_of es p)) (values_append ps qs) ∙ before_append (value_of es p) (values_of es ps) (values_of es qs)

  pub have_append : (ps qs : List ℕ) → HaveValues es ps → HaveValues es qs → HaveValues es (ps ++ qs)
  have_append [] qs h k = k
  have_append (p ∷ ps) qs h k = (h.0, have_append ps qs h.1 k)

  pub have_reversed : (ps : List ℕ) → HaveValues es ps → HaveValues es (reverse ps)
  have_reversed [] h = tt
  have_reversed (p ∷ ps) h =
      subst (HaveValues es) (sym (reverse-append (p ∷ []) ps)) (have_append (reverse ps) (p ∷ []) (have_reversed ps h.1) (h.0, tt))

  reverse_before : (o : Option V) (vs : List V) → reverse vs ++ value_before o [] ≡ reverse (value_before o vs)
  reverse_before None vs = append-nil (reverse vs)
  reverse_before (Some v) vs = sym (reverse-append (v ∷ []) vs)

  pub values_reversed : (ps : List ℕ) → values_of es (reverse ps) ≡ reverse (values_of es ps)
  values_reversed [] = refl
  values_reversed (p ∷ ps) =
      ap (values_of es) (reverse-append (p ∷ []) ps)
      ∙ (values_append (reverse ps) (p ∷ [])
      ∙ (ap (λ z. z ++ value_before (value_of es p) []) (values_reversed ps) ∙ reverse_before (value_of es p) (values_of es ps)))

-- a reference that there is, or is not
pub some_copied : {V : Type 0} (o : Option (Bor V)) → is_some o ≡ true → (v : V) × (option_copied o ≡ Some v)
some_copied None h = absurd cc
some_copied (Some r) h = (r.now, refl)

pub none_copied : {V : Type 0} (o : Option (Bor V)) → is_some o ≡ false → option_copied o ≡ None
none_copied None h = refl
none_copied (Some r) h = absurd cc

pub on_ok : {T F : Type 0} (r : Result T F) (P : Type 0) → is_err r ≡ false → OnOk r P → P
on_ok (Ok x) P h p = p
on_ok (Err e) P h p = absurd cc

-- what a success says, said otherwise
pub on_ok_then : {T F : Type 0} (r : Result T F) (P Q : Type 0) → (P → Q) → OnOk r P → OnOk r Q
on_ok_then (Ok x) P Q f p = f p
on_ok_then (Err e) P Q f p = tt
