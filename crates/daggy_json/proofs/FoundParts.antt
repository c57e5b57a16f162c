-- What is found in a value.
use Rattle.std.proofs.Common.{◌≡◌, ℕ, ◌+◌, ◌<◌, ◌≤◌, Option, Some, None, List, [], ◌∷◌, ◌++◌, length, get_or, drop, map}
use Rattle.std.proofs.Common.{refl, sym, ap, ◌∙◌, arith, append_assoc}
use Rattle.std.specs.Prelude.{option_and_then, Result, Ok}
use Rattle.std.specs.Option.{option_map}
use Rattle.std.specs.Fn.{Shared}
use Rattle.std.specs.Borrow.{Bor}
use Rattle.std.specs.declared.alloc.AllocError.{AllocError}
use Rattle.std.proofs.lemmas.List.{drop_all, drop_more, append-nil}
use Rattle.serde_json.specs.Data.{Data}
use Rattle.serde_json.specs.Find.{as_array}
use Rattle.serde_json.specs.View.{view, items_of}
use Rattle.serde_json.specs.declared.value.Value.{Value}
use Rattle.daggy_json.specs.Reading.{list_of, array_in, all_in, whole_in, triple, triple_in}
use Rattle.daggy_json.specs.Found.{row, row_in}
use Rattle.daggy_json.specs.Weight.{ReadsAs}

pub list_of-items_of : (ds : List Data) → list_of (items_of ds) ≡ ds
list_of-items_of [] = refl
list_of-items_of (d ∷ ds) = ap (λ k. d ∷ k) (list_of-items_of ds)

-- what a call gave
pub reads_as : {F W : Type 0} (g : Shared F (Bor Value × Unit {0}) (Result (Option W) AllocError)) (f : F)
    (p : Bor Value) (o : Option W)
    → g.post f (p, tt) (Ok o) → ReadsAs g f (view p.now) o
reads_as g f p o met = (p.now, record { shown = p; shows = refl; says = record { met = met } }, refl)

-- an array's values
pub array_some : (d : Data) (vs : List Value)
    → Some (items_of (map view vs)) ≡ as_array d → array_in d ≡ Some (map view vs)
array_some d vs e = ap (option_map list_of) (sym e) ∙ ap Some (list_of-items_of (map view vs))

pub array_none : (d : Data) → None ≡ as_array d → array_in d ≡ None
array_none d e = ap (option_map list_of) (sym e)

-- ---- one by one

pub drop_at : {A : Type 0} (xs : List A) (i : ℕ) (x : A)
    → i < length xs → x ≡ get_or xs i x → drop i xs ≡ x ∷ drop (i + 1) xs
drop_at xs i x low is = drop_more xs i x low ∙ ap (λ k. k ∷ drop (i + 1) xs) (sym is)

module _ {A : Type 0} (one : Data → Option A) where
  -- the first i gave xs
  pub record AllSoFar (vs : List Value) (i : ℕ) (xs : List A) : Type 0 where
    pub is : all_in one (map view vs) ≡ option_map (λ r. xs ++ r) (all_in one (map view (drop i vs)))

  joined : (x : A) (xs : List A) (o : Option (List A))
      → option_map (λ r. xs ++ r) (option_map (λ r. x ∷ r) o) ≡ option_map (λ r. (xs ++ x ∷ []) ++ r) o
  joined x xs None = refl
  joined x xs (Some r) = ap Some (sym (append_assoc xs (x ∷ []) r))

  module _ {vs : List Value} {i : ℕ} {xs : List A} (s : AllSoFar vs i xs) where
    at_next : (v : Value) (o : Option A) → i < length vs → v ≡ get_or vs i v → one (view v) ≡ o
        → all_in one (map view vs)
        ≡ option_map (λ r. xs ++ r)
        (option_and_then (λ x. option_map (λ r. x ∷ r) (all_in one (map view (drop (i + 1) vs)))) o)
    at_next v o low is gives = rw (drop_at vs i v low is, gives) at s.is

    pub all_more : (v : Value) (x : A) (xs' : List A)
        → i < length vs → v ≡ get_or vs i v → one (view v) ≡ Some x → xs' ≡ xs ++ x ∷ [] → AllSoFar vs (i + 1) xs'
    all_more v x xs' low is gives more =
        record { is = rw more (at_next v (Some x) low is gives ∙ joined x xs _) }

    pub all_none : (v : Value)
        → i < length vs → v ≡ get_or vs i v → one (view v) ≡ None → None ≡ all_in one (map view vs)
    all_none v low is gives = sym (at_next v None low is gives)

    pub all_whole : length vs ≤ i → Some xs ≡ all_in one (map view vs)
    all_whole past = sym (rw (drop_all i vs past, append-nil xs) at s.is)

-- ---- parts of an array

pub array_found : {C : Type 0} (items : C → List Value) (o : Option C) (d : Data)
    → option_map (λ v. items_of (map view (items v))) o ≡ as_array d
    → option_map (λ v. map view (items v)) o ≡ array_in d
array_found items None d e = sym (array_none d e)
array_found items (Some v) d e = sym (array_some d (items v) e)

pub not_triple : (vs : List Value) → (length vs ≡ 3 → ⊥) → triple (map view vs) ≡ None
not_triple (a ∷ b ∷ c ∷ []) h = absurd (h refl)
not_triple _ h = refl

pub triple_is : (vs : List Value) (a b w : Value) → length vs ≡ 3 → a ≡ get_or vs 0 a → b ≡ get_or vs 1 b
    → w ≡ get_or vs 2 w → triple (map view vs) ≡ triple (view a ∷ view b ∷ view w ∷ [])
triple_is (k ∷ l ∷ m ∷ []) a b w long x y z = rw (x, y, z)
triple_is _ a b w long x y z = absurd (omega arith)

pub not_row : (bound : ℕ) (vs : List Value) → (length vs ≡ 2 → ⊥) → row bound (map view vs) ≡ None
not_row bound (a ∷ b ∷ []) h = absurd (h refl)
not_row bound _ h = refl

module _ (d : Data) (vs : List Value) (array : Some (items_of (map view vs)) ≡ as_array d) where
  pub no_triple : (length vs ≡ 3 → ⊥) → None ≡ triple_in d
  no_triple h = sym (ap (option_and_then triple) (array_some d vs array) ∙ not_triple vs h)

  pub triple_found : (a : Value) {b w : Value} → length vs ≡ 3 → a ≡ get_or vs 0 a → b ≡ get_or vs 1 b → w ≡ get_or vs 2
      w
      → (x y : Option ℕ) → x ≡ whole_in (view a) → y ≡ whole_in (view b)
      → option_and_then (λ p. option_map (λ c. (p, c, view w)) y) x ≡ triple_in d
  triple_found a {b} {w} long e f h x y first second =
      rw (first, second)
      (sym (ap (option_and_then triple) (array_some d vs array) ∙ triple_is vs a b w long e f h))

  pub no_row : (bound : ℕ) → (length vs ≡ 2 → ⊥) → None ≡ row_in bound d
  no_row bound h = sym (ap (option_and_then (row bound)) (array_some d vs array) ∙ not_row bound vs h)

  module _ {A : Type 0} (one : Data → Option A) (ws : List Value) (same : ws ≡ vs) where
    read_at : all_in one (map view ws) ≡ option_and_then (all_in one) (array_in d)
    read_at = ap (λ k. all_in one (map view k)) same ∙ sym (ap (option_and_then (all_in one)) (array_some d vs array))

    pub all_none_in : None ≡ all_in one (map view ws) → None ≡ option_and_then (all_in one) (array_in d)
    all_none_in h = h ∙ read_at

    pub all_found : (xs : List A)
        → Some xs ≡ all_in one (map view ws) → Some xs ≡ option_and_then (all_in one) (array_in d)
    all_found xs h = h ∙ read_at
