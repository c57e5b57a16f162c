-- The parts of a document so far, in the words of the code that writes them.
use Rattle.std.proofs.Common.{◌≡◌, ℕ, zero, suc, ◌+◌, ◌<◌, ◌≤◌, Option, Some, None, is_some, Bool, true, false, List}
use Rattle.std.proofs.Common.{[], ◌∷◌, ◌++◌, length, get_or, take, map, refl, sym, ap, subst, ◌∙◌, arith}
use Rattle.std.specs.Prelude.{Result, Ok}
use Rattle.std.specs.Fn.{Shared}
use Rattle.std.specs.Borrow.{Bor}
use Rattle.std.specs.declared.alloc.AllocError.{AllocError}
use Rattle.daggy_json.specs.Weight.{WritesAs}
use Rattle.std.specs.List.{AllZip}
use Rattle.std.specs.Option.{option_map}
use Rattle.std.proofs.lemmas.Bool.{false≢true}
use Rattle.std.proofs.lemmas.List.{map-append, take_more}
use Rattle.daggy_base.specs.Graph.{Edge, ends_of, pair_of, slot, bound_of}
use Rattle.daggy_base.specs.Iterating.{numbered}
use Rattle.daggy_base.proofs.PathsWithNode.{bound_low}
use Rattle.serde_json.specs.Data.{Data}
use Rattle.serde_json.specs.View.{view}
use Rattle.serde_json.specs.declared.value.Value.{Value}
use Rattle.daggy_json.specs.Document.{whole, listed, vacant_from, IsEntry}
use Rattle.daggy_json.proofs.NumberedSlots.{numbered_passes, numbered_skips, numbered_bounded, vacant_passes}
use Rattle.daggy_json.proofs.NumberedSlots.{vacant_skips}

pub below_length : {A : Type 0} (slots : List (Option A)) (bound i : ℕ)
    → bound ≡ bound_of slots → i < bound → i < length slots
below_length slots bound i is low = omega (arith, bound_low slots)

pub not_some : {A : Type 0} (o : Option A) → (is_some o ≡ true → ⊥) → o ≡ None
not_some None h = refl
not_some (Some x) h = absurd (h refl)

pub slot_some : {A : Type 0} (o : Option A) → is_some o ≡ true → (x : A) × (o ≡ Some x)
slot_some None h = absurd (false≢true h)
slot_some (Some x) h = (x, refl)

slot_read : {A : Type 0} (xs : List (Option A)) (i : ℕ) → slot xs i ≡ get_or xs i None
slot_read [] i = refl
slot_read (x ∷ xs) zero = refl
slot_read (x ∷ xs) (suc i) = slot_read xs i

-- one more value
pub more_values : {A : Type 0} (as_data : A → Data) (vs vs' : List Value) (v : Value) (xs : List A) (x : A)
    → map view vs ≡ map as_data xs → view v ≡ as_data x → vs' ≡ vs ++ v ∷ [] → map view vs' ≡ map as_data (xs ++ x ∷ [])
more_values as_data vs vs' v xs x so_far is more =
    rw (more, map-append view vs (v ∷ []), so_far, is) (sym (map-append as_data xs (x ∷ [])))

pub zip_more : {A B : Type 0} (R : A → B → Type 0) (xs : List A) (ys : List B) (x : A) (y : B)
    → AllZip R xs ys → R x y → AllZip R (xs ++ x ∷ []) (ys ++ y ∷ [])
zip_more R [] [] x y all here = (here, tt)
zip_more R (z ∷ zs) (w ∷ ws) x y all here = (all.0, zip_more R zs ws x y all.1 here)
zip_more R _ _ x y all here = absurd all

pub zip_values : {A : Type 0} (R : A → Data → Type 0) (vs vs' : List Value) (v : Value) (xs : List A) (x : A)
    → AllZip R xs (map view vs) → R x (view v) → vs' ≡ vs ++ v ∷ [] → AllZip R (xs ++ x ∷ []) (map view vs')
zip_values R vs vs' v xs x so_far here more =
    rw (more, map-append view vs (v ∷ [])) (zip_more R xs (map view vs) x (view v) so_far here)

-- ---- holes

module _ {A : Type 0} (slots : List (Option A)) {i n : ℕ} (at : n ≡ i) where
  here : (b : Bool) → is_some (slot slots n) ≡ b → is_some (slot slots i) ≡ b
  here b h = ap (λ k. is_some (slot slots k)) (sym at) ∙ h

  pub hole_more : (vs : List Value) {vs' : List Value} (v : Value) → map view vs ≡ map whole
      (vacant_from 0 (take i slots))
      → i < length slots → (is_some (slot slots n) ≡ true → ⊥) → view v ≡ whole i → vs' ≡ vs ++ v ∷ []
      → map view vs' ≡ map whole (vacant_from 0 (take (i + 1) slots))
  hole_more vs {vs'} v so_far low vacant is more =
      let none : is_some (slot slots i) ≡ false =
      ap is_some (not_some (slot slots i) (λ h. vacant (ap (λ k. is_some (slot slots k)) at ∙ h))) in
      more_values whole vs vs' v _ i so_far is more ∙ ap (map whole) (sym (vacant_passes i slots low none))

  pub hole_kept : (vs vs' : List Value) → map view vs ≡ map whole (vacant_from 0 (take i slots))
      → is_some (slot slots n) ≡ true → vs' ≡ vs → map view vs' ≡ map whole (vacant_from 0 (take (i + 1) slots))
  hole_kept vs vs' so_far some same =
      ap (map view) same ∙ (so_far ∙ ap (map whole) (sym (vacant_skips i slots (here true some))))

  -- ---- rows

  pub row_more : (row : ℕ → Data) (vs : List Value) {vs' : List Value} (v : Value)
      → map view vs ≡ map row (map (λ p. p.0) (numbered 0 (take i slots))) → (w : A) → slot slots i ≡ Some w
      → view v ≡ row n → vs' ≡ vs ++ v ∷ []
      → map view vs' ≡ map row (map (λ p. p.0) (numbered 0 (take (i + 1) slots)))
  row_more row vs {vs'} v so_far w some is more =
      more_values row vs vs' v _ i so_far (is ∙ ap row at) more
      ∙ ap (map row) (sym (ap (map (λ p. p.0)) (numbered_passes i slots w some)
      ∙ map-append (λ p. p.0) (numbered 0 (take i slots)) ((i, w) ∷ [])))

  pub row_kept : (row : ℕ → Data) {vs vs' : List Value}
      → map view vs ≡ map row (map (λ p. p.0) (numbered 0 (take i slots)))
      → (is_some (slot slots n) ≡ true → ⊥) → vs' ≡ vs
      → map view vs' ≡ map row (map (λ p. p.0) (numbered 0 (take (i + 1) slots)))
  row_kept row so_far vacant same =
      let none : slot slots i ≡ None =
      not_some (slot slots i) (λ h. vacant (ap (λ k. is_some (slot slots k)) at ∙ h)) in
      ap (map view) same ∙ (so_far ∙ ap (λ k. map row (map (λ p. p.0) k)) (sym (numbered_skips i slots none)))

  -- ---- weights

  pub weight_more : (R : A → Data → Type 0) (vs : List Value) {vs' : List Value} (v : Value)
      → AllZip R (map (λ p. p.1) (numbered 0 (take i slots))) (map view vs) → (w : A) → Some w ≡ slot slots n
      → R w (view v) → vs' ≡ vs ++ v ∷ []
      → AllZip R (map (λ p. p.1) (numbered 0 (take (i + 1) slots))) (map view vs')
  weight_more R vs {vs'} v so_far w some is more =
      rw (
        numbered_passes i slots w (ap (slot slots) (sym at) ∙ sym some),
        map-append (λ (p : ℕ × A). p.1) (numbered 0 (take i slots)) ((i, w) ∷ []),
      )
      (zip_values R vs vs' v _ w so_far is more)

  pub weight_kept : (R : A → Data → Type 0) {vs vs' : List Value}
      → AllZip R (map (λ p. p.1) (numbered 0 (take i slots))) (map view vs) → None ≡ slot slots n → vs' ≡ vs
      → AllZip R (map (λ p. p.1) (numbered 0 (take (i + 1) slots))) (map view vs')
  weight_kept R so_far vacant same =
      rw (numbered_skips i slots (ap (slot slots) (sym at) ∙ sym vacant), same) so_far

  -- ---- entries

  pub entry_more : (R : Option A → Data → Type 0) (vs : List Value) {vs' : List Value} (v : Value)
      → i < length slots → AllZip R (take i slots) (map view vs) → R (slot slots n) (view v) → vs' ≡ vs ++ v ∷ []
      → AllZip R (take (i + 1) slots) (map view vs')
  entry_more R vs {vs'} v low so_far entry more =
      rw (take_more slots i None low, sym (ap (slot slots) at ∙ slot_read slots i))
      (zip_values R vs vs' v _ _ so_far entry more)

-- ---- up to the bound

pub at_bound : (i bound k : ℕ) → i ≤ bound → bound ≤ i → bound ≡ k → i ≡ k
at_bound i bound k within over is = omega arith

pub rows_whole : {A : Type 0} (slots : List (Option A)) (row : ℕ → Data) (vs : List Value) (i : ℕ)
    → i ≡ bound_of slots → map view vs ≡ map row (map (λ p. p.0) (numbered 0 (take i slots)))
    → map view vs ≡ map row (map (λ p. p.0) (numbered 0 slots))
rows_whole slots row vs i is so_far =
    so_far ∙ ap (λ k. map row (map (λ p. p.0) k)) (ap (λ k. numbered 0 (take k slots)) is ∙ numbered_bounded 0 slots)

pub weights_whole : {A : Type 0} (slots : List (Option A)) (R : A → Data → Type 0) (vs : List Value) (i : ℕ)
    → i ≡ bound_of slots → AllZip R (map (λ p. p.1) (numbered 0 (take i slots))) (map view vs)
    → AllZip R (map (λ p. p.1) (numbered 0 slots)) (map view vs)
weights_whole slots R vs i is so_far =
    rw (sym (numbered_bounded 0 slots), sym is) so_far

-- ---- an entry

-- what was read of a slot's edge: its ends, of which p is the parent's number and q the child's, and its weight
pub record EdgeRead {E I : Type 0} (number : I → ℕ) (o : Option (Edge E)) (p q : ℕ) (w : E) : Type 0 where
  pub ends : I × I
  pub ends_are : Some (pair_of number ends) ≡ option_map ends_of o
  pub parent : p ≡ number ends.0
  pub child : q ≡ number ends.1
  pub weight_is : Some w ≡ option_map (λ x. x.weight) o

pub entry_is : {E I : Type 0} (number : I → ℕ) (R : E → Data → Type 0) (o : Option (Edge E)) {p q : ℕ} {w : E}
    (d : Data) {v : Data}
    → EdgeRead number o p q w → R w d → v ≡ listed (whole p ∷ whole q ∷ d ∷ []) → IsEntry R o v
entry_is number R None d edge says whole_is = cc
entry_is number R (Some x) {p} {q} {w} d edge says whole_is =
    let same : w ≡ x.weight = cc in
    let pair : pair_of number edge.ends ≡ ends_of x = cc in (
      d,
      subst (λ k. R k d) same says,
      whole_is
          ∙ (ap (λ k. listed (whole k ∷ whole q ∷ d ∷ [])) edge.parent
          ∙ (ap (λ k. listed (whole (number edge.ends.0) ∷ whole k ∷ d ∷ [])) edge.child
          ∙ ap (λ k. listed (whole k.0 ∷ whole k.1 ∷ d ∷ [])) pair)),
    )

-- what a call gave
pub writes_as : {F W : Type 0} (g : Shared F (Bor W × Unit {0}) (Result Value AllocError)) (f : F)
    (p : Bor W) (v : Value)
    → g.post f (p, tt) (Ok v) → WritesAs g f p.now (view v)
writes_as g f p v met = (v, record { shown = p; shows = refl; says = record { met = met } }, refl)
