-- The slots left after leading vacant slots are skipped.
use Rattle.std.proofs.Common.{◌≡◌, ℕ, ◌+◌, ◌≤◌, Bool, true, false, cond, List, [], ◌∷◌, map, length, Option, Some, None}
use Rattle.std.proofs.Common.{is_some, is_none, refl, sym, ap, ◌∙◌, arith, ◌++◌}
use Rattle.std.specs.Option.{option_map}
use Rattle.std.proofs.lemmas.Bool.{not-true, not-false}
use Rattle.std.proofs.lemmas.Option.{same_Some, none-some}
use Rattle.daggy_cells.specs.declared.cell.Edge.{Edge}
use Rattle.daggy_base.specs.Iterating.{numbered}
use Rattle.std.specs.Prelude.{All}
use Rattle.std.proofs.lemmas.List.Elements.{All-head, All-tail}
use Rattle.daggy_stable.specs.FullSlots.{next_full, IsLastFull}
use Rattle.daggy_stable.specs.Stored.{plain, plain_edge}
use Rattle.daggy_stable.proofs.ListSearches.{none_from, some_from}

pub numbered_few : {A : Type 0} (i : ℕ) (xs : List (Option A)) → length (numbered i xs) ≤ length xs
numbered_few i [] = omega arith
numbered_few i (None ∷ xs) = let more = numbered_few (i + 1) xs in omega (arith, more)
numbered_few i (Some x ∷ xs) = let more = numbered_few (i + 1) xs in omega (arith, more)

abbrev pub if_vacant : {C : Type 0} → (vacant : C → Bool) → ℕ → C → List C → Bool → Option (ℕ × (C × List C))
if_vacant vacant i y ys b = cond b (next_full vacant (i + 1) ys) (Some (i, (y, ys)))

-- f says what a cell holds
module _ {C B : Type 0} (f : C → Option B) (vacant : C → Bool) (agree : (x : C) → vacant x ≡ is_none (f x)) where
  -- a step finds the cell x of the index j, and leaves the rest
  pub record Finds (i : ℕ) (cells : List C) (j : ℕ) (x : C) (rest : List C) : Type 0 where
    pub held : B
    pub holds : f x ≡ Some held
    pub left : numbered i (map f cells) ≡ (j, held) ∷ numbered (j + 1) (map f rest)
    pub within : j + 1 + length rest ≤ i + length cells

  found_after : {i : ℕ} {y : C} {ys : List C} {j : ℕ} {x : C} {rest : List C}
      → (next_full vacant (i + 1) ys ≡ Some (j, (x, rest)) → Finds (i + 1) ys j x rest) → (b : Bool) → vacant y ≡ b
      → (if_vacant vacant i y ys b) ≡ Some (j, (x, rest)) → Finds i (y ∷ ys) j x rest
  found_after {i} {y} later true v is =
      let next = later is in
      let none : f y ≡ None = none_from (f y) (not-true (is_some (f y)) (sym (agree y) ∙ v)) in
      record { held = next.held; holds = next.holds; left = rw none next.left; within = omega (arith, next.within) }
  found_after {i} {y} {ys} {j} {x} {rest} later false v is =
      let here = same_Some {A = ℕ × (C × List C)} (i, (y, ys)) (j, (x, rest)) is in
      let some = some_from (f y) (not-false (is_some (f y)) (sym (agree y) ∙ v)) in
      let same_index : i ≡ j = ap (λ p. p.0) here in
      let same_cell : y ≡ x = ap (λ p. p.1.0) here in
      let same_rest : ys ≡ rest = ap (λ p. p.1.1) here in
      record {
        held = some.0;
        holds = ap f (sym same_cell) ∙ some.1;
        left =
            ap (λ z. numbered i (z ∷ map f ys)) some.1 ∙ ap (λ k. (k, some.0) ∷ numbered (k + 1) (map f ys)) same_index
            ∙ ap (λ l. (j, some.0) ∷ numbered (j + 1) (map f l)) same_rest;
        within = omega (arith, same_index, ap length same_rest);
      }

  pub found : (i : ℕ) (cells : List C) (j : ℕ) (x : C) (rest : List C)
      → next_full vacant i cells ≡ Some (j, (x, rest)) → Finds i cells j x rest
  found i [] j x rest is = absurd (none-some _ is)
  found i (y ∷ ys) j x rest is = found_after (found (i + 1) ys j x rest) (vacant y) refl is

  none_after : (i : ℕ) (y : C) (ys : List C) → (next_full vacant (i + 1) ys ≡ None → numbered (i + 1) (map f ys) ≡ [])
      → (b : Bool) → vacant y ≡ b → (if_vacant vacant i y ys b) ≡ None → numbered i (map f (y ∷ ys)) ≡ []
  none_after i y ys later true v is =
      let none : f y ≡ None = none_from (f y) (not-true (is_some (f y)) (sym (agree y) ∙ v)) in
      rw none (later is)
  none_after i y ys later false v is = absurd (none-some _ (sym is))

  pub none_left : (i : ℕ) (cells : List C) → next_full vacant i cells ≡ None → numbered i (map f cells) ≡ []
  none_left i [] is = refl
  none_left i (y ∷ ys) is = none_after i y ys (none_left (i + 1) ys) (vacant y) refl is

pub plain_vacant : {E Ix : Type 0} (x : Edge (Option E) Ix) → is_none x.weight ≡ is_none (plain_edge x)
plain_vacant {E} {Ix} x = go x.weight
  where
    go : (o : Option E) → is_none o ≡ is_none (option_map (plain x) o)
    go None = refl
    go (Some w) = refl

-- from the back

numbered_cons : {B : Type 0} (i : ℕ) (o : Option B) (xs ys : List (Option B)) (last : List (ℕ × B))
    → numbered (i + 1) xs ≡ numbered (i + 1) ys ++ last → numbered i (o ∷ xs) ≡ numbered i (o ∷ ys) ++ last
numbered_cons i None xs ys last same = same
numbered_cons i (Some x) xs ys last same = ap (λ l. (i, x) ∷ l) same

module _ {C B : Type 0} (f : C → Option B) (vacant : C → Bool) (agree : (x : C) → vacant x ≡ is_none (f x)) where
  pub all_vacant : (i : ℕ) (cells : List C) → All (λ x. vacant x ≡ true) cells → numbered i (map f cells) ≡ []
  all_vacant i [] all = refl
  all_vacant i (y ∷ ys) all =
      let here = All-head (λ x. vacant x ≡ true) y ys all in
      let none : f y ≡ None = none_from (f y) (not-true (is_some (f y)) (sym (agree y) ∙ here)) in
      rw none (all_vacant (i + 1) ys (All-tail (λ x. vacant x ≡ true) y ys all))

  last_here : (i : ℕ) (rest : List C) (x : C) (tail : List C) (held : B) → f x ≡ Some held
      → All (λ y. vacant y ≡ true) tail
      → numbered i (map f (rest ++ x ∷ tail)) ≡ numbered i (map f rest) ++ (i + length rest, held) ∷ []
  last_here i [] x tail held some all =
      rw (some, all_vacant (i + 1) tail all) (ap (λ k. (k, held) ∷ []) (omega arith))
  last_here i (y ∷ ys) x tail held some all =
      numbered_cons i (f y) (map f (ys ++ x ∷ tail)) (map f ys) ((i + length (y ∷ ys), held) ∷ [])
      (last_here (i + 1) ys x tail held some all
      ∙ ap (λ k. numbered (i + 1) (map f ys) ++ (k, held) ∷ []) (omega arith))

  -- what the last occupied slot holds, and what is left before it
  pub record FindsLast (i : ℕ) (cells : List C) (x : C) (rest : List C) : Type 0 where
    pub held : B
    pub holds : f x ≡ Some held
    pub left : numbered i (map f cells) ≡ numbered i (map f rest) ++ (i + length rest, held) ∷ []

  pub last_found : (i : ℕ) (cells : List C) (x : C) (rest : List C) → IsLastFull vacant cells x rest
      → FindsLast i cells x rest
  last_found i cells x rest is =
      let some = some_from (f x) (not-false (is_some (f x)) (sym (agree x) ∙ is.0)) in
      record {
        held = some.0;
        holds = some.1;
        left = ap (λ z. numbered i (map f z)) is.2 ∙ last_here i rest x is.1 some.0 some.1 is.3;
      }
