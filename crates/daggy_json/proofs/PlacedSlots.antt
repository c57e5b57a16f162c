-- The slots so far, where the weights and the holes are put together.
use Rattle.std.proofs.Common.{◌≡◌, ℕ, suc, ◌+◌, ◌<◌, ◌≤◌, inl, inr, Option, Some, None, List, [], ◌∷◌, ◌++◌, length}
use Rattle.std.proofs.Common.{get_or, take, drop, map, refl, sym, ap, ◌∙◌, arith, add-one, add-zero, drop-cons}
use Rattle.std.proofs.Common.{length-append, length-drop, append_assoc}
use Rattle.std.proofs.lemmas.Bool.{cases_lt, false≢true}
use Rattle.std.specs.Prelude.{◌↔◌, IsSome}
use Rattle.std.specs.Option.{option_to_list}
use Rattle.std.proofs.lemmas.List.{take_more, take_all, drop_all, append-nil}
use Rattle.daggy_base.specs.Iterating.{numbered}
use Rattle.daggy_json.specs.Document.{vacant_from}
use Rattle.daggy_json.specs.Reading.{Ascend, AreSlots}

pub record Placed {N : Type 0} (holes : List ℕ) (weights : List N) (passed : ℕ) (slots : List (Option N))
    (rest : List N) : Type 0 where
  pub vacant : vacant_from 0 slots ≡ take passed holes
  pub given : map (λ p. p.1) (numbered 0 slots) ++ rest ≡ weights
  pub ascend : Ascend (length slots) (length weights + length holes) (drop passed holes)
  pub counted : length slots + length rest + length holes ≡ length weights + length holes + passed
  pub within : passed ≤ length holes

pub starts_at : {N : Type 0} (holes : List ℕ) (weights : List N) (slots : List (Option N)) (rest : List N)
    → slots ≡ [] → rest ≡ weights → Ascend 0 (length weights + length holes) holes → Placed holes weights 0 slots rest
starts_at holes weights slots rest none whole h = rw (none, whole) (record {
  vacant = refl;
  given = refl;
  ascend = h;
  counted = omega arith;
  within = omega arith;
})

vacant_none : {N : Type 0} (i : ℕ) (xs : List (Option N))
    → vacant_from i (xs ++ None ∷ []) ≡ vacant_from i xs ++ (i + length xs) ∷ []
vacant_none i [] = ap (λ k. k ∷ []) (sym (add-zero i))
vacant_none i (None ∷ xs) =
    ap (λ k. i ∷ k) (vacant_none (i + 1) xs ∙ ap (λ k. vacant_from (i + 1) xs ++ k ∷ []) (omega arith))
vacant_none i (Some x ∷ xs) = vacant_none (i + 1) xs ∙ ap (λ k. vacant_from (i + 1) xs ++ k ∷ []) (omega arith)

vacant_some : {N : Type 0} (i : ℕ) (xs : List (Option N)) (w : N) → vacant_from i (xs ++ Some w ∷ []) ≡ vacant_from i xs
vacant_some i [] w = refl
vacant_some i (None ∷ xs) w = ap (λ k. i ∷ k) (vacant_some (i + 1) xs w)
vacant_some i (Some x ∷ xs) w = vacant_some (i + 1) xs w

given_none : {N : Type 0} (i : ℕ) (xs : List (Option N))
    → map (λ p. p.1) (numbered i (xs ++ None ∷ [])) ≡ map (λ p. p.1) (numbered i xs)
given_none i [] = refl
given_none i (None ∷ xs) = given_none (i + 1) xs
given_none i (Some x ∷ xs) = ap (λ k. x ∷ k) (given_none (i + 1) xs)

given_some : {N : Type 0} (i : ℕ) (xs : List (Option N)) (w : N)
    → map (λ p. p.1) (numbered i (xs ++ Some w ∷ [])) ≡ map (λ p. p.1) (numbered i xs) ++ w ∷ []
given_some i [] w = refl
given_some i (None ∷ xs) w = given_some (i + 1) xs w
given_some i (Some x ∷ xs) w = ap (λ k. x ∷ k) (given_some (i + 1) xs w)

-- ascending numbers need room
ascending_fit : (low high : ℕ) (hs : List ℕ) → low ≤ high → Ascend low high hs → low + length hs ≤ high
ascending_fit low high [] h a = omega arith
ascending_fit low high (x ∷ hs) h a = let r = ascending_fit (x + 1) high hs (omega (arith, a.1)) a.2 in
    omega (arith, a.0)

-- where the first is not low itself
above : (low high x : ℕ) (hs : List ℕ)
    → Ascend low high (x ∷ hs) → (x ≡ low → ⊥) → Ascend (low + 1) high (x ∷ hs) × (low + 1 + length (x ∷ hs) ≤ high)
above low high x hs a ne =
    let r = ascending_fit (x + 1) high hs (omega (arith, a.1)) a.2 in
    let more : low + 1 ≤ x = omega (arith, ne, a.0) in
    ((more, a.1, a.2), omega arith)

module _ {N : Type 0} {holes : List ℕ} {weights : List N} {passed : ℕ} {slots : List (Option N)} {rest : List N}
    (s : Placed holes weights passed slots rest) where
  long : (o : Option N) (slots' : List (Option N)) → slots' ≡ slots ++ o ∷ [] → length slots' ≡ length slots + 1
  long o slots' more = ap length more ∙ length-append slots (o ∷ [])

  -- the hole that comes next
  next_hole : passed < length holes → drop passed holes ≡ get_or holes passed 0 ∷ drop (suc passed) holes
  next_hole low = drop-cons holes passed 0 low

  pub hole_placed : (h : ℕ) → passed < length holes → h ≡ get_or holes passed 0 → h ≡ length slots
      → (slots' : List (Option N)) → slots' ≡ slots ++ None ∷ [] → Placed holes weights (passed + 1) slots' rest
  hole_placed h low is here slots' more =
      let a = rw (next_hole low) at s.ascend in
      let l = long None slots' more in
      let next : length slots' ≡ get_or holes passed 0 + 1 = omega arith in
      let e : 0 + length slots ≡ get_or holes passed 0 = omega arith in
      record {
        vacant =
            rw (more, vacant_none 0 slots, s.vacant, take_more holes passed 0 low)
            (ap (λ k. take passed holes ++ k ∷ []) e);
        given = rw (more, given_none 0 slots) s.given;
        ascend = rw (next, add-one passed) a.2;
        counted = omega (arith, s.counted, l);
        within = omega arith;
      }

  left : length (drop passed holes) + passed ≡ length holes
  left = omega (arith, length-drop passed holes, s.within)

  -- a weight is left, and the holes ascend behind it
  ascends_on : (passed < length holes → get_or holes passed 0 ≡ length slots → ⊥)
      → length slots < (length weights + length holes)
      → Ascend (length slots + 1) (length weights + length holes) (drop passed holes) × (0 < length rest)
  ascends_on other less =
      elim (cases_lt passed (length holes)) [
        | inl low ↦ (
            let next = next_hole low in
            let a =
            above (length slots) (length weights + length holes) (get_or holes passed 0) (drop (suc passed) holes)
            (rw next at s.ascend) (other low) in
            (rw next a.0, omega (arith, a.1, ap length next, left, s.counted))
            )
        | inr over ↦ (rw (drop_all passed holes over) tt, omega (arith, s.counted, s.within))
      ]

  pub weight_placed : (o : Option N) (rest' : List N) (slots' : List (Option N))
      → (passed < length holes → get_or holes passed 0 ≡ length slots → ⊥)
      → length slots < length weights + length holes → (o ≡ None → length rest ≡ 0) → rest ≡ option_to_list o ++ rest'
      → slots' ≡ slots ++ o ∷ []
      → Placed holes weights passed slots' rest'
  weight_placed None rest' slots' other less empty is more =
      absurd (omega (arith, (ascends_on other less).1, empty refl))
  weight_placed (Some w) rest' slots' other less empty is more =
      let l = long (Some w) slots' more in
      let a = ascends_on other less in
      let shorter : length rest ≡ length rest' + 1 = ap length is ∙ sym (add-one (length rest')) in
      record {
        vacant = ap (vacant_from 0) more ∙ (vacant_some 0 slots w ∙ s.vacant);
        given =
            rw (more, given_some 0 slots w)
            (append_assoc (map (λ p. p.1) (numbered 0 slots)) (w ∷ []) rest' ∙ rw is at s.given);
        ascend = rw l a.0;
        counted = omega (arith, s.counted, l, shorter);
        within = s.within;
      }

  pub placed_whole : length weights + length holes ≤ length slots → AreSlots slots holes weights
  placed_whole all =
      let none : length holes ≤ passed = elim (cases_lt passed (length holes)) [
        | inl low ↦ (
            let a = rw (next_hole low) at s.ascend in
            absurd (omega (arith, a.0, a.1, all))
            )
        | inr over ↦ over
      ] in
      record {
        vacant = s.vacant ∙ take_all passed holes none;
        given =
            sym (append-nil _)
            ∙ (ap (λ k. map (λ p. p.1) (numbered 0 slots) ++ k)
            (sym (nothing rest (omega (arith, s.counted, all, s.within))))
            ∙ s.given);
      }
    where
      nothing : (xs : List N) → length xs ≡ 0 → xs ≡ []
      nothing [] k = refl
      nothing (x ∷ xs) k = absurd (omega arith)

-- ---- what an iterator has left

pub none_left : {A : Type 0} (n : ℕ) (o : Option A) → (IsSome o ↔ (0 < n)) → o ≡ None → n ≡ 0
none_left n None h e = elim (cases_lt 0 n) [ inl a ↦ absurd (false≢true (h.1 a)) | inr b ↦ omega arith ]
none_left n (Some x) h e = cc

pub counted_on : {A : Type 0} (n n' : ℕ) (o : Option A) (xs xs' : List A)
    → n ≡ length xs → n' + length (option_to_list o) ≡ n → xs ≡ option_to_list o ++ xs' → n' ≡ length xs'
counted_on n n' None xs xs' counted less is = omega (arith, ap length is)
counted_on n n' (Some x) xs xs' counted less is = omega (arith, ap length is)
