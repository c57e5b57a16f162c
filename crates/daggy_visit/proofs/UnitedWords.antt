-- Flags in words, of which some are united with others.
use Rattle.std.proofs.Common.{◌≡◌, ◌≢◌, ℕ, ◌+◌, ◌-◌, ◌*◌, ◌/◌, ◌%◌, ◌<◌, ◌≤◌, ◌⊎◌, ◌↔◌, true, false, List, length, get_or}
use Rattle.std.proofs.Common.{set, max, refl, sym, ap, subst, ◌∙◌, inl, inr, arith}
use Rattle.std.proofs.lemmas.Bool.{cases_eq, cases_lt}
use Rattle.std.proofs.lemmas.List.{get_or-set_same, get_or-set_other, length-set}
use Rattle.std.proofs.lemmas.Nat.Bits.{bit_at-lt, bit_at_or}
use Rattle.std.specs.Prelude.{bit_or}
use Rattle.std.specs.Int.{bit_at}
use Rattle.daggy_base.specs.Bits.{flags}
use Rattle.daggy_base.proofs.Flags.{flag_bit, either_bit}
use Rattle.daggy_visit.specs.United.{AreUnited}

pub unite_none : (old : List ℕ) (to from : ℕ) → AreUnited old old to from 0
unite_none old to from =
    record {
      sized = refl;
      done = λ m low high. absurd (omega (arith, low, high));
      left = λ m out. refl;
    }

pub unite_more : {old now : List ℕ} {to from count k : ℕ} → AreUnited old now to from k → k < count
    → to + count ≤ length old → (to + count ≤ from) ⊎ (from + count ≤ to) → (x : ℕ)
    → x ≡ bit_or (get_or now (to + k) 0) (get_or now (from + k) 0) → AreUnited old (set now (to + k) x) to from (k + 1)
unite_more {old} {now} {to} {from} {count} {k} u low fits apart x x_is =
    let inside : to + k < length now = omega (arith, low, fits, u.sized) in
    let other : (from + k < to) ⊎ (to + k ≤ from + k) =
    elim apart [ inl before ↦ inr (omega (arith, before)) | inr after ↦ inl (omega (arith, after, low)) ] in
    let is : x ≡ bit_or (get_or old (to + k) 0) (get_or old (from + k) 0) =
    x_is ∙ ap (λ z. bit_or z (get_or now (from + k) 0)) (u.left (to + k) (inr (omega arith)))
    ∙ ap (λ z. bit_or (get_or old (to + k) 0) z) (u.left (from + k) other) in
    record {
      sized = length-set now (to + k) x ∙ u.sized;
      done = λ m low' high. elim (cases_eq m (to + k)) [
        | inl here ↦
            (let P : ℕ → Type 0 = λ z. get_or (set now (to + k) x) z 0 ≡ bit_or (get_or old z 0) (get_or old (z - to + from) 0) in
            let back : from + k ≡ to + k - to + from = omega arith in
            subst P (sym here) (get_or-set_same now (to + k) x 0 inside ∙ is
            ∙ ap (λ z. bit_or (get_or old (to + k) 0) (get_or old z 0)) back))
        | inr elsewhere ↦
            get_or-set_other now (to + k) m x 0 elsewhere ∙ u.done m low' (omega (arith, high, elsewhere))
      ];
      left = λ m out.
          (let elsewhere : m ≢ to + k = λ e.
          elim out [ inl a ↦ absurd (omega (arith, a, e)) | inr b ↦ absurd (omega (arith, b, e)) ] in
          get_or-set_other now (to + k) m x 0 elsewhere
          ∙ u.left m (elim out [ inl a ↦ inl a | inr b ↦ inr (omega (arith, b)) ]));
    }

pub united_flags : {old now : List ℕ} {to from count : ℕ} (n : ℕ) → AreUnited old now to from count
    → 64 * (to + count) ≤ n → 64 * (from + count) ≤ n → (i : ℕ)
    → (get_or (flags now n) i false ≡ true) ↔ ((get_or (flags old n) i false ≡ true)
    ⊎ ((64 * to ≤ i) × (i < 64 * (to + count)) × (get_or (flags old n) (i - 64 * to + 64 * from) false ≡ true)))
united_flags {old} {now} {to} {from} {count} n u fits_to fits i =
    elim (cases_lt i (64 * to)) [
      | inl before ↦ outside (inl (omega (arith, before))) (λ low high. omega (arith, before, low))
      | inr low ↦ elim (cases_lt i (64 * (to + count))) [
        | inl high ↦ inside low high
        | inr behind ↦ outside (inr (omega (arith, behind))) (λ low high. omega (arith, behind, high))
      ]
    ]
  where
    Goal : Type 0
    Goal = (get_or (flags now n) i false ≡ true) ↔ ((get_or (flags old n) i false ≡ true)
        ⊎ ((64 * to ≤ i) × (i < 64 * (to + count)) × (get_or (flags old n) (i - 64 * to + 64 * from) false ≡ true)))

    outside : (i / 64 < to) ⊎ (to + count ≤ i / 64) → (64 * to ≤ i → i < 64 * (to + count) → ⊥) → Goal
    outside out not_in =
        let same = u.left (i / 64) out in (
          λ t. inl ((flag_bit old n i).1
              (let f = (flag_bit now n i).0 t in (f.0, ap (λ z. bit_at z (i % 64)) (sym same) ∙ f.1))),
          λ t. elim t [
            | inl o ↦
                (flag_bit now n i).1
                (let f = (flag_bit old n i).0 o in (f.0, ap (λ z. bit_at z (i % 64)) same ∙ f.1))
            | inr q ↦ absurd (not_in q.0 q.1)
          ],
        )

    inside : 64 * to ≤ i → i < 64 * (to + count) → Goal
    inside low high =
        let j = i - 64 * to + 64 * from in
        let wa = get_or old (i / 64) 0 in
        let wb = get_or old (i / 64 - to + from) 0 in
        let r = i % 64 in
        let is = u.done (i / 64) (omega (arith, low)) (omega (arith, high)) in
        let word : j / 64 ≡ i / 64 - to + from = omega (arith, low) in
        let bit : j % 64 ≡ r = omega (arith, low) in
        let j_low : j < n = omega (arith, low, high, fits) in
        let wb_is : bit_at (get_or old (j / 64) 0) (j % 64) ≡ bit_at wb r =
        ap (λ z. bit_at (get_or old z 0) (j % 64)) word ∙ ap (λ z. bit_at wb z) bit in
        let both : bit_at (get_or now (i / 64) 0) r ≡ max (bit_at wa r) (bit_at wb r) =
        ap (λ z. bit_at z r) is ∙ bit_at_or wa wb r in (
          λ t.
              (let f = (flag_bit now n i).0 t in
              elim (either_bit (bit_at wa r) (bit_at wb r) (bit_at-lt wa r) (bit_at-lt wb r) (sym both ∙ f.1)) [
                | inl x ↦ inl ((flag_bit old n i).1 (f.0, x))
                | inr y ↦ inr (low, high, (flag_bit old n j).1 (j_low, wb_is ∙ y))
              ]),
          λ t. elim t [
            | inl o ↦
                (let f = (flag_bit old n i).0 o in
                (flag_bit now n i).1 (f.0, both ∙ omega (arith, f.1, bit_at-lt wb r)))
            | inr q ↦
                (let f = (flag_bit old n j).0 q.2 in
                let one : bit_at wb r ≡ 1 = sym wb_is ∙ f.1 in
                (flag_bit now n i).1 (omega (arith, high, fits_to), both ∙ omega (arith, one, bit_at-lt wa r)))
          ],
        )
