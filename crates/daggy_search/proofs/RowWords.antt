-- Rows of bits in words: united, compared, and one bit set.
use Rattle.std.proofs.Common.{◌≡◌, ◌≢◌, ℕ, ◌/◌, ◌%◌, ◌==◌, ◌+◌, ◌*◌, ◌^◌, ◌<◌, ◌≤◌, ◌⊎◌, ◌↔◌, Bool, true, false, List, length, get_or}
use Rattle.std.proofs.Common.{set, refl, sym, ap, subst, ◌∙◌, inl, inr, arith, min, max}
use Rattle.std.proofs.lemmas.Bool.{cases_eq, false≢true}
use Rattle.std.proofs.lemmas.Bool.Decides.{eqb_tells}
use Rattle.std.proofs.lemmas.List.{get_or-set_same, get_or-set_other, length-set}
use Rattle.std.proofs.lemmas.Nat.Bits.{bit_at-lt, bit_at-zero, bit_at_and, bit_at_or, same_from_bits_below}
use Rattle.std.specs.Prelude.{bit_and, bit_or}
use Rattle.std.specs.Int.{bit_at}
use Rattle.daggy_base.specs.Bits.{flags}
use Rattle.daggy_base.proofs.Flags.{length-flags, flag_bit, either_bit, set_in, set_here}

-- the words of two rows united
pub flags_united : (a b new : List ℕ) (n : ℕ)
    → ((k : ℕ) → k < n → get_or new (k / 64) 0 ≡ bit_or (get_or a (k / 64) 0) (get_or b (k / 64) 0)) → (i : ℕ)
    → (get_or (flags new n) i false ≡ true)
    ↔ ((get_or (flags a n) i false ≡ true) ⊎ (get_or (flags b n) i false ≡ true))
flags_united a b new n united i =
    let wa = get_or a (i / 64) 0 in
    let wb = get_or b (i / 64) 0 in
    let j = i % 64 in (
      λ t.
          (let f = (flag_bit new n i).0 t in
          let both : max (bit_at wa j) (bit_at wb j) ≡ 1 =
          sym (bit_at_or wa wb j) ∙ sym (ap (λ z. bit_at z j) (united i f.0)) ∙ f.1 in
          elim (either_bit (bit_at wa j) (bit_at wb j) (bit_at-lt wa j) (bit_at-lt wb j) both) [
            | inl x ↦ inl ((flag_bit a n i).1 (f.0, x))
            | inr y ↦ inr ((flag_bit b n i).1 (f.0, y))
          ]),
      λ t.
          elim t [
            | inl x ↦
                (let f = (flag_bit a n i).0 x in
                let one : max (bit_at wa j) (bit_at wb j) ≡ 1 = omega (arith, f.1, bit_at-lt wb j) in
                (flag_bit new n i).1 (f.0, ap (λ z. bit_at z j) (united i f.0) ∙ bit_at_or wa wb j ∙ one))
            | inr y ↦
                (let f = (flag_bit b n i).0 y in
                let one : max (bit_at wa j) (bit_at wb j) ≡ 1 = omega (arith, f.1, bit_at-lt wa j) in
                (flag_bit new n i).1 (f.0, ap (λ z. bit_at z j) (united i f.0) ∙ bit_at_or wa wb j ∙ one))
          ],
    )

-- the bits that are common to the first k words of two rows, gathered in a word
pub record AreMet (a b : List ℕ) (any k : ℕ) : Type 0 where
  pub all : (m j : ℕ) → m < k → min (bit_at (get_or a m 0) j) (bit_at (get_or b m 0) j) ≤ bit_at any j
  pub only : (j : ℕ) → bit_at any j ≡ 1
      → (m : ℕ) × (m < k) × (min (bit_at (get_or a m 0) j) (bit_at (get_or b m 0) j) ≡ 1)

pub met_none : (a b : List ℕ) → AreMet a b 0 0
met_none a b =
    record {
      all = λ m j low. absurd (omega (arith, low));
      only = λ j is. absurd (omega (arith, is, bit_at-zero j));
    }

pub met_more : (a b : List ℕ) (any k : ℕ)
    → AreMet a b any k → AreMet a b (bit_or any (bit_and (get_or a k 0) (get_or b k 0))) (k + 1)
met_more a b any k met =
    let x = get_or a k 0 in
    let y = get_or b k 0 in
    record {
      all = λ m j low. (
          let more = bit_at_or any (bit_and x y) j in
          let both = bit_at_and x y j in
          elim (cases_eq m k) [
            | inl here ↦
                (let P : ℕ → Type 0 = λ z.
                min (bit_at (get_or a z 0) j) (bit_at (get_or b z 0) j) ≤ bit_at (bit_or any (bit_and x y)) j in
                let at : min (bit_at x j) (bit_at y j) ≤ bit_at (bit_or any (bit_and x y)) j = omega (arith, more, both) in
                subst P (sym here) at)
            | inr other ↦ omega (arith, more, met.all m j (omega (arith, low, other)))
          ]
          );
      only = λ j is. (
          let one : max (bit_at any j) (bit_at (bit_and x y) j) ≡ 1 = sym (bit_at_or any (bit_and x y) j) ∙ is in
          elim (either_bit (bit_at any j) (bit_at (bit_and x y) j) (bit_at-lt any j) (bit_at-lt (bit_and x y) j) one) [
            | inl before ↦ (let found = met.only j before in (found.0, omega (arith, found.1), found.2))
            | inr here ↦ (k, omega arith, sym (bit_at_and x y j) ∙ here)
          ]
          );
    }

-- the rows have no node in common exactly if no bit is
pub none_met : (a b : List ℕ) (any k : ℕ) → any < 2 ^ 64 → k ≡ 8 → AreMet a b any k
    → ((any == 0) ≡ true)
    ↔ ((i : ℕ) → get_or (flags a 512) i false ≡ true → get_or (flags b 512) i false ≡ false)
none_met a b any k fits past met = (apart, none)
  where
    zero_is : (any == 0) ≡ true → any ≡ 0
    zero_is test = elim (eqb_tells any 0) [ inl is ↦ is.1 | inr other ↦ absurd (false≢true (sym other.0 ∙ test)) ]

    apart : (any == 0) ≡ true → (i : ℕ) → get_or (flags a 512) i false ≡ true → get_or (flags b 512) i false ≡ false
    apart test i t = go (get_or (flags b 512) i false) refl
      where
        go : (v : Bool) → v ≡ get_or (flags b 512) i false → get_or (flags b 512) i false ≡ false
        go false is = sym is
        go true is =
            let f = (flag_bit a 512 i).0 t in
            let h = (flag_bit b 512 i).0 (sym is) in
            let P : ℕ → Type 0 = λ z.
            min (bit_at (get_or a (i / 64) 0) (i % 64)) (bit_at (get_or b (i / 64) 0) (i % 64)) ≤ bit_at z (i % 64) in
            let low = subst P (zero_is test) (met.all (i / 64) (i % 64) (omega (arith, f.0, past))) in
            absurd (omega (arith, f.1, h.1, low, bit_at-zero (i % 64)))

    -- a common bit is one of a common node
    common : ((i : ℕ) → get_or (flags a 512) i false ≡ true → get_or (flags b 512) i false ≡ false)
        → (j : ℕ) → j < 64 → bit_at any j ≡ 1 → ⊥
    common disjoint j low is =
        let found = met.only j is in
        let m = found.0 in
        let i = m * 64 + j in
        let word : i / 64 ≡ m = omega (arith, low) in
        let rest : i % 64 ≡ j = omega (arith, low) in
        let within : i < 512 = omega (arith, low, found.1, past) in
        let bit : (xs : List ℕ) → bit_at (get_or xs m 0) j ≡ 1 → get_or (flags xs 512) i false ≡ true = λ xs one.
        (let P : ℕ → Type 0 = λ z. bit_at (get_or xs z 0) (i % 64) ≡ 1 in
        let Q : ℕ → Type 0 = λ z. bit_at (get_or xs m 0) z ≡ 1 in
        (flag_bit xs 512 i).1 (within, subst P (sym word) (subst Q (sym rest) one))) in
        let in_a : bit_at (get_or a m 0) j ≡ 1 = omega (arith, found.2, bit_at-lt (get_or a m 0) j, bit_at-lt (get_or b m 0) j) in
        let in_b : bit_at (get_or b m 0) j ≡ 1 = omega (arith, found.2, bit_at-lt (get_or a m 0) j, bit_at-lt (get_or b m 0) j) in
        false≢true (sym (disjoint i (bit a in_a)) ∙ bit b in_b)

    none : ((i : ℕ) → get_or (flags a 512) i false ≡ true → get_or (flags b 512) i false ≡ false) → (any == 0) ≡ true
    none disjoint =
        let zero : any ≡ 0 = same_from_bits_below 64 any 0 fits (omega arith) (λ j low.
        elim (cases_eq (bit_at any j) 1) [
          | inl is ↦ absurd (common disjoint j low is)
          | inr other ↦ omega (arith, other, bit_at-lt any j, bit_at-zero j)
        ]) in
        elim (eqb_tells any 0) [ inl is ↦ is.0 | inr other ↦ absurd (other.1 zero) ]

-- words united one by one
pub record IsUniting (a b now : List ℕ) (k : ℕ) : Type 0 where
  pub sized : length now ≡ 8
  pub done : (m : ℕ) → m < k → get_or now m 0 ≡ bit_or (get_or a m 0) (get_or b m 0)
  pub left : (m : ℕ) → k ≤ m → get_or now m 0 ≡ get_or a m 0

pub unite_start : (a b : List ℕ) → length a ≡ 8 → IsUniting a b a 0
unite_start a b sized = record { sized = sized; done = λ m low. absurd (omega (arith, low)); left = λ m h. refl }

pub unite_on : {a b now : List ℕ} {k : ℕ} → IsUniting a b now k → k < 8
    → IsUniting a b (set now k (bit_or (get_or now k 0) (get_or b k 0))) (k + 1)
unite_on {a} {b} {now} {k} u low =
    let x = bit_or (get_or now k 0) (get_or b k 0) in
    let x_is : x ≡ bit_or (get_or a k 0) (get_or b k 0) = ap (λ z. bit_or z (get_or b k 0)) (u.left k (omega arith)) in
    let inside : k < length now = omega (arith, u.sized) in
    record {
      sized = length-set now k x ∙ u.sized;
      done = λ m h. elim (cases_eq m k) [
        | inl here ↦
            (let P : ℕ → Type 0 = λ z. get_or (set now k x) z 0 ≡ bit_or (get_or a z 0) (get_or b z 0) in
            subst P (sym here) (get_or-set_same now k x 0 inside ∙ x_is))
        | inr other ↦ get_or-set_other now k m x 0 other ∙ u.done m (omega (arith, h, other))
      ];
      left = λ m h.
          (let other : m ≢ k = λ e. absurd (omega (arith, h, e)) in
          get_or-set_other now k m x 0 other ∙ u.left m (omega (arith, h)));
    }

pub united : {a b now : List ℕ} {k : ℕ} → IsUniting a b now k → 8 ≤ k → (i : ℕ)
    → (get_or (flags now 512) i false ≡ true)
    ↔ ((get_or (flags a 512) i false ≡ true) ⊎ (get_or (flags b 512) i false ≡ true))
united {a} {b} {now} {k} u past i =
    let all : (j : ℕ) → j < 512 → get_or now (j / 64) 0 ≡ bit_or (get_or a (j / 64) 0) (get_or b (j / 64) 0) =
    λ j low. u.done (j / 64) (omega (arith, low, past)) in
    flags_united a b now 512 all i

-- one flag set
pub one_set : (row : List Bool) (i : ℕ) → i < length row → (j : ℕ)
    → (get_or (set row i true) j false ≡ true) ↔ ((get_or row j false ≡ true) ⊎ (j ≡ i))
one_set row i within j =
    elim (cases_eq j i) [
      | inl here ↦ (
        λ _. inr here,
        λ _. ap (λ z. get_or (set row i true) z false) here ∙ get_or-set_same row i true false within,
      )
      | inr other ↦ (
        λ t. inl (sym (get_or-set_other row i j true false other) ∙ t),
        λ t. elim t [
          | inl old ↦ get_or-set_other row i j true false other ∙ old
          | inr here ↦ absurd (other here)
        ],
      )
    ]

pub row_set : (words : List ℕ) (i : ℕ) → i < 512 → length words ≡ 8 → (j : ℕ)
    → (get_or (flags (set words (i / 64) (set_in (get_or words (i / 64) 0) i)) 512) j false ≡ true)
    ↔ ((get_or (flags words 512) j false ≡ true) ⊎ (j ≡ i))
row_set words i low sized j =
    let P : List Bool → Type 0 = λ z.
    (get_or z j false ≡ true) ↔ ((get_or (flags words 512) j false ≡ true) ⊎ (j ≡ i)) in
    subst P (sym (set_here words 512 i low (omega (arith, sized))))
    (one_set (flags words 512) i (omega (arith, low, length-flags words 512)) j)
