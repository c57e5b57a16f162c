-- Flags in words: reading, setting and clearing one.
use Rattle.std.proofs.Common.{◌≡◌, ◌≢◌, ℕ, ◌*◌, ◌/◌, ◌%◌, ◌^◌, ◌==◌, ◌<◌, ◌≤◌, ◌⊎◌, ◌↔◌, true, false, not, List, length, get_or, max}
use Rattle.std.proofs.Common.{set, replicate, sym, ap, ◌∙◌, inl, inr, arith, w64}
use Rattle.std.proofs.lemmas.Bool.{cases_eq, cases_lt, false≢true}
use Rattle.std.proofs.lemmas.Bool.Decides.{nat_tests, eqb_tells}
use Rattle.std.proofs.lemmas.List.{ext_get_or, get_or-set_same, get_or-set_other, get_or-replicate, get_or_past}
use Rattle.std.proofs.lemmas.List.{get_or_default, length-set, length-replicate}
use Rattle.std.proofs.lemmas.List.FromFn.{length-map-range_with_len, get_or-map-range_with_len}
use Rattle.std.proofs.lemmas.Nat.Bits.{shr_and_one, bit_at-lt, bit_at-zero, bit_at_set_same, bit_at_set_other}
use Rattle.std.specs.Prelude.{bit_and, bit_or}
use Rattle.std.specs.Int.{bit_at}
use Rattle.daggy_base.specs.Bits.{flag_at, flags}

pub length-flags : (words : List ℕ) (n : ℕ) → length (flags words n) ≡ n
length-flags words n = length-map-range_with_len (flag_at words) 0 n

pub flag_of : (words : List ℕ) (n i : ℕ) → i < n → get_or (flags words n) i false ≡ flag_at words i
flag_of words n i within = get_or-map-range_with_len (flag_at words) 0 n i i false within (omega arith)

-- a word that was read, and the flag in it
pub word_read : (words : List ℕ) (i word : ℕ)
    → i / 64 < length words → word ≡ get_or words (i / 64) word → word ≡ get_or words (i / 64) 0
word_read words i word within is = is ∙ get_or_default words (i / 64) word 0 within

pub flag_read : (words : List ℕ) (n i word : ℕ) → i < n → n ≤ 64 * length words → word ≡ get_or words (i / 64) word
    → (bit_at word (i % 64) == 1) ≡ get_or (flags words n) i false
flag_read words n i word within fits is =
    ap (λ w. bit_at w (i % 64) == 1) (word_read words i word (omega arith) is) ∙ sym (flag_of words n i within)

-- the test `(word >> i) & 1 == 1`, and `== 0`
pub tests_set : (word i : ℕ) → (bit_and (word / 2 ^ i) 1 == 1) ≡ (bit_at word i == 1)
tests_set word i = ap (λ x. x == 1) (shr_and_one word i)

other_bit : (b : ℕ) → b < 2 → (b == 0) ≡ not (b == 1)
other_bit b below = grind (arith, nat_tests)

pub tests_clear : (word i : ℕ) → (bit_and (word / 2 ^ i) 1 == 0) ≡ not (bit_at word i == 1)
tests_clear word i =
    let below : bit_at word i < 2 = bit_at-lt word i in
    ap (λ x. x == 0) (shr_and_one word i) ∙ other_bit (bit_at word i) below

-- the word of the flag with its bit set
abbrev pub set_in : ℕ → ℕ → ℕ
set_in word i = bit_or word (1 * 2 ^ (i % 64) % 2 ^ 64)

-- a flag after another, or the same, was set
same_flag : (words : List ℕ) (i j : ℕ)
    → j ≡ i → i / 64 < length words → flag_at (set words (i / 64) (set_in (get_or words (i / 64) 0) i)) j ≡ true
same_flag words i j same within =
    let here : get_or (set words (i / 64) (set_in (get_or words (i / 64) 0) i)) (i / 64) 0
    ≡ set_in (get_or words (i / 64) 0) i =
    get_or-set_same words (i / 64) _ 0 within in
    let bit : bit_at (set_in (get_or words (i / 64) 0) i) (i % 64) ≡ 1 =
    bit_at_set_same w64 (get_or words (i / 64) 0) (i % 64) (omega arith) in
    ap (λ k. flag_at (set words (i / 64) (set_in (get_or words (i / 64) 0) i)) k) same
    ∙ ap (λ w. bit_at w (i % 64) == 1) here ∙ ap (λ b. b == 1) bit

other_flag : (words : List ℕ) (i j : ℕ) → j ≢ i → i / 64 < length words
    → flag_at (set words (i / 64) (set_in (get_or words (i / 64) 0) i)) j ≡ flag_at words j
other_flag words i j other within =
    elim (cases_eq (j / 64) (i / 64)) [
      | inl word ↦
          let apart : j % 64 ≢ i % 64 = λ h. other (omega (arith, h, word)) in
          let here : get_or (set words (i / 64) (set_in (get_or words (i / 64) 0) i)) (i / 64) 0
          ≡ set_in (get_or words (i / 64) 0) i =
          get_or-set_same words (i / 64) _ 0 within in
          ap (λ k. bit_at (get_or (set words (i / 64) (set_in (get_or words (i / 64) 0) i)) k 0) (j % 64) == 1) word
          ∙ ap (λ w. bit_at w (j % 64) == 1) here
          ∙ ap (λ b. b == 1) (bit_at_set_other w64 (get_or words (i / 64) 0) (i % 64) (omega arith) (j % 64) apart)
          ∙ ap (λ k. bit_at (get_or words k 0) (j % 64) == 1) (sym word)
      | inr elsewhere ↦ ap (λ w. bit_at w (j % 64) == 1) (get_or-set_other words (i / 64) (j / 64) _ 0 elsewhere)
    ]

pub set_here : (words : List ℕ) (n i : ℕ) → i < n → n ≤ 64 * length words
    → flags (set words (i / 64) (set_in (get_or words (i / 64) 0) i)) n ≡ set (flags words n) i true
set_here words n i within fits =
    let new : List ℕ = set words (i / 64) (set_in (get_or words (i / 64) 0) i) in
    let word : i / 64 < length words = omega arith in
    let inside : i < length (flags words n) = omega (arith, length-flags words n) in
    ext_get_or false (flags new n) (set (flags words n) i true)
    (length-flags new n ∙ sym (length-set (flags words n) i true ∙ length-flags words n))
    (λ j below.
    let low : j < n = omega (arith, below, length-flags new n) in
    elim (cases_eq j i) [
      | inl same ↦
          flag_of new n j low ∙ same_flag words i j same word
          ∙ sym (ap (λ k. get_or (set (flags words n) i true) k false) same
          ∙ get_or-set_same (flags words n) i true false inside)
      | inr other ↦
          flag_of new n j low ∙ other_flag words i j other word
          ∙ sym (get_or-set_other (flags words n) i j true false other ∙ flag_of words n j low)
    ])

-- flags after one was set
pub flag_set : (words : List ℕ) (n i word : ℕ) → i < n → n ≤ 64 * length words → word ≡ get_or words (i / 64) word
    → flags (set words (i / 64) (set_in word i)) n ≡ set (flags words n) i true
flag_set words n i word within fits is =
    ap (λ w. flags (set words (i / 64) (set_in w i)) n) (word_read words i word (omega arith) is)
    ∙ set_here words n i within fits

no_flag : (words i : ℕ) → flag_at (replicate words 0) i ≡ false
no_flag words i =
    elim (cases_lt (i / 64) words) [
      | inl within ↦
          ap (λ w. bit_at w (i % 64) == 1) (get_or-replicate words (i / 64) 0 0 within)
          ∙ ap (λ b. b == 1) (bit_at-zero (i % 64))
      | inr past ↦
          ap (λ w. bit_at w (i % 64) == 1)
          (get_or_past (replicate words 0) (i / 64) 0 (omega (arith, length-replicate {A = ℕ} words 0, past)))
          ∙ ap (λ b. b == 1) (bit_at-zero (i % 64))
    ]

-- words of zeros have no flag set
pub flags_clear : (words n : ℕ) → flags (replicate words 0) n ≡ replicate n false
flags_clear words n =
    ext_get_or false (flags (replicate words 0) n) (replicate n false)
    (length-flags (replicate words 0) n ∙ sym (length-replicate n false))
    (λ j below.
    let low : j < n = omega (arith, below, length-flags (replicate words 0) n) in
    flag_of (replicate words 0) n j low ∙ no_flag words j ∙ sym (get_or-replicate n j false false low))

-- a flag is a bit of its word
pub flag_bit : (words : List ℕ) (n i : ℕ)
    → (get_or (flags words n) i false ≡ true) ↔ ((i < n) × (bit_at (get_or words (i / 64) 0) (i % 64) ≡ 1))
flag_bit words n i =
    elim (cases_lt i n) [
      | inl low ↦ elim (eqb_tells (bit_at (get_or words (i / 64) 0) (i % 64)) 1) [
        | inl is ↦ (λ _. (low, is.1), λ _. flag_of words n i low ∙ is.0)
        | inr clear ↦ (
          λ t. absurd (false≢true (sym (flag_of words n i low ∙ clear.0) ∙ t)),
          λ b. absurd (clear.1 b.1),
        )
      ]
      | inr past ↦ (
        λ t.
            absurd (false≢true
            (sym (get_or_past (flags words n) i false (omega (arith, length-flags words n, past))) ∙ t)),
        λ b. absurd (omega (arith, past, b.0)),
      )
    ]

-- one of two bits is set
pub either_bit : (a b : ℕ) → a < 2 → b < 2 → max a b ≡ 1 → (a ≡ 1) ⊎ (b ≡ 1)
either_bit a b low low' h = elim (cases_eq a 1) [ inl is ↦ inl is | inr other ↦ inr (omega (arith, low, low', h, other)) ]
