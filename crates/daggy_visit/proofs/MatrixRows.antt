-- Matrices out of their rows one after another.
use Rattle.std.proofs.Common.{◌≡◌, ℕ, ◌≢◌, ◌+◌, ◌-◌, ◌*◌, ◌<◌, ◌≤◌, ◌⊎◌, Bool, true, false, List, [], length, get_or, set}
use Rattle.std.proofs.Common.{replicate, sym, ap, ◌∙◌, inl, inr, arith}
use Rattle.std.proofs.Math.Nat.{mul-le-mul_right, mul_assoc, mul_comm, suc-mul}
use Rattle.std.proofs.lemmas.Bool.{cases_eq, cases_lt, false≢true}
use Rattle.std.proofs.lemmas.List.{get_or-set_same, get_or-set_other, get_or-replicate, get_or_past, length-replicate}
use Rattle.std.proofs.lemmas.List.FromFn.{length-map-range_with_len, get_or-map-range_with_len}
use Rattle.std.specs.Prelude.{◌↔◌, IsTrue}
use Rattle.daggy_visit.specs.Visit.{HasPair, rows, row_of}

pub length-rows : (n s : ℕ) (flags : List Bool) → length (rows n s flags) ≡ n
length-rows n s flags = length-map-range_with_len (row_of n s flags) 0 n

-- the flag of a pair within
pub flag_of_pair : (n s : ℕ) (flags : List Bool) (a b : ℕ)
    → a < n → b < n → get_or (get_or (rows n s flags) a []) b false ≡ get_or flags (a * s + b) false
flag_of_pair n s flags a b row column =
    ap (λ xs. get_or xs b false) (get_or-map-range_with_len (row_of n s flags) 0 n a a [] row (omega arith))
    ∙ get_or-map-range_with_len (λ k. get_or flags (a * s + k) false) 0 n b b false column (omega arith)

-- no pair lies past the bound
pub pair_within : (n s : ℕ) (flags : List Bool) (a b : ℕ) → HasPair (rows n s flags) a b → (a < n) × (b < n)
pair_within n s flags a b has =
    elim (cases_lt a n) [
      | inl row ↦ elim (cases_lt b n) [
        | inl column ↦ (row, column)
        | inr past ↦
            let here : get_or (rows n s flags) a [] ≡ row_of n s flags a =
            get_or-map-range_with_len (row_of n s flags) 0 n a a [] row (omega arith) in
            let short : length (row_of n s flags a) ≤ b =
            omega (arith, past, length-map-range_with_len (λ k. get_or flags (a * s + k) false) 0 n) in
            absurd (false≢true
            (sym (ap (λ xs. get_or xs b false) here ∙ get_or_past (row_of n s flags a) b false short) ∙ has))
      ]
      | inr past ↦
          let short : length (rows n s flags) ≤ a = omega (arith, past, length-rows n s flags) in
          absurd (false≢true (sym (ap (λ xs. get_or xs b false) (get_or_past (rows n s flags) a [] short)) ∙ has))
    ]

-- the pair of a and b, both below n, has its flag at the place i; row and column are a and b in the code
pub record HasPlace (n s a b i : ℕ) : Type 0 where
  pub row : ℕ
  pub column : ℕ
  pub row_is : row ≡ a
  pub column_is : column ≡ b
  pub row_low : row < n
  pub column_low : column < n
  pub at : i ≡ row * s + column

-- what the test of a pair within tells
pub pair_tested : (n s : ℕ) (flags : List Bool) {matrix : List (List Bool)} {a b i : ℕ} {answer : Bool}
    → rows n s flags ≡ matrix → HasPlace n s a b i → answer ≡ get_or flags i false → IsTrue answer ↔ HasPair matrix a b
pair_tested n s flags {matrix} {a} {b} {i} {answer} is p gives =
    let same : answer ≡ get_or (get_or matrix a []) b false =
    gives ∙ ap (λ k. get_or flags k false) p.at ∙ sym (flag_of_pair n s flags p.row p.column p.row_low p.column_low)
    ∙ ap (λ k. get_or (get_or (rows n s flags) k []) p.column false) p.row_is
    ∙ ap (λ k. get_or (get_or (rows n s flags) a []) k false) p.column_is
    ∙ ap (λ m. get_or (get_or m a []) b false) is in
    (λ h. sym same ∙ h, λ h. same ∙ h)

-- two pairs within stand at two places
apart : (n a b u v : ℕ) → b < n → v < n → u * n + v ≡ a * n + b → (u ≡ a) × (v ≡ b)
apart n a b u v b_low v_low same =
    elim (cases_lt u a) [
      | inl less ↦
          absurd (let h : (u + 1) * n ≤ a * n = mul-le-mul_right n (omega (arith, less)) in
          omega (arith, h, same, b_low, v_low))
      | inr more ↦ elim (cases_lt a u) [
        | inl less ↦
            absurd (let h : (a + 1) * n ≤ u * n = mul-le-mul_right n (omega (arith, less)) in
            omega (arith, h, same, b_low, v_low))
        | inr same_row ↦
            let row : u ≡ a = omega arith in
            (row, omega (arith, same, ap (λ k. k * n) row))
      ]
    ]

-- the pairs after one was set
pub pair_set : (n s : ℕ) (flags : List Bool) {matrix : List (List Bool)} {a b i : ℕ}
    → rows n s flags ≡ matrix → length flags ≡ n * s → n ≤ s → HasPlace n s a b i → i < n * s
    → (u v : ℕ) → HasPair (rows n s (set flags i true)) u v ↔ (((u ≡ a) × (v ≡ b)) ⊎ HasPair matrix u v)
pair_set n s flags {matrix} {a} {b} {i} is sized wide p within u v = (
  λ has.
      let low = pair_within n s (set flags i true) u v has in
      let flag : get_or (set flags i true) (u * s + v) false ≡ true =
      sym (flag_of_pair n s (set flags i true) u v low.0 low.1) ∙ has in
      elim (cases_eq (u * s + v) i) [
        | inl same ↦ let here = apart s p.row p.column u v (omega (arith, p.column_low, wide)) (omega (arith, low.1, wide)) (same ∙ p.at) in
            inl (here.0 ∙ p.row_is, here.1 ∙ p.column_is)
        | inr other ↦ inr (
            sym (ap (λ m. get_or (get_or m u []) v false) is) ∙ flag_of_pair n s flags u v low.0 low.1
            ∙ sym (get_or-set_other flags i (u * s + v) true false other) ∙ flag)
      ],
  λ either. elim either [
    | inl here ↦
        let same_row : u ≡ p.row = here.0 ∙ sym p.row_is in
        let same_column : v ≡ p.column = here.1 ∙ sym p.column_is in
        let place : u * s + v ≡ i = ap (λ k. k * s + v) same_row ∙ ap (λ k. p.row * s + k) same_column ∙ sym p.at in
        flag_of_pair n s (set flags i true) u v (omega (arith, same_row, p.row_low))
        (omega (arith, same_column, p.column_low))
        ∙ ap (λ k. get_or (set flags i true) k false) place
        ∙ get_or-set_same flags i true false (omega (arith, sized, within))
    | inr had ↦
        let before : HasPair (rows n s flags) u v = ap (λ m. get_or (get_or m u []) v false) is ∙ had in
        let low = pair_within n s flags u v before in
        flag_of_pair n s (set flags i true) u v low.0 low.1
        ∙ elim (cases_eq (u * s + v) i) [
          | inl same ↦
              ap (λ k. get_or (set flags i true) k false) same
              ∙ get_or-set_same flags i true false (omega (arith, sized, within))
          | inr other ↦
              get_or-set_other flags i (u * s + v) true false other ∙ sym (flag_of_pair n s flags u v low.0 low.1)
              ∙ before
        ]
  ],
)

clear : (count i : ℕ) → get_or (replicate count false) i false ≡ false
clear count i =
    elim (cases_lt i count) [
      | inl within ↦ get_or-replicate count i false false within
      | inr past ↦
          get_or_past (replicate count false) i false (omega (arith, past, length-replicate {A = Bool} count false))
    ]

-- clear flags have no pair
pub no_pair : (n s count : ℕ) → (a b : ℕ) → HasPair (rows n s (replicate count false)) a b → ⊥
no_pair n s count a b has =
    let low = pair_within n s (replicate count false) a b has in
    false≢true (sym (flag_of_pair n s (replicate count false) a b low.0 low.1 ∙ clear count (a * s + b)) ∙ has)

-- where each row has w words, a row fits, and two rows stand apart
pub row_fits : (n s w a : ℕ) → s ≡ 64 * w → a < n → 64 * (a * w + w) ≤ n * s
row_fits n s w a s_is low =
    let h : (a + 1) * s ≤ n * s = mul-le-mul_right s (omega (arith, low)) in
    let row : a * s ≡ 64 * (a * w) =
    ap (λ z. a * z) s_is ∙ sym (mul_assoc a 64 w) ∙ ap (λ z. z * w) (mul_comm a 64) ∙ mul_assoc 64 a w in
    let next : (a + 1) * s ≡ a * s + s = ap (λ z. z * s) (omega arith) ∙ suc-mul a s in
    omega (arith, h, next, row, s_is)

before : (w a b : ℕ) → a < b → a * w + w ≤ b * w
before w a b low =
    let h : (a + 1) * w ≤ b * w = mul-le-mul_right w (omega (arith, low)) in
    let next : (a + 1) * w ≡ a * w + w = ap (λ z. z * w) (omega arith) ∙ suc-mul a w in
    omega (arith, h, next)

pub rows_apart : (w a b : ℕ) → a ≢ b → (a * w + w ≤ b * w) ⊎ (b * w + w ≤ a * w)
rows_apart w a b other =
    elim (cases_lt a b) [
      | inl less ↦ inl (before w a b less)
      | inr more ↦ inr (before w b a (omega (arith, more, other)))
    ]

-- the place of a pair in the words of its row, where each row has w words
row_place : (s w a b v : ℕ) → s ≡ 64 * w → v < s → (i : ℕ) → i ≡ a * s + v
    → (64 * (a * w) ≤ i) × (i < 64 * (a * w + w)) × (i - 64 * (a * w) + 64 * (b * w) ≡ b * s + v)
row_place s w a b v s_is low i i_is =
    let row : (k : ℕ) → k * s ≡ 64 * (k * w) = λ k.
    ap (λ z. k * z) s_is ∙ sym (mul_assoc k 64 w) ∙ ap (λ z. z * w) (mul_comm k 64) ∙ mul_assoc 64 k w in
    let ra = row a in
    let rb = row b in
    (omega (arith, i_is, ra), omega (arith, i_is, ra, low, s_is), omega (arith, i_is, ra, rb))

-- a pair that stands in the words of a row is one of the row
row_only : (s w a u v : ℕ) → s ≡ 64 * w → v < s → 64 * (a * w) ≤ u * s + v → u * s + v < 64 * (a * w + w) → u ≡ a
row_only s w a u v s_is low from till =
    let row : (k : ℕ) → k * s ≡ 64 * (k * w) = λ k.
    ap (λ z. k * z) s_is ∙ sym (mul_assoc k 64 w) ∙ ap (λ z. z * w) (mul_comm k 64) ∙ mul_assoc 64 k w in
    elim (cases_lt u a) [
      | inl less ↦
          absurd (let h : (u + 1) * s ≤ a * s = mul-le-mul_right s (omega (arith, less)) in
          omega (arith, h, row a, from, low, suc-mul u s))
      | inr more ↦ elim (cases_lt a u) [
        | inl less ↦
            absurd (let h : (a + 1) * s ≤ u * s = mul-le-mul_right s (omega (arith, less)) in
            omega (arith, h, row a, till, s_is, suc-mul a s))
        | inr same ↦ omega (arith, more, same)
      ]
    ]

-- the pairs after a row was united with another
pub row_united : (n s w : ℕ) (old new : List Bool) {matrix : List (List Bool)} {a b : ℕ} → rows n s old ≡ matrix
    → n ≤ s → s ≡ 64 * w → a < n → b < n
    → ((i : ℕ) → (get_or new i false ≡ true) ↔ ((get_or old i false ≡ true)
    ⊎ ((64 * (a * w) ≤ i) × (i < 64 * (a * w + w)) × (get_or old (i - 64 * (a * w) + 64 * (b * w)) false ≡ true))))
    → (u v : ℕ) → HasPair (rows n s new) u v ↔ (((u ≡ a) × HasPair matrix b v) ⊎ HasPair matrix u v)
row_united n s w old new {matrix} {a} {b} is wide s_is a_low b_low united u v = (
  λ has.
      (let low = pair_within n s new u v has in
      let flag : get_or new (u * s + v) false ≡ true = sym (flag_of_pair n s new u v low.0 low.1) ∙ has in
      elim ((united (u * s + v)).0 flag) [
        | inl before ↦ inr (before_has u low.0 low.1 before)
        | inr q ↦
            (let here = row_only s w a u v s_is (omega (arith, low.1, wide)) q.0 q.1 in
            let at : u * s + v ≡ a * s + v = ap (λ z. z * s + v) here in
            let p = row_place s w a b v s_is (omega (arith, low.1, wide)) (u * s + v) at in
            inl (here, before_has b b_low low.1 (ap (λ z. get_or old z false) (sym p.2) ∙ q.2)))
      ]),
  λ either. elim either [
    | inl both ↦
        (let had = has_before b both.1 in
        let low = pair_within n s old b v (ap (λ m. get_or (get_or m b []) v false) is ∙ both.1) in
        let at : u * s + v ≡ a * s + v = ap (λ z. z * s + v) both.0 in
        let p = row_place s w a b v s_is (omega (arith, low.1, wide)) (u * s + v) at in
        flag_of_pair n s new u v (omega (arith, both.0, a_low)) low.1
        ∙ (united (u * s + v)).1 (inr (p.0, p.1, ap (λ z. get_or old z false) p.2 ∙ had)))
    | inr had ↦
        (let low = pair_within n s old u v (ap (λ m. get_or (get_or m u []) v false) is ∙ had) in
        flag_of_pair n s new u v low.0 low.1 ∙ (united (u * s + v)).1 (inl (has_before u had)))
  ],
)
  where
    before_has : (k : ℕ) → k < n → v < n → get_or old (k * s + v) false ≡ true → HasPair matrix k v
    before_has k row column flag =
        sym (ap (λ m. get_or (get_or m k []) v false) is) ∙ flag_of_pair n s old k v row column ∙ flag

    has_before : (k : ℕ) → HasPair matrix k v → get_or old (k * s + v) false ≡ true
    has_before k had =
        let before : HasPair (rows n s old) k v = ap (λ m. get_or (get_or m k []) v false) is ∙ had in
        let low = pair_within n s old k v before in
        sym (flag_of_pair n s old k v low.0 low.1) ∙ before
