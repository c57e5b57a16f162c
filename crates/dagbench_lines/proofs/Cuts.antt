-- Pieces between separators.
use Rattle.std.proofs.Common.{◌≡◌, ◌≢◌, ℕ, zero, suc, ◌<◌, ◌≤◌, ◌==◌, true, false, List, [], ◌∷◌, ◌++◌, length, take}
use Rattle.std.proofs.Common.{drop, get_or, eqb, eq-eqb, refl, sym, ap, ◌∙◌, arith}
use Rattle.std.proofs.Common.{◌-◌, drop-cons, subst}
use Rattle.std.proofs.lemmas.List.{take_rest, take-append-drop}
use Rattle.std.proofs.Math.Seq.{take-length, drop-length}
use Rattle.memchr.specs.Find.{Nowhere, Passes, is_byte}
use Rattle.dagbench_lines.specs.Cutting.{cut_at, ended_at, Lacks, words_of, is_word}
use Rattle.std.specs.List.{filter}

-- a byte that is not the separator fails the test
other : (s b : ℕ) → (b ≢ s) → eqb b s ≡ false
other s b ne = grind arith

-- a byte that passes it is the separator
same : (s b : ℕ) → eqb b s ≡ true → b ≡ s
same s b e = grind arith

-- a front of bytes lacks what none of its places has
pub Lacks-take : (s : ℕ) (bytes : List ℕ) (n : ℕ)
    → n ≤ length bytes → ((k : ℕ) → k < n → get_or bytes k 0 ≢ s) → Lacks s (take n bytes)
Lacks-take s bytes zero le ne = tt
Lacks-take s [] (suc n) le ne = tt
Lacks-take s (b ∷ bytes) (suc n) le ne = (
  ne 0 (omega arith),
  Lacks-take s bytes n (omega arith) (λ k h. ne (suc k) (omega arith)),
)

-- the first piece, and what is cut behind it
pub cut_at-first : (s : ℕ) (piece rest : List ℕ) → Lacks s piece → cut_at s (piece ++ s ∷ rest) ≡ piece ∷ cut_at s rest
cut_at-first s [] rest lacks = rw (eq-eqb s s refl) refl
cut_at-first s (b ∷ piece) rest lacks = rw (other s b lacks.0, cut_at-first s piece rest lacks.1) refl

-- bytes without a separator are one piece
pub cut_at-last : (s b : ℕ) (piece : List ℕ) → Lacks s (b ∷ piece) → cut_at s (b ∷ piece) ≡ (b ∷ piece) ∷ []
cut_at-last s b [] lacks = rw (other s b lacks.0) refl
cut_at-last s b (c ∷ piece) lacks = rw (other s b lacks.0, cut_at-last s c piece lacks.1) refl

pub ended_at-first : (s : ℕ) (piece rest : List ℕ)
    → Lacks s piece → ended_at s (piece ++ s ∷ rest) ≡ piece ∷ ended_at s rest
ended_at-first s [] rest lacks = rw (eq-eqb s s refl) refl
ended_at-first s (b ∷ piece) rest lacks = rw (other s b lacks.0, ended_at-first s piece rest lacks.1) refl

-- no separator came
pub ended_at-none : (s : ℕ) (piece : List ℕ) → Lacks s piece → ended_at s piece ≡ []
ended_at-none s [] lacks = refl
ended_at-none s (b ∷ piece) lacks = rw (other s b lacks.0, ended_at-none s piece lacks.1) refl

-- the first word, where a space stands behind it, and where none does
pub words_of-first : (b : ℕ) (word rest : List ℕ)
    → Lacks 32 (b ∷ word) → words_of ((b ∷ word) ++ 32 ∷ rest) ≡ (b ∷ word) ∷ words_of rest
words_of-first b word rest lacks = ap (filter is_word) (cut_at-first 32 (b ∷ word) rest lacks)

pub words_of-last : (b : ℕ) (word : List ℕ) → Lacks 32 (b ∷ word) → words_of (b ∷ word) ≡ (b ∷ word) ∷ []
words_of-last b word lacks = ap (filter is_word) (cut_at-last 32 b word lacks)

-- what stands behind the first byte
rest_behind : (b : ℕ) (bytes rest : List ℕ) → rest ≡ b ∷ bytes → take (length rest - 1) (drop 1 rest) ≡ bytes
rest_behind b bytes rest is = rw is (take_rest (b ∷ bytes) 1)

-- bytes cut around the separator at a place
pub cut_around : (s : ℕ) {bytes front rest : List ℕ} {n : ℕ}
    → Nowhere (Passes (is_byte s) bytes) 0 n → n < length bytes → Passes (is_byte s) bytes n → front ≡ take n bytes
    → rest ≡ drop n bytes → Lacks s front × (bytes ≡ front ++ s ∷ take (length rest - 1) (drop 1 rest))
cut_around s {bytes} {front} {rest} {n} before below here front_is rest_is =
    let at : drop n bytes ≡ s ∷ drop (suc n) bytes =
    drop-cons bytes n 0 below ∙ ap (λ b. b ∷ drop (suc n) bytes) (same s _ here) in
    let behind : take (length rest - 1) (drop 1 rest) ≡ drop (suc n) bytes = rest_behind s _ rest (rest_is ∙ at) in (
      rw front_is (Lacks-take s bytes n (omega arith) (λ k h e. before k (omega arith) h (eq-eqb _ _ e))),
      rw (front_is, behind) (sym (take-append-drop n bytes) ∙ ap (λ r. take n bytes ++ r) at),
    )

-- bytes in which the separator stands nowhere
pub none_around : (s : ℕ) (bytes : List ℕ) → Nowhere (Passes (is_byte s) bytes) 0 (length bytes) → Lacks s bytes
none_around s bytes nowhere =
    subst (Lacks s) (take-length bytes)
    (Lacks-take s bytes (length bytes) (omega arith) (λ k h e. nowhere k (omega arith) h (eq-eqb _ _ e)))

-- the first word of a line that begins with no space
pub first_word_before : (line word rest : List ℕ) → 0 < length line → ((behind : List ℕ) → line ≡ 32 ∷ behind → ⊥)
    → Lacks 32 word → line ≡ word ++ 32 ∷ rest → words_of line ≡ word ∷ words_of rest
first_word_before line [] rest long begins lacks is = absurd (begins rest is)
first_word_before line (b ∷ word) rest long begins lacks is = ap words_of is ∙ words_of-first b word rest lacks

pub only_word : (line : List ℕ) → 0 < length line → Lacks 32 line
    → words_of line ≡ line ∷ words_of (take (length line - length line) (drop (length line) line))
only_word [] long lacks = absurd (omega arith)
only_word (b ∷ line) long lacks =
    let none : take (length (b ∷ line) - length (b ∷ line)) (drop (length (b ∷ line)) (b ∷ line)) ≡ [] =
    take_rest (b ∷ line) (length (b ∷ line)) ∙ drop-length (b ∷ line) in
    words_of-last b line lacks ∙ ap (λ rest. (b ∷ line) ∷ words_of rest) (sym none)

-- what is not empty has a length
pub some_length : (n : ℕ) → false ≡ (n == 0) → 0 < n
some_length n e = grind arith
