-- The first wrong hole.
use Rattle.std.proofs.Common.{◌≡◌, ℕ, zero, suc, ◌+◌, ◌<◌, ◌≤◌, List, [], ◌∷◌, ◌++◌, length, get_or, take, refl, sym, ap, ◌∙◌, arith}
use Rattle.std.proofs.lemmas.List.{take_more, take_all, length-take-le}
use Rattle.daggy_base.specs.declared.kind.Kind.{Kind}
use Rattle.daggy_base.specs.declared.kind.Kind.TheVariants.{Compact, Stable}
use Rattle.daggy_json.specs.Reading.{Ascend}
use Rattle.daggy_json.specs.Fault.{AreRight, IsWrongHole}

-- the least hole that may follow these, of which the first may be low
pub low_after : ℕ → List ℕ → ℕ
low_after low [] = low
low_after low (h ∷ hs) = low_after (h + 1) hs

low_last : (low h : ℕ) (hs : List ℕ) → low_after low (hs ++ h ∷ []) ≡ h + 1
unfolding low_after
low_last low h [] = refl
low_last low h (k ∷ hs) = low_last (k + 1) h hs

ascend_more : (high h low : ℕ) (hs : List ℕ)
    → Ascend low high hs → low_after low hs ≤ h → h < high → Ascend low high (hs ++ h ∷ [])
unfolding low_after
ascend_more high h low [] all over under = (over, under, tt)
ascend_more high h low (k ∷ hs) all over under = (all.0, all.1, ascend_more high h (k + 1) hs all.2 over under)

ascend_last : (high h low : ℕ) (hs : List ℕ)
    → Ascend low high (hs ++ h ∷ []) → (low_after low hs ≤ h) × (h < high)
unfolding low_after
ascend_last high h low [] all = (all.0, all.1)
ascend_last high h low (k ∷ hs) all = ascend_last high h (k + 1) hs all.2

pub ascend_front : (high low i : ℕ) (hs : List ℕ) → Ascend low high hs → Ascend low high (take i hs)
ascend_front high low zero hs all = tt
ascend_front high low (suc i) [] all = tt
ascend_front high low (suc i) (h ∷ hs) all = (all.0, all.1, ascend_front high (h + 1) i hs all.2)

-- the first i are right, and the next is to be low or above
pub record HolesSoFar (kind : Kind) (high : ℕ) (hs : List ℕ) (i low : ℕ) : Type 0 where
  pub ascend : Ascend 0 high (take i hs)
  pub none : kind ≡ Compact → i ≡ 0
  pub least : low ≡ low_after 0 (take i hs)

pub no_holes : (kind : Kind) (high : ℕ) (hs : List ℕ) (i low : ℕ) → i ≡ 0 → low ≡ 0 → HolesSoFar kind high hs i low
unfolding low_after
no_holes kind high hs i low none least =
    rw (none, least) (record { ascend = tt; none = λ _. refl; least = refl })

module _ {kind : Kind} {high : ℕ} {hs : List ℕ} {i low : ℕ} (s : HolesSoFar kind high hs i low) where
  pub hole_right : (h : ℕ) → i < length hs → h ≡ get_or hs i 0 → (kind ≡ Stable) × (low ≤ h) × (h < high)
      → (low' : ℕ) → low' ≡ h + 1 → HolesSoFar kind high hs (i + 1) low'
  hole_right h under is right low' next =
      let more : take (i + 1) hs ≡ take i hs ++ h ∷ [] =
      take_more hs i 0 under ∙ ap (λ k. take i hs ++ k ∷ []) (sym is) in
      record {
        ascend = rw more (ascend_more high h 0 (take i hs) s.ascend (omega (arith, s.least, right.1)) right.2);
        none = λ compact. absurd (let bad = sym compact ∙ right.0 in cc);
        least = next ∙ sym (ap (low_after 0) more ∙ low_last 0 h (take i hs));
      }

  pub hole_wrong : (h : ℕ) → i < length hs → h ≡ get_or hs i 0 → ((kind ≡ Stable) × (low ≤ h) × (h < high) → ⊥)
      → IsWrongHole kind high hs i
  hole_wrong h under is wrong =
      let more : take (i + 1) hs ≡ take i hs ++ h ∷ [] =
      take_more hs i 0 under ∙ ap (λ k. take i hs ++ k ∷ []) (sym is) in
      record {
        within = under;
        earlier = (s.ascend, λ compact. ap (λ k. take k hs) (s.none compact));
        here = λ right.
            let last = ascend_last high h 0 (take i hs) (rw more at right.0) in
            wrong (stable right.1, omega (arith, s.least, last.0), last.1);
      }
    where
      stable : (kind ≡ Compact → take (i + 1) hs ≡ []) → kind ≡ Stable
      stable none = elim kind as (λ k. (k ≡ Compact → take (i + 1) hs ≡ []) → k ≡ Stable) [
        | Compact ↦ λ h. absurd (omega (arith, ap length (h refl), length-take-le (i + 1) hs (omega arith)))
        | Stable ↦ λ h. refl
      ] none

  pub holes_whole : length hs ≤ i → AreRight kind high hs
  holes_whole past = (
    rw (take_all i hs past) at s.ascend,
    λ compact. sym (take_all i hs past) ∙ ap (λ k. take k hs) (s.none compact),
  )

none_taken : (k : ℕ) → take {A = ℕ} k [] ≡ []
none_taken zero = refl
none_taken (suc k) = refl

-- with a wrong hole the holes are not right
pub wrong_hole : (kind : Kind) (high : ℕ) (hs : List ℕ) (i : ℕ) → IsWrongHole kind high hs i → AreRight kind high hs → ⊥
wrong_hole kind high hs i wrong right =
    wrong.here (ascend_front high 0 (i + 1) hs right.0, λ compact. ap (take (i + 1)) (right.1 compact) ∙ none_taken (i + 1))
