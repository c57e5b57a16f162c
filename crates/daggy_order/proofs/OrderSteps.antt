-- Iterating over the nodes of an order.
use Rattle.std.proofs.Common.{◌≡◌, ◌≢◌, ℕ, zero, suc, ◌+◌, ◌-◌, ◌<◌, ◌≤◌, inl, inr, List, [], ◌∷◌, ◌++◌, length, get_or}
use Rattle.std.proofs.Common.{take, drop, refl, sym, ap, subst, ◌∙◌, arith, append_assoc}
use Rattle.std.proofs.lemmas.Bool.{cases_eq}
use Rattle.std.proofs.lemmas.List.{length-append, length-drop, length-take-le, drop_more, take_more, take_all}
use Rattle.std.proofs.lemmas.List.{take-append-drop}
use Rattle.daggy_base.specs.Cursor.{first_of}
use Rattle.daggy_base.specs.Ordered.{place}
use Rattle.daggy_base.specs.WellFormed.{AreDistinct}
use Rattle.daggy_base.proofs.Lists.{Mem, Unique, mem_at, mem_mid, mem_cases, unique_from_distinct}
use Rattle.daggy_base.proofs.Sorted.{place_same, place_other, place_right, place_at}
use Rattle.daggy_order.specs.Links.{IsAt, nodes_at}

-- so many nodes were passed, and `at` is the next
pub record GoingOn (end : ℕ) (nodes : List ℕ) (at passed : ℕ) : Type 0 where
  pub before : List ℕ
  pub behind : List ℕ
  pub is : nodes ≡ before ++ behind
  pub counted : length before ≡ passed
  pub here : at ≡ first_of end behind

pub goes_none : (end : ℕ) (nodes : List ℕ) (at : ℕ) → at ≡ first_of end nodes → GoingOn end nodes at 0
goes_none end nodes at is = record { before = []; behind = nodes; is = refl; counted = refl; here = is }

module _ {end : ℕ} {nodes : List ℕ} {at passed : ℕ} (s : GoingOn end nodes at passed)
    (left : passed < length nodes) where
  pub goes_split : (ms : List ℕ) × (nodes ≡ s.before ++ at ∷ ms)
  goes_split = first s.behind s.is s.here where
    first : (xs : List ℕ)
        → nodes ≡ s.before ++ xs → at ≡ first_of end xs → (ms : List ℕ) × (nodes ≡ s.before ++ at ∷ ms)
    first [] is here =
        absurd (omega (arith, left, ap (λ (z : List ℕ). length z) is, length-append s.before [], s.counted))
    first (x ∷ xs) is here = (xs, is ∙ ap (λ (z : ℕ). s.before ++ z ∷ xs) (sym here))

  pub goes_in : Mem at nodes
  goes_in = let h = goes_split in let P : List ℕ → Type 0 = λ z. Mem at z in subst P (sym h.1) (mem_mid s.before h.0 at)

  pub goes_more : (next : ℕ)
      → ((ns ms : List ℕ) → nodes ≡ ns ++ at ∷ ms → next ≡ first_of end ms) → GoingOn end nodes next (passed + 1)
  goes_more next on =
      let h = goes_split in
      record {
        before = s.before ++ at ∷ [];
        behind = h.0;
        is = h.1 ∙ sym (append_assoc s.before (at ∷ []) h.0);
        counted = omega (arith, length-append s.before (at ∷ []), s.counted);
        here = on s.before h.0 h.1;
      }

  pub goes_at : at ≡ get_or nodes passed 0
  goes_at =
      let h = goes_split in
      sym (ap (λ (z : List ℕ). get_or z passed 0) h.1 ∙ nth s.before passed s.counted h.0)
    where
      nth : (xs : List ℕ) (k : ℕ) → length xs ≡ k → (ys : List ℕ) → get_or (xs ++ at ∷ ys) k 0 ≡ at
      nth [] zero e ys = refl
      nth [] (suc k) e ys = absurd (omega arith)
      nth (x ∷ xs) zero e ys = absurd (omega arith)
      nth (x ∷ xs) (suc k) e ys = nth xs k (omega arith) ys

-- n was not passed so far
pub record Seeking (end : ℕ) (nodes : List ℕ) (n at passed : ℕ) : Type 0 where
  pub on : GoingOn end nodes at passed
  pub missing : Mem n on.before → ⊥

pub seeks_none : (end : ℕ) (nodes : List ℕ) (n at : ℕ) → at ≡ first_of end nodes → Seeking end nodes n at 0
seeks_none end nodes n at is = record {
  on = record { before = []; behind = nodes; is = refl; counted = refl; here = is };
  missing = λ m. m;
}

module _ {end : ℕ} {nodes : List ℕ} {n at passed : ℕ} (s : Seeking end nodes n at passed)
    (left : passed < length nodes) where
  pub sought : at ≡ n → place nodes n ≡ passed
  sought is =
      let h = goes_split s.on left in
      let here = place_right s.on.before (at ∷ h.0) n s.missing in
      omega (arith, ap (λ (z : List ℕ). place z n) h.1, here, place_same at n h.0 is, s.on.counted)

  pub seeks_more : (next : ℕ) → at ≢ n → ((ns ms : List ℕ) → nodes ≡ ns ++ at ∷ ms → next ≡ first_of end ms)
      → Seeking end nodes n next (passed + 1)
  seeks_more next differs on =
      let h = goes_split s.on left in
      record {
        on = record {
          before = s.on.before ++ at ∷ [];
          behind = h.0;
          is = h.1 ∙ sym (append_assoc s.on.before (at ∷ []) h.0);
          counted = omega (arith, length-append s.on.before (at ∷ []), s.on.counted);
          here = on s.on.before h.0 h.1;
        };
        missing = λ m. elim (mem_cases s.on.before (at ∷ []) n m) [
          | inl a ↦ s.missing a
          | inr b ↦ elim b [ inl e ↦ differs (sym e) | inr none ↦ none ]
        ];
      }

pub sought_all : {end : ℕ} {nodes : List ℕ} {n at passed : ℕ} (s : Seeking end nodes n at passed)
    → length nodes ≤ passed → Mem n nodes → ⊥
sought_all {end} {nodes} {n} {at} {passed} s all m =
    let P : List ℕ → Type 0 = λ z. Mem n z in
    elim (mem_cases s.on.before s.on.behind n (subst P s.on.is m)) [
      | inl a ↦ s.missing a
      | inr b ↦ none s.on.behind (omega (
        arith,
        ap (λ (z : List ℕ). length z) s.on.is,
        length-append s.on.before s.on.behind,
        s.on.counted,
        all,
      )) b
    ]
  where
    none : (xs : List ℕ) → length xs ≡ 0 → Mem n xs → ⊥
    none [] e k = k
    none (x ∷ xs) e k = absurd (omega arith)

-- a node whose place is below the length is a member, and one that is read has the place where it is read
place_most : (xs : List ℕ) (n : ℕ) → place xs n ≤ length xs
place_most [] n = omega arith
place_most (x ∷ xs) n =
    elim (cases_eq x n) [
      | inl e ↦ omega (arith, place_same x n xs e)
      | inr d ↦ omega (arith, place_other x n xs d, place_most xs n)
    ]

place_in : (xs : List ℕ) (n : ℕ) → place xs n < length xs → Mem n xs
place_in [] n low = absurd (omega (arith, low))
place_in (x ∷ xs) n low =
    elim (cases_eq x n) [
      | inl e ↦ inl (sym e)
      | inr d ↦ inr (place_in xs n (omega (arith, low, place_other x n xs d)))
    ]

-- a member of a list of distinct nodes stands where it is read
pub place_read : (xs : List ℕ) (k : ℕ) → Unique xs → k < length xs → place xs (get_or xs k 0) ≡ k
place_read [] k u low = absurd (omega (arith, low))
place_read (x ∷ xs) zero u low = place_same x x xs refl
place_read (x ∷ xs) (suc k) u low =
    let within : k < length xs = omega (arith, low) in
    let P : ℕ → Type 0 = λ z. Mem z xs in
    place_other x (get_or xs k 0) xs (λ e. u.0 (subst P (sym e) (mem_at xs k 0 within)))
    ∙ ap suc (place_read xs k u.1 within)

-- going over some nodes from both ends
module _ {nodes : List ℕ} {left at back : ℕ} (s : IsAt nodes left at back) where
  pub length_at : length (nodes_at left at nodes) ≡ left
  length_at =
      let p : ℕ = place nodes at in
      length-take-le left (drop p nodes) (omega (arith, length-drop p nodes, s.within))

  module _ (some : left ≢ 0) where
    at_low : place nodes at < length nodes
    at_low = omega (arith, s.within, some)

    pub at_in : Mem at nodes
    at_in = place_in nodes at at_low

    at_drop : drop (place nodes at) nodes ≡ at ∷ drop (place nodes at + 1) nodes
    at_drop =
        drop_more nodes (place nodes at) 0 at_low
        ∙ ap (λ (z : ℕ). z ∷ drop (place nodes at + 1) nodes) (place_at nodes at at_in).1

    -- the node after `at`
    module _ {end : ℕ} (next : ℕ) (on : (ns ms : List ℕ) → nodes ≡ ns ++ at ∷ ms → next ≡ first_of end ms) where
      next_place : left - 1 ≢ 0 → place nodes next ≡ place nodes at + 1
      next_place more =
          let p : ℕ = place nodes at in
          let low : p + 1 < length nodes = omega (arith, s.within, more) in
          let split : nodes ≡ take p nodes ++ at ∷ drop (p + 1) nodes =
          sym (take-append-drop p nodes) ∙ ap (λ (z : List ℕ). take p nodes ++ z) at_drop in
          let is : next ≡ get_or nodes (p + 1) 0 =
          on (take p nodes) (drop (p + 1) nodes) split ∙ ap (first_of end) (drop_more nodes (p + 1) 0 low) in
          ap (place nodes) is ∙ place_read nodes (p + 1) (unique_from_distinct nodes s.distinct) low

      pub at_rest : nodes_at left at nodes ≡ at ∷ nodes_at (left - 1) next nodes
      at_rest =
          let p : ℕ = place nodes at in
          let l : ℕ = left - 1 in
          let more : left ≡ suc l = omega (arith, some) in
          ap (λ (z : List ℕ). take left z) at_drop
          ∙ (ap (λ (z : ℕ). take z (at ∷ drop (p + 1) nodes)) more
          ∙ ap (λ (z : List ℕ). at ∷ z) (elim (cases_eq l 0) [
            | inl none ↦
                ap (λ (z : ℕ). take z (drop (p + 1) nodes)) none
                ∙ sym (ap (λ (z : ℕ). take z (drop (place nodes next) nodes)) none)
            | inr d ↦ ap (λ (z : ℕ). take l (drop z nodes)) (sym (next_place d))
          ]))

      pub at_next : IsAt nodes (left - 1) next back
      at_next =
          record {
            distinct = s.distinct;
            within = elim (cases_eq (left - 1) 0) [
              | inl none ↦ omega (arith, none, place_most nodes next)
              | inr more ↦ omega (arith, s.within, more, next_place more)
            ];
            ends = λ more.
                let here : place nodes at + (left - 1) ≡ place nodes next + (left - 1 - 1) =
                omega (arith, more, next_place more) in
                s.ends some ∙ ap (λ (k : ℕ). get_or nodes k 0) here;
          }

    -- the node before `back`
    last_low : place nodes at + (left - 1) < length nodes
    last_low = omega (arith, s.within, some)

    pub at_previous : (previous : ℕ) → ((ns ms : List ℕ) (m : ℕ) → nodes ≡ ns ++ m ∷ (back ∷ ms) → previous ≡ m)
        → IsAt nodes (left - 1) at previous
    at_previous previous on =
        record {
          distinct = s.distinct;
          within = omega (arith, s.within, some);
          ends = λ more.
              let k : ℕ = place nodes at + (left - 1 - 1) in
              let next : k + 1 ≡ place nodes at + (left - 1) = omega (arith, more) in
              let low : k < length nodes = omega (arith, last_low, next) in
              let here : drop k nodes ≡ get_or nodes k 0 ∷ drop (k + 1) nodes = drop_more nodes k 0 low in
              let last : drop (k + 1) nodes ≡ back ∷ drop (k + 1 + 1) nodes =
              drop_more nodes (k + 1) 0 (omega (arith, last_low, next))
              ∙ ap (λ (z : ℕ). z ∷ drop (k + 1 + 1) nodes) (ap (λ (z : ℕ). get_or nodes z 0) next ∙ sym (s.ends some)) in
              on (take k nodes) (drop (k + 1 + 1) nodes) (get_or nodes k 0)
              (sym (take-append-drop k nodes)
              ∙ (ap (λ (z : List ℕ). take k nodes ++ z) here
              ∙ ap (λ (z : List ℕ). take k nodes ++ get_or nodes k 0 ∷ z) last));
        }

-- all nodes
module _ (end : ℕ) (nodes : List ℕ) (left at : ℕ) (is : left ≡ length nodes) (begins : at ≡ first_of end nodes) where
  begins_place : place nodes at ≡ 0
  begins_place = first nodes begins where
    first : (xs : List ℕ) → at ≡ first_of end xs → place xs at ≡ 0
    first [] b = refl
    first (x ∷ xs) b = place_same x at xs (sym b)

  pub nodes_all : nodes_at left at nodes ≡ nodes
  nodes_all = ap (λ (z : ℕ). take left (drop z nodes)) begins_place ∙ take_all left nodes (omega (arith, is))

  pub at_all : (back : ℕ)
      → AreDistinct nodes → ((ns : List ℕ) (n : ℕ) → nodes ≡ ns ++ n ∷ [] → back ≡ n) → IsAt nodes left at back
  at_all back distinct ends =
      record {
        distinct = distinct;
        within = omega (arith, is, begins_place);
        ends = λ some.
            let k : ℕ = place nodes at + (left - 1) in
            let low : k < length nodes = omega (arith, is, begins_place, some) in
            let whole : k + 1 ≡ length nodes = omega (arith, is, begins_place, some) in
            ends (take k nodes) (get_or nodes k 0)
            (sym (take_all (k + 1) nodes (omega (arith, whole))) ∙ take_more nodes k 0 low);
      }

-- when no node is left
pub nodes_none : (nodes : List ℕ) (left at : ℕ) → left ≡ 0 → nodes_at left at nodes ≡ []
nodes_none nodes left at none = ap (λ (z : ℕ). take z (drop (place nodes at) nodes)) none
