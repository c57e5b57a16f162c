-- Levels of nodes, and the parents that stand one level above.
use Rattle.std.proofs.Common.{◌≡◌, ◌≢◌, ℕ, ◌+◌, ◌<◌, ◌≤◌, Bool, true, false, inl, inr, List, [], ◌∷◌, ◌++◌, length}
use Rattle.std.proofs.Common.{get_or, set, eqb, if◌then◌else◌, refl, sym, subst, ◌∙◌, arith}
use Rattle.std.proofs.lemmas.Bool.{false≢true, eq-eqb, ne_eqb, cond-true, cond-false}
use Rattle.std.proofs.lemmas.List.{get_or-set_same, get_or-set_other}
use Rattle.daggy_base.specs.Graph.{Graph}
use Rattle.daggy_base.specs.Path.{AreJoined}
use Rattle.daggy_base.proofs.Lists.{Mem, mem_cases}
use Rattle.daggy_search.proofs.SearchProgress.{set_marked}
use Rattle.daggy_order.specs.Paths.{IsEntered, IsParent, AreParents}

-- the levels with that of v set to k
abbrev pub with_level : (level : ℕ → ℕ) (v k : ℕ) → ℕ → ℕ
with_level level v k n = if eqb n v then k else level n

pub level_here : (level : ℕ → ℕ) (v k n : ℕ) → n ≡ v → with_level level v k n ≡ k
level_here level v k n e = cond-true {A = ℕ} (eqb n v) k (level n) (eq-eqb n v e)

pub level_other : (level : ℕ → ℕ) (v k n : ℕ) → n ≢ v → with_level level v k n ≡ level n
level_other level v k n d = cond-false {A = ℕ} (eqb n v) k (level n) (ne_eqb n v d)

-- the level of each node of a list is at most that of any node after it
abbrev pub NeverFall : (level : ℕ → ℕ) → List ℕ → Type 0
NeverFall level [] = Unit {0}
NeverFall level (x ∷ xs) = ((y : ℕ) → Mem y xs → level x ≤ level y) × NeverFall level xs

pub never_fall_more : (level : ℕ → ℕ) (xs : List ℕ) (v k : ℕ) → NeverFall level xs → (Mem v xs → ⊥)
    → ((x : ℕ) → Mem x xs → level x ≤ k) → NeverFall (with_level level v k) (xs ++ v ∷ [])
never_fall_more level [] v k s absent low = (λ y m. absurd m, tt)
never_fall_more level (x ∷ xs) v k s absent low =
    let here : with_level level v k x ≡ level x = level_other level v k x (λ e. absent (inl (sym e))) in (
      λ y m. elim (mem_cases xs (v ∷ []) y m) [
        | inl a ↦ (
            let d : y ≢ v = λ e. (let P : ℕ → Type 0 = λ z. Mem z xs in absent (inr (subst P e a))) in
            omega (arith, here, level_other level v k y d, s.0 y a)
            )
        | inr b ↦ elim b [
          | inl e ↦ omega (arith, here, level_here level v k y e, low x (inl refl))
          | inr none ↦ absurd none
        ]
      ],
      never_fall_more level xs v k s.1 (λ m. absent (inr m)) (λ y m. low y (inr m)),
    )

-- v is entered, with u as its parent
module _ {N E : Type 0} {g : Graph N E} {a : ℕ} {entered : List Bool} {parents : List ℕ} {level : ℕ → ℕ}
    (t : AreParents g a entered parents level) (v u : ℕ) (joined : AreJoined g u v) (old : IsEntered entered u)
    (new : get_or entered v false ≡ false) where
  pub apart : (n : ℕ) → IsEntered entered n → n ≢ v
  apart n m e = let P : ℕ → Type 0 = λ z. IsEntered entered z in false≢true (sym new ∙ subst P e m)

  pub parents_more : IsEntered entered a → v < length entered → v < length parents
      → AreParents g a (set entered v true) (set parents v u) (with_level level v (level u + 1))
  parents_more first low room =
      let now = set entered v true in
      let noted = set parents v u in
      let level' = with_level level v (level u + 1) in
      let P : ℕ → ℕ → Type 0 = λ p n. IsParent g now level' p n in
      let still : (n : ℕ) → IsEntered entered n → IsEntered now n = λ n m. (set_marked entered v n low).1 (inr m) in
      let same : (n : ℕ) → IsEntered entered n → level' n ≡ level n = λ n m.
      level_other level v (level u + 1) n (apart n m) in
      let of_v : P u v = record {
        joined = joined;
        met = still u old;
        below = omega (arith, level_here level v (level u + 1) v refl, same u old);
      } in
      record {
        top = same a first ∙ t.top;
        noted = λ n m d.
            elim ((set_marked entered v n low).0 m) [
              | inl e ↦
                  (let Q : ℕ → Type 0 = λ z. P (get_or noted z 0) z in
                  let R : ℕ → Type 0 = λ z. P z v in
                  subst Q (sym e) (subst R (sym (get_or-set_same parents v u 0 room)) of_v))
              | inr b ↦ (
                  let p = t.noted n b d in
                  let R : ℕ → Type 0 = λ z. P z n in
                  let was : P (get_or parents n 0) n = record {
                    joined = p.joined;
                    met = still (get_or parents n 0) p.met;
                    below = omega (arith, same n b, same (get_or parents n 0) p.met, p.below);
                  } in
                  subst R (sym (get_or-set_other parents v n u 0 (apart n b))) was
                  )
            ];
      }
