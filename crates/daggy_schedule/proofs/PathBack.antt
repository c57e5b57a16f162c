-- A path that is gone back by the noted parents.
use Rattle.std.proofs.Common.{◌≡◌, ◌≢◌, ℕ, ◌+◌, ◌⊎◌, inl, inr, List, [], ◌∷◌, ◌++◌, get_or, refl, sym, ap, subst, ◌∙◌}
use Rattle.std.proofs.Common.{arith, reverse, map}
use Rattle.std.proofs.lemmas.List.{reverse-append, map-append}
use Rattle.daggy_base.specs.Graph.{Graph, HasNode}
use Rattle.daggy_base.specs.Path.{AreJoined, IsPath}
use Rattle.daggy_base.specs.WellFormed.{IsWellFormed}
use Rattle.daggy_base.proofs.OutEdgesRead.{below_bound}
use Rattle.daggy_base.proofs.PathsWithNode.{bound_low}
use Rattle.daggy_schedule.specs.Times.{span, IsLowestLast, AreWaitedFor}
use Rattle.daggy_schedule.specs.Lags.{lags_along, WaitsForWithLags, IsTracedBackWithLags}
use Rattle.daggy_schedule.specs.Passes.{AreNoted}

turned : (ns : List ℕ) (n : ℕ) → reverse (ns ++ n ∷ []) ≡ n ∷ reverse ns
turned ns n = reverse-append ns (n ∷ [])

pub map_reverse : {A : Type 0} (f : A → ℕ) (xs : List A) → map f (reverse xs) ≡ reverse (map f xs)
map_reverse f [] = refl
map_reverse f (x ∷ xs) =
    ap (map f) (reverse-append (x ∷ []) xs)
    ∙ (map-append f (reverse xs) (x ∷ [])
    ∙ (ap (λ z. z ++ f x ∷ []) (map_reverse f xs) ∙ sym (reverse-append (f x ∷ []) (map f xs))))

-- What was gone through, the last node first, follows n on a path, and takes from when n finishes to the end.
pub record Chaining {N E : Type 0} (end : ℕ) (g : Graph N E) (parents : List ℕ) (last : ℕ) (pushed : List ℕ) (n : ℕ)
    : Type 0 where
  pub exists : HasNode g n
  pub sum : (d lags starts finishes : List ℕ) → AreNoted end g d lags starts parents finishes
      → (p : IsPath g (n ∷ reverse pushed))
      × (span d (reverse pushed) + lags_along g lags (n ∷ reverse pushed) p + get_or finishes n 0 ≡ get_or finishes last 0)
  pub waited_for : (d lags starts finishes : List ℕ) → AreNoted end g d lags starts parents finishes
      → IsLowestLast (HasNode g) (λ m. get_or finishes m 0) last
      → AreWaitedFor g (WaitsForWithLags g (λ m. get_or finishes m 0) lags) (λ m. get_or finishes m 0) (n ∷ reverse pushed)

pub not_end : {N E : Type 0} {end : ℕ} {g : Graph N E} → IsWellFormed end g → (n : ℕ) → HasNode g n → n ≢ end
not_end {g = g} w n h e = omega (arith, below_bound g.nodes n h, bound_low g.nodes, w.few_nodes, e)

module _ {N E : Type 0} {end : ℕ} {g : Graph N E} (w : IsWellFormed end g) {parents : List ℕ} {last : ℕ}
    {pushed : List ℕ} {n : ℕ} (s : Chaining end g parents last pushed n) where
  pub chains_one : (p : ℕ) → p ≡ get_or parents n 0 → p ≢ end
      → ((get_or parents n 0 ≡ end) ⊎ AreJoined g (get_or parents n 0) n) → {pushed' : List ℕ}
      → pushed' ≡ pushed ++ n ∷ [] → Chaining end g parents last pushed' p
  chains_one p is apart noted {pushed'} more =
      let q = get_or parents n 0 in
      let j : AreJoined g q n = elim noted [ inl e ↦ absurd (apart (is ∙ e)) | inr j ↦ j ] in
      let exists : HasNode g q = w.parents j.0 _ j.2 in
      let whole : Chaining end g parents last (pushed ++ n ∷ []) q = record {
        exists = exists;
        sum = λ d ls ss fs a.
            elim (a.noted n s.exists) [
              | inl none ↦ absurd (apart (is ∙ none.0))
              | inr k ↦
                  (let P : List ℕ → Type 0 = λ z.
                  (p : IsPath g (q ∷ z)) × (span d z + lags_along g ls (q ∷ z) p + get_or fs q 0 ≡ get_or fs last 0) in
                  let rest = s.sum d ls ss fs a in
                  subst P (sym (turned pushed n))
                  ((exists, k.0.edge, rest.0), omega (arith, rest.1, a.takes n s.exists, k.1)))
            ];
        waited_for = λ d ls ss fs a l.
            elim (a.noted n s.exists) [
              | inl none ↦ absurd (apart (is ∙ none.0))
              | inr k ↦
                  (let P : List ℕ → Type 0 = λ z.
                  AreWaitedFor g (WaitsForWithLags g (λ m. get_or fs m 0) ls) (λ m. get_or fs m 0) (q ∷ z) in
                  subst P (sym (turned pushed n)) (k.0, s.waited_for d ls ss fs a l))
            ];
      } in
      rw (more, is) whole

  module _ (chain : List ℕ) (is : chain ≡ reverse (pushed ++ n ∷ [])) where
    pub chain_sum : get_or parents n 0 ≡ end → (d lags starts finishes : List ℕ)
        → AreNoted end g d lags starts parents finishes
        → (p : IsPath g chain) × (span d chain + lags_along g lags chain p ≡ get_or finishes last 0)
    chain_sum none d ls ss fs a =
        elim (a.noted n s.exists) [
          | inl k ↦
              (let P : List ℕ → Type 0 = λ z. (p : IsPath g z) × (span d z + lags_along g ls z p ≡ get_or fs last 0) in
              let rest = s.sum d ls ss fs a in
              subst P (sym (is ∙ turned pushed n)) (rest.0, omega (arith, rest.1, a.takes n s.exists, k.1)))
          | inr k ↦
              (let H : ℕ → Type 0 = λ z. HasNode g z in
              absurd (not_end w end (subst H none (w.parents k.0.edge.0 _ k.0.edge.2)) refl))
        ]

    pub chain_traced : get_or parents n 0 ≡ end → (d lags starts finishes : List ℕ)
        → IsLowestLast (HasNode g) (λ m. get_or finishes m 0) last → AreNoted end g d lags starts parents finishes
        → IsTracedBackWithLags g (λ m. get_or finishes m 0) lags chain
    chain_traced none d ls ss fs l a =
        let whole : chain ≡ n ∷ reverse pushed = is ∙ turned pushed n in
        let P : List ℕ → Type 0 = λ z.
        AreWaitedFor g (WaitsForWithLags g (λ m. get_or fs m 0) ls) (λ m. get_or fs m 0) z in
        let H : ℕ → Type 0 = λ z. HasNode g z in
        record {
          waited_for = subst P (sym whole) (s.waited_for d ls ss fs a l);
          first = λ m rest at u j.
              (let both : n ∷ reverse pushed ≡ m ∷ rest = sym whole ∙ at in
              let same : m ≡ n = cc in
              let J : ℕ → Type 0 = λ z. AreJoined g u z in
              elim (a.noted n s.exists) [
                | inl k ↦ k.2 u (subst J same j)
                | inr k ↦ absurd (not_end w end (subst H none (w.parents k.0.edge.0 _ k.0.edge.2)) refl)
              ]);
        }
