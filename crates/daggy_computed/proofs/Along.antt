-- Going along a whole order.
use Rattle.std.proofs.Common.{◌≡◌, ◌≢◌, ℕ, ◌<◌, ◌≤◌, ◌⊎◌, inl, inr, Bool, List, [], ◌∷◌, ◌++◌}
use Rattle.std.proofs.Common.{length, refl, sym, ap, subst, ◌∙◌, arith, append_assoc, append-nil, length-append, if◌then◌else◌}
use Rattle.daggy_base.specs.Graph.{Graph, HasNode}
use Rattle.daggy_base.specs.Ordered.{IsOrderOf, place}
use Rattle.daggy_base.specs.Path.{AreJoined}
use Rattle.daggy_base.proofs.Lists.{Mem, mem_cases, contains_mem}
use Rattle.daggy_base.proofs.Sorted.{place_left, place_right, place_same}
use Rattle.daggy_computed.specs.declared.entry.Entry.{Entry}
use Rattle.daggy_computed.specs.Cells.{cells, IsStaleAt}
use Rattle.daggy_computed.specs.Refreshing.{IsUnderWay}
use Rattle.daggy_computed.specs.Settling.{IsTurn}
use Rattle.daggy_computed.proofs.UnderWay.{goes_on}

module _ {K V E : Type 0} (eq : V → V → Bool) (gives : K → List V → V → Type 0) (order : List ℕ) (g : Graph K E) where
  -- the nodes before the rest of the order are not stale, and what was under way still is
  pub record IsAlong (rest : List ℕ) (es now : List (Entry V)) (old changed : List ℕ) : Type 0 where
    pub done : List ℕ
    pub whole : order ≡ done ++ rest
    pub fresh : (m : ℕ) → Mem m done → ¬ IsStaleAt now m
    pub kept : (base : List (Entry V)) → IsUnderWay eq gives order g base es old → IsUnderWay eq gives order g base now changed

  pub along_start : (rest : List ℕ) (es : List (Entry V)) (old : List ℕ) → rest ≡ order → IsAlong rest es es old old
  along_start rest es old is =
      record { done = []; whole = sym is; fresh = λ m k. absurd k; kept = λ base u. u }

  -- nothing is left
  pub along_end : IsOrderOf g order → (rest : List ℕ) (es now : List (Entry V)) (old changed : List ℕ)
      → IsAlong rest es now old changed → rest ≡ [] → ((m : ℕ) → IsStaleAt now m → HasNode g m) → (m : ℕ) → ¬ IsStaleAt now m
  along_end ordered rest es now old changed a none real m s =
      let all : order ≡ a.done = a.whole ∙ (ap (λ z. a.done ++ z) none ∙ append-nil a.done) in
      a.fresh m (subst (Mem m) all (contains_mem order m ((ordered.exact m).1 (real m s)))) s

  module _ (rest more : List ℕ) (es now : List (Entry V)) (old changed : List ℕ) (n : ℕ)
      (a : IsAlong rest es now old changed) (next_is : rest ≡ n ∷ more) where
    whole_then : order ≡ (a.done ++ n ∷ []) ++ more
    whole_then = a.whole ∙ (ap (λ z. a.done ++ z) next_is ∙ sym (append_assoc a.done (n ∷ []) more))

    whole_now : order ≡ a.done ++ n ∷ more
    whole_now = a.whole ∙ ap (λ z. a.done ++ z) next_is

    -- the next node is not stale
    pub along_passed : (noted : List ℕ) → noted ≡ changed → (IsStaleAt now n → ⊥) → IsAlong more es now old noted
    along_passed noted same good =
        record {
          done = a.done ++ n ∷ [];
          whole = whole_then;
          fresh = λ m k. elim (mem_cases a.done (n ∷ []) m k) [
            | inl k ↦ a.fresh m k
            | inr k ↦ elim k [ inl e ↦ λ s. good (subst (IsStaleAt now) e s) | inr k ↦ absurd k ]
          ];
          kept = λ base u. subst (IsUnderWay eq gives order g base now) (sym same) (a.kept base u);
        }

    module _ (ordered : IsOrderOf g order) (stale : IsStaleAt now n) (real : (m : ℕ) → IsStaleAt now m → HasNode g m) where
      place_is : place order n ≡ length a.done
      place_is =
          let P : List ℕ → Type 0 = λ z. place z n ≡ length a.done in
          subst P (sym whole_now)
          (omega (arith, place_right a.done (n ∷ more) n (λ k. a.fresh n k stale), place_same n n more refl))

      -- none before it is
      first : (m : ℕ) → IsStaleAt now m → place order n ≤ place order m
      first m s =
          let P : List ℕ → Type 0 = λ z. length a.done ≤ place z m in
          let far : length a.done ≤ place order m =
          subst P (sym whole_now) (omega (arith, place_right a.done (n ∷ more) m (λ k. a.fresh m k s))) in
          omega (arith, far, place_is)

      low : (m : ℕ) → Mem m (a.done ++ n ∷ []) → place order m ≤ place order n
      low m k =
          let P : List ℕ → Type 0 = λ z. place z m < length (a.done ++ n ∷ []) in
          let near : place order m < length (a.done ++ n ∷ []) =
          subst P (sym whole_then) (place_left (a.done ++ n ∷ []) more m k) in
          omega (arith, near, place_is, length-append a.done (n ∷ []))

      -- it has its turn
      pub along_turned : (next : List (Entry V)) (b : Bool) → IsTurn eq gives n (cells g now) (cells g next) b
          → ((m : ℕ) → IsStaleAt next m → AreJoined g n m ⊎ ((m ≢ n) × IsStaleAt now m))
          → (noted : List ℕ) → noted ≡ changed ++ (if b then n ∷ [] else []) → IsAlong more es next old noted
      along_turned next b turn after noted same =
          record {
            done = a.done ++ n ∷ [];
            whole = whole_then;
            fresh = λ m k s. elim (after m s) [
              | inl j ↦ absurd (omega (arith, low m k, ordered.sorted n m j))
              | inr t ↦ elim (mem_cases a.done (n ∷ []) m k) [
                | inl k ↦ a.fresh m k t.1
                | inr k ↦ elim k [ inl e ↦ t.0 e | inr k ↦ absurd k ]
              ]
            ];
            kept = λ base u.
                goes_on eq gives order g ordered base now next changed n b (a.kept base u) turn stale real first after noted same;
          }
