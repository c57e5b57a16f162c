-- The start of a walk, if it exists.
use Rattle.std.proofs.Common.{◌≡◌, ℕ, Bool, true, false, ◌⊎◌, inl, inr, List, [], ◌∷◌, refl, sym, subst, ◌∙◌}
use Rattle.std.proofs.Common.{is_some}
use Rattle.std.proofs.lemmas.Bool.{cond-true, cond-false, false≢true}
use Rattle.daggy_base.specs.Graph.{Graph, HasNode, node_weight}
use Rattle.daggy_base.proofs.Lists.{Mem}
use Rattle.daggy_traversal.specs.Traversal.{begin}

module _ {N E : Type 0} (g : Graph N E) (n : ℕ) where
  pub begin_here : HasNode g n → begin g n ≡ n ∷ []
  begin_here exists = cond-true {A = List ℕ} (is_some (node_weight g n)) (n ∷ []) [] exists

  pub node_or_not : HasNode g n ⊎ (HasNode g n → ⊥)
  node_or_not = by_test (is_some (node_weight g n)) refl
    where
      by_test : (b : Bool) → is_some (node_weight g n) ≡ b → HasNode g n ⊎ (HasNode g n → ⊥)
      by_test true h = inl h
      by_test false h = inr (λ e. false≢true (sym h ∙ e))

  pub begin_none : (HasNode g n → ⊥) → begin g n ≡ []
  begin_none none = by_test (is_some (node_weight g n)) refl
    where
      by_test : (b : Bool) → is_some (node_weight g n) ≡ b → begin g n ≡ []
      by_test true h = absurd (none h)
      by_test false h = cond-false {A = List ℕ} (is_some (node_weight g n)) (n ∷ []) [] h

  pub begin_only : (x : ℕ) → Mem x (begin g n) → (x ≡ n) × HasNode g n
  begin_only x m =
      let P : List ℕ → Type 0 = λ z. Mem x z in
      elim node_or_not [
        | inl exists ↦ (
            let here : Mem x (n ∷ []) = subst P (begin_here exists) m in
            elim here [ inl same ↦ (same, exists) | inr none ↦ absurd none ]
            )
        | inr none ↦ (let here : Mem x [] = subst P (begin_none none) m in absurd here)
      ]
