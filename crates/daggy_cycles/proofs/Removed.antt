-- A graph without some of its edges.
use Rattle.std.proofs.Common.{◌≡◌, ◌≢◌, ℕ, zero, suc, inl, inr, List, [], ◌∷◌, set, Option, Some, None, refl, sym}
use Rattle.std.proofs.Common.{ap, subst, ◌∙◌}
use Rattle.std.proofs.lemmas.Bool.{cases_eq}
use Rattle.daggy_base.specs.Graph.{Graph, Edge, HasNode, edge_at, slot}
use Rattle.daggy_base.specs.Removal.{without_edge, without_edges}
use Rattle.daggy_base.specs.declared.kind.Kind.TheVariants.{Stable}
use Rattle.daggy_base.proofs.Lists.{Mem}

slot_other : {A : Type 0} (xs : List (Option A)) (e i : ℕ) (v : Option A) → i ≢ e → slot (set xs e v) i ≡ slot xs i
slot_other [] zero i v ne = refl
slot_other [] (suc e) i v ne = refl
slot_other (x ∷ xs) zero zero v ne = absurd (ne refl)
slot_other (x ∷ xs) zero (suc i) v ne = refl
slot_other (x ∷ xs) (suc e) zero v ne = refl
slot_other (x ∷ xs) (suc e) (suc i) v ne = slot_other xs e i v (λ h. ne (ap (λ (z : ℕ). suc z) h))

slot_cleared : {A : Type 0} (xs : List (Option A)) (e : ℕ) → slot (set xs e None) e ≡ None
slot_cleared [] zero = refl
slot_cleared [] (suc e) = refl
slot_cleared (x ∷ xs) zero = refl
slot_cleared (x ∷ xs) (suc e) = slot_cleared xs e

module _ {N E : Type 0} where
  -- what is left was there before, and is not one of the edges that were removed
  pub edge_was : (es : List ℕ) (g : Graph N E) (i : ℕ) (x : Edge E)
      → edge_at (without_edges Stable g es) i ≡ Some x → (edge_at g i ≡ Some x) × (Mem i es → ⊥)
  edge_was [] g i x at = (at, λ m. absurd m)
  edge_was (e ∷ es) g i x at =
      let rest = edge_was es (without_edge Stable g e) i x at in
      elim (cases_eq i e) [
        | inl same ↦ (
            let P : ℕ → Type 0 = λ z. slot (set g.edges e None) z ≡ Some x in
            let none = slot_cleared g.edges e in
            let some : slot (set g.edges e None) e ≡ Some x = subst P same rest.0 in
            absurd cc
            )
        | inr differs ↦ (
          sym (slot_other g.edges e i None differs) ∙ rest.0,
          λ m. elim m [ inl is ↦ differs is | inr more ↦ rest.1 more ],
        )
      ]

  -- and any other edge is left
  pub edge_stays : (es : List ℕ) (g : Graph N E) (i : ℕ) (x : Edge E)
      → edge_at g i ≡ Some x → (Mem i es → ⊥) → edge_at (without_edges Stable g es) i ≡ Some x
  edge_stays [] g i x at out = at
  edge_stays (e ∷ es) g i x at out =
      edge_stays es (without_edge Stable g e) i x (slot_other g.edges e i None (λ is. out (inl is)) ∙ at)
      (λ m. out (inr m))

  -- the nodes stay
  pub node_stays : (es : List ℕ) (g : Graph N E) (n : ℕ) → HasNode g n → HasNode (without_edges Stable g es) n
  node_stays [] g n h = h
  node_stays (e ∷ es) g n h = node_stays es (without_edge Stable g e) n h

  pub node_was : (es : List ℕ) (g : Graph N E) (n : ℕ) → HasNode (without_edges Stable g es) n → HasNode g n
  node_was [] g n h = h
  node_was (e ∷ es) g n h = node_was es (without_edge Stable g e) n h
