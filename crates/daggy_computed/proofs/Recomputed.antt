-- Values are those of a function.
use Rattle.std.proofs.Common.{◌≡◌, ◌↔◌, ℕ, zero, suc, ◌<◌, ◌⊎◌, inl, inr, Bool, true, false, Option, Some, None, List, [], ◌∷◌}
use Rattle.std.proofs.Common.{refl, sym, ap, subst, ◌∙◌, arith}
use Rattle.std.specs.Option.{option_map}
use Rattle.std.specs.Prelude.{option_and_then}
use Rattle.std.proofs.lemmas.Bool.{false≢true}
use Rattle.daggy_base.specs.declared.index.Direction.TheVariants.{Incoming}
use Rattle.daggy_base.specs.Graph.{Graph, node_weight, edge_at, in_list, slot}
use Rattle.daggy_base.specs.Ordered.{IsOrderOf, place}
use Rattle.daggy_base.specs.WellFormed.{IsWellFormed}
use Rattle.daggy_base.proofs.Lists.{Mem}
use Rattle.daggy_base.proofs.PathsWithoutNode.{slot-map}
use Rattle.daggy_computed.specs.declared.cell.Cell.{Cell}
use Rattle.daggy_computed.specs.Computation.{formulas}
use Rattle.daggy_computed.specs.Inputs.{value_at, inputs}
use Rattle.daggy_computed.specs.Marking.{IsStale, far_nodes, end_before}
use Rattle.daggy_computed.specs.Recomputing.{IsFunction, IsComputed, AreComputed, AreComputedOrStale}
use Rattle.daggy_computed.specs.Settling.{AreValues}
use Rattle.daggy_computed.proofs.Joined.{joined, turned}
use Rattle.daggy_computed.proofs.ValuesKept.{SameShape, inputs_same}

module _ {K V : Type 0} (eq : V → V → Bool) (equality : (a b : V) → (eq a b ≡ true) ↔ (a ≡ b)) (compute : K → List V → V)
  where
    -- whether a value is that of the function
    abbrev pub is_result : K → List V → V → Bool
    is_result k vs v = eq v (compute k vs)

    module _ {E : Type 0} (g : Graph (Cell K V) E) where
      pub values_of_computed : AreComputedOrStale compute g → AreValues eq is_result g
      values_of_computed hold n c seen fresh =
          elim (hold n c seen) [
            | inl stale ↦ absurd (false≢true (sym fresh ∙ stale))
            | inr value ↦ record {
              last = compute c.formula (inputs g n);
              value = compute c.formula (inputs g n);
              there = value;
              allowed_here = (equality _ _).1 refl;
              equal = inl refl;
            }
          ]

      pub computed_of_values : AreValues eq is_result g → AreComputedOrStale compute g
      computed_of_values hold n c seen = go c.stale refl
        where
          go : (b : Bool) → c.stale ≡ b → (c.stale ≡ true) ⊎ (c.value ≡ Some (compute c.formula (inputs g n)))
          go true stale = inl stale
          go false fresh =
              let h = hold n c seen fresh in
              let same : h.last ≡ h.value = elim h.equal [ inl e ↦ e | inr e ↦ (equality h.last h.value).0 e ] in
              inr (h.there ∙ ap Some (same ∙ (equality h.value (compute c.formula (inputs g n))).0 h.allowed_here))

    -- what keeps values right keeps them those of the function
    pub computed_kept : {E : Type 0} (g h : Graph (Cell K V) E)
        → ((allowed : K → List V → V → Bool) → AreValues eq allowed g → AreValues eq allowed h)
        → AreComputedOrStale compute g → AreComputedOrStale compute h
    computed_kept g h kept hold = computed_of_values h (kept is_result (values_of_computed g hold))

-- computing nodes again does
pub computed_again : {K V E : Type 0} (eq : V → V → Bool) (gives : K → List V → V → Type 0) (compute : K → List V → V)
    → IsFunction eq gives compute → (g h : Graph (Cell K V) E)
    → ((allowed : K → List V → V → Bool) → ((k : K) (vs : List V) (v : V) → gives k vs v → allowed k vs v ≡ true)
    → AreValues eq allowed g → AreValues eq allowed h) → AreComputedOrStale compute g → AreComputedOrStale compute h
computed_again eq gives compute is g h kept hold =
    let test = is_result eq is.equality compute in
    computed_of_values eq is.equality compute h
    (kept test (λ k vs v given. (is.equality v (compute k vs)).1 (is.results k vs v given))
    (values_of_computed eq is.equality compute g hold))

module _ {K V E : Type 0} (compute : K → List V → V) (g : Graph (Cell K V) E) where
  -- a node that is not stale has its value
  pub computed_fresh : AreComputedOrStale compute g → (n : ℕ) → (IsStale g n → ⊥) → IsComputed compute g n
  computed_fresh hold n fresh c seen = elim (hold n c seen) [ inl stale ↦ absurd (fresh (c, seen, stale)) | inr value ↦ value ]

-- ---- there is one way to compute everything

far_formulas : {K V E : Type 0} (g : Graph (Cell K V) E) (es : List ℕ)
    → far_nodes Incoming g es ≡ far_nodes Incoming (formulas g) es
far_formulas g [] = refl
far_formulas g (e ∷ es) = ap (end_before Incoming (edge_at g e)) (far_formulas g es)

module _ {K V E : Type 0} {end : ℕ} (order : List ℕ) (dag : Graph K E) (compute : K → List V → V) (g h : Graph (Cell K V) E)
    (w : IsWellFormed end dag) (ordered : IsOrderOf dag order) (in_g : formulas g ≡ dag) (in_h : formulas h ≡ dag)
    (all_g : AreComputed compute g) (all_h : AreComputed compute h) where
  same : formulas h ≡ formulas g
  same = in_h ∙ sym in_g

  shape : SameShape g h
  shape =
      record { edges = ap (λ z. z.edges) same; out_lists = ap (λ z. z.out_lists) same; in_lists = ap (λ z. z.in_lists) same }

  abbrev formula_in : Graph (Cell K V) E → ℕ → Option K
  formula_in z n = option_map (λ c. c.formula) (node_weight z n)

  formula_same : (n : ℕ) → formula_in h n ≡ formula_in g n
  formula_same n =
      sym (slot-map (λ c. c.formula) h.nodes n)
      ∙ (ap (λ z. slot z.nodes n) same ∙ slot-map (λ c. c.formula) g.nodes n)

  value_by : (z : Graph (Cell K V) E) → AreComputed compute z → (n : ℕ) (o : Option (Cell K V)) → node_weight z n ≡ o
      → value_at z n ≡ option_map (λ k. compute k (inputs z n)) (formula_in z n)
  value_by z all n None is =
      ap (option_and_then (λ c. c.value)) is
      ∙ sym (ap (λ o. option_map (λ k. compute k (inputs z n)) (option_map (λ c. c.formula) o)) is)
  value_by z all n (Some c) is =
      ap (option_and_then (λ c. c.value)) is
      ∙ (all n c is ∙ sym (ap (λ o. option_map (λ k. compute k (inputs z n)) (option_map (λ c. c.formula) o)) is))

  parents_are : (n : ℕ) → far_nodes Incoming g (in_list g n) ≡ far_nodes Incoming dag (in_list dag n)
  parents_are n = far_formulas g (in_list g n) ∙ ap (λ z. far_nodes Incoming z (in_list z n)) in_g

  before : (n p : ℕ) → Mem p (far_nodes Incoming g (in_list g n)) → place order p < place order n
  before n p m = ordered.sorted p n (joined w p n (turned w p n (subst (Mem p) (parents_are n) m)))

  below : (k n : ℕ) → place order n < k → value_at h n ≡ value_at g n
  below zero n low = absurd (omega (arith, low))
  below (suc k) n low =
      let inputs_are : inputs h n ≡ inputs g n =
      inputs_same g h shape n (λ p m. below k p (omega (arith, low, before n p m))) in
      value_by h all_h n (node_weight h n) refl
      ∙ (ap (λ z. option_map (λ k. compute k z) (formula_in h n)) inputs_are
      ∙ (ap (option_map (λ k. compute k (inputs g n))) (formula_same n) ∙ sym (value_by g all_g n (node_weight g n) refl)))

  -- where the formulas and the edges are the same, so are the values
  pub computed_once : (n : ℕ) → value_at h n ≡ value_at g n
  computed_once n = below (suc (place order n)) n (omega arith)
