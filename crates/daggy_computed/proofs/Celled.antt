-- The graph of cells, and what is kept by index.
use Rattle.std.proofs.Common.{◌≡◌, ◌⊎◌, inl, inr, ℕ, zero, suc, true, Option, Some, None, List, [], ◌∷◌, ◌<◌, length, set}
use Rattle.std.proofs.Common.{refl, sym, ap, subst, ◌∙◌, arith}
use Rattle.std.specs.Option.{option_map}
use Rattle.std.specs.Prelude.{IsSome, option_and_then}
use Rattle.std.proofs.lemmas.Bool.{cases_eq}
use Rattle.std.proofs.lemmas.List.{get_or-set_other}
use Rattle.daggy_computed.specs.Inputs.{value_at}
use Rattle.std.proofs.lemmas.Option.{same_Some}
use Rattle.daggy_base.specs.Graph.{Graph, slot, node_weight, HasNode}
use Rattle.daggy_base.specs.Weights.{with_node_weight}
use Rattle.daggy_computed.specs.declared.cell.Cell.{Cell}
use Rattle.daggy_computed.specs.declared.entry.Entry.{Entry}
use Rattle.daggy_computed.specs.Cells.{blank, entry_at, value_of, IsStaleAt, marked_at, cell_of, with_entries, cells}
use Rattle.daggy_computed.specs.Marking.{IsStale, marked, marked_with}

-- a slot, with what is kept at its index
pub slot_at : {K V : Type 0} (os : List (Option K)) (es : List (Entry V)) (i : ℕ)
    → slot (with_entries os es) i ≡ option_map (cell_of (entry_at es i)) (slot os i)
slot_at [] es i = refl
slot_at (o ∷ os) [] zero = refl
slot_at (o ∷ os) [] (suc i) = slot_at os [] i
slot_at (o ∷ os) (e ∷ es) zero = refl
slot_at (o ∷ os) (e ∷ es) (suc i) = slot_at os es i

-- where something else is kept of an existing node, its cell is another one
pub slot_set : {K V : Type 0} (os : List (Option K)) (es : List (Entry V)) (i : ℕ) (k : K) (e : Entry V) → i < length es
    → slot os i ≡ Some k → with_entries os (set es i e) ≡ set (with_entries os es) i (Some (cell_of e k))
slot_set [] es i k e low h = absurd cc
slot_set (o ∷ os) [] i k e low h = absurd (omega (arith, low))
slot_set (o ∷ os) (d ∷ es) zero k e low h = ap (λ z. option_map (cell_of e) z ∷ with_entries os es) h
slot_set (o ∷ os) (d ∷ es) (suc i) k e low h =
    ap (λ z. option_map (cell_of d) o ∷ z) (slot_set os es i k e (omega (arith, low)) h)

module _ {K V E : Type 0} (g : Graph K E) (es : List (Entry V)) where
  pub cell_at : (n : ℕ) (k : K) → node_weight g n ≡ Some k → node_weight (cells g es) n ≡ Some (cell_of (entry_at es n) k)
  cell_at n k h = slot_at g.nodes es n ∙ ap (option_map (cell_of (entry_at es n))) h

  pub cells_set : (n : ℕ) (k : K) (e : Entry V) → n < length es → node_weight g n ≡ Some k
      → cells g (set es n e) ≡ with_node_weight (cells g es) n (cell_of e k)
  cells_set n k e low h = ap (λ z. record (cells g es) { nodes = z }) (slot_set g.nodes es n k e low h)

  -- a mark
  pub cells_marked : (n : ℕ) (k : K) → n < length es → node_weight g n ≡ Some k
      → cells g (marked_at es n) ≡ marked (cells g es) n
  cells_marked n k low h =
      cells_set n k (record { value = value_of es n; stale = true }) low h
      ∙ sym (ap (marked_with (cells g es) n) (cell_at n k h))

  -- a stale node is one that exists and of which a stale entry is kept
  pub stale_cell : (n : ℕ) → IsStale (cells g es) n → HasNode g n × IsStaleAt es n
  stale_cell n s = go (node_weight g n) refl
    where
      go : (o : Option K) → node_weight g n ≡ o → HasNode g n × IsStaleAt es n
      go None h =
          let none : node_weight (cells g es) n ≡ None = slot_at g.nodes es n ∙ ap (option_map (cell_of (entry_at es n))) h in
          let some = s.1 in
          absurd cc
      go (Some k) h =
          let same : cell_of (entry_at es n) k ≡ s.0 = same_Some _ s.0 (sym (cell_at n k h) ∙ s.1) in
          (subst IsSome (sym h) refl, ap (λ z. z.stale) same ∙ s.2)

  pub cell_stale : (n : ℕ) → HasNode g n → IsStaleAt es n → IsStale (cells g es) n
  cell_stale n there s = go (node_weight g n) refl
    where
      go : (o : Option K) → node_weight g n ≡ o → IsStale (cells g es) n
      go None h = (let none : IsSome {T = K} None = subst IsSome h there in absurd cc)
      go (Some k) h = (cell_of (entry_at es n) k, cell_at n k h, s)

  -- the formula of a node
  pub formula_cell : (n : ℕ) → option_map (λ (c : Cell K V). c.formula) (node_weight (cells g es) n) ≡ node_weight g n
  formula_cell n = ap (option_map (λ c. c.formula)) (slot_at g.nodes es n) ∙ go (node_weight g n)
    where
      go : (o : Option K) → option_map (λ (c : Cell K V). c.formula) (option_map (cell_of (entry_at es n)) o) ≡ o
      go None = refl
      go (Some k) = refl

  -- the value of an existing node
  pub value_cell : (n : ℕ) → HasNode g n → value_at (cells g es) n ≡ value_of es n
  value_cell n there = go (node_weight g n) refl
    where
      go : (o : Option K) → node_weight g n ≡ o → value_at (cells g es) n ≡ value_of es n
      go None h = (let none : IsSome {T = K} None = subst IsSome h there in absurd cc)
      go (Some k) h = ap (option_and_then (λ c. c.value)) (cell_at n k h)

  -- its weight
  pub weight_of : (n : ℕ) → HasNode g n → (k : K) × (node_weight g n ≡ Some k)
  weight_of n there = go (node_weight g n) refl
    where
      go : (o : Option K) → node_weight g n ≡ o → (k : K) × (node_weight g n ≡ Some k)
      go None h = (let none : IsSome {T = K} None = subst IsSome h there in absurd cc)
      go (Some k) h = (k, h)

-- a mark is at its index, and the others stay
pub stale_marked_at : {V : Type 0} (es : List (Entry V)) (i m : ℕ) → IsStaleAt (marked_at es i) m → (m ≡ i) ⊎ IsStaleAt es m
stale_marked_at es i m s =
    elim (cases_eq m i) [
      | inl e ↦ inl e
      | inr apart ↦
          inr (sym (ap (λ z. z.stale) (get_or-set_other es i m (record { value = value_of es i; stale = true }) blank apart)) ∙ s)
    ]
