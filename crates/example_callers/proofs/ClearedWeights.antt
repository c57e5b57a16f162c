-- A dag whose first nodes have the weight 0.
use Rattle.std.proofs.Common.{◌≡◌, ℕ, zero, suc, ◌+◌, ◌<◌, ◌≤◌, Option, Some, None, is_some, List, [], ◌∷◌, length, map}
use Rattle.std.proofs.Common.{set, refl, sym, ap, ◌∙◌, add-one, arith}
use Rattle.std.proofs.lemmas.Bool.{false≢true}
use Rattle.daggy_base.specs.Graph.{slot, node_weight, IsCompact}
use Rattle.daggy_base.specs.State.{State, with_graph}
use Rattle.daggy_base.specs.Weights.{with_node_weight}
use Rattle.daggy_base.specs.WellFormed.{IsWellFormed}
use Rattle.daggy_base.proofs.FullSlots.{IsFull, full_from}
use Rattle.example_callers.specs.Cursors.{with_all_nodes}

-- the slots with 0 in those below i
abbrev zeros : List (Option ℕ) → ℕ → List (Option ℕ)
zeros [] i = []
zeros (x ∷ xs) zero = x ∷ xs
zeros (x ∷ xs) (suc i) = Some 0 ∷ zeros xs i

zeros_none : (xs : List (Option ℕ)) → zeros xs zero ≡ xs
zeros_none [] = refl
zeros_none (x ∷ xs) = refl

zeros_more : (xs : List (Option ℕ)) (i : ℕ) → i < length xs → set (zeros xs i) i (Some 0) ≡ zeros xs (suc i)
zeros_more [] i h = absurd (omega arith)
zeros_more (x ∷ xs) zero h = ap (λ l. Some 0 ∷ l) (sym (zeros_none xs))
zeros_more (x ∷ xs) (suc i) h = ap (λ l. Some 0 ∷ l) (zeros_more xs i (omega arith))

zeros_all : (xs : List (Option ℕ)) (i : ℕ) → length xs ≤ i → zeros xs i ≡ map (λ x. Some 0) xs
zeros_all [] i h = refl
zeros_all (x ∷ xs) zero h = absurd (omega arith)
zeros_all (x ∷ xs) (suc i) h = ap (λ l. Some 0 ∷ l) (zeros_all xs i (omega arith))

next_slot : (xs : List (Option ℕ)) (i : ℕ) → slot (zeros xs i) i ≡ slot xs i
next_slot [] i = refl
next_slot (x ∷ xs) zero = refl
next_slot (x ∷ xs) (suc i) = next_slot xs i

there : (xs : List (Option ℕ)) (i v : ℕ) → Some v ≡ slot xs i → i < length xs
there [] i v is = absurd (false≢true (ap is_some (sym is)))
there (x ∷ xs) zero v is = omega arith
there (x ∷ xs) (suc i) v is = let rest = there xs i v is in omega (arith, rest)

past : (xs : List (Option ℕ)) (i : ℕ) → IsFull xs → None ≡ slot xs i → length xs ≤ i
past [] i full is = omega arith
past (None ∷ xs) zero full is = absurd (full 0 refl)
past (Some x ∷ xs) zero full is = absurd (false≢true (ap is_some is))
past (x ∷ xs) (suc i) full is = let rest = past xs i (λ k p. full (suc k) p) is in omega (arith, rest)

abbrev with_zeros : {E : Type 0} → State ℕ E → ℕ → State ℕ E
with_zeros s i = with_graph s (record s.graph { nodes = zeros s.graph.nodes i })

-- the nodes below i have the weight 0, and all else is as it was
pub record IsClearedBelow {E : Type 0} (old now : State ℕ E) (i : ℕ) : Type 0 where
  pub now_is : now ≡ with_zeros old i
  pub full : IsFull old.graph.nodes

pub cleared_starts : {E : Type 0} (end : ℕ) (old now : State ℕ E) (i : ℕ)
    → now ≡ old → i ≡ 0 → IsWellFormed end old.graph → IsCompact old.graph
    → IsClearedBelow old now i
cleared_starts end old now i now_is start w compact =
    record {
      now_is =
          now_is ∙ ap (λ l. with_graph old (record old.graph { nodes = l })) (sym (zeros_none old.graph.nodes))
          ∙ ap (λ k. with_zeros old k) (sym start);
      full = full_from _ _ w.node_slots compact.nodes;
    }

module _ {E : Type 0} (old now : State ℕ E) (i : ℕ) (c : IsClearedBelow old now i) where
  pub cleared_within : (v : ℕ) → Some v ≡ node_weight now.graph i → i < length old.graph.nodes
  cleared_within v is =
      there old.graph.nodes i v (is ∙ ap (λ s. node_weight s.graph i) c.now_is ∙ next_slot old.graph.nodes i)

  pub cleared_more : (v : ℕ)
      → Some v ≡ node_weight now.graph i → IsClearedBelow old (with_graph now (with_node_weight now.graph i 0)) (i + 1)
  cleared_more v is = record {
    now_is =
        ap (λ s. with_graph s (with_node_weight s.graph i 0)) c.now_is
        ∙ ap (λ l. with_graph old (record old.graph { nodes = l })) (zeros_more old.graph.nodes i (cleared_within v is))
        ∙ ap (λ k. with_zeros old k) (sym (add-one i));
    full = c.full;
  }

  pub cleared_ends : None ≡ node_weight now.graph i → now ≡ with_graph old (with_all_nodes 0 old.graph)
  cleared_ends is =
      let none_left =
      past old.graph.nodes i c.full (is ∙ ap (λ s. node_weight s.graph i) c.now_is ∙ next_slot old.graph.nodes i) in
      c.now_is ∙ ap (λ l. with_graph old (record old.graph { nodes = l })) (zeros_all old.graph.nodes i none_left)
