-- The slots of the marked part of a graph.
use Rattle.std.proofs.Common.{◌≡◌, ℕ, ◌+◌, ◌<◌, ◌≤◌, Bool, false, List, [], ◌∷◌, ◌++◌, length}
use Rattle.std.proofs.Common.{Option, Some, None, IsSome, refl, sym, ap, ◌∙◌, inl, inr, arith}
use Rattle.std.specs.Option.{option_map}
use Rattle.std.specs.Borrow.{Bor}
use Rattle.std.proofs.lemmas.Bool.{cases_eq, cases_lt}
use Rattle.std.proofs.lemmas.List.{get_or_past}
use Rattle.daggy_base.specs.declared.index.Direction.{Direction}
use Rattle.daggy_base.specs.declared.index.Direction.TheVariants.{Outgoing, Incoming}
use Rattle.daggy_base.specs.Graph.{Graph, Edge, HasNode, slot, edge_at, ends_of}
use Rattle.daggy_base.specs.FromSlots.{graph_of_slots, edges_by, edge_of, MakeGraph}
use Rattle.daggy_base.specs.WellFormed.{IsWellFormed}
use Rattle.daggy_base.proofs.SlotLists.{none_past, slot_push_new, slot_push_other}
use Rattle.daggy_base.proofs.PathsWithoutNode.{slot-map}
use Rattle.daggy_operators.specs.Parts.{ends_by, kept, mark_of, kept_ends, IsPart}
use Rattle.daggy_operators.proofs.PartPaths.{Turns, joined_from, node_exists}

-- a list of slots that shows up to a place what is wanted there
abbrev pub ShowsBelow : {A B : Type 0} → (A → B) → (ℕ → Option B) → ℕ → List (Option A) → Type 0
ShowsBelow show wanted k slots = (i : ℕ) → i < k → option_map show (slot slots i) ≡ wanted i

-- one more slot
pub shows_one_more : {A B : Type 0} (show : A → B) (wanted : ℕ → Option B) (k : ℕ) (slots : List (Option A)) (x : Option A)
    → length slots ≡ k → ShowsBelow show wanted k slots → option_map show x ≡ wanted k
    → ShowsBelow show wanted (k + 1) (slots ++ x ∷ [])
shows_one_more show wanted k slots x long so_far here i low =
    elim (cases_eq i k) [
      | inl same ↦ ap (λ z. option_map show (slot (slots ++ x ∷ []) z)) (same ∙ sym long)
          ∙ ap (option_map show) (slot_push_new slots x) ∙ here ∙ ap wanted (sym same)
      | inr other ↦ ap (option_map show) (slot_push_other slots x i (λ e. other (e ∙ long)))
          ∙ so_far i (omega (arith, low, other))
    ]

-- beyond the slots nothing is wanted
pub shows_all : {A B : Type 0} (show : A → B) (wanted : ℕ → Option B) (k : ℕ) (slots : List (Option A))
    → length slots ≡ k → ShowsBelow show wanted k slots → ((i : ℕ) → k ≤ i → wanted i ≡ None)
    → (i : ℕ) → option_map show (slot slots i) ≡ wanted i
shows_all show wanted k slots long so_far beyond i =
    elim (cases_lt i k) [
      | inl low ↦ so_far i low
      | inr high ↦ ap (option_map show) (none_past slots i (omega (arith, high, long))) ∙ sym (beyond i (omega (arith, high)))
    ]

-- a node without a mark is not kept
pub unmarked_past : {A : Type 0} (marks : List Bool) (wanted : ℕ → Option A) (i : ℕ) → length marks ≤ i
    → kept (mark_of marks i) (wanted i) ≡ None
unmarked_past marks wanted i past = ap (λ b. kept b (wanted i)) (get_or_past marks i false past)

pub no_edge_past : {N E : Type 0} (dir : Direction) (marks : List Bool) (g : Graph N E) (i : ℕ) → length g.edges ≤ i
    → kept_ends dir marks (option_map ends_of (edge_at g i)) ≡ None
no_edge_past dir marks g i past = ap (λ o. kept_ends dir marks (option_map ends_of o)) (none_past g.edges i past)

-- edges with indices have the same ends as edges with numbers
pub ends_shown : {I F : Type 0} (number : I → ℕ) (slots : List (Option (I × I × F))) (e : ℕ)
    → option_map ends_of (slot (edges_by number slots) e) ≡ option_map (ends_by number) (slot slots e)
ends_shown {I} {F} number slots e = ap (option_map ends_of) (slot-map (edge_of number) slots e) ∙ same (slot slots e)
  where
    same : (o : Option (I × I × F)) → option_map ends_of (option_map (edge_of number) o) ≡ option_map (ends_by number) o
    same None = refl
    same (Some x) = refl

-- the slots of a part make a graph
pub makes_graph : {N E F : Type 0} {dir : Direction} {marks : List Bool} {g : Graph N E} {limit : ℕ} (own : ℕ)
    (nodes : List (Option (Bor N))) (edges : List (Option (Edge F))) → IsWellFormed own g
    → IsPart dir marks g (graph_of_slots nodes edges) → length nodes ≤ limit → length edges ≤ limit
    → MakeGraph limit nodes edges
makes_graph {N} {E} {F} {dir} {marks} {g} {limit} own nodes edges w part few_nodes few_edges =
    record {
      few_nodes = few_nodes;
      few_edges = few_edges;
      parents = λ e x at. (ends e x at).0;
      children = λ e x at. (ends e x at).1;
    }
  where
    exist : (d : Direction) (u v : ℕ) → Turns d g u v → HasNode g u × HasNode g v
    exist Outgoing u v j = (w.parents j.0 _ j.2, w.children j.0 _ j.2)
    exist Incoming u v j = (w.children j.0 _ j.2, w.parents j.0 _ j.2)

    ends : (e : ℕ) (x : Edge F) → slot edges e ≡ Some x → IsSome (slot nodes x.parent) × IsSome (slot nodes x.child)
    ends e x at =
        let found = joined_from part x.parent x.child (e, x.weight, at) in
        let there = exist dir x.parent x.child found.0 in
        ((node_exists part x.parent).1 (there.0, found.1), (node_exists part x.child).1 (there.1, found.2))

pub same_pair : (p q : ℕ × ℕ) → p.0 ≡ q.0 → p.1 ≡ q.1 → p ≡ q
same_pair p q from to = ap (λ z. (z, p.1)) from ∙ ap (λ z. (q.0, z)) to
