-- The slots of two graphs, one after the other, and the graph that they make.
use Rattle.std.proofs.Common.{◌≡◌, ℕ, ◌+◌, ◌-◌, ◌<◌, ◌≤◌, ◌⊎◌, List, [], ◌∷◌, ◌++◌, length}
use Rattle.std.proofs.Common.{Option, Some, None, IsSome, refl, sym, ap, subst, ◌∙◌, ◌↔◌, inl, inr, arith}
use Rattle.std.specs.Option.{option_map}
use Rattle.std.specs.Prelude.{option_copied}
use Rattle.std.specs.Borrow.{Bor}
use Rattle.std.proofs.lemmas.Bool.{cases_eq, cases_lt}
use Rattle.daggy_base.specs.Graph.{Graph, Edge, HasNode, node_weight, slot, edge_at, ends_of}
use Rattle.daggy_base.specs.Path.{AreJoined}
use Rattle.daggy_base.specs.FromSlots.{graph_of_slots, edges_by, MakeGraph}
use Rattle.daggy_base.specs.WellFormed.{IsWellFormed}
use Rattle.daggy_base.proofs.SlotLists.{none_past, slot_push_new, slot_push_other}
use Rattle.daggy_operators.specs.Merging.{either, IsMerged}
use Rattle.daggy_operators.proofs.PartPaths.{ends_joined}
use Rattle.daggy_operators.proofs.PartSlots.{ShowsBelow}

-- from a base on, the slots show what is wanted
abbrev pub ShowsFrom : {A B : Type 0} → (A → B) → (ℕ → Option B) → (base k : ℕ) → List (Option A) → Type 0
ShowsFrom show wanted base k slots = (i : ℕ) → i < k → option_map show (slot slots (base + i)) ≡ wanted i

-- one more slot changes none before it
pub still_shown : {A B : Type 0} (show : A → B) (wanted : ℕ → Option B) (k : ℕ) (slots : List (Option A)) (x : Option A)
    → k ≤ length slots → ShowsBelow show wanted k slots → ShowsBelow show wanted k (slots ++ x ∷ [])
still_shown show wanted k slots x long before i low =
    ap (option_map show) (slot_push_other slots x i (λ e. omega (arith, e, low, long))) ∙ before i low

pub one_more_from : {A B : Type 0} (show : A → B) (wanted : ℕ → Option B) (base k : ℕ) (slots : List (Option A))
    (x : Option A) → length slots ≡ base + k → ShowsFrom show wanted base k slots → option_map show x ≡ wanted k
    → ShowsFrom show wanted base (k + 1) (slots ++ x ∷ [])
one_more_from show wanted base k slots x long before here i low =
    elim (cases_eq i k) [
      | inl is ↦ (
          let at : base + i ≡ length slots = omega (arith, is, long) in
          ap (λ z. option_map show (slot (slots ++ x ∷ []) z)) at ∙ ap (option_map show) (slot_push_new slots x)
          ∙ here ∙ ap wanted (sym is)
          )
      | inr other ↦ (
          let apart : ¬ (base + i ≡ length slots) = λ e. other (omega (arith, e, long)) in
          ap (option_map show) (slot_push_other slots x (base + i) apart) ∙ before i (omega (arith, low, other))
          )
    ]

-- past the last slot nothing is wanted
pub all_from : {A B : Type 0} (show : A → B) (wanted : ℕ → Option B) (base k : ℕ) (slots : List (Option A))
    → length slots ≡ base + k → ShowsFrom show wanted base k slots → ((i : ℕ) → k ≤ i → wanted i ≡ None)
    → (i : ℕ) → option_map show (slot slots (base + i)) ≡ wanted i
all_from show wanted base k slots long before beyond i =
    elim (cases_lt i k) [
      | inl low ↦ before i low
      | inr past ↦
          ap (option_map show) (none_past slots (base + i) (omega (arith, past, long))) ∙ sym (beyond i past)
    ]

pub no_edge : {N E : Type 0} (g : Graph N E) (e : ℕ) → length g.edges ≤ e → option_map ends_of (edge_at g e) ≡ None
no_edge g e past = ap (option_map ends_of) (none_past g.edges e past)

-- ---- nodes of both

some_past : {A : Type 0} (o : Option A) → IsSome o → o ≡ None → ⊥
some_past None some none = absurd cc
some_past (Some x) some none = cc

pub neither : {N E F : Type 0} (a : Graph N E) (b : Graph N F) (n : ℕ) → length a.nodes ≤ n → length b.nodes ≤ n
    → either (node_weight a n) (node_weight b n) ≡ None
neither a b n past_a past_b =
    ap (λ z. either z (node_weight b n)) (none_past a.nodes n past_a) ∙ none_past b.nodes n past_b

copied_some : {N : Type 0} (o : Option (Bor N)) (y : Option N) → option_copied o ≡ y → IsSome y → IsSome o
copied_some None y is some = absurd (some_past y some (sym is))
copied_some (Some x) y is some = refl

either_some : {N : Type 0} (x y : Option N) → IsSome x ⊎ IsSome y → IsSome (either x y)
either_some {N} None y c = elim c [ inl none_is ↦ absurd (some_past {A = N} None none_is refl) | inr some ↦ some ]
either_some (Some x) y c = refl

-- ---- the graph of both

module _ {N E F G : Type 0} {limit : ℕ} {a : Graph N E} {b : Graph N F} (h : Graph (Bor N) G)
    (wa : IsWellFormed limit a) (wb : IsWellFormed limit b) where
  edge_low : (e u v : ℕ) (w : E) → edge_at a e ≡ Some (record { parent = u; child = v; weight = w }) → e < length a.edges
  edge_low e u v w at =
      elim (cases_lt e (length a.edges)) [
        | inl low ↦ low
        | inr past ↦ absurd (let no : None ≡ Some (record { parent = u; child = v; weight = w }) = sym (none_past a.edges e past) ∙ at in cc)
      ]

  module _ (first : (e : ℕ) → e < length a.edges → option_map ends_of (edge_at h e) ≡ option_map ends_of (edge_at a e))
      (second : (e : ℕ) → option_map ends_of (edge_at h (length a.edges + e)) ≡ option_map ends_of (edge_at b e)) where
    pub both_joined : (u v : ℕ) → AreJoined h u v ↔ (AreJoined a u v ⊎ AreJoined b u v)
    both_joined u v = (from, to)
      where
        from : AreJoined h u v → AreJoined a u v ⊎ AreJoined b u v
        from j =
            let ends = ap (option_map ends_of) j.2 in
            elim (cases_lt j.0 (length a.edges)) [
              | inl low ↦ inl (ends_joined a j.0 u v (sym (first j.0 low) ∙ ends))
              | inr past ↦ (
                  let rest = j.0 - length a.edges in
                  let at : j.0 ≡ length a.edges + rest = omega (arith, past) in
                  inr (ends_joined b rest u v
                  (sym (second rest) ∙ ap (λ z. option_map ends_of (edge_at h z)) (sym at) ∙ ends))
                  )
            ]

        to : AreJoined a u v ⊎ AreJoined b u v → AreJoined h u v
        to c =
            elim c [
              | inl j ↦
                  ends_joined h j.0 u v (first j.0 (edge_low j.0 u v j.1 j.2) ∙ ap (option_map ends_of) j.2)
              | inr j ↦ ends_joined h (length a.edges + j.0) u v (second j.0 ∙ ap (option_map ends_of) j.2)
            ]

    pub ends_exist : (u v : ℕ) → AreJoined h u v
        → (HasNode a u ⊎ HasNode b u) × (HasNode a v ⊎ HasNode b v)
    ends_exist u v j =
        elim ((both_joined u v).0 j) [
          | inl old ↦ (inl (wa.parents old.0 _ old.2), inl (wa.children old.0 _ old.2))
          | inr old ↦ (inr (wb.parents old.0 _ old.2), inr (wb.children old.0 _ old.2))
        ]

-- the slots make a graph
pub make_merged : {N E F G : Type 0} {limit : ℕ} {a : Graph N E} {b : Graph N F} (wa : IsWellFormed limit a)
    (wb : IsWellFormed limit b) (nodes : List (Option (Bor N))) (edges : List (Option (Edge G)))
    → IsMerged a b (graph_of_slots nodes edges) → length nodes ≤ limit → length edges ≤ limit
    → MakeGraph limit nodes edges
make_merged {N} {E} {F} {G} {limit} {a} {b} wa wb nodes edges m few_nodes few_edges =
    record {
      few_nodes = few_nodes;
      few_edges = few_edges;
      parents = λ e x at. there x.parent (ends_exist (graph_of_slots nodes edges) wa wb m.first m.second x.parent x.child (e, x.weight, at)).0;
      children = λ e x at. there x.child (ends_exist (graph_of_slots nodes edges) wa wb m.first m.second x.parent x.child (e, x.weight, at)).1;
    }
  where
    there : (n : ℕ) → HasNode a n ⊎ HasNode b n → IsSome (slot nodes n)
    there n c = copied_some (slot nodes n) _ (m.nodes n) (either_some (node_weight a n) (node_weight b n) c)
