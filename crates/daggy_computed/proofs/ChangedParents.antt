-- Values stay right where the parents of a node are replaced, and where a node is added.
use Rattle.std.proofs.Common.{◌≡◌, ◌≢◌, ℕ, zero, suc, inl, inr, ◌⊎◌, Bool, true, Option, Some, None, List, [], ◌∷◌, ◌++◌}
use Rattle.std.proofs.Common.{map, reverse, length, is_some, refl, sym, ap, subst, ◌∙◌, set, slice_get, unwrap_or}
use Rattle.std.specs.List.{filter_map, cons_option}
use Rattle.std.specs.Option.{option_map}
use Rattle.std.specs.Prelude.{option_and_then}
use Rattle.daggy_base.specs.declared.index.Direction.TheVariants.{Incoming}
use Rattle.daggy_base.specs.Graph.{Graph, Edge, HasNode, node_weight, edge_at, in_list, slot}
use Rattle.daggy_base.specs.Adding.{with_node, next_node, with_slot_filled, next_slot}
use Rattle.daggy_base.specs.WellFormed.{IsWellFormed}
use Rattle.daggy_base.proofs.Lists.{Mem}
use Rattle.daggy_base.proofs.PathsWithNewNode.{not_before}
use Rattle.daggy_base.proofs.Slots.{slot_filled, slot_made}
use Rattle.daggy_guard.specs.Parents.{entering}
use Rattle.daggy_computed.specs.declared.cell.Cell.{Cell}
use Rattle.daggy_computed.specs.Marking.{reformed, far_nodes, end_before}
use Rattle.daggy_computed.specs.Inputs.{value_at, values_at, inputs}
use Rattle.daggy_computed.specs.Settling.{AreValues}
use Rattle.daggy_computed.proofs.ValuesKept.{parents_same, values_same, value_moved, reformed_from}
use Rattle.daggy_computed.proofs.Joined.{joined, ends, turned}

-- ---- parents are replaced

module _ {N E : Type 0} (g : Graph N E) where
  abbrev shown_edge : ℕ × Edge E → ℕ × E
  shown_edge p = (p.1.parent, p.1.weight)

  one_more : (e : ℕ) (o : Option (Edge E)) (rest : List (ℕ × Edge E))
      → map (λ p. p.0) (map shown_edge (cons_option (option_map (λ x. (e, x)) o) rest))
      ≡ end_before Incoming o (map (λ p. p.0) (map shown_edge rest))
  one_more e None rest = refl
  one_more e (Some x) rest = refl

  parents_shown : (es : List ℕ)
      → map (λ p. p.0) (map shown_edge (filter_map (λ e. option_map (λ x. (e, x)) (edge_at g e)) es))
      ≡ far_nodes Incoming g es
  parents_shown [] = refl
  parents_shown (e ∷ es) =
      one_more e (edge_at g e) (filter_map (λ f. option_map (λ x. (f, x)) (edge_at g f)) es)
      ∙ ap (end_before Incoming (edge_at g e)) (parents_shown es)

  pub parents_entering : (n : ℕ) → map (λ p. p.0) (entering g n) ≡ far_nodes Incoming g (in_list g n)
  parents_entering n = parents_shown (in_list g n)

pub values_with_parents : {K V E : Type 0} (old mid : Graph (Cell K V) E) (n : ℕ) (k : K) → mid.nodes ≡ old.nodes
    → ((m : ℕ) → m ≢ n → entering mid m ≡ entering old m) → (eq : V → V → Bool) (allowed : K → List V → V → Bool)
    → AreValues eq allowed old → AreValues eq allowed (reformed mid n k)
values_with_parents {K} {V} {E} old mid n k nodes others eq allowed hold m c seen f =
    let marks = reformed_from mid n k in
    let new = reformed mid n k in
    let a = marks.fresh m c seen f in
    let differs : m ≢ n = λ e. a.1 (inl e) in
    let before : node_weight old m ≡ Some c = ap (λ z. slot z m) (sym nodes) ∙ a.0 in
    let parents : far_nodes Incoming mid (in_list mid m) ≡ far_nodes Incoming old (in_list old m) =
    sym (parents_entering mid m) ∙ (ap (map (λ p. p.0)) (others m differs) ∙ parents_entering old m) in
    let new_parents : far_nodes Incoming new (in_list new m) ≡ far_nodes Incoming mid (in_list mid m) =
    parents_same mid new marks.shape m in
    let values : (p : ℕ) → value_at new p ≡ value_at old p =
    λ p. marks.values p ∙ ap (λ z. option_and_then (λ d. d.value) (slot z p)) nodes in
    let same : inputs new m ≡ inputs old m =
    ap reverse (ap (values_at new) (new_parents ∙ parents) ∙ values_same old new _ (λ p j. values p)) in
    value_moved eq allowed old new m c same (hold m c before f)

-- ---- a node is added

far_edges : {N E : Type 0} (g h : Graph N E) → h.edges ≡ g.edges → (es : List ℕ)
    → far_nodes Incoming h es ≡ far_nodes Incoming g es
far_edges g h same [] = refl
far_edges g h same (e ∷ es) =
    ap (λ z. end_before Incoming (slot z e) (far_nodes Incoming h es)) same
    ∙ ap (end_before Incoming (edge_at g e)) (far_edges g h same es)

made_else : {A : Type 0} (xs : List (List A)) (m : ℕ) → unwrap_or (slice_get (xs ++ [] ∷ []) m) [] ≡ unwrap_or (slice_get xs m) []
made_else [] zero = refl
made_else [] (suc m) = refl
made_else (x ∷ xs) zero = refl
made_else (x ∷ xs) (suc m) = made_else xs m

filled_else : {A : Type 0} (xs : List (List A)) (i m : ℕ) → (m ≡ i → ⊥)
    → unwrap_or (slice_get (set xs i []) m) [] ≡ unwrap_or (slice_get xs m) []
filled_else [] zero m d = refl
filled_else [] (suc i) m d = refl
filled_else (x ∷ xs) zero zero d = absurd (d refl)
filled_else (x ∷ xs) zero (suc m) d = refl
filled_else (x ∷ xs) (suc i) zero d = refl
filled_else (x ∷ xs) (suc i) (suc m) d = filled_else xs i m (λ e. d (ap suc e))

list_else : {A B : Type 0} (nodes : List B) (lists : List (List A)) (vacant : List ℕ) (m : ℕ) → (m ≡ next_slot nodes vacant → ⊥)
    → unwrap_or (slice_get (with_slot_filled lists vacant []) m) [] ≡ unwrap_or (slice_get lists m) []
list_else nodes lists [] m d = made_else lists m
list_else nodes lists (i ∷ vacant) m d = filled_else lists i m d

slot_put_else : {A : Type 0} (xs : List (Option A)) (i m : ℕ) (x : A) → (m ≡ i → ⊥) → slot (set xs i (Some x)) m ≡ slot xs m
slot_put_else [] zero m x d = refl
slot_put_else [] (suc i) m x d = refl
slot_put_else (z ∷ xs) zero zero x d = absurd (d refl)
slot_put_else (z ∷ xs) zero (suc m) x d = refl
slot_put_else (z ∷ xs) (suc i) zero x d = refl
slot_put_else (z ∷ xs) (suc i) (suc m) x d = slot_put_else xs i m x (λ e. d (ap suc e))

slot_made_else : {A : Type 0} (xs : List (Option A)) (m : ℕ) (x : A) → (m ≡ length xs → ⊥) → slot (xs ++ Some x ∷ []) m ≡ slot xs m
slot_made_else [] zero x d = absurd (d refl)
slot_made_else [] (suc m) x d = refl
slot_made_else (z ∷ xs) zero x d = refl
slot_made_else (z ∷ xs) (suc m) x d = slot_made_else xs m x (λ e. d (ap suc e))

node_else : {A : Type 0} (nodes : List (Option A)) (vacant : List ℕ) (m : ℕ) (x : A) → (m ≡ next_slot nodes vacant → ⊥)
    → slot (with_slot_filled nodes vacant (Some x)) m ≡ slot nodes m
node_else nodes [] m x d = slot_made_else nodes m x d
node_else nodes (i ∷ vacant) m x d = slot_put_else nodes i m x d

at_next : {A : Type 0} (nodes : List (Option A)) (vacant : List ℕ) (m : ℕ) (x y : A)
    → slot (with_slot_filled nodes vacant (Some x)) m ≡ Some y → (y ≡ x) ⊎ (slot nodes m ≡ Some y)
at_next nodes [] m x y h = elim (slot_made nodes x m y h) [ inl p ↦ inl p.1 | inr q ↦ inr q ]
at_next nodes (i ∷ vacant) m x y h = elim (slot_filled nodes i x m y h) [ inl p ↦ inl p.1 | inr q ↦ inr q ]

pub values_with_node : {K V E : Type 0} (end : ℕ) (g : Graph (Cell K V) E) (w : Cell K V) → IsWellFormed end g → w.stale ≡ true
    → (eq : V → V → Bool) (allowed : K → List V → V → Bool)
    → AreValues eq allowed g → AreValues eq allowed (with_node g w)
values_with_node {K} {V} {E} end g w wf is_stale eq allowed hold m c seen f =
    let new = with_node g w in
    let next = next_node g in
    let before : node_weight g m ≡ Some c = elim (at_next g.nodes g.vacant_nodes m w c seen) [
      | inl is ↦ (let stale : c.stale ≡ true = ap (λ z. z.stale) is ∙ is_stale in absurd cc)
      | inr q ↦ q
    ] in
    let apart : (p : ℕ) → HasNode g p → p ≡ next → ⊥ =
    λ p there e. not_before end g w wf (subst (HasNode g) e there) in
    let there : HasNode g m = subst (λ z. is_some z ≡ true) (sym before) refl in
    let list : in_list new m ≡ in_list g m = list_else g.nodes g.in_lists g.vacant_nodes m (apart m there) in
    let parents : far_nodes Incoming new (in_list new m) ≡ far_nodes Incoming g (in_list g m) =
    ap (far_nodes Incoming new) list ∙ far_edges g new refl (in_list g m) in
    let values : (p : ℕ) → Mem p (far_nodes Incoming g (in_list g m)) → value_at new p ≡ value_at g p =
    λ p k. ap (option_and_then (λ d. d.value)) (node_else g.nodes g.vacant_nodes p w
    (apart p (ends wf p m (joined wf p m (turned wf p m k))).0)) in
    value_moved eq allowed g new m c
    (ap reverse (ap (values_at new) parents ∙ values_same g new _ values)) (hold m c before f)
