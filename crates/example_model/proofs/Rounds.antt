-- What the two arrays of a round say of its graph.
use Rattle.std.proofs.Common.{◌≡◌, ℕ, zero, suc, inl, inr, [], ◌∷◌, Some, None, refl, sym, subst, arith}
use Rattle.std.specs.List.{slice_get}
use Rattle.daggy_base.specs.Graph.{Edge, HasNode, edge_at, out_list, in_list}
use Rattle.daggy_base.specs.WellFormed.{AreDistinct, IsWellFormed}
use Rattle.daggy_base.proofs.Lists.{Mem, contains_mem, mem_contains}
use Rattle.example_model.specs.Examples.{line, round}

no_edge : (x : Edge ℕ) → None ≡ Some x → ⊥
no_edge x h = cc

parts : (e : ℕ) (x : Edge ℕ) → edge_at round e ≡ Some x → (HasNode round x.parent) × (HasNode round x.child)
parts zero x h = let is : line 0 1 0 ≡ x = cc in
    let P : Edge ℕ → Type 0 = λ z. (HasNode round z.parent) × (HasNode round z.child) in subst P is (refl, refl)
parts (suc zero) x h = let is : line 1 0 0 ≡ x = cc in
    let P : Edge ℕ → Type 0 = λ z. (HasNode round z.parent) × (HasNode round z.child) in subst P is (refl, refl)
parts (suc (suc e)) x h = cc

-- the list of one edge has what its row names
one_row : (k : ℕ) → AreDistinct (k ∷ [])
one_row k = (λ h. contains_mem [] k h, tt)

outs_once : (n : ℕ) → AreDistinct (out_list round n)
outs_once zero = one_row 0
outs_once (suc zero) = one_row 1
outs_once (suc (suc n)) = tt

ins_once : (n : ℕ) → AreDistinct (in_list round n)
ins_once zero = one_row 1
ins_once (suc zero) = one_row 0
ins_once (suc (suc n)) = tt

abbrev Leaves : ℕ → ℕ → Type 0
Leaves n e = (x : Edge ℕ) × (edge_at round e ≡ Some x) × (x.parent ≡ n)

abbrev Enters : ℕ → ℕ → Type 0
Enters n e = (x : Edge ℕ) × (edge_at round e ≡ Some x) × (x.child ≡ n)

outs : (n e : ℕ) → Mem e (out_list round n) → Leaves n e
outs zero e m = elim m [
  | inl h ↦ (let P : ℕ → Type 0 = Leaves 0 in subst P (sym h) (line 0 1 0, refl, refl))
  | inr a ↦ absurd a
]
outs (suc zero) e m = elim m [
  | inl h ↦ (let P : ℕ → Type 0 = Leaves 1 in subst P (sym h) (line 1 0 0, refl, refl))
  | inr a ↦ absurd a
]
outs (suc (suc n)) e m = absurd m

ins : (n e : ℕ) → Mem e (in_list round n) → Enters n e
ins zero e m = elim m [
  | inl h ↦ (let P : ℕ → Type 0 = Enters 0 in subst P (sym h) (line 1 0 0, refl, refl))
  | inr a ↦ absurd a
]
ins (suc zero) e m = elim m [
  | inl h ↦ (let P : ℕ → Type 0 = Enters 1 in subst P (sym h) (line 0 1 0, refl, refl))
  | inr a ↦ absurd a
]
ins (suc (suc n)) e m = absurd m

outs_back : (n e : ℕ) → Leaves n e → Mem e (out_list round n)
outs_back n zero l =
    let h : Some (line 0 1 0) ≡ Some l.0 = l.1 in
    let is : line 0 1 0 ≡ l.0 = cc in
    let P : Edge ℕ → Type 0 = λ z. Mem 0 (out_list round z.parent) in
    let Q : ℕ → Type 0 = λ k. Mem 0 (out_list round k) in
    subst Q l.2 (subst P is (inl refl))
outs_back n (suc zero) l =
    let h : Some (line 1 0 0) ≡ Some l.0 = l.1 in
    let is : line 1 0 0 ≡ l.0 = cc in
    let P : Edge ℕ → Type 0 = λ z. Mem 1 (out_list round z.parent) in
    let Q : ℕ → Type 0 = λ k. Mem 1 (out_list round k) in
    subst Q l.2 (subst P is (inl refl))
outs_back n (suc (suc e)) l = absurd (no_edge l.0 l.1)

ins_back : (n e : ℕ) → Enters n e → Mem e (in_list round n)
ins_back n zero l =
    let h : Some (line 0 1 0) ≡ Some l.0 = l.1 in
    let is : line 0 1 0 ≡ l.0 = cc in
    let P : Edge ℕ → Type 0 = λ z. Mem 0 (in_list round z.child) in
    let Q : ℕ → Type 0 = λ k. Mem 0 (in_list round k) in
    subst Q l.2 (subst P is (inl refl))
ins_back n (suc zero) l =
    let h : Some (line 1 0 0) ≡ Some l.0 = l.1 in
    let is : line 1 0 0 ≡ l.0 = cc in
    let P : Edge ℕ → Type 0 = λ z. Mem 1 (in_list round z.child) in
    let Q : ℕ → Type 0 = λ k. Mem 1 (in_list round k) in
    subst Q l.2 (subst P is (inl refl))
ins_back n (suc (suc e)) l = absurd (no_edge l.0 l.1)

full_nodes : (i : ℕ) → slice_get round.nodes i ≡ Some None → ⊥
full_nodes zero h = cc
full_nodes (suc zero) h = cc
full_nodes (suc (suc i)) h = cc

full_edges : (i : ℕ) → slice_get round.edges i ≡ Some None → ⊥
full_edges zero h = cc
full_edges (suc zero) h = cc
full_edges (suc (suc i)) h = cc

pub round_is_well_formed : IsWellFormed 255 round
round_is_well_formed = record {
  out_list_count = refl;
  in_list_count = refl;
  parents = λ e x h. (parts e x h).0;
  children = λ e x h. (parts e x h).1;
  out_of = record {
    exact = λ n e. (
      λ k. outs n e (contains_mem (out_list round n) e k),
      λ l. mem_contains (out_list round n) e (outs_back n e l),
    );
    once = outs_once;
  };
  in_of = record {
    exact = λ n e. (
      λ k. ins n e (contains_mem (in_list round n) e k),
      λ l. mem_contains (in_list round n) e (ins_back n e l),
    );
    once = ins_once;
  };
  node_slots = record { exact = λ i. (λ k. absurd (contains_mem [] i k), λ k. absurd (full_nodes i k)); once = tt };
  edge_slots = record { exact = λ i. (λ k. absurd (contains_mem [] i k), λ k. absurd (full_edges i k)); once = tt };
  few_nodes = omega arith;
  few_edges = omega arith;
}
