-- Children and parents are joined by edges.
use Rattle.std.proofs.Common.{◌≡◌, ℕ, inl, inr, Option, Some, None, List, [], ◌∷◌, refl, sym, ap, subst, ◌∙◌, arith}
use Rattle.daggy_base.specs.declared.index.Direction.TheVariants.{Incoming, Outgoing}
use Rattle.daggy_base.specs.Graph.{Graph, Edge, HasNode, edge_at, in_list, out_list}
use Rattle.daggy_base.specs.Ordered.{IsOrderOf}
use Rattle.daggy_base.specs.Path.{AreJoined}
use Rattle.daggy_base.specs.WellFormed.{IsWellFormed}
use Rattle.daggy_base.proofs.Lists.{Mem, contains_mem, mem_contains}
use Rattle.daggy_computed.specs.Marking.{far_nodes, end_before, children_of}
use Rattle.daggy_computed.proofs.ValuesKept.{IsTwoWay}

module _ {N E : Type 0} {end : ℕ} {g : Graph N E} (w : IsWellFormed end g) where
  -- an edge out of a list whose far end in a direction is a member of the far ends
  out_edge : (es : List ℕ) (m : ℕ) → ((e : ℕ) → Mem e es → (x : Edge E) × (edge_at g e ≡ Some x))
      → Mem m (far_nodes Outgoing g es) → (e : ℕ) × (x : Edge E) × Mem e es × (edge_at g e ≡ Some x) × (x.child ≡ m)
  out_edge [] m are k = absurd k
  out_edge (e ∷ es) m are k =
      let a = are e (inl refl) in
      let P : Option (Edge E) → Type 0 = λ z. Mem m (end_before Outgoing z (far_nodes Outgoing g es)) in
      elim (subst P a.1 k) [
        | inl here ↦ (e, a.0, inl refl, a.1, sym here)
        | inr later ↦
            (let b = out_edge es m (λ f j. are f (inr j)) later in (b.0, b.1, inr b.2, b.3, b.4))
      ]

  in_edge : (es : List ℕ) (m : ℕ) → ((e : ℕ) → Mem e es → (x : Edge E) × (edge_at g e ≡ Some x))
      → Mem m (far_nodes Incoming g es) → (e : ℕ) × (x : Edge E) × Mem e es × (edge_at g e ≡ Some x) × (x.parent ≡ m)
  in_edge [] m are k = absurd k
  in_edge (e ∷ es) m are k =
      let a = are e (inl refl) in
      let P : Option (Edge E) → Type 0 = λ z. Mem m (end_before Incoming z (far_nodes Incoming g es)) in
      elim (subst P a.1 k) [
        | inl here ↦ (e, a.0, inl refl, a.1, sym here)
        | inr later ↦
            (let b = in_edge es m (λ f j. are f (inr j)) later in (b.0, b.1, inr b.2, b.3, b.4))
      ]

  child_of_edge : (es : List ℕ) (e : ℕ) (x : Edge E) → Mem e es → edge_at g e ≡ Some x → Mem x.child (far_nodes Outgoing g es)
  child_of_edge [] e x k h = absurd k
  child_of_edge (f ∷ es) e x k h =
      elim k [
        | inl here ↦
            (let P : Option (Edge E) → Type 0 = λ z. Mem x.child (end_before Outgoing z (far_nodes Outgoing g es)) in
            let at : edge_at g f ≡ Some x = ap (edge_at g) (sym here) ∙ h in
            subst P (sym at) (inl refl))
        | inr later ↦ past (edge_at g f) (child_of_edge es e x later h)
      ]
    where
      past : (o : Option (Edge E)) → Mem x.child (far_nodes Outgoing g es)
          → Mem x.child (end_before Outgoing o (far_nodes Outgoing g es))
      past None m = m
      past (Some y) m = inr m

  edges_out : (n : ℕ) (e : ℕ) → Mem e (out_list g n) → (x : Edge E) × (edge_at g e ≡ Some x) × (x.parent ≡ n)
  edges_out n e m = (w.out_of.exact n e).0 (mem_contains (out_list g n) e m)

  edges_in : (n : ℕ) (e : ℕ) → Mem e (in_list g n) → (x : Edge E) × (edge_at g e ≡ Some x) × (x.child ≡ n)
  edges_in n e m = (w.in_of.exact n e).0 (mem_contains (in_list g n) e m)

  same_edge : (x y : Edge E) → Some x ≡ Some y → x ≡ y
  same_edge x y h = cc

  -- a child is joined to its parent
  pub joined : (n m : ℕ) → Mem m (children_of g n) → AreJoined g n m
  joined n m k =
      let a = out_edge (out_list g n) m (λ e j. (let b = edges_out n e j in (b.0, b.1))) k in
      let b = edges_out n a.0 a.2 in
      let same : b.0 ≡ a.1 = same_edge b.0 a.1 (sym b.1 ∙ a.3) in
      let from : a.1.parent ≡ n = ap (λ z. z.parent) (sym same) ∙ b.2 in
      (a.0, a.1.weight, a.3 ∙ (λ i. Some (record { parent = from i; child = a.4 i; weight = a.1.weight })))

  pub ends : (n m : ℕ) → AreJoined g n m → HasNode g n × HasNode g m
  ends n m j = (w.parents j.0 _ j.2, w.children j.0 _ j.2)

  pub child_listed : (n m : ℕ) → AreJoined g n m → Mem m (children_of g n)
  child_listed n m j =
      let x : Edge E = record { parent = n; child = m; weight = j.1 } in
      child_of_edge (out_list g n) j.0 x (contains_mem (out_list g n) j.0 ((w.out_of.exact n j.0).1 (x, j.2, refl))) j.2

  pub turned : (p n : ℕ) → Mem p (far_nodes Incoming g (in_list g n)) → Mem n (children_of g p)
  turned p n k =
      let a = in_edge (in_list g n) p (λ e j. (let b = edges_in n e j in (b.0, b.1))) k in
      let b = edges_in n a.0 a.2 in
      let same : b.0 ≡ a.1 = same_edge b.0 a.1 (sym b.1 ∙ a.3) in
      let to : a.1.child ≡ n = ap (λ z. z.child) (sym same) ∙ b.2 in
      let P : ℕ → Type 0 = λ z. Mem z (children_of g p) in
      subst P to
      (child_of_edge (out_list g p) a.0 a.1 (contains_mem _ a.0 ((w.out_of.exact p a.0).1 (a.1, a.3, a.4))) a.3)

  -- in an order no node is its own parent
  pub two_way : (order : List ℕ) → IsOrderOf g order → IsTwoWay g
  two_way order o =
      record {
        turned = turned;
        no_loop = λ n k. (let low = o.sorted n n (joined n n (turned n n k)) in absurd (omega (arith, low)));
      }
