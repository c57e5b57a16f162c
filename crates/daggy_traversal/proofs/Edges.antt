-- What is left of the list of a node, from one of its edges on.
use Rattle.std.proofs.Common.{◌≡◌, ◌≢◌, ℕ, ◌<◌, ◌⊎◌, inl, inr, Option, Some, None, List, [], ◌∷◌, eqb}
use Rattle.std.proofs.Common.{map, refl, sym, ap, subst, ◌∙◌, arith}
use Rattle.std.proofs.lemmas.Bool.{cond-true, cond-false, eq-eqb, ne_eqb, cases_eq}
use Rattle.daggy_base.specs.declared.index.Direction.{Direction}
use Rattle.daggy_base.specs.declared.index.Direction.TheVariants.{Outgoing, Incoming}
use Rattle.daggy_base.specs.Graph.{Graph, Edge, HasNode, node_bound, edge_at, list_at, near_end, far_end}
use Rattle.daggy_base.specs.WellFormed.{IsWellFormed}
use Rattle.daggy_base.specs.Cursor.{first_of, after}
use Rattle.daggy_base.proofs.Lists.{Mem, Unique, mem_contains, contains_mem, unique_from_distinct}
use Rattle.daggy_base.proofs.OutEdgesRead.{edge_below, below_bound}
use Rattle.daggy_traversal.specs.Traversal.{far_of, LeadsTo, IsNeighbor, neighbors, far_or, rest_from, edges_left, neighbors_left}
use Rattle.daggy_traversal.proofs.Members.{mem_map, mem_of_map}

from_here : (xs : List ℕ) (x e : ℕ) → x ≡ e → rest_from (x ∷ xs) e ≡ x ∷ xs
from_here xs x e h = cond-true {A = List ℕ} (eqb x e) (x ∷ xs) (rest_from xs e) (eq-eqb x e h)

from_there : (xs : List ℕ) (x e : ℕ) → x ≢ e → rest_from (x ∷ xs) e ≡ rest_from xs e
from_there xs x e h = cond-false {A = List ℕ} (eqb x e) (x ∷ xs) (rest_from xs e) (ne_eqb x e h)

from_first : (xs : List ℕ) (end : ℕ) → rest_from xs (first_of end xs) ≡ xs
from_first [] end = refl
from_first (x ∷ xs) end = from_here xs x x refl

from_none : (xs : List ℕ) (end : ℕ) → (Mem end xs → ⊥) → rest_from xs end ≡ []
from_none [] end none = refl
from_none (x ∷ xs) end none =
    from_there xs x end (λ h. none (inl (sym h))) ∙ from_none xs end (λ m. none (inr m))

after_here : (xs : List ℕ) (x e end : ℕ) → x ≡ e → after end (x ∷ xs) e ≡ first_of end xs
after_here xs x e end h = cond-true {A = ℕ} (eqb x e) (first_of end xs) (after end xs e) (eq-eqb x e h)

after_there : (xs : List ℕ) (x e end : ℕ) → x ≢ e → after end (x ∷ xs) e ≡ after end xs e
after_there xs x e end h = cond-false {A = ℕ} (eqb x e) (first_of end xs) (after end xs e) (ne_eqb x e h)

first_mem : (xs : List ℕ) (end : ℕ) → (first_of end xs ≡ end) ⊎ Mem (first_of end xs) xs
first_mem [] end = inl refl
first_mem (x ∷ xs) end = inr (inl refl)

after_mem : (xs : List ℕ) (e end : ℕ) → (after end xs e ≡ end) ⊎ Mem (after end xs e) xs
after_mem [] e end = inl refl
after_mem (x ∷ xs) e end =
    let P : ℕ → Type 0 = λ z. (z ≡ end) ⊎ Mem z (x ∷ xs) in
    elim (cases_eq x e) [
      | inl same ↦ subst P (sym (after_here xs x e end same)) (elim (first_mem xs end) [
        | inl none ↦ inl none
        | inr m ↦ inr (inr m)
      ])
      | inr apart ↦ subst P (sym (after_there xs x e end apart)) (elim (after_mem xs e end) [
        | inl none ↦ inl none
        | inr m ↦ inr (inr m)
      ])
    ]

from_after : (xs : List ℕ) (e end : ℕ) → Unique xs → (Mem end xs → ⊥) → Mem e xs → rest_from xs e ≡ e ∷ rest_from xs (after end xs e)
from_after [] e end u none m = absurd m
from_after (x ∷ xs) e end u none m =
    elim (cases_eq x e) [
      | inl same ↦ (
          let next : after end (x ∷ xs) e ≡ first_of end xs = after_here xs x e end same in
          let apart : x ≢ first_of end xs = λ h. elim (first_mem xs end) [
            | inl is ↦ none (inl (sym (h ∙ is)))
            | inr there ↦ (let P : ℕ → Type 0 = λ z. Mem z xs in u.0 (subst P (sym h) there))
          ] in
          from_here xs x e same
          ∙ (ap (λ z. z ∷ xs) same
          ∙ sym (ap (λ z. e ∷ rest_from (x ∷ xs) z) next
          ∙ ap (λ z. e ∷ z) (from_there xs x (first_of end xs) apart ∙ from_first xs end)))
          )
      | inr other ↦ (
          let next : after end (x ∷ xs) e ≡ after end xs e = after_there xs x e end other in
          let apart : x ≢ after end xs e = λ h. elim (after_mem xs e end) [
            | inl is ↦ none (inl (sym (h ∙ is)))
            | inr there ↦ (let P : ℕ → Type 0 = λ z. Mem z xs in u.0 (subst P (sym h) there))
          ] in
          let there : Mem e xs = elim m [ inl h ↦ absurd (other (sym h)) | inr b ↦ b ] in
          from_there xs x e other
          ∙ (from_after xs e end u.1 (λ b. none (inr b)) there
          ∙ sym (ap (λ z. e ∷ rest_from (x ∷ xs) z) next ∙ ap (λ z. e ∷ z) (from_there xs x (after end xs e) apart)))
          )
    ]

module _ {N E : Type 0} {end : ℕ} {g : Graph N E} (w : IsWellFormed end g) where
  listed_by : (dir : Direction) (n e : ℕ)
      → Mem e (list_at dir g n) → (x : Edge E) × (edge_at g e ≡ Some x) × (near_end dir x ≡ n)
  listed_by Outgoing n e m = (w.out_of.exact n e).0 (mem_contains _ _ m)
  listed_by Incoming n e m = (w.in_of.exact n e).0 (mem_contains _ _ m)

  in_list_by : (dir : Direction) (e : ℕ) (x : Edge E) → edge_at g e ≡ Some x → Mem e (list_at dir g (near_end dir x))
  in_list_by Outgoing e x at = contains_mem _ _ ((w.out_of.exact x.parent e).1 (x, at, refl))
  in_list_by Incoming e x at = contains_mem _ _ ((w.in_of.exact x.child e).1 (x, at, refl))

  once_by : (dir : Direction) (n : ℕ) → Unique (list_at dir g n)
  once_by Outgoing n = unique_from_distinct _ (w.out_of.once n)
  once_by Incoming n = unique_from_distinct _ (w.in_of.once n)

  far_by : (dir : Direction) (x : Edge E) (e : ℕ) → edge_at g e ≡ Some x → HasNode g (far_end dir x)
  far_by Outgoing x e at = w.children e x at
  far_by Incoming x e at = w.parents e x at

pub far_same : {E : Type 0} (dir : Direction) (x : Edge E) (parent child : ℕ)
    → parent ≡ x.parent → child ≡ x.child → far_of dir parent child ≡ far_end dir x
far_same Outgoing x parent child p c = c
far_same Incoming x parent child p c = p

leads_by : {N E : Type 0} (g : Graph N E) (dir : Direction) (e : ℕ) (x : Edge E)
    → edge_at g e ≡ Some x → LeadsTo dir g (near_end dir x) (far_end dir x)
leads_by g Outgoing e x at = (e, x.weight, at)
leads_by g Incoming e x at = (e, x.weight, at)

edge_by : {N E : Type 0} (g : Graph N E) (dir : Direction) (n v : ℕ) → LeadsTo dir g n v
    → (x : Edge E) × (e : ℕ) × (edge_at g e ≡ Some x) × (near_end dir x ≡ n) × (far_end dir x ≡ v)
edge_by g Outgoing n v j = (record { parent = n; child = v; weight = j.1 }, j.0, j.2, refl, refl)
edge_by g Incoming n v j = (record { parent = v; child = n; weight = j.1 }, j.0, j.2, refl, refl)

module _ {N E : Type 0} {end : ℕ} {g : Graph N E} (w : IsWellFormed end g) (dir : Direction) where
  pub listed_edge : (n e : ℕ) → Mem e (list_at dir g n) → (x : Edge E) × (edge_at g e ≡ Some x) × (near_end dir x ≡ n)
  listed_edge n e m = listed_by w dir n e m

  pub edge_listed : (e : ℕ) (x : Edge E) → edge_at g e ≡ Some x → Mem e (list_at dir g (near_end dir x))
  edge_listed e x at = in_list_by w dir e x at

  pub list_once : (n : ℕ) → Unique (list_at dir g n)
  list_once n = once_by w dir n

  pub no_end : (n : ℕ) → Mem end (list_at dir g n) → ⊥
  no_end n m = let p = listed_edge n end m in absurd (omega (arith, edge_below end g w end p.0 p.1))

  pub neighbor_low : {e v next : ℕ} → IsNeighbor dir end g e v next → v < node_bound g
  neighbor_low {e} {v} {next} step =
      let P : ℕ → Type 0 = λ z. HasNode g z in
      below_bound g.nodes v (subst P (sym step.far) (far_by w dir step.edge e step.at))

  pub none_at_end : edge_at g end ≡ None
  none_at_end = by_edge (edge_at g end) refl
    where
      by_edge : (o : Option (Edge E)) → edge_at g end ≡ o → edge_at g end ≡ None
      by_edge None is = is
      by_edge (Some x) is = absurd (omega (arith, edge_below end g w end x is))

  edges_at : (n e : ℕ) → (e ≡ end) ⊎ Mem e (list_at dir g n) → edges_left dir g e (edge_at g e) ≡ rest_from (list_at dir g n) e
  edges_at n e h =
      elim h [
        | inl is ↦ (
            let P : ℕ → Type 0 = λ z. edges_left dir g z (edge_at g z) ≡ rest_from (list_at dir g n) z in
            subst P (sym is) (by_edge (edge_at g end) refl)
            )
        | inr m ↦ (
            let p = listed_edge n e m in
            ap (λ z. edges_left dir g e z) p.1 ∙ ap (λ z. rest_from (list_at dir g z) e) p.2
            )
      ]
    where
      by_edge : (o : Option (Edge E)) → edge_at g end ≡ o → edges_left dir g end o ≡ rest_from (list_at dir g n) end
      by_edge None is = sym (from_none (list_at dir g n) end (no_end n))
      by_edge (Some x) is = absurd (omega (arith, edge_below end g w end x is))

  -- from the first edge on all edges are left
  pub edges_first : (n e : ℕ) → e ≡ first_of end (list_at dir g n) → edges_left dir g e (edge_at g e) ≡ list_at dir g n
  edges_first n e is =
      let P : ℕ → Type 0 = λ z. (z ≡ end) ⊎ Mem z (list_at dir g n) in
      edges_at n e (subst P (sym is) (first_mem (list_at dir g n) end))
      ∙ (ap (λ z. rest_from (list_at dir g n) z) is ∙ from_first (list_at dir g n) end)

  -- and all neighbors
  pub left_first : (n e : ℕ) → e ≡ first_of end (list_at dir g n) → neighbors_left dir g e ≡ neighbors dir g n
  left_first n e is = ap (λ z. map (λ k. far_or dir (edge_at g k)) z) (edges_first n e is)

  -- one edge less
  pub edges_next : {e v next : ℕ} → IsNeighbor dir end g e v next
      → edges_left dir g e (edge_at g e) ≡ e ∷ edges_left dir g next (edge_at g next)
  edges_next {e} {v} {next} step =
      let n = near_end dir step.edge in
      let xs = list_at dir g n in
      let m : Mem e xs = edge_listed e step.edge step.at in
      let P : ℕ → Type 0 = λ z. (z ≡ end) ⊎ Mem z xs in
      let after_is : edges_left dir g next (edge_at g next) ≡ rest_from xs (after end xs e) =
      edges_at n next (subst P (sym step.next_is) (after_mem xs e end)) ∙ ap (λ z. rest_from xs z) step.next_is in
      edges_at n e (inr m) ∙ (from_after xs e end (list_once n) (no_end n) m ∙ ap (λ z. e ∷ z) (sym after_is))

  pub far_here : {e v next : ℕ} → IsNeighbor dir end g e v next → far_or dir (edge_at g e) ≡ v
  far_here {e} {v} {next} step = ap (λ o. far_or dir o) step.at ∙ sym step.far

  -- one neighbor less
  pub left_next : {e v next : ℕ} → IsNeighbor dir end g e v next → neighbors_left dir g e ≡ v ∷ neighbors_left dir g next
  left_next {e} {v} {next} step =
      ap (map (λ k. far_or dir (edge_at g k))) (edges_next step)
      ∙ ap (λ z. z ∷ neighbors_left dir g next) (far_here step)

  pub neighbor_leads : (n v : ℕ) → Mem v (neighbors dir g n) → LeadsTo dir g n v
  neighbor_leads n v m =
      let p = mem_of_map (λ e. far_or dir (edge_at g e)) (list_at dir g n) v m in
      let q = listed_edge n p.0 p.1 in
      let far : far_end dir q.0 ≡ v = sym (ap (λ o. far_or dir o) q.1) ∙ p.2 in
      let P : ℕ → ℕ → Type 0 = λ a b. LeadsTo dir g a b in
      let Q : ℕ → Type 0 = λ a. P a v in
      let R : ℕ → Type 0 = λ b. P (near_end dir q.0) b in
      subst Q q.2 (subst R far (leads_by g dir p.0 q.0 q.1))

  pub leads_neighbor : (n v : ℕ) → LeadsTo dir g n v → Mem v (neighbors dir g n)
  leads_neighbor n v j =
      let by_dir = edge_by g dir n v j in
      let x = by_dir.0 in
      let e = by_dir.1 in
      let at = by_dir.2 in
      let P : ℕ → Type 0 = λ z. Mem e (list_at dir g z) in
      let m : Mem e (list_at dir g n) = subst P by_dir.3 (edge_listed e x at) in
      let Q : ℕ → Type 0 = λ z. Mem z (neighbors dir g n) in
      subst Q (ap (λ o. far_or dir o) at ∙ by_dir.4)
      (mem_map (λ k. far_or dir (edge_at g k)) (list_at dir g n) e m)
