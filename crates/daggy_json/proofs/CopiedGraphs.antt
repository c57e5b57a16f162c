-- Graphs in which something stands for each weight.
use Rattle.std.proofs.Common.{◌≡◌, ℕ, ◌+◌, Option, Some, None, is_some, List, [], ◌∷◌, length, take, refl, sym, ap}
use Rattle.std.proofs.Common.{subst, ◌∙◌, arith}
use Rattle.std.specs.Prelude.{Contains}
use Rattle.daggy_base.specs.Graph.{Graph, Edge, slot, HasNode, edge_at, out_list, in_list, node_bound, edge_bound}
use Rattle.daggy_base.specs.Path.{AreJoined, IsPath, IsAcyclic}
use Rattle.daggy_base.specs.WellFormed.{AreDistinct, ListsVacant, ListsEdges, IsWellFormed, IsDag}
use Rattle.daggy_base.specs.Mapping.{weight_in, with_weight}
use Rattle.daggy_json.specs.Restoring.{IsCopyAs, trimmed}
use Rattle.daggy_json.proofs.MarkedLists.{row}
use Rattle.daggy_json.proofs.CopiedSlots.{AreCopied, stands, copied_there, copied_after, copied_before, copied_none}
use Rattle.daggy_json.proofs.CopiedSlots.{copied_length, copied_down, copied_bound, copied_cut}

-- no cycle comes with nodes and edges that were there
pub acyclic_again : {N E V W : Type 0} (old : Graph N E) (new : Graph V W) → ((n : ℕ) → HasNode new n → HasNode old n)
    → ((u v : ℕ) → AreJoined new u v → AreJoined old u v) → IsAcyclic old → IsAcyclic new
acyclic_again {N} {E} {V} {W} old new nodes joined acyclic u v rest path =
    acyclic u v rest (was (u ∷ v ∷ rest) path)
  where
    was : (us : List ℕ) → IsPath new us → IsPath old us
    was [] p = p
    was (u ∷ []) p = nodes u p
    was (u ∷ v ∷ us) p = (nodes u p.0, joined u v p.1, was (v ∷ us) p.2)

module _ {N E V W : Type 0} (node_as : N → V → Type 0) (edge_as : E → W → Type 0) (old : Graph N E) (new : Graph V W)
    (copy : IsCopyAs node_as edge_as old new) where
  edge_before : (e : ℕ) (y : Edge W)
      → edge_at new e ≡ Some y → (x : Edge E) × (v : W) × (edge_at old e ≡ Some x) × (with_weight x v ≡ y)
  edge_before = copied_before edge_as weight_in with_weight 0 old.edges new.edges copy.edges

  edge_after : (e : ℕ) (x : Edge E)
      → edge_at old e ≡ Some x → (v : W) × edge_as x.weight v × (edge_at new e ≡ Some (with_weight x v))
  edge_after = copied_after edge_as weight_in with_weight 0 old.edges new.edges copy.edges

  node_there : (n : ℕ) → is_some (slot new.nodes n) ≡ is_some (slot old.nodes n)
  node_there = copied_there node_as (λ w. w) (λ w v. v) 0 old.nodes new.nodes copy.nodes

  node_was : (n : ℕ) → HasNode new n → HasNode old n
  node_was n h = sym (node_there n) ∙ h

  node_is : (n : ℕ) → HasNode old n → HasNode new n
  node_is n h = node_there n ∙ h

  joined_was : (u v : ℕ) → AreJoined new u v → AreJoined old u v
  joined_was u v j =
      let m = edge_before j.0 _ j.2 in
      subst (λ z. AreJoined old z v) (ap (λ (y : Edge W). y.parent) m.3)
      (subst (λ z. AreJoined old m.0.parent z) (ap (λ (y : Edge W). y.child) m.3) (j.0, m.0.weight, m.2))

  pub copy_acyclic : IsAcyclic old → IsAcyclic new
  copy_acyclic = acyclic_again old new node_was joined_was

  -- the lists of one side
  lists_again : (end_old : Edge E → ℕ) (end_new : Edge W → ℕ) → ((x : Edge E) (v : W) → end_new (with_weight x v) ≡ end_old x)
      → (lists_old lists_new : ℕ → List ℕ) → ((n : ℕ) → lists_new n ≡ lists_old n)
      → ListsEdges old end_old lists_old → ListsEdges new end_new lists_new
  lists_again end_old end_new ends lists_old lists_new same w =
      record {
        exact = λ n e. (
          λ c.
              let x = (w.exact n e).0 (subst (λ l. Contains l e) (same n) c) in
              let v = edge_after e x.0 x.1 in
              (with_weight x.0 v.0, v.2, ends x.0 v.0 ∙ x.2),
          λ h.
              let x = edge_before e h.0 h.1 in
              rw (same n) ((w.exact n e).1 (x.0, x.2, sym (ends x.0 x.1) ∙ ap end_new x.3 ∙ h.2)),
        );
        once = λ n. subst AreDistinct (sym (same n)) (w.once n);
      }

  pub copy_well_formed : (limit : ℕ) → IsWellFormed limit old → IsWellFormed limit new
  copy_well_formed limit w =
      let nodes = copied_length node_as (λ w. w) (λ w v. v) 0 old.nodes new.nodes copy.nodes in
      let edges = copied_length edge_as weight_in with_weight 0 old.edges new.edges copy.edges in
      record {
        out_list_count = ap length copy.out_lists ∙ w.out_list_count ∙ sym nodes;
        in_list_count = ap length copy.in_lists ∙ w.in_list_count ∙ sym nodes;
        parents = λ e y is.
            let x = edge_before e y is in
            subst (HasNode new) (ap (λ (z : Edge W). z.parent) x.3) (node_is x.0.parent (w.parents e x.0 x.2));
        children = λ e y is.
            let x = edge_before e y is in
            subst (HasNode new) (ap (λ (z : Edge W). z.child) x.3) (node_is x.0.child (w.children e x.0 x.2));
        out_of =
            lists_again (λ x. x.parent) (λ x. x.parent) (λ x v. refl) (out_list old) (out_list new)
            (λ n. ap (λ l. row l n) copy.out_lists) w.out_of;
        in_of =
            lists_again (λ x. x.child) (λ x. x.child) (λ x v. refl) (in_list old) (in_list new)
            (λ n. ap (λ l. row l n) copy.in_lists) w.in_of;
        node_slots =
            vacant_again node_as (λ w. w) (λ w v. v) old.nodes new.nodes copy.nodes copy.vacant_nodes w.node_slots;
        edge_slots =
            vacant_again edge_as weight_in with_weight old.edges new.edges copy.edges copy.vacant_edges w.edge_slots;
        few_nodes = omega (arith, nodes, w.few_nodes);
        few_edges = omega (arith, edges, w.few_edges);
      }
    where
      vacant_again : {A B X Y : Type 0} (weight_as : X → Y → Type 0) (weight : A → X) (with : A → Y → B) (xs : List (Option A))
          (ys : List (Option B)) {vacant was : List ℕ}
          → AreCopied weight_as weight with 0 xs ys → vacant ≡ was → ListsVacant xs was → ListsVacant ys vacant
      vacant_again weight_as weight with xs ys {vacant} {was} m same l =
          subst (ListsVacant ys) (sym same) (record {
            exact = λ i.
                let none = copied_none weight_as weight with 0 xs ys m i in
                (λ c. none.1 ((l.exact i).0 c), λ h. (l.exact i).1 (none.0 h));
            once = l.once;
          })

  pub copy_dag : (limit : ℕ) → IsDag limit old → IsDag limit new
  copy_dag limit dag =
      record { acyclic = copy_acyclic dag.acyclic; well_formed = copy_well_formed limit dag.well_formed }

  -- what is left of both without the vacant slots at the end
  pub copy_trimmed : IsCopyAs node_as edge_as (trimmed old) (trimmed new)
  copy_trimmed =
      let nodes = copied_bound node_as (λ w. w) (λ w v. v) 0 old.nodes new.nodes copy.nodes in
      let front = copied_cut node_as (λ w. w) (λ w v. v) 0 old.nodes new.nodes copy.nodes in
      let front_edges = copied_cut edge_as weight_in with_weight 0 old.edges new.edges copy.edges in
      record {
        nodes = front;
        edges = front_edges;
        out_lists = ap (λ n. take n new.out_lists) nodes ∙ ap (take (node_bound old)) copy.out_lists;
        in_lists = ap (λ n. take n new.in_lists) nodes ∙ ap (take (node_bound old)) copy.in_lists;
        vacant_nodes =
            copied_down node_as (λ w. w) (λ w v. v) 0 (take (node_bound old) old.nodes) (take (node_bound new) new.nodes)
            front;
        vacant_edges =
            copied_down edge_as weight_in with_weight 0 (take (edge_bound old) old.edges)
            (take (edge_bound new) new.edges) front_edges;
      }

-- ---- one after another

-- what stands for something that stands for something
module _ {W V U : Type 0} (first : W → V → Type 0) (second : V → U → Type 0) (both : W → U → Type 0)
    (through : (w : W) (v : V) (u : U) → first w v → second v u → both w u) where
  module _ {A B C : Type 0} (weight : A → W) (with : A → V → B) (weight_b : B → V) (with_b : B → U → C)
      (with_a : A → U → C)
      (given : (x : A) (v : V) → weight_b (with x v) ≡ v) (again : (x : A) (v : V) (u : U) → with_b (with x v) u ≡ with_a x u) where
    pub copied_through : (i : ℕ) (xs : List (Option A)) (ys : List (Option B)) (zs : List (Option C))
        → AreCopied first weight with i xs ys → AreCopied second weight_b with_b i ys zs
        → AreCopied both weight with_a i xs zs
    copied_through i [] ys zs m n = rw m at n
    copied_through i (None ∷ xs) ys zs (later, is, more) n =
        let m = rw is at n in
        (m.0, m.1, copied_through (i + 1) xs later m.0 more m.2)
    copied_through i (Some x ∷ xs) ys zs (v, next, called, later, is, more) n =
        let m = rw is at n in
        let shown = rw (m.2.shows ∙ given x v) at m.2.called in
        let here = rw called.shows at called.called in (
          m.0,
          tt,
          stands both weight with_a (weight x) m.0 i (through (weight x) v m.0 here shown),
          m.3,
          m.4 ∙ ap (λ z. Some z ∷ m.3) (again x v m.0),
          copied_through (i + 1) xs later m.3 more m.5,
        )

pub copy_through : {N E V W K L : Type 0} (node_as : N → V → Type 0) (edge_as : E → W → Type 0)
    (node_next : V → K → Type 0) (edge_next : W → L → Type 0) (node_both : N → K → Type 0) (edge_both : E → L → Type 0)
    → ((w : N) (v : V) (u : K) → node_as w v → node_next v u → node_both w u)
    → ((w : E) (v : W) (u : L) → edge_as w v → edge_next v u → edge_both w u)
    → (g : Graph N E) (h : Graph V W) (k : Graph K L)
    → IsCopyAs node_as edge_as g h → IsCopyAs node_next edge_next h k → IsCopyAs node_both edge_both g k
copy_through node_as edge_as node_next edge_next node_both edge_both nodes edges g h k first second =
    record {
      nodes =
          copied_through node_as node_next node_both nodes (λ w. w) (λ w v. v) (λ w. w) (λ w v. v) (λ w v. v)
          (λ x v. refl) (λ x v u. refl) 0 g.nodes h.nodes k.nodes first.nodes second.nodes;
      edges =
          copied_through edge_as edge_next edge_both edges weight_in with_weight weight_in with_weight with_weight
          (λ x v. refl) (λ x v u. refl) 0 g.edges h.edges k.edges first.edges second.edges;
      out_lists = second.out_lists ∙ first.out_lists;
      in_lists = second.in_lists ∙ first.in_lists;
      vacant_nodes = second.vacant_nodes ∙ first.vacant_nodes;
      vacant_edges = second.vacant_edges ∙ first.vacant_edges;
    }

-- ---- less said of the weights

pub copy_weaker : {N E V W : Type 0} (node_as node_less : N → V → Type 0) (edge_as edge_less : E → W → Type 0)
    → ((w : N) (v : V) → node_as w v → node_less w v) → ((w : E) (v : W) → edge_as w v → edge_less w v)
    → (g : Graph N E) (h : Graph V W) → IsCopyAs node_as edge_as g h → IsCopyAs node_less edge_less g h
copy_weaker node_as node_less edge_as edge_less nodes edges g h copy =
    record {
      nodes =
          copied_weaker node_as node_less nodes (λ w. w) (λ w v. v) 0 g.nodes h.nodes copy.nodes;
      edges = copied_weaker edge_as edge_less edges weight_in with_weight 0 g.edges h.edges copy.edges;
      out_lists = copy.out_lists;
      in_lists = copy.in_lists;
      vacant_nodes = copy.vacant_nodes;
      vacant_edges = copy.vacant_edges;
    }
  where
    copied_weaker : {A B X Y : Type 0} (more less : X → Y → Type 0) → ((w : X) (v : Y) → more w v → less w v)
        → (weight : A → X) (with : A → Y → B) (i : ℕ) (xs : List (Option A)) (ys : List (Option B))
        → AreCopied more weight with i xs ys → AreCopied less weight with i xs ys
    copied_weaker more less weaker weight with i [] ys m = m
    copied_weaker more less weaker weight with i (None ∷ xs) ys (later, is, rest) =
        (later, is, copied_weaker more less weaker weight with (i + 1) xs later rest)
    copied_weaker more less weaker weight with i (Some x ∷ xs) ys (v, next, called, later, is, rest) = (
      v,
      tt,
      stands less weight with (weight x) v i (weaker (weight x) v (rw called.shows at called.called)),
      later,
      is,
      copied_weaker more less weaker weight with (i + 1) xs later rest,
    )
