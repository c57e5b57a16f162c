-- The cycles of a graph to which edges are added, whose endpoints are pairs of a list.
use Rattle.std.proofs.Common.{◌≡◌, ◌≢◌, ℕ, zero, suc, ◌<◌, ◌≤◌, ◌↔◌, ◌⊎◌, inl, inr, List, [], ◌∷◌, length, map, set, slice_get}
use Rattle.std.proofs.Common.{Option, Some, None, IsSome, refl, sym, ap, subst, ◌∙◌, arith}
use Rattle.std.specs.List.{Contains}
use Rattle.std.proofs.lemmas.List.Elements.{Contains-append_right, Contains-append_cases, Contains-push_cases}
use Rattle.daggy_base.specs.Graph.{Graph, HasNode, slot}
use Rattle.daggy_base.proofs.SlotLists.{none_past}
use Rattle.std.proofs.lemmas.Bool.{cases_lt}
use Rattle.daggy_base.specs.Path.{AreJoined, IsPath, IsAcyclic, end_of}
use Rattle.daggy_base.specs.Adding.{NewEdge, with_edge, with_slot_filled, remaining_vacant}
use Rattle.daggy_base.specs.WellFormed.{IsWellFormed, AreDistinct}
use Rattle.daggy_base.proofs.PathEnds.{path_begins}
use Rattle.daggy_base.proofs.PathsWithEdge.{joined_cases, joined_kept, joined_new}
use Rattle.daggy_base.proofs.Slots.{IsFree}
use Rattle.daggy_components.specs.Cycles.{IsCycle}
use Rattle.daggy_components.proofs.Rounds.{cyclic}
use Rattle.daggy_guard.specs.EdgeBatch.{with_edges}
use Rattle.daggy_cycles.specs.WithPairs.{AreJoinedWith, IsPathWith, IsCycleWith, ends_of_new}

-- ---- elements of a list

no_element : {X : Type 0} (x : X) → Contains [] x → ⊥
no_element x c = let low : c.0 < 0 = c.1 in omega (arith, low)

first_element : {X : Type 0} (y : X) (ys : List X) (x : X) → y ≡ x → Contains (y ∷ ys) x
first_element y ys x same = subst (λ z. Contains (y ∷ ys) z) same (0, omega arith, refl)

later_element : {X : Type 0} (y : X) (ys : List X) (x : X) → Contains ys x → Contains (y ∷ ys) x
later_element y ys x c = Contains-append_right (y ∷ []) ys x c

element_cases : {X : Type 0} (y : X) (ys : List X) (x : X) → Contains (y ∷ ys) x → (y ≡ x) ⊎ Contains ys x
element_cases y ys x c =
    elim (Contains-append_cases (y ∷ []) ys x c) [
      | inl first ↦ elim (Contains-push_cases [] y x first) [
        | inl none ↦ absurd (no_element x none)
        | inr same ↦ inl same
      ]
      | inr rest ↦ inr rest
    ]

-- ---- vacant slots while edges are added

get_other : {A : Type 0} (xs : List A) (i j : ℕ) (x : A) → i ≢ j → slice_get (set xs i x) j ≡ slice_get xs j
get_other [] i j x other = refl
get_other (y ∷ ys) zero zero x other = absurd (other refl)
get_other (y ∷ ys) zero (suc j) x other = refl
get_other (y ∷ ys) (suc i) zero x other = refl
get_other (y ∷ ys) (suc i) (suc j) x other = get_other ys i j x (λ e. other (ap suc e))

-- the listed slots hold nothing, and are listed once
record AreVacant {A : Type 0} (slots : List (Option A)) (vacant : List ℕ) : Type 0 where
  none : (i : ℕ) → Contains vacant i → slice_get slots i ≡ Some None
  once : AreDistinct vacant

free : {A : Type 0} (slots : List (Option A)) (vacant : List ℕ) → AreVacant slots vacant → IsFree slots vacant
free slots [] v = tt
free slots (i ∷ rest) v = v.none i (first_element i rest i refl)

still_vacant : {A : Type 0} (slots : List (Option A)) (vacant : List ℕ) (x : A) → AreVacant slots vacant
    → AreVacant (with_slot_filled slots vacant (Some x)) (remaining_vacant vacant)
still_vacant slots [] x v = record { none = λ i c. absurd (no_element i c); once = tt }
still_vacant slots (i ∷ rest) x v =
    record {
      none = λ j c.
          get_other slots i j (Some x) (λ e. v.once.0 (subst (λ z. Contains rest z) (sym e) c))
          ∙ v.none j (later_element i rest j c);
      once = v.once.1;
    }

-- ---- the edges and nodes of the graph with the added edges

nodes_same : {N E : Type 0} (g : Graph N E) (items : List (NewEdge E)) (n : ℕ)
    → HasNode (with_edges g items) n ↔ HasNode g n
nodes_same g [] n = (λ h. h, λ h. h)
nodes_same g (x ∷ xs) n = nodes_same (with_edge g x.0 x.1 x.2) xs n

joined_from : {N E : Type 0} (g : Graph N E) (items : List (NewEdge E)) (u v : ℕ)
    → AreJoined (with_edges g items) u v → AreJoined g u v ⊎ Contains (map ends_of_new items) (u, v)
joined_from g [] u v j = inl j
joined_from {N} {E} g (x ∷ xs) u v j =
    let pairs : List (ℕ × ℕ) = map ends_of_new xs in
    elim (joined_from (with_edge g x.0 x.1 x.2) xs u v j) [
      | inl one ↦ elim (joined_cases g x.0 x.1 x.2 u v one) [
        | inl old ↦ inl old
        | inr new ↦ (
            let same : ◌≡◌ {A = ℕ × ℕ} (x.0, x.1) (u, v) = ap (λ z. (z, x.1)) (sym new.0) ∙ ap (λ z. (u, z)) (sym new.1) in
            inr (first_element (x.0, x.1) pairs (u, v) same)
            )
      ]
      | inr rest ↦ inr (later_element (x.0, x.1) pairs (u, v) rest)
    ]

joined_old : {N E : Type 0} (g : Graph N E) (items : List (NewEdge E)) (u v : ℕ) → AreVacant g.edges g.vacant_edges
    → AreJoined g u v → AreJoined (with_edges g items) u v
joined_old g [] u v vacant j = j
joined_old g (x ∷ xs) u v vacant j =
    joined_old (with_edge g x.0 x.1 x.2) xs u v (still_vacant g.edges g.vacant_edges _ vacant)
    (joined_kept g x.0 x.1 x.2 (free g.edges g.vacant_edges vacant) u v j)

joined_to : {N E : Type 0} (g : Graph N E) (items : List (NewEdge E)) (u v : ℕ) → AreVacant g.edges g.vacant_edges
    → Contains (map ends_of_new items) (u, v) → AreJoined (with_edges g items) u v
joined_to g [] u v vacant c = absurd (no_element (u, v) c)
joined_to {N} {E} g (x ∷ xs) u v vacant c =
    let pairs : List (ℕ × ℕ) = map ends_of_new xs in
    let one = with_edge g x.0 x.1 x.2 in
    let after = still_vacant g.edges g.vacant_edges _ vacant in
    elim (element_cases (x.0, x.1) pairs (u, v) c) [
      | inl same ↦ (
          let new : AreJoined one x.0 x.1 = joined_new g x.0 x.1 x.2 (free g.edges g.vacant_edges vacant) in
          let from : x.0 ≡ u = ap (λ (z : ℕ × ℕ). z.0) same in
          let to : x.1 ≡ v = ap (λ (z : ℕ × ℕ). z.1) same in
          joined_old one xs u v after (subst (λ z. AreJoined one u z) to (subst (λ z. AreJoined one z x.1) from new))
          )
      | inr rest ↦ joined_to one xs u v after rest
    ]

-- the index of a node that exists is not above the limit
pub exists_low : {N E : Type 0} {end : ℕ} {g : Graph N E} → IsWellFormed end g → (n : ℕ) → HasNode g n → n ≤ end
exists_low {end = end} {g = g} w n there =
    elim (cases_lt n (length g.nodes)) [
      | inl low ↦ omega (arith, low, w.few_nodes)
      | inr past ↦ absurd (gone (slot g.nodes n) there (none_past g.nodes n past))
    ]
  where
    gone : {A : Type 0} (o : Option A) → IsSome o → o ≡ None → ⊥
    gone None some none = absurd cc
    gone (Some x) some none = cc

-- ---- a graph whose edges are those of another and the pairs

module _ {N E M F : Type 0} {end : ℕ} (g : Graph N E) (h : Graph M F) (pairs : List (ℕ × ℕ)) (w : IsWellFormed end g)
    (nodes : (n : ℕ) → HasNode h n ↔ HasNode g n)
    (edges : (u v : ℕ) → AreJoined h u v ↔ AreJoinedWith g pairs u v) where
  path_from : (us : List ℕ) → IsPath h us → IsPathWith g pairs us
  path_from [] p = absurd p
  path_from (u ∷ []) p = (nodes u).0 p
  path_from (u ∷ v ∷ rest) p = ((edges u v).0 p.1, path_from (v ∷ rest) p.2)

  path_to : (us : List ℕ) → IsPathWith g pairs us → IsPath h us
  path_to [] p = absurd p
  path_to (u ∷ []) p = (nodes u).1 p
  path_to (u ∷ v ∷ rest) p = ((nodes u).1 p.0.parent, (edges u v).1 p.0, path_to (v ∷ rest) p.1)

  pub cycle_from : (cycle : List ℕ) → IsCycle h cycle → IsCycleWith g pairs cycle
  cycle_from [] c = absurd c
  cycle_from (u ∷ rest) c = (path_from (u ∷ rest) c.0, c.1, (edges (end_of u rest) u).0 c.2)

  cycle_to : (cycle : List ℕ) → IsCycleWith g pairs cycle → IsCycle h cycle
  cycle_to [] c = absurd c
  cycle_to (u ∷ rest) c = (path_to (u ∷ rest) c.0, c.1, (edges (end_of u rest) u).1 c.2)

  -- an acyclic graph has no cycle
  pub no_cycle : IsAcyclic h → (cycle : List ℕ) → IsCycleWith g pairs cycle → ⊥
  no_cycle acyclic cycle c = cyclic h cycle (cycle_to cycle c) acyclic

  -- the nodes of a cycle exist
  pub nodes_exist : (cycle : List ℕ) → IsCycle h cycle → (n : ℕ) → Contains cycle n → HasNode g n
  nodes_exist [] c n held = absurd c
  nodes_exist (u ∷ rest) c n held = on (u ∷ rest) c.0 n held
    where
      on : (us : List ℕ) → IsPath h us → (n : ℕ) → Contains us n → HasNode g n
      on [] p n held = absurd p
      on (u ∷ []) p n held =
          elim (element_cases u [] n held) [
            | inl same ↦ subst (λ z. HasNode g z) same ((nodes u).0 p)
            | inr none ↦ absurd (no_element n none)
          ]
      on (u ∷ v ∷ rest) p n held =
          elim (element_cases u (v ∷ rest) n held) [
            | inl same ↦ subst (λ z. HasNode g z) same ((nodes u).0 p.0)
            | inr more ↦ on (v ∷ rest) p.2 n more
          ]

  -- the graph with edges that have these endpoints
  module _ (items : List (NewEdge E)) (are : map ends_of_new items ≡ pairs) where
    vacant : AreVacant g.edges g.vacant_edges
    vacant = record { none = λ i. (w.edge_slots.exact i).0; once = w.edge_slots.once }

    added_from : (us : List ℕ) → IsPath (with_edges g items) us → IsPath h us
    added_from [] p = absurd p
    added_from (u ∷ []) p = (nodes u).1 ((nodes_same g items u).0 p)
    added_from (u ∷ v ∷ rest) p =
        let parent = (nodes_same g items u).0 p.0 in
        let child = (nodes_same g items v).0 (path_begins (with_edges g items) v rest p.2) in
        let joined : AreJoined g u v ⊎ Contains pairs (u, v) = elim (joined_from g items u v p.1) [
          | inl old ↦ inl old
          | inr new ↦ inr (subst (λ z. Contains z (u, v)) are new)
        ] in (
          (nodes u).1 parent,
          (edges u v).1 (record { parent = parent; child = child; joined = joined }),
          added_from (v ∷ rest) p.2,
        )

    added_to : (us : List ℕ) → IsPath h us → IsPath (with_edges g items) us
    added_to [] p = absurd p
    added_to (u ∷ []) p = (nodes_same g items u).1 ((nodes u).0 p)
    added_to (u ∷ v ∷ rest) p =
        let joined : AreJoined (with_edges g items) u v = elim ((edges u v).0 p.1).joined [
          | inl old ↦ joined_old g items u v vacant old
          | inr new ↦ joined_to g items u v vacant (subst (λ z. Contains z (u, v)) (sym are) new)
        ] in
        ((nodes_same g items u).1 ((nodes u).0 p.0), joined, added_to (v ∷ rest) p.2)

    pub acyclic_with_edges : IsAcyclic h ↔ IsAcyclic (with_edges g items)
    acyclic_with_edges = (
      λ acyclic u v rest p. acyclic u v rest (added_from (u ∷ v ∷ rest) p),
      λ acyclic u v rest p. acyclic u v rest (added_to (u ∷ v ∷ rest) p),
    )
