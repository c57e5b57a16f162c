-- What a graph of components has: no cycle, and the reachability of the graph whose components they are.
use Rattle.std.proofs.Common.{◌≡◌, ℕ, ◌<◌, ◌≤◌, inl, inr, List, [], ◌∷◌, length, Option, Some, None, is_some, refl, sym}
use Rattle.std.proofs.Common.{ap, subst, ◌∙◌, arith, slice_get}
use Rattle.std.specs.List.{concat}
use Rattle.std.specs.Prelude.{Contains}
use Rattle.std.specs.Option.{option_map, unwrap_or}
use Rattle.std.proofs.lemmas.Bool.{cases_eq}
use Rattle.daggy_base.specs.Graph.{Graph, Edge, HasNode, node_weight, edge_at}
use Rattle.daggy_base.specs.Path.{AreJoined, IsPath, IsAcyclic, Reaches, end_of}
use Rattle.daggy_base.specs.FromSlots.{MakeGraph}
use Rattle.daggy_base.proofs.Lists.{contains_mem, mem_contains, unique_from_distinct}
use Rattle.daggy_base.proofs.PathEnds.{path_begins}
use Rattle.daggy_base.proofs.PathsWithEdge.{reaches_before, reaches_on}
use Rattle.daggy_components.specs.Components.{AreComponents, component}
use Rattle.daggy_components.specs.Condensation.{KeepsReachability}
use Rattle.daggy_components.proofs.Groups.{member}
use Rattle.daggy_components.proofs.Tallies.{component_of}
use Rattle.daggy_components.proofs.Gathering.{same_component}
use Rattle.daggy_condensation.specs.Between.{JoinsComponents, HasComponents}

module _ {N E W X : Type 0} (members : W → List ℕ) {g : Graph N E} {cs : List (List ℕ)} (c : Graph W X)
    (are : AreComponents g cs) (have : HasComponents members cs c) (s : JoinsComponents g cs c.edges) where
  -- an edge leads to a smaller node
  downward : (a b : ℕ) → AreJoined c a b → b < a
  downward a b j =
      let x : Edge X = record { parent = a; child = b; weight = j.1 } in
      let lead = s.lead j.0 x j.2 in
      let edge = lead.2 in
      let from : AreJoined g edge.0.parent edge.0.child = (lead.1, edge.0.weight, edge.1) in
      omega (arith, are.order a b edge.0.parent edge.0.child from edge.2 edge.3, lead.0)

  lower : (u : ℕ) (rest : List ℕ) → IsPath c (u ∷ rest) → end_of u rest ≤ u
  lower u [] p = omega arith
  lower u (v ∷ rest) p = omega (arith, downward u v p.1, lower v rest p.2)

  pub joined_acyclic : IsAcyclic c
  joined_acyclic u v rest p round = omega (arith, downward u v p.1, lower v rest p.2, round)

  -- each component is a node
  has_node : (k v : ℕ) → Contains (component cs k) v → HasNode c k
  has_node k v m = of (slice_get cs k) refl (node_weight c k) refl
    where
      of : (o : Option (List ℕ)) → slice_get cs k ≡ o → (n : Option W) → node_weight c k ≡ n → HasNode c k
      of None none n is =
          let P : List ℕ → Type 0 = λ z. Contains z v in
          let empty : component cs k ≡ [] = ap (λ z. unwrap_or z []) none in
          absurd (nothing v (subst P empty m))
        where
          nothing : (z : ℕ) → Contains [] z → ⊥
          nothing z there = omega (arith, there.1)
      of (Some x) some None none =
          let is : option_map members (node_weight c k) ≡ None = ap (option_map members) none in
          absurd (none_some (sym is ∙ (have k ∙ some)))
        where
          none_some : {A : Type 0} {y : A} → None ≡ Some y → ⊥
          none_some e = cc
      of (Some x) some (Some y) is = ap is_some is

  node_in : (v : ℕ) → HasNode g v → (k : ℕ) × Contains (component cs k) v
  node_in v exists =
      let p = component_of cs v (contains_mem (concat cs) v ((are.exact v).1 exists)) in
      (p.0, mem_contains (component cs p.0) v p.2)

  same : (a b v : ℕ) → Contains (component cs a) v → Contains (component cs b) v → a ≡ b
  same a b v m i =
      same_component cs (unique_from_distinct (concat cs) are.once) a b v (contains_mem (component cs a) v m)
      (contains_mem (component cs b) v i)

  -- along a path of the graph
  along : (u : ℕ) (rest : List ℕ) (j k : ℕ) → IsPath g (u ∷ rest) → Contains (component cs j) u
      → Contains (component cs k) (end_of u rest) → Reaches c j k
  along u [] j k p here there =
      let P : ℕ → Type 0 = λ z. Reaches c j z in
      subst P (same j k u here there) ([], has_node j u here, refl)
  along u (v ∷ rest) j k p here there =
      let n = node_in v (path_begins g v rest p.2) in
      let more = along v rest n.0 k p.2 n.1 there in
      elim (cases_eq j n.0) [
        | inl eq ↦ (let P : ℕ → Type 0 = λ z. Reaches c z k in subst P (sym eq) more)
        | inr apart ↦ (
            let e = s.every p.1.0 j n.0 (record { parent = u; child = v; weight = p.1.1 }, p.1.2, here, n.1) apart in
            let P : ℕ → Type 0 = λ z. AreJoined c z n.0 in
            let Q : ℕ → Type 0 = λ z. AreJoined c e.1.parent z in
            let joined : AreJoined c e.1.parent e.1.child = (e.0, e.1.weight, e.2) in
            reaches_before c j n.0 k (has_node j u here) (subst P e.3 (subst Q e.4 joined)) more
            )
      ]

  -- along a path of the components
  back : (j : ℕ) (rest : List ℕ) (u v : ℕ) → IsPath c (j ∷ rest) → Contains (component cs j) u
      → Contains (component cs (end_of j rest)) v → Reaches g u v
  back j [] u v p here there = ((are.class j u v here).0 there).0
  back j (k ∷ rest) u v p here there =
      let x : Edge X = record { parent = j; child = k; weight = p.1.1 } in
      let found = s.lead p.1.0 x p.1.2 in
      let lead = found.2 in
      let a = lead.0.parent in
      let b = lead.0.child in
      let joined : AreJoined g a b = (found.1, lead.0.weight, lead.1) in
      let exists : HasNode g a = (are.exact a).0 (in_all j a lead.2) in
      let onward = back k rest b v p.2 lead.3 there in
      reaches_on g u a v ((are.class j u a here).0 lead.2).0 (reaches_before g a b v exists joined onward)
    where
      in_all : (i z : ℕ) → Contains (component cs i) z → Contains (concat cs) z
      in_all i z m = mem_contains (concat cs) z (member cs i z (contains_mem (component cs i) z m))

  pub joined_reachability : KeepsReachability g cs c
  joined_reachability j k u v here there = (
    λ r. let P : ℕ → Type 0 = λ z. Contains (component cs k) z in along u r.0 j k r.1 here (subst P (sym r.2) there),
    λ r. let P : ℕ → Type 0 = λ z. Contains (component cs z) v in back j r.0 u v r.1 here (subst P (sym r.2) there),
  )

  -- the endpoints of each edge exist
  ends_exist : (i : ℕ) (x : Edge X) → edge_at c i ≡ Some x → HasNode c x.parent × HasNode c x.child
  ends_exist i x is =
      let lead = (s.lead i x is).2 in
      (has_node x.parent lead.0.parent lead.2, has_node x.child lead.0.child lead.3)

  pub joined_makes : {end : ℕ} → length c.nodes ≤ end → length c.edges ≤ end → MakeGraph end c.nodes c.edges
  joined_makes nodes edges =
      record {
        few_nodes = nodes;
        few_edges = edges;
        parents = λ i x is. (ends_exist i x is).0;
        children = λ i x is. (ends_exist i x is).1;
      }
