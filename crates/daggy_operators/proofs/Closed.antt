-- What the closure of a graph has: its nodes, its reachability, and no cycle.
use Rattle.std.proofs.Common.{◌≡◌, ℕ, zero, suc, ◌≤◌, ◌↔◌, List, [], ◌∷◌, map, length, Contains, Option, Some, None, IsSome}
use Rattle.std.proofs.Common.{refl, sym, ap, subst, ◌∙◌, arith, get_or}
use Rattle.std.specs.Option.{option_map}
use Rattle.std.specs.Borrow.{Bor}
use Rattle.daggy_base.specs.Graph.{Graph, HasNode, slot, node_weight, edge_at, ends_of}
use Rattle.daggy_base.specs.Path.{AreJoined, IsPath, Reaches, IsAcyclic, end_of}
use Rattle.daggy_base.specs.FromSlots.{edges_by, MakeGraph}
use Rattle.daggy_base.specs.WellFormed.{IsWellFormed}
use Rattle.daggy_base.proofs.PathEnds.{path_ends, reached_exists}
use Rattle.daggy_base.proofs.PathsWithEdge.{reaches_itself, reaches_before, reaches_on, no_round}
use Rattle.daggy_base.proofs.PathsWithoutNode.{slot-map}
use Rattle.daggy_reduction.specs.Descendants.{IsDescendantOf}
use Rattle.daggy_operators.specs.Parts.{ends_by}
use Rattle.daggy_operators.specs.Closure.{IsClosure}
use Rattle.daggy_operators.proofs.PartPaths.{shown_some, ends_joined}

-- edges with indices have the same ends as edges with numbers, all of them
pub all_ends_shown : {I F : Type 0} (number : I → ℕ) (slots : List (Option (I × I × F)))
    → map (option_map ends_of) (edges_by number slots) ≡ map (option_map (ends_by number)) slots
all_ends_shown number [] = refl
all_ends_shown number (None ∷ slots) = ap (λ z. None ∷ z) (all_ends_shown number slots)
all_ends_shown number (Some x ∷ slots) = ap (λ z. Some (ends_by number x) ∷ z) (all_ends_shown number slots)

slot_listed : (ps : List (ℕ × ℕ)) (e : ℕ) (p : ℕ × ℕ) → slot (map Some ps) e ≡ Some p → Contains ps p
slot_listed [] e p at = absurd cc
slot_listed (q ∷ ps) zero p at = (let same : q ≡ p = (let e : Some q ≡ Some p = at in cc) in (0, omega arith, same))
slot_listed (q ∷ ps) (suc e) p at = let c = slot_listed ps e p at in (suc c.0, omega (arith, c.1), c.2)

listed_slot : (ps : List (ℕ × ℕ)) (p : ℕ × ℕ) (e : ℕ) → suc e ≤ length ps → get_or ps e p ≡ p → slot (map Some ps) e ≡ Some p
listed_slot [] p e low at = absurd (omega (arith, low))
listed_slot (q ∷ ps) p zero low at = ap Some at
listed_slot (q ∷ ps) p (suc e) low at = listed_slot ps p e (omega (arith, low)) at

module _ {N E F : Type 0} {g : Graph N E} {h : Graph (Bor N) F} (closure : IsClosure g h) where
  pub closure_node : (n : ℕ) → HasNode h n ↔ HasNode g n
  closure_node n =
      let P : Option N → Type 0 = λ z. IsSome z ↔ IsSome (node_weight h n) in
      let shown : IsSome (node_weight g n) ↔ IsSome (node_weight h n) =
      subst P (closure.nodes n) (shown_some (λ b. b.now) (node_weight h n)) in
      (λ p. shown.1 p, λ p. shown.0 p)

  pub closure_joined : (u v : ℕ) → AreJoined h u v ↔ IsDescendantOf g u v
  closure_joined u v =
      let pairs = closure.edges.0 in
      let at : (e : ℕ) → option_map ends_of (edge_at h e) ≡ slot (map Some pairs) e = λ e.
      sym (slot-map ends_of h.edges e) ∙ ap (λ z. slot z e) closure.edges.2 in (
        λ j. (closure.edges.1.exact u v).0 (slot_listed pairs j.0 (u, v) (sym (at j.0) ∙ ap (option_map ends_of) j.2)),
        λ d. let c = (closure.edges.1.exact u v).1 d in
            ends_joined h c.0 u v (at c.0 ∙ listed_slot pairs (u, v) c.0 (omega (arith, c.1)) c.2),
      )

  back_along : (u : ℕ) (rest : List ℕ) → IsPath h (u ∷ rest) → Reaches g u (end_of u rest)
  back_along u [] p = reaches_itself g u ((closure_node u).0 p)
  back_along u (v ∷ rest) p =
      let d = (closure_joined u v).0 p.1 in
      reaches_on g u v (end_of v rest) (reaches_before g u d.0 v ((closure_node u).0 p.0) d.1 d.2) (back_along v rest p.2)

  along : (u : ℕ) (rest : List ℕ) → IsPath g (u ∷ rest) → Reaches h u (end_of u rest)
  along u [] p = reaches_itself h u ((closure_node u).1 p)
  along u (v ∷ rest) p =
      let z = end_of v rest in
      let j = (closure_joined u z).1 (v, p.1, (rest, p.2, refl)) in
      (z ∷ [], ((closure_node u).1 p.0, j, (closure_node z).1 (path_ends g u (v ∷ rest) p)), refl)

  pub closure_reaches : (u v : ℕ) → Reaches h u v ↔ Reaches g u v
  closure_reaches u v = (
    λ r. subst (Reaches g u) r.2 (back_along u r.0 r.1),
    λ r. subst (Reaches h u) r.2 (along u r.0 r.1),
  )

  pub closure_acyclic : IsAcyclic g → IsAcyclic h
  closure_acyclic acyclic u v rest p round =
      let d = (closure_joined u v).0 p.1 in
      let back : Reaches g v u = subst (Reaches g v) round (back_along v rest p.2) in
      no_round g acyclic u d.0 ((closure_node u).0 p.0) d.1 (reaches_on g d.0 v u d.2 back)

  pub closure_makes : {own limit : ℕ} → IsWellFormed own g → length h.nodes ≤ limit → length h.edges ≤ limit
      → MakeGraph limit h.nodes h.edges
  closure_makes w few_nodes few_edges =
      record {
        few_nodes = few_nodes;
        few_edges = few_edges;
        parents = λ e x at.
            let d = (closure_joined x.parent x.child).0 (e, x.weight, at) in
            (closure_node x.parent).1 (w.parents d.1.0 _ d.1.2);
        children = λ e x at.
            let d = (closure_joined x.parent x.child).0 (e, x.weight, at) in
            (closure_node x.child).1 (reached_exists g d.0 x.child d.2);
      }

-- the ends of a descendant pair exist
pub descendant_exists : {N E : Type 0} {limit : ℕ} {g : Graph N E} → IsWellFormed limit g → (u v : ℕ) → IsDescendantOf g u v
    → HasNode g u × HasNode g v
descendant_exists {g = g} w u v d = (w.parents d.1.0 _ d.1.2, reached_exists g d.0 v d.2)
