-- Parts of a graph sorted by their positions in a topological order.
use Rattle.std.proofs.Common.{◌≡◌, ℕ, ◌+◌, ◌≤◌, ◌↔◌, Option, Some, None, List, [], ◌∷◌, inl, inr, refl, sym, ap, subst}
use Rattle.std.proofs.Common.{length, map, count_by, is_some, arith, Contains}
use Rattle.std.specs.Option.{option_map}
use Rattle.std.proofs.lemmas.Bool.{cases_lt}
use Rattle.daggy_base.specs.Graph.{Graph, HasNode, in_list, edge_count}
use Rattle.daggy_base.specs.Ordered.{IsOrderOf, place, edges_from}
use Rattle.daggy_base.specs.Path.{AreJoined, Reaches, IsPath, end_of}
use Rattle.daggy_base.specs.WellFormed.{IsWellFormed}
use Rattle.daggy_base.proofs.Lists.{Mem, contains_mem}
use Rattle.daggy_base.proofs.Slots.{count_cons}
use Rattle.daggy_base.proofs.LongerPaths.{reaches_more}
use Rattle.daggy_base.proofs.Sorted.{place_at, same_place}
use Rattle.daggy_base.proofs.PathEnds.{reached_exists}
use Rattle.daggy_order.proofs.OrderEdgeResult.{reached_later}
use Rattle.daggy_search.specs.Reversed.{reversed, reversed_edge}
use Rattle.daggy_search.proofs.ReversedGraph.{joined_into, joined_out, reaches_into, reaches_out}
use Rattle.daggy_reduction.specs.Descendants.{IsDescendantOf, IsDescendantOfAny, IsAncestorOfAny, IsSortedPart, IsOrderOfPart}
use Rattle.daggy_reduction.specs.Descendants.{edges_into}

module _ {N E : Type 0} (g : Graph N E) (order : List ℕ) (ordered : IsOrderOf g order) {Part : ℕ → Type 0}
    (exist : (n : ℕ) → Part n → HasNode g n) (nodes : List ℕ) (s : IsSortedPart order Part nodes) where
  in_order : (n : ℕ) → Contains nodes n → Mem n order
  in_order n c = contains_mem order n ((ordered.exact n).1 (exist n ((s.exact n).0 c)))

  places_ascend : (u v : ℕ) → Contains nodes u → Contains nodes v → place nodes u ≤ place nodes v
      → place order u ≤ place order v
  places_ascend u v has_u has_v up =
      let at_u = place_at nodes u (contains_mem nodes u has_u) in
      let at_v = place_at nodes v (contains_mem nodes v has_v) in
      omega (
        arith,
        s.sorted (place nodes u) (place nodes v) 0 up at_v.0,
        ap (place order) at_u.1,
        ap (place order) at_v.1,
      )

  pub order_of_part : IsOrderOfPart g Part nodes
  order_of_part =
      record {
        exact = s.exact;
        once = s.once;
        sorted = λ u v has_u has_v reaches. elim (cases_lt (place nodes v) (place nodes u)) [
          | inl less ↦ (
              let up = reached_later g order ordered u v reaches in
              let down = places_ascend v u has_v has_u (omega (arith, less)) in
              let same : u ≡ v = same_place order u v (in_order u has_u) (in_order v has_v) (omega (arith, up, down)) in
              absurd (omega (arith, less, ap (place nodes) same))
              )
          | inr more ↦ more
        ];
      }

module _ {N E : Type 0} (g : Graph N E) where
  -- a path to v and an edge from v are an edge and a path
  edge_first : (u v w : ℕ) → Reaches g u v → AreJoined g v w → HasNode g w → IsDescendantOf g u w
  edge_first u v w r joined has = go r.0 r.1 r.2
    where
      go : (rest : List ℕ) → IsPath g (u ∷ rest) → end_of u rest ≡ v → IsDescendantOf g u w
      go [] p is = let J : ℕ → Type 0 = λ z. AreJoined g z w in (w, subst J (sym is) joined, ([], has, refl))
      go (x ∷ rest) p is = (x, p.1, reaches_more g x v w (rest, p.2, is) joined has)

  pub descends_exists : (given : List ℕ) (n : ℕ) → IsDescendantOfAny g given n → HasNode g n
  descends_exists given n d = reached_exists g d.2.0 n d.2.2

pub joined_exist : {N E : Type 0} (limit : ℕ) (g : Graph N E) → IsWellFormed limit g
    → (u v : ℕ) → AreJoined g u v → HasNode g u × HasNode g v
joined_exist limit g w u v joined = (w.parents joined.0 _ joined.2, w.children joined.0 _ joined.2)

-- so many edges enter nodes as leave them in the reversed graph
pub edges_turned : {N E : Type 0} (g : Graph N E) (ns : List ℕ) → edges_from (reversed g) ns ≡ edges_into g ns
edges_turned g [] = refl
edges_turned g (n ∷ ns) = ap (λ z. length (in_list g n) + z) (edges_turned g ns)

count_mapped : {A B : Type 0} (f : A → B) (xs : List (Option A))
    → count_by is_some (map (option_map f) xs) ≡ count_by is_some xs
count_mapped f [] = refl
count_mapped {A} f (None ∷ xs) =
    omega (arith, count_cons (option_map f None) (map (option_map f) xs), count_cons {A = A} None xs, count_mapped f xs)
count_mapped f (Some x ∷ xs) =
    omega (arith, count_cons (Some (f x)) (map (option_map f) xs), count_cons (Some x) xs, count_mapped f xs)

pub count_turned : {N E : Type 0} (g : Graph N E) → edge_count (reversed g) ≡ edge_count g
count_turned g = count_mapped reversed_edge g.edges

module _ {N E : Type 0} (g : Graph N E) (exist : (u v : ℕ) → AreJoined g u v → HasNode g u × HasNode g v) where
  pub ancestors_turned : (given : List ℕ) (n : ℕ) → IsDescendantOfAny (reversed g) given n ↔ IsAncestorOfAny g given n
  ancestors_turned given n = (
    λ d. (
        let joined = joined_out g d.0 d.2.0 d.2.1 in
        (d.0, d.1, edge_first g n d.2.0 d.0 (reaches_out g d.2.0 n d.2.2) joined (exist d.2.0 d.0 joined).1)
        ),
    λ a. (
        let joined = joined_into g n a.2.0 a.2.1 in
        (a.0, a.1, edge_first (reversed g) a.0 a.2.0 n (reaches_into g a.2.0 a.0 a.2.2) joined (exist n a.2.0 a.2.1).0)
        ),
  )

  pub ancestor_exists : (given : List ℕ) (n : ℕ) → IsAncestorOfAny g given n → HasNode g n
  ancestor_exists given n a = (exist n a.2.0 a.2.1).0
