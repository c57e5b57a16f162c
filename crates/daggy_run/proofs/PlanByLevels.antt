-- Levels, stages by levels and the chain back through them make a plan, and none is shorter.
use Rattle.std.proofs.Common.{◌≡◌, ◌≢◌, ℕ, zero, suc, ◌+◌, ◌-◌, ◌<◌, ◌≤◌, ◌⊎◌, inl, inr, List, [], ◌∷◌, ◌++◌, length}
use Rattle.std.proofs.Common.{slice_index, slice_index_or, Contains, refl, sym, ap, subst, ◌∙◌, add-one, arith}
use Rattle.std.proofs.lemmas.List.{get_or_past, length-append}
use Rattle.std.proofs.lemmas.Bool.{cases_lt}
use Rattle.daggy_base.specs.Graph.{Graph, HasNode, node_bound}
use Rattle.daggy_base.specs.Path.{AreJoined, IsPath, end_of}
use Rattle.daggy_base.specs.WellFormed.{IsWellFormed, AreDistinct}
use Rattle.daggy_base.proofs.Lists.{Mem, contains_mem, Contains-nil, Contains-here}
use Rattle.daggy_base.proofs.OutEdgesRead.{below_bound}
use Rattle.daggy_base.proofs.LongerPaths.{path_more}
use Rattle.daggy_run.specs.Plans.{StandsIn, IsAscending, IsPlan, IsLevel, IsByLevels, IsLowest, IsChain, IsShortest}
use Rattle.daggy_run.specs.Levels.{AreLevels, AreStaged, IsBack}

-- the first of an ascending list is less than the others
first_less : (x : ℕ) (xs : List ℕ) → IsAscending (x ∷ xs) → (m : ℕ) → Mem m xs → x < m
first_less x [] a m h = absurd h
first_less x (y ∷ xs) a m (inl e) = omega (arith, a.0)
first_less x (y ∷ xs) a m (inr b) = omega (arith, a.0, first_less y xs a.1 m b)

ascending_rest : (x : ℕ) (xs : List ℕ) → IsAscending (x ∷ xs) → IsAscending xs
ascending_rest x [] a = tt
ascending_rest x (y ∷ xs) a = a.1

ascending_distinct : (xs : List ℕ) → IsAscending xs → AreDistinct xs
ascending_distinct [] a = tt
ascending_distinct (x ∷ xs) a = (
  λ h. let less = first_less x xs a x (contains_mem xs x h) in absurd (omega (arith, less)),
  ascending_distinct xs (ascending_rest x xs a),
)

first_least : (x : ℕ) (xs : List ℕ) → IsAscending (x ∷ xs) → (m : ℕ) → Mem m (x ∷ xs) → x ≤ m
first_least x xs a m (inl e) = omega arith
first_least x xs a m (inr b) = omega (arith, first_less x xs a m b)

pub first_lowest : (xs : List ℕ) → xs ≢ [] → IsAscending xs → IsLowest (Contains xs) (slice_index xs 0)
first_lowest [] some a = absurd (some refl)
first_lowest (x ∷ xs) some a = record {
  here = Contains-here x xs;
  least = λ m h. first_least x xs a m (contains_mem (x ∷ xs) m h);
}

-- a path from its nodes
path_of : {N E : Type 0} (g : Graph N E) (x : ℕ) (cs : List ℕ)
    → ((k : ℕ) → k < length (x ∷ cs) → HasNode g (slice_index (x ∷ cs) k))
    → ((k : ℕ) → suc k < length (x ∷ cs) → AreJoined g (slice_index (x ∷ cs) k) (slice_index (x ∷ cs) (suc k)))
    → IsPath g (x ∷ cs)
path_of g x [] exists joined = exists zero (omega arith)
path_of g x (y ∷ cs) exists joined = (
  exists zero (omega arith),
  joined zero (omega arith),
  path_of g y cs (λ k low. exists (suc k) (omega arith)) (λ k low. joined (suc k) (omega arith)),
)

path_first : {N E : Type 0} (g : Graph N E) (x : ℕ) (cs : List ℕ) → IsPath g (x ∷ cs) → HasNode g x
path_first g x [] p = p
path_first g x (y ∷ cs) p = p.0

stands_within : (stages : List (List ℕ)) (k n : ℕ) → StandsIn stages k n → k < length stages
stands_within stages k n h =
    elim (cases_lt k (length stages)) [
      | inl low ↦ low
      | inr high ↦ absurd (Contains-nil n (rw (get_or_past stages k [] high) at h))
    ]

-- a path goes from stage to stage
later_on : {N E : Type 0} (g : Graph N E) (stages : List (List ℕ))
    → IsPlan g stages → (x : ℕ) (cs : List ℕ) → IsPath g (x ∷ cs) → (j : ℕ) → StandsIn stages j x
    → (k : ℕ) × StandsIn stages k (end_of x cs) × (j + length cs ≤ k)
later_on g stages o x [] p j a = (j, a, omega arith)
later_on g stages o x (y ∷ cs) p j a =
    let next = (o.exact y).0 (path_first g y cs p.2) in
    let far = later_on g stages o y cs p.2 next.0 next.1 in
    (far.0, far.1, omega (arith, far.2, o.later x y j next.0 p.1 a next.1))

module _ {N E : Type 0} (end : ℕ) (g : Graph N E) (w : IsWellFormed end g) (levels parents : List ℕ) (most : ℕ)
    (f : AreLevels (AreJoined g) most levels parents) where
  level_path : (k v : ℕ) → HasNode g v → slice_index levels v ≡ k
      → (u : ℕ) × (rest : List ℕ) × IsPath g (u ∷ rest) × (end_of u rest ≡ v) × (length rest ≡ k)
  level_path zero v exists is = (v, [], exists, refl, refl)
  level_path (suc k) v exists is =
      let low = f.noted v (omega arith) in
      let p = slice_index parents v in
      let j : AreJoined g p v = low.here.0 in
      let before = level_path k p (w.parents j.0 _ j.2) (omega (arith, low.here.1)) in
      let more = path_more g before.0 before.1 p v before.2 before.3 j exists in
      (before.0, before.1 ++ v ∷ [], more.0, more.1, omega (arith, before.4, length-append before.1 (v ∷ [])))

  rises : (u : ℕ) (rest : List ℕ)
      → IsPath g (u ∷ rest) → slice_index levels u + length rest ≤ slice_index levels (end_of u rest)
  rises u [] p = omega arith
  rises u (v ∷ rest) p = omega (arith, f.above u v p.1, rises v rest p.2)

  level_is : (v : ℕ) → HasNode g v → IsLevel g v (slice_index levels v)
  level_is v exists =
      record {
        reached = level_path (slice_index levels v) v exists refl;
        longest = λ u rest p e. omega (arith, rises u rest p, ap (slice_index levels) e);
      }

  -- below each node there is one of each lower level
  down : (d v k : ℕ) → HasNode g v → slice_index levels v ≡ d + k → (u : ℕ) × HasNode g u × (slice_index levels u ≡ k)
  down zero v k exists is = (v, exists, omega arith)
  down (suc d) v k exists is =
      let low = f.noted v (omega arith) in
      let j = low.here.0 in
      down d (slice_index parents v) k (w.parents j.0 _ j.2) (omega (arith, low.here.1))

  module _ (bound : ℕ) (whole : bound ≡ node_bound g) (stages : List (List ℕ))
      (s : AreStaged g levels bound stages) where
    stands : (n k : ℕ) → HasNode g n → slice_index levels n ≡ k → StandsIn stages k n
    stands n k exists is = (s.exact k n).1 (omega (arith, below_bound g.nodes n exists), exists, is)

    pub is_plan : IsPlan g stages
    is_plan =
        record {
          exact = λ n. (λ h. (slice_index levels n, stands n _ h refl), λ p. let q = (s.exact p.0 n).0 p.1 in q.1);
          once = λ n j k a b. let p = (s.exact j n).0 a in let q = (s.exact k n).0 b in sym p.2 ∙ q.2;
          distinct = λ k. ascending_distinct (slice_index_or stages k []) (s.ascending k);
          later = λ u v j k joined a b. let p = (s.exact j u).0 a in
              let q = (s.exact k v).0 b in omega (arith, f.above u v joined, p.2, q.2);
        }

    full : (k : ℕ) → k < length stages → slice_index_or stages k [] ≢ []
    full k low none =
        let p = s.long k low in
        let q = down (slice_index levels p.0 - k) p.0 k p.1 (omega (arith, p.2)) in
        Contains-nil q.0 (rw none at (stands q.0 k q.1 q.2))

    pub by_levels : IsByLevels g stages
    by_levels =
        record {
          levels = λ n k a. let p = (s.exact k n).0 a in rw (sym p.2) (level_is n p.1);
          full = full;
          ascending = s.ascending;
        }

    pub last_full : (k : ℕ) → k + 1 ≡ length stages → slice_index_or stages k [] ≢ []
    last_full k last = full k (omega arith)

    pub last_low : (k : ℕ) → k + 1 ≡ length stages → slice_index (slice_index_or stages k []) 0 < bound
    last_low k last =
        let low = first_lowest (slice_index_or stages k []) (last_full k last) (s.ascending k) in
        let p = (s.exact k (slice_index (slice_index_or stages k []) 0)).0 low.here in
        p.0

    module _ (chain : List ℕ) (b : IsBack parents stages chain) where
      last_is : (k : ℕ) → k + 1 ≡ length stages → IsLowest (StandsIn stages k) (slice_index chain k)
      last_is k last =
          rw (b.last k last) (first_lowest (slice_index_or stages k []) (last_full k last) (s.ascending k))

      -- the parent of a node of the next stage
      before : (k : ℕ) → k + 1 < length stages → StandsIn stages (k + 1) (slice_index chain (k + 1))
          → IsLowest (λ n. StandsIn stages k n × AreJoined g n (slice_index chain (k + 1))) (slice_index chain k)
      before k low next =
          let v = slice_index chain (k + 1) in
          let q = (s.exact (k + 1) v).0 next in
          let old = f.noted v (omega (arith, q.2)) in
          let j : AreJoined g (slice_index parents v) v = old.here.0 in
          rw (b.back k low) (record {
            here = (stands (slice_index parents v) k (w.parents j.0 _ j.2) (omega (arith, old.here.1, q.2)), j);
            least = λ m h. let r = (s.exact k m).0 h.0 in old.least m (h.1, omega (arith, r.2, q.2));
          })

      on : (d k : ℕ) → k + suc d ≡ length stages → StandsIn stages k (slice_index chain k)
      on zero k is = let l = last_is k (omega arith) in l.here
      on (suc d) k is =
          let p = before k (omega arith) (on d (k + 1) (omega arith)) in
          p.here.0

      chain_stands : (k : ℕ) → k < length stages → StandsIn stages k (slice_index chain k)
      chain_stands k low = on (length stages - suc k) k (omega arith)

      chain_parents : (k : ℕ) → k + 1 < length stages
          → IsLowest (λ n. StandsIn stages k n × AreJoined g n (slice_index chain (k + 1))) (slice_index chain k)
      chain_parents k low = before k low (chain_stands (k + 1) low)

      whole_path : (cs : List ℕ) → chain ≡ cs → (cs ≡ []) ⊎ IsPath g cs
      whole_path [] is = inl refl
      whole_path (x ∷ cs) is =
          inr (path_of g x cs (λ k low.
          let q = (s.exact k (slice_index chain k)).0 (chain_stands k (omega (arith, b.as_long, ap length is))) in
          rw is at q.1) (λ k low.
          let p = chain_parents k (omega (arith, b.as_long, ap length is)) in
          rw (add-one k, is) at p.here.1))

      pub is_chain : IsChain g stages chain
      is_chain = record { as_long = b.as_long; path = whole_path chain refl; last = last_is; parents = chain_parents }

      shortest_by : (cs : List ℕ) → chain ≡ cs → (cs ≡ []) ⊎ IsPath g cs → (others : List (List ℕ)) → IsPlan g others
          → length stages ≤ length others
      shortest_by [] is p others o = omega (arith, b.as_long, ap length is)
      shortest_by (x ∷ cs) is (inl none) others o = absurd (omega (arith, ap length none))
      shortest_by (x ∷ cs) is (inr p) others o =
          let first = (o.exact x).0 (path_first g x cs p) in
          let last = later_on g others o x cs p first.0 first.1 in
          omega (arith, b.as_long, ap length is, last.2, stands_within others last.0 _ last.1)

      pub is_shortest : IsShortest g stages
      is_shortest others o = shortest_by chain refl (whole_path chain refl) others o

-- the same in the words of a planner
pub record Planned {N E : Type 0} (g : Graph N E) (stages : List (List ℕ)) (chain : List ℕ) : Type 0 where
  pub plan : IsPlan g stages
  pub levels : IsByLevels g stages
  pub path : IsChain g stages chain
  pub shortest : IsShortest g stages

module _ {N E : Type 0} (end : ℕ) (g : Graph N E) (w : IsWellFormed end g) {levels parents levels' : List ℕ}
    (found : (most : ℕ) × AreLevels (AreJoined g) most levels parents) (same_levels : levels' ≡ levels)
    {stages stages' : List (List ℕ)} (same_stages : stages' ≡ stages)
    (staged : AreStaged g levels' (node_bound g) stages) where
  by_found : AreStaged g levels (node_bound g) stages
  by_found = subst (λ (z : List ℕ). AreStaged g z (node_bound g) stages) same_levels staged

  pub last_some : (k : ℕ) → k + 1 ≡ length stages' → slice_index_or stages' k [] ≢ []
  last_some k last =
      rw same_stages (last_full end g w levels parents found.0 found.1 (node_bound g) refl stages by_found k
      (omega (arith, ap length same_stages)))

  pub last_within : (k : ℕ) → k + 1 ≡ length stages' → slice_index (slice_index_or stages' k []) 0 < node_bound g
  last_within k last =
      rw same_stages (last_low end g w levels parents found.0 found.1 (node_bound g) refl stages by_found k
      (omega (arith, ap length same_stages)))

  pub planned : {parents' chain : List ℕ} → parents' ≡ parents → IsBack parents' stages' chain → Planned g stages chain
  planned {parents'} {chain} same_parents back =
      let b = rw (same_parents, same_stages) at back in
      record {
        plan = is_plan end g w levels parents found.0 found.1 (node_bound g) refl stages by_found;
        levels = by_levels end g w levels parents found.0 found.1 (node_bound g) refl stages by_found;
        path = is_chain end g w levels parents found.0 found.1 (node_bound g) refl stages by_found chain b;
        shortest = is_shortest end g w levels parents found.0 found.1 (node_bound g) refl stages by_found chain b;
      }
