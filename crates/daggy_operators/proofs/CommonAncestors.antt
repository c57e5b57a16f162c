-- Which nodes are common ancestors, and the lowest of them.
use Rattle.std.proofs.Common.{◌≡◌, ℕ, zero, suc, ◌+◌, ◌<◌, ◌≤◌, replicate, Bool, true, false, List, [], ◌∷◌, ◌++◌, length, get_or, set, Option, Some}
use Rattle.std.proofs.Common.{Contains, sym, ap, subst, ◌∙◌, ◌↔◌, ◌⊎◌, inl, inr, refl, arith}
use Rattle.std.proofs.lemmas.Bool.{cases_eq, cases_Bool, false≢true}
use Rattle.std.proofs.lemmas.List.{get_or-set_same, get_or-set_other}
use Rattle.std.proofs.lemmas.List.Elements.{Contains-append_left, Contains-append_right, Contains-append_cases}
use Rattle.daggy_base.specs.Graph.{Graph, Edge, HasNode, edge_at, slot}
use Rattle.daggy_base.specs.Path.{AreJoined, IsPath, Reaches, end_of}
use Rattle.daggy_base.proofs.Lists.{Contains-nil, Contains-cases, Contains-here}
use Rattle.daggy_base.proofs.PathEnds.{path_begins, reached_exists}
use Rattle.daggy_base.proofs.PathsWithEdge.{reaches_itself}
use Rattle.daggy_reduction.specs.Descendants.{IsDescendantOf, IsAncestorOfAny}
use Rattle.daggy_redundant.specs.Comparison.{IsAscending}
use Rattle.daggy_operators.proofs.Wholes.{exists_low}
use Rattle.daggy_operators.specs.Common.{IsCommonAncestor, IsLowestCommonAncestor}

only : (x n : ℕ) → Contains (x ∷ []) n → n ≡ x
only x n c = elim (Contains-cases x n [] c) [ inl here ↦ sym here | inr none ↦ absurd (Contains-nil n none) ]

module _ {N E : Type 0} (g : Graph N E) (parents : (e : ℕ) (x : Edge E) → edge_at g e ≡ Some x → HasNode g x.parent) where
  joined_exists : (u v : ℕ) → AreJoined g u v → HasNode g u
  joined_exists u v j = parents j.0 (record { parent = u; child = v; weight = j.1 }) j.2

  -- a path that begins with an edge
  reaches_by : (u v z : ℕ) → AreJoined g u v → Reaches g v z → Reaches g u z
  reaches_by u v z j r = (v ∷ r.0, (joined_exists u v j, j, r.1), r.2)

  -- a path is of no edge, or begins with one
  first_edge : (u z : ℕ) (rest : List ℕ) → IsPath g (u ∷ rest) → end_of u rest ≡ z → (u ≡ z) ⊎ IsDescendantOf g u z
  first_edge u z [] path is = inl is
  first_edge u z (v ∷ rest) path is = inr (v, path.1, (rest, path.2, is))

  -- the nodes that reach a are its ancestors and a
  pub reaching : (a : ℕ) (found : List ℕ) → HasNode g a → ((n : ℕ) → Contains found n ↔ IsAncestorOfAny g (a ∷ []) n)
      → (n : ℕ) → Contains (found ++ a ∷ []) n ↔ Reaches g n a
  reaching a found has exact n = (
    λ c. elim (Contains-append_cases found (a ∷ []) n c) [
      | inl above ↦ (
          let p = (exact n).0 above in
          let to : Reaches g n p.0 = reaches_by n p.2.0 p.0 p.2.1 p.2.2 in
          subst (Reaches g n) (only a p.0 p.1) to
          )
      | inr here ↦ subst (λ z. Reaches g z a) (sym (only a n here)) (reaches_itself g a has)
    ],
    λ r. elim (first_edge n a r.0 r.1 r.2) [
      | inl same ↦ Contains-append_right found (a ∷ []) n (subst (Contains (a ∷ [])) (sym same) (Contains-here a []))
      | inr below ↦ Contains-append_left found (a ∷ []) n ((exact n).1 (a, Contains-here a [], below))
    ],
  )

  pub none_reach : (a n : ℕ) → ¬ HasNode g a → Contains [] n ↔ Reaches g n a
  none_reach a n missing = (λ c. absurd (Contains-nil n c), λ r. absurd (missing (reached_exists g n a r)))

  -- what reaches a common ancestor by an edge is one
  above_common : (a b u v : ℕ) → AreJoined g u v → IsCommonAncestor g a b v → IsCommonAncestor g a b u
  above_common a b u v j c = (reaches_by u v a j c.0, reaches_by u v b j c.1)

  along_common : (a b u : ℕ) (rest : List ℕ) → IsPath g (u ∷ rest) → IsCommonAncestor g a b (end_of u rest) → IsCommonAncestor g a b u
  along_common a b u [] path c = c
  along_common a b u (v ∷ rest) path c = above_common a b u v path.1 (along_common a b v rest path.2 c)

  -- a common ancestor is a lowest one if and only if no child of it is common
  pub lowest_by_children : (a b n : ℕ)
      → IsLowestCommonAncestor g a b n
      ↔ (IsCommonAncestor g a b n
      × ((e : ℕ) (x : Edge E) → edge_at g e ≡ Some x → x.parent ≡ n → ¬ IsCommonAncestor g a b x.child))
  lowest_by_children a b n = (
    λ s. (
      s.common,
      λ e x at from c.
          let joined : AreJoined g n x.child = (e, x.weight, at ∙ ap (λ z. Some (record { parent = z; child = x.child; weight = x.weight })) from) in
          let here = reached_exists g x.child a c.0 in
          let child : HasNode g x.child = path_begins g x.child c.0.0 c.0.1 in
          s.lowest x.child (x.child, joined, reaches_itself g x.child child) c,
    ),
    λ s. record {
      common = s.0;
      lowest = λ m below c.
          let v = below.0 in
          let path = below.2 in
          let common : IsCommonAncestor g a b v =
          along_common a b v path.0 path.1 (subst (IsCommonAncestor g a b) (sym path.2) c) in
          s.1 below.1.0 (record { parent = n; child = v; weight = below.1.1 }) below.1.2 refl common;
    },
  )

-- the marks of nodes of which a child is chosen, by the first edges
abbrev pub AreAbove : {N E : Type 0} → Graph N E → (Chosen : ℕ → Type 0) → (edges : ℕ) → List Bool → Type 0
AreAbove {N} {E} g Chosen edges marks =
    (n : ℕ) → (get_or marks n false ≡ true)
    ↔ ((e : ℕ) × (x : Edge E) × (edge_at g e ≡ Some x) × (x.parent ≡ n) × Chosen x.child × (e < edges))

module _ {N E : Type 0} (g : Graph N E) (Chosen : ℕ → Type 0) where
  pub above_none : (slots : ℕ) (marks : List Bool) → marks ≡ replicate slots false → AreAbove g Chosen 0 marks
  above_none slots marks is n = (
    λ m. absurd (none_set slots marks is n m),
    λ p. absurd (omega (arith, p.5)),
  )
    where
      unset : (k i : ℕ) → get_or (replicate k false) i false ≡ false
      unset zero i = refl
      unset (suc k) zero = refl
      unset (suc k) (suc i) = unset k i

      none_set : (k : ℕ) (xs : List Bool) → xs ≡ replicate k false → (i : ℕ) → get_or xs i false ≡ true → ⊥
      none_set k xs is i m = false≢true (sym (ap (λ z. get_or z i false) is ∙ unset k i) ∙ m)

  module _ (i : ℕ) (marks : List Bool) (s : AreAbove g Chosen i marks) where
    -- no edge, or one whose child is not chosen
    pub above_past : ((x : Edge E) → edge_at g i ≡ Some x → ¬ Chosen x.child) → AreAbove g Chosen (i + 1) marks
    above_past none n = (
      λ m. (let p = (s n).0 m in (p.0, p.1, p.2, p.3, p.4, omega (arith, p.5))),
      λ p. elim (cases_eq p.0 i) [
        | inl here ↦ absurd (none p.1 (ap (λ z. edge_at g z) (sym here) ∙ p.2) p.4)
        | inr other ↦ (s n).1 (p.0, p.1, p.2, p.3, p.4, omega (arith, p.5, other))
      ],
    )

    -- an edge whose child is chosen
    pub above_set : (x : Edge E) → edge_at g i ≡ Some x → Chosen x.child → x.parent < length marks
        → AreAbove g Chosen (i + 1) (set marks x.parent true)
    above_set x at chosen low n =
        elim (cases_eq n x.parent) [
          | inl same ↦ (
            λ _. (i, x, at, sym same, chosen, omega arith),
            λ _. ap (λ z. get_or (set marks x.parent true) z false) same ∙ get_or-set_same marks x.parent true false low,
          )
          | inr other ↦ (
            λ m.
                let p = (s n).0 (sym (get_or-set_other marks x.parent n true false other) ∙ m) in
                (p.0, p.1, p.2, p.3, p.4, omega (arith, p.5)),
            λ p. get_or-set_other marks x.parent n true false other ∙ elim (cases_eq p.0 i) [
              | inl here ↦ (
                  let both : Some p.1 ≡ Some x = sym p.2 ∙ (ap (λ z. edge_at g z) here ∙ at) in
                  let one : p.1 ≡ x = cc in
                  absurd (other (sym p.3 ∙ ap (λ (z : Edge E). z.parent) one))
                  )
              | inr before ↦ (s n).1 (p.0, p.1, p.2, p.3, p.4, omega (arith, p.5, before))
            ],
          )
        ]

    -- all edges
    pub above_all : length g.edges ≤ i → (n : ℕ)
        → (get_or marks n false ≡ true)
        ↔ ((e : ℕ) × (x : Edge E) × (edge_at g e ≡ Some x) × (x.parent ≡ n) × Chosen x.child)
    above_all all n = (
      λ m. (let p = (s n).0 m in (p.0, p.1, p.2, p.3, p.4)),
      λ p. (let low = slot_low g.edges p.0 p.1 p.2 in (s n).1 (p.0, p.1, p.2, p.3, p.4, omega (arith, low, all))),
    )
      where
        slot_low : (xs : List (Option (Edge E))) (e : ℕ) (x : Edge E) → slot xs e ≡ Some x → e < length xs
        slot_low [] e x is = absurd cc
        slot_low (y ∷ xs) zero x is = omega arith
        slot_low (y ∷ xs) (suc e) x is = let h = slot_low xs e x is in omega (arith, h)

-- The marks tell which nodes are lowest: the first and the second those of the nodes that reach a and b, and the third those
-- of the nodes with a child that has both.
module _ {N E : Type 0} (g : Graph N E) (parents : (e : ℕ) (x : Edge E) → edge_at g e ≡ Some x → HasNode g x.parent)
    (children : (e : ℕ) (x : Edge E) → edge_at g e ≡ Some x → HasNode g x.child) (a b : ℕ) (first second third : List Bool)
    (is_first : (n : ℕ) → n < length g.nodes → (get_or first n false ≡ true) ↔ Reaches g n a)
    (is_second : (n : ℕ) → n < length g.nodes → (get_or second n false ≡ true) ↔ Reaches g n b)
    (is_third : (n : ℕ) → (get_or third n false ≡ true) ↔ ((e : ℕ) × (x : Edge E) × (edge_at g e ≡ Some x) × (x.parent ≡ n)
    × ((get_or first x.child false ≡ true) × (get_or second x.child false ≡ true)))) where
  common_marked : (n : ℕ) → n < length g.nodes → IsCommonAncestor g a b n
      → (get_or first n false ≡ true) × (get_or second n false ≡ true)
  common_marked n low c = ((is_first n low).1 c.0, (is_second n low).1 c.1)

  pub lowest_marked : (n : ℕ)
      → (((get_or first n false ≡ true) × (get_or second n false ≡ true) × (get_or third n false ≡ false)) × (n < length g.nodes))
      ↔ IsLowestCommonAncestor g a b n
  lowest_marked n = (
    λ m.
        (lowest_by_children g parents a b n).1 (
          ((is_first n m.1).0 m.0.0, (is_second n m.1).0 m.0.1),
          λ e x at from c.
              let low = exists_low g x.child (children e x at) in
              let both = common_marked x.child low c in
              false≢true (sym m.0.2 ∙ (is_third n).1 (e, x, at, from, both)),
        ),
    λ s.
        let l = (lowest_by_children g parents a b n).0 s in
        let low = exists_low g n (path_begins g n l.0.0.0 l.0.0.1) in
        let both = common_marked n low l.0 in (
          (
            both.0,
            both.1,
            elim (cases_Bool (get_or third n false)) [
              | inl yes_it ↦ (
                  let p = (is_third n).0 yes_it in
                  let child_low = exists_low g p.1.child (children p.0 p.1 p.2) in
                  absurd (l.1 p.0 p.1 p.2 p.3 ((is_first p.1.child child_low).0 p.4.0, (is_second p.1.child child_low).0 p.4.1))
                  )
              | inr it ↦ it
            ],
          ),
          low,
        ),
  )

-- a list has exactly the numbers below i with a property
module _ (P : ℕ → Type 0) (i : ℕ) (xs : List ℕ) (exact : (n : ℕ) → Contains xs n ↔ (P n × (n < i))) where
  pub exact_past : ¬ P i → (n : ℕ) → Contains xs n ↔ (P n × (n < i + 1))
  exact_past fails n = (
    λ c. (let q = (exact n).0 c in (q.0, omega (arith, q.1))),
    λ q. elim (cases_eq n i) [
      | inl same ↦ absurd (fails (subst P same q.0))
      | inr other ↦ (exact n).1 (q.0, omega (arith, q.1, other))
    ],
  )

  pub exact_more : P i → (n : ℕ) → Contains (xs ++ i ∷ []) n ↔ (P n × (n < i + 1))
  exact_more holds n = (
    λ c. elim (Contains-append_cases xs (i ∷ []) n c) [
      | inl before ↦ (let q = (exact n).0 before in (q.0, omega (arith, q.1)))
      | inr here ↦ (let same = only i n here in (subst P (sym same) holds, omega (arith, same)))
    ],
    λ q. elim (cases_eq n i) [
      | inl same ↦ Contains-append_right xs (i ∷ []) n (subst (Contains (i ∷ [])) (sym same) (Contains-here i []))
      | inr other ↦ Contains-append_left xs (i ∷ []) n ((exact n).1 (q.0, omega (arith, q.1, other)))
    ],
  )

pub ascending_more : (xs : List ℕ) (x : ℕ) → IsAscending xs → ((y : ℕ) → Contains xs y → y < x) → IsAscending (xs ++ x ∷ [])
ascending_more [] x up low = tt
ascending_more (y ∷ []) x up low = (low y (Contains-here y []), tt)
ascending_more (y ∷ z ∷ xs) x up low =
    (up.0, ascending_more (z ∷ xs) x up.1 (λ w c. low w (Contains-append_right (y ∷ []) (z ∷ xs) w c)))
