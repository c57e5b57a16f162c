-- Rows of flags for a block of nodes: what they say, node by node from the last to the first.
use Rattle.std.proofs.Common.{◌≡◌, ℕ, zero, suc, ◌+◌, ◌-◌, ◌<◌, ◌≤◌, Bool, true, false, ◌⊎◌, ◌↔◌, inl, inr, List, [], Some}
use Rattle.std.proofs.Common.{◌∷◌, length, get_or, set, take, refl, sym, ap, subst, ◌∙◌, arith, Contains}
use Rattle.std.proofs.lemmas.Bool.{cases_eq}
use Rattle.std.proofs.lemmas.List.{get_or-set_same, get_or-set_other, get_or-take, length-take-le}
use Rattle.daggy_base.specs.Graph.{Graph, Edge, HasNode, edge_at}
use Rattle.daggy_base.specs.Path.{AreJoined, IsPath, Reaches, end_of}
use Rattle.daggy_base.specs.Reduction.{ReachesIndirectly}
use Rattle.daggy_base.specs.WellFormed.{IsWellFormed}
use Rattle.daggy_base.proofs.Lists.{Unique, mem_at, place_of, mem_contains, contains_mem}
use Rattle.daggy_base.proofs.OutEdgesRead.{joins}
use Rattle.daggy_base.proofs.PathsWithEdge.{reaches_itself, reaches_before, reaches_on}
use Rattle.daggy_search.specs.declared.arcs.Arc.{Arc}
use Rattle.daggy_redundant.specs.Flags.{IsFlagged}
use Rattle.std.specs.Prelude.{slice_index, slice_index_or}
use Rattle.daggy_reduction.specs.Descendants.{IsDescendantOf}
use Rattle.daggy_search.specs.declared.arcs.Segment.{Segment}
use Rattle.daggy_reduction.specs.Blocks.{IsPlaced, HasBits, HasBit, IsIn, AreArcsOf, HasArcTo, ArePassedOn, MarksArcs, AreLeft}
use Rattle.daggy_reduction.specs.Blocks.{IsArcTo, is_in_row}
use Rattle.daggy_reduction.proofs.MarkedPlaces.{in_row_means}

-- the row of a block, from the place low up to the place high, has exactly the nodes to which a relation holds
abbrev pub IsRow : (nodes : List ℕ) (low high : ℕ) → (ℕ → Type 0) → List Bool → Type 0
IsRow nodes low high To row =
    (i : ℕ) → low + i < high → (slice_index_or row i false ≡ true) ↔ To (slice_index nodes (low + i))

-- from the place k on, the rows of a block have what their nodes reach
abbrev pub AreRows : {N E : Type 0}
    → Graph N E → (nodes : List ℕ) (low high k : ℕ) → List (List Bool) → Type 0
AreRows g nodes low high k rows =
    (m : ℕ) → k ≤ m → m < high
    → IsRow nodes low high (IsDescendantOf g (slice_index nodes m)) (slice_index_or rows m [])

-- the nodes of a list, each with its place, are distinct
pub unique_by : (f : ℕ → ℕ) (c : ℕ) (xs : List ℕ)
    → ((k : ℕ) → k < length xs → f (get_or xs k 0) ≡ c + k) → Unique xs
unique_by f c [] at = tt
unique_by f c (x ∷ xs) at = (
  λ m.
      (let k = place_of xs x 0 m in
      let first : f x ≡ c + 0 = at 0 (omega arith) in
      let later : f (get_or xs k.0 0) ≡ c + suc k.0 = at (suc k.0) (omega (arith, k.1)) in
      absurd (omega (arith, first, later, ap f k.2))),
  unique_by f (suc c) xs (λ k low. at (suc k) (omega (arith, low)) ∙ omega arith),
)

-- e leaves u and leads to a node of a block, and a longer way leads there too
pub record LeadsFrom {N E : Type 0} (g : Graph N E) (places : List ℕ) (low high u e : ℕ) : Type 0 where
  pub edge : Edge E
  pub at : edge_at g e ≡ Some edge
  pub parent : edge.parent ≡ u
  pub round : ReachesIndirectly g u edge.child
  pub from : low ≤ get_or places edge.child 0
  pub till : get_or places edge.child 0 < high

module _ {N E : Type 0} {g : Graph N E} {nodes places : List ℕ} (pl : IsPlaced g nodes places) where
  -- a node of the list stands at its place
  pub there : (n : ℕ)
      → Contains nodes n → (get_or places n 0 < length nodes) × (get_or nodes (get_or places n 0) 0 ≡ n)
  there n m =
      let k = place_of nodes n 0 (contains_mem nodes n m) in
      let is : get_or places n 0 ≡ k.0 = ap (λ z. get_or places z 0) (sym k.2) ∙ pl.at k.0 k.1 in
      (omega (arith, is, k.1), ap (λ z. get_or nodes z 0) is ∙ k.2)

  pub listed_at : (k : ℕ) → k < length nodes → Contains nodes (get_or nodes k 0)
  listed_at k low = mem_contains nodes (get_or nodes k 0) (mem_at nodes k 0 low)

  pub unique_front : (k : ℕ) → k ≤ length nodes → Unique (take k nodes)
  unique_front k low =
      unique_by (λ n. get_or places n 0) 0 (take k nodes) (λ j within.
      let inside : j < k = omega (arith, within, length-take-le k nodes low) in
      let in_all : j < length nodes = omega (arith, inside, low) in
      ap (λ z. get_or places z 0) (get_or-take k nodes j 0 inside) ∙ pl.at j in_all ∙ omega arith)

  -- along a path the places rise
  pub rises : (w : ℕ) (rest : List ℕ) → Contains nodes w → IsPath g (w ∷ rest)
      → (get_or places w 0 ≤ get_or places (end_of w rest) 0) × Contains nodes (end_of w rest)
  rises w [] m p = (omega arith, m)
  rises w (x ∷ rest) m p =
      let r = rises x rest (pl.closed w x m p.1) p.2 in
      (omega (arith, pl.sorted w x m p.1, r.0), r.1)

  module _ (low high : ℕ) (within : high ≤ length nodes) (m : ℕ) (here : m < length nodes) where
    abbrev u : ℕ
    u = get_or nodes m 0

    u_listed : Contains nodes u
    u_listed = listed_at m here

    u_exists : HasNode g u
    u_exists = pl.exist u u_listed

    module _ {I : Type 0} (number : I → ℕ) {end : ℕ} (w : IsWellFormed end g) (arcs : List (Arc I)) (s : Segment)
        (are : AreArcsOf number g places low u arcs s) where
      -- an arc leads to a child, which stands at its place
      arc_child : (a : Arc I) → IsIn arcs s a → (v : ℕ) × AreJoined g u v × Contains nodes v × (get_or places v 0 ≡ a.place)
          × (get_or nodes a.place 0 ≡ v) × (suc m ≤ a.place)
      arc_child a inside =
          let l = are.real a inside in
          let v = l.edge.child in
          let joined = joins end g w (number a.edge) u l.edge l.at l.parent in
          let v_listed = pl.closed u v u_listed joined in
          let at = there v v_listed in (
            v,
            joined,
            v_listed,
            l.place,
            ap (λ z. get_or nodes z 0) (sym l.place) ∙ at.1,
            omega (arith, pl.sorted u v u_listed joined, pl.at m here, l.place),
          )

      -- the flags of the children themselves
      pub row_direct : (direct : List Bool) → HasBits low high (λ i. HasArcTo arcs s (λ p. p ≡ low + i)) direct
          → IsRow nodes low high (AreJoined g u) direct
      row_direct direct has i low_i =
          let t = get_or nodes (low + i) 0 in
          let J : ℕ → Type 0 = λ z. AreJoined g u z in (
            λ f.
                (let (a, inside, p_is) = (has i low_i).0 f in
                let c = arc_child a inside in
                subst J (sym c.4 ∙ ap (λ z. get_or nodes z 0) p_is) c.1),
            λ j.
                (let at : get_or places t 0 ≡ low + i = pl.at (low + i) (omega (arith, low_i, within)) in
                let x : Edge E = record { parent = u; child = t; weight = j.1 } in
                let l : IsArcTo g places u j.0 (low + i) = record { edge = x; at = j.2; parent = refl; place = at } in
                elim (are.all j.0 (low + i) l) [
                  | inl (a, inside, e_is, p_is) ↦ (has i low_i).1 (a, inside, p_is)
                  | inr (early, round) ↦ absurd (omega (arith, early))
                ]),
          )

      -- what a child reaches, a child reaches that has an arc: the one that was left out is reached by an earlier one
      kept_arc : (t bound v : ℕ) → AreJoined g u v → get_or places v 0 < bound → IsDescendantOf g v t
          → (a : Arc I) × IsIn arcs s a × IsDescendantOf g (get_or nodes a.place 0) t
      kept_arc t zero v j few d = absurd (omega (arith, few))
      kept_arc t (suc bound) v j few d =
          let x : Edge E = record { parent = u; child = v; weight = j.1 } in
          let l : IsArcTo g places u j.0 (get_or places v 0) = record { edge = x; at = j.2; parent = refl; place = refl } in
          let v_listed = pl.closed u v u_listed j in
          let at = there v v_listed in
          elim (are.all j.0 (get_or places v 0) l) [
            | inl (a, inside, e_is, p_is) ↦
                (let P : ℕ → Type 0 = λ z. IsDescendantOf g z t in
                (a, inside, subst P (sym (ap (λ z. get_or nodes z 0) p_is ∙ at.1)) d))
            | inr (early, r) ↦
                (let first = r.0 in
                let first_listed = pl.closed u first u_listed r.3.1 in
                let next_listed = pl.closed first r.1 first_listed r.3.2.1 in
                let up = rises r.1 r.2 next_listed r.3.2.2 in
                let to_v : Reaches g r.1 v = (r.2, r.3.2.2, r.4) in
                let on : Reaches g v t = reaches_before g v d.0 t (pl.exist v v_listed) d.1 d.2 in
                let before : get_or places first 0 < bound =
                omega (
                  arith,
                  pl.sorted first r.1 first_listed r.3.2.1,
                  up.0,
                  ap (λ z. get_or places z 0) r.4,
                  few,
                ) in
                kept_arc t bound first r.3.1 before (r.1, r.3.2.1, reaches_on g r.1 v t to_v on))
          ]

      -- the flags that the rows of the children give
      pub row_indirect : (rows : List (List Bool)) (indirect : List Bool) → AreRows g nodes low high (suc m) rows
          → HasBits low high (λ i. HasArcTo arcs s (λ p. (p < high) × HasBit rows p i)) indirect
          → IsRow nodes low high (ReachesIndirectly g u) indirect
      row_indirect rows indirect rows_are has i low_i =
          let t = get_or nodes (low + i) 0 in
          let P : ℕ → Type 0 = λ z. IsDescendantOf g z t in (
            λ f.
                (let (a, inside, (early, bit)) = (has i low_i).0 f in
                let c = arc_child a inside in
                let v = c.0 in
                let r : IsDescendantOf g v t = subst P c.4 ((rows_are a.place c.5 early i low_i).0 bit) in
                (v, r.0, r.2.0, (u_exists, c.1, (pl.exist v c.2, r.1, r.2.1)), r.2.2)),
            λ r.
                (let d : IsDescendantOf g r.0 t = (r.1, r.3.2.1, (r.2, r.3.2.2, r.4)) in
                let (a, inside, on) = kept_arc t (suc (get_or places r.0 0)) r.0 r.3.1 (omega arith) d in
                let c = arc_child a inside in
                let r₁ : IsDescendantOf g c.0 t = subst P c.4 on in
                let up = rises r₁.0 r₁.2.0 (pl.closed c.0 r₁.0 c.2 r₁.1) r₁.2.1 in
                let t_at : get_or places t 0 ≡ low + i = pl.at (low + i) (omega (arith, low_i, within)) in
                let ends : get_or places (end_of r₁.0 r₁.2.0) 0 ≡ low + i =
                ap (λ z. get_or places z 0) r₁.2.2 ∙ t_at in
                let early : a.place < high = omega (arith, pl.sorted c.0 r₁.0 c.2 r₁.1, up.0, ends, low_i, c.3) in
                (has i low_i).1 (a, inside, (early, (rows_are a.place c.5 early i low_i).1 on))),
          )

      -- where the row of one child has another child, it has what the other one reaches
      pub rows_pass : (rows : List (List Bool)) → AreRows g nodes low high (suc m) rows → ArePassedOn arcs s low high rows
      rows_pass rows rows_are a b a_in b_in a_early b_from b_early bit i low_i later =
          let c = arc_child a a_in in
          let k = arc_child b b_in in
          let t = get_or nodes (low + i) 0 in
          let n = get_or nodes b.place 0 in
          let place_is : low + (b.place - low) ≡ b.place = omega (arith, b_from) in
          let D : ℕ → Type 0 = λ z. IsDescendantOf g (get_or nodes a.place 0) z in
          let to_b : IsDescendantOf g (get_or nodes a.place 0) n =
          subst D (ap (λ z. get_or nodes z 0) place_is)
          ((rows_are a.place c.5 a_early (b.place - low) (omega (arith, place_is, b_early))).0 bit) in
          let on : IsDescendantOf g n t = (rows_are b.place k.5 b_early i low_i).0 later in
          let H : ℕ → Type 0 = λ z. HasNode g z in
          let from_b : Reaches g n t =
          reaches_before g n on.0 t (subst H (sym k.4) (pl.exist k.0 k.2)) on.1 on.2 in
          (rows_are a.place c.5 a_early i low_i).1 (to_b.0, to_b.1, reaches_on g to_b.0 n t to_b.2 from_b)

    -- the row of a node is the union of the two
    pub row_both : (direct indirect row : List Bool) → IsRow nodes low high (AreJoined g u) direct
        → IsRow nodes low high (ReachesIndirectly g u) indirect
        → ((i : ℕ) → (get_or row i false ≡ true) ↔ ((get_or direct i false ≡ true) ⊎ (get_or indirect i false ≡ true)))
        → IsRow nodes low high (IsDescendantOf g u) row
    row_both direct indirect row d r both i low_i =
        let t = get_or nodes (low + i) 0 in
        let t_exists : HasNode g t = pl.exist t (listed_at (low + i) (omega (arith, low_i, within))) in
        let J : ℕ → Type 0 = λ z. AreJoined g u z in (
          λ f. elim ((both i).0 f) [
            | inl a ↦ (t, (d i low_i).0 a, reaches_itself g t t_exists)
            | inr b ↦ (let q = (r i low_i).0 b in (q.0, q.3.1, (q.1 ∷ q.2, q.3.2, q.4)))
          ],
          λ (w, j, (rest, p, e)). go w j rest p e,
        )
      where
        go : (w : ℕ) → AreJoined g u w → (rest : List ℕ) → IsPath g (w ∷ rest)
            → end_of w rest ≡ get_or nodes (low + i) 0 → get_or row i false ≡ true
        go w j [] p e =
            let J : ℕ → Type 0 = λ z. AreJoined g u z in
            (both i).1 (inl ((d i low_i).1 (subst J e j)))
        go w j (x ∷ rest) p e = (both i).1 (inr ((r i low_i).1 (w, x, rest, (u_exists, j, p), e)))

    -- one row more is right
    pub rows_on : (rows : List (List Bool)) (row : List Bool) → m < length rows
        → AreRows g nodes low high (suc m) rows → IsRow nodes low high (IsDescendantOf g u) row
        → AreRows g nodes low high m (set rows m row)
    rows_on rows row room are is n from till =
        let Q : List Bool → Type 0 = λ z. IsRow nodes low high (IsDescendantOf g (get_or nodes n 0)) z in
        elim (cases_eq n m) [
          | inl same ↦
              (let P : ℕ → Type 0 = λ z.
              IsRow nodes low high (IsDescendantOf g (get_or nodes z 0)) (get_or (set rows m row) z []) in
              let R : List Bool → Type 0 = λ z. IsRow nodes low high (IsDescendantOf g u) z in
              subst P (sym same) (subst R (sym (get_or-set_same rows m row [] room)) is))
          | inr other ↦
              subst Q (sym (get_or-set_other rows m n row [] other)) (are n (omega (arith, from, other)) till)
        ]

    module _ {I : Type 0} (number : I → ℕ) {end : ℕ} (w : IsWellFormed end g) (arcs : List (Arc I)) (s : Segment)
        (are : AreArcsOf number g places low u arcs s) (indirect : List Bool)
        (is : IsRow nodes low high (ReachesIndirectly g u) indirect) where
      -- a longer path leads to the child of a marked arc
      marked_round : (e p : ℕ) (l : IsArcTo g places u e p) → is_in_row low high indirect p ≡ true
          → (low ≤ p) × (p < high) × ReachesIndirectly g u l.edge.child
      marked_round e p l mark =
          let h = (in_row_means low high indirect p).0 mark in
          let v = l.edge.child in
          let at = there v (pl.closed u v u_listed (joins end g w e u l.edge l.at l.parent)) in
          let place_is : low + (p - low) ≡ p = omega (arith, h.0) in
          let R : ℕ → Type 0 = λ z. ReachesIndirectly g u z in
          let node_is : get_or nodes (low + (p - low)) 0 ≡ v =
          ap (λ z. get_or nodes z 0) (place_is ∙ sym l.place) ∙ at.1 in
          (h.0, h.1, subst R node_is ((is (p - low) (omega (arith, place_is, h.1))).0 h.2))

      -- the edges that leave the node get the flags that they should
      pub flags_here : (old new : List ℕ) → MarksArcs end number arcs s (is_in_row low high indirect) old new → (e : ℕ)
          → IsFlagged end new e ↔ (IsFlagged end old e ⊎ LeadsFrom g places low high u e)
      flags_here old new marked e =
          let R : ℕ → Type 0 = λ z. ReachesIndirectly g u z in (
            λ f. elim ((marked e).0 f) [
              | inl a ↦ inl a
              | inr (a, inside, e_is, m) ↦
                  (let L : ℕ → Type 0 = λ z. IsArcTo g places u z a.place in
                  let l : IsArcTo g places u e a.place = subst L e_is (are.real a inside) in
                  let r = marked_round e a.place l m in
                  inr (record {
                    edge = l.edge;
                    at = l.at;
                    parent = l.parent;
                    round = r.2;
                    from = omega (arith, r.0, l.place);
                    till = omega (arith, r.1, l.place);
                  }))
            ],
            λ t. (marked e).1 (elim t [
              | inl a ↦ inl a
              | inr l ↦
                  (let v = l.edge.child in
                  let p = get_or places v 0 in
                  let arc : IsArcTo g places u e p = record { edge = l.edge; at = l.at; parent = l.parent; place = refl } in
                  let joined = joins end g w e u l.edge l.at l.parent in
                  let at = there v (pl.closed u v u_listed joined) in
                  let place_is : low + (p - low) ≡ p = omega (arith, l.from) in
                  let node_is : get_or nodes (low + (p - low)) 0 ≡ v = ap (λ z. get_or nodes z 0) place_is ∙ at.1 in
                  let flag = (is (p - low) (omega (arith, place_is, l.till))).1 (subst R (sym node_is) l.round) in
                  let mark = (in_row_means low high indirect p).1 (l.from, l.till, flag) in
                  elim (are.all e p arc) [
                    | inl (a, inside, e_is, p_is) ↦
                        inr (a, inside, e_is, ap (is_in_row low high indirect) p_is ∙ mark)
                    | inr (early, round) ↦ absurd (omega (arith, early, l.from))
                  ])
            ]),
          )

      -- what is left once the marked arcs are taken out
      pub arcs_left : low < high → (stop : ℕ) (arcs' : List (Arc I)) → AreLeft (is_in_row low high indirect) s stop arcs arcs'
          → AreArcsOf number g places high u arcs' (record { begin = s.begin; end = stop })
      arcs_left some stop arcs' left =
          record {
            real = λ a inside. are.real a ((left.exact a).0 inside).0;
            all = λ e p l.
                elim (are.all e p l) [
                  | inl (a, inside, e_is, p_is) ↦ choose e p l a inside e_is p_is (is_in_row low high indirect a.place) refl
                  | inr (early, round) ↦ inr (omega (arith, early, some), round)
                ];
          }
        where
          choose : (e p : ℕ) (l : IsArcTo g places u e p) (a : Arc I) → IsIn arcs s a → number a.edge ≡ e → a.place ≡ p
              → (b : Bool) → is_in_row low high indirect a.place ≡ b
              → ((c : Arc I) × IsIn arcs' (record { begin = s.begin; end = stop }) c × (number c.edge ≡ e) × (c.place ≡ p))
              ⊎ ((p < high) × ReachesIndirectly g u l.edge.child)
          choose e p l a inside e_is p_is false m = inl (a, (left.exact a).1 (inside, m), e_is, p_is)
          choose e p l a inside e_is p_is true m =
              let r = marked_round e p l (ap (is_in_row low high indirect) (sym p_is) ∙ m) in inr (r.1, r.2)
