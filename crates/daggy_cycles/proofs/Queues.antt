-- A breadth-first search for a way back to a node.
use Rattle.std.proofs.Common.{◌≡◌, ◌≢◌, ℕ, zero, suc, ◌+◌, ◌<◌, ◌≤◌, ◌⊎◌, inl, inr, List, [], ◌∷◌, ◌++◌, length}
use Rattle.std.proofs.Common.{get_or, set, map, replicate, refl, sym, ap, subst, ◌∙◌, arith, length-set}
use Rattle.std.specs.List.{Contains}
use Rattle.std.specs.Prelude.{slice_index}
use Rattle.std.proofs.lemmas.Bool.{cases_lt, cases_eq}
use Rattle.std.proofs.lemmas.List.{length-append, length-map, length-replicate, get_or_append_left}
use Rattle.std.proofs.lemmas.List.{get_or-replicate, get_or-set_same, get_or-set_other}
use Rattle.std.proofs.Math.Seq.{get_or-append_seam}
use Rattle.daggy_base.specs.Graph.{Graph, HasNode, node_bound}
use Rattle.daggy_base.specs.Path.{AreJoined, IsPath, end_of}
use Rattle.daggy_base.specs.WellFormed.{IsWellFormed, AreDistinct}
use Rattle.daggy_base.proofs.Lists.{Mem, Unique, mem_left, mem_right, mem_cases, mem_at, place_of, contains_mem}
use Rattle.daggy_base.proofs.Lists.{mem_contains, unique_from_distinct, distinct_from_unique, unique_append, fewer_than}
use Rattle.daggy_base.proofs.OutEdgesRead.{below_bound}
use Rattle.daggy_components.specs.Cycles.{IsCycle}
use Rattle.daggy_cycles.specs.Queue.{IsQueue, IsMetFrom, IsNear, IsTrail, IsWayTo, place_before}
use Rattle.daggy_cycles.specs.Shortest.{IsShortestCycle, IsOnNoCycle}

-- different places of a list without repetitions have different elements
apart_at : (xs : List ℕ) → Unique xs → (i j : ℕ) → i < j → j < length xs → get_or xs i 0 ≢ get_or xs j 0
apart_at [] once i j lt low same = omega (arith, low)
apart_at (x ∷ xs) once zero zero lt low same = omega (arith, lt)
apart_at (x ∷ xs) once zero (suc j) lt low same =
    let P : ℕ → Type 0 = λ z. Mem z xs in once.0 (subst P (sym same) (mem_at xs j 0 (omega (arith, low))))
apart_at (x ∷ xs) once (suc i) zero lt low same = omega (arith, lt)
apart_at (x ∷ xs) once (suc i) (suc j) lt low same =
    apart_at xs once.1 i j (omega (arith, lt)) (omega (arith, low)) same

end_of_map : (f : ℕ → ℕ) (u : ℕ) (rest : List ℕ) → end_of (f u) (map f rest) ≡ f (end_of u rest)
end_of_map f u [] = refl
end_of_map f u (v ∷ rest) = end_of_map f v rest

-- the queue at first
pub queue_begins : {N E : Type 0} {end : ℕ} {g : Graph N E} {start : ℕ} {places nodes : List ℕ} → IsWellFormed end g
    → node_bound g ≤ end → HasNode g start → places ≡ set (replicate (node_bound g) end) start 0 → nodes ≡ start ∷ []
    → IsQueue end g start places nodes (0 ∷ []) 0
queue_begins {N} {E} {end} {g} {start} {places} {nodes} w low exists places_are nodes_are =
    let low_start : start < node_bound g = below_bound g.nodes start exists in
    let sized : length places ≡ node_bound g =
    ap (λ (z : List ℕ). length z) places_are
    ∙ (length-set (replicate (node_bound g) end) start 0 ∙ length-replicate (node_bound g) end) in
    let one : length nodes ≡ 1 = ap (λ (z : List ℕ). length z) nodes_are in
    let is : (v : ℕ) → Contains nodes v → v ≡ start = λ v c.
    (let P : List ℕ → Type 0 = λ z. Contains z v in
    elim (contains_mem (start ∷ []) v (subst P nodes_are c)) [ inl same ↦ same | inr none ↦ absurd none ]) in
    let here : get_or places start end ≡ 0 =
    ap (λ (z : List ℕ). get_or z start end) places_are
    ∙ get_or-set_same (replicate (node_bound g) end) start 0 end
    (omega (arith, low_start, length-replicate (node_bound g) end)) in
    record {
      sized = sized;
      low = low;
      some = omega (arith, one);
      begins = ap (λ (z : List ℕ). get_or z 0 0) nodes_are;
      as_many = sym one;
      once =
          let P : List ℕ → Type 0 = λ z. AreDistinct z in
          subst P (sym nodes_are) (distinct_from_unique (start ∷ []) (λ none. none, tt));
      real = λ v c. (let P : ℕ → Type 0 = λ z. HasNode g z in subst P (sym (is v c)) exists);
      met = λ v c h.
          omega (arith, ap (λ (z : ℕ). get_or places z end) (is v c), here, h, low_start, low);
      unmet = λ v low_v. elim (cases_eq v start) [
        | inl same ↦ (
            let P : ℕ → Type 0 = λ z. Contains nodes z in
            let Q : List ℕ → Type 0 = λ z. Contains z start in
            inr (subst P (sym same) (subst Q (sym nodes_are) (mem_contains (start ∷ []) start (inl refl))))
            )
        | inr differs ↦ inl (
            ap (λ (z : List ℕ). get_or z v end) places_are
            ∙ (get_or-set_other (replicate (node_bound g) end) start v 0 end differs
            ∙ get_or-replicate (node_bound g) v end end low_v))
      ];
      zero = refl;
      from = λ i some low_i. absurd (omega (arith, some, low_i, one));
      rises = λ i j le low_j. (
          let at_i : i ≡ 0 = omega (arith, le, low_j, one) in
          let at_j : j ≡ 0 = omega (arith, low_j, one) in
          omega (arith, ap (λ (z : ℕ). slice_index (0 ∷ []) z) at_i, ap (λ (z : ℕ). slice_index (0 ∷ []) z) at_j));
      near = λ i low_i here.
          (let at_i : i ≡ 0 = omega (arith, low_i, one) in
          omega (arith, ap (λ (z : ℕ). slice_index (0 ∷ []) z) at_i));
      children = λ i v lt. absurd (omega (arith, lt));
    }

module _ {N E : Type 0} {end : ℕ} {g : Graph N E} (w : IsWellFormed end g) {start : ℕ} {places nodes depths : List ℕ}
    {head : ℕ} (q : IsQueue end g start places nodes depths head) where
  -- the queue has at most as many nodes as the graph has slots
  pub queue_low : length nodes ≤ node_bound g
  queue_low =
      fewer_than nodes (node_bound g) (unique_from_distinct nodes q.once)
      (λ v m. below_bound g.nodes v (q.real v (mem_contains nodes v m)))

  in_nodes : (i : ℕ) → i < length nodes → Contains nodes (slice_index nodes i)
  in_nodes i low = mem_contains nodes (slice_index nodes i) (mem_at nodes i 0 low)

  module _ (here : head < length nodes) where
    abbrev deeper : ℕ
    deeper = slice_index depths head + 1

    -- a child that is in the queue is near
    pub near_again : (v : ℕ) → HasNode g v → get_or places v end ≢ end → IsNear nodes depths v deeper
    near_again v exists has =
        elim (q.unmet v (below_bound g.nodes v exists)) [
          | inl none ↦ absurd (has none)
          | inr c ↦ (
              let p = place_of nodes v 0 (contains_mem nodes v c) in
              record { place = p.0; within = p.1; is = p.2; near = q.near p.0 p.1 here }
              )
        ]

    -- all children of the head were looked at, and it goes on
    pub goes_on : ((v : ℕ) → AreJoined g (slice_index nodes head) v → (v ≢ start) × IsNear nodes depths v deeper)
        → IsQueue end g start places nodes depths (head + 1)
    goes_on all =
        record {
          sized = q.sized;
          low = q.low;
          some = q.some;
          begins = q.begins;
          as_many = q.as_many;
          once = q.once;
          real = q.real;
          met = q.met;
          unmet = q.unmet;
          zero = q.zero;
          from = q.from;
          rises = q.rises;
          near = λ i low next. omega (arith, q.near i low here, q.rises head (head + 1) (omega arith) next);
          children = λ i v lt low j. elim (cases_lt i head) [
            | inl before ↦ q.children i v before low j
            | inr after ↦ (
                let at : i ≡ head = omega (arith, lt, after) in
                let P : ℕ → Type 0 = λ z. AreJoined g (slice_index nodes z) v in
                let Q : ℕ → Type 0 = λ z. IsNear nodes depths v (slice_index depths z + 1) in
                let c = all v (subst P at j) in
                (c.0, subst Q (sym at) c.1)
                )
          ];
        }

    module _ {v : ℕ} (joined : AreJoined g (slice_index nodes head) v) (none : get_or places v end ≡ end) where
      abbrev nodes' : List ℕ
      nodes' = nodes ++ v ∷ []

      abbrev places' : List ℕ
      places' = set places v head

      abbrev depths' : List ℕ
      depths' = depths ++ deeper ∷ []

      exists : HasNode g v
      exists =
          w.children joined.0 (record { parent = slice_index nodes head; child = v; weight = joined.1 }) joined.2

      low_v : v < node_bound g
      low_v = below_bound g.nodes v exists

      head_low : head < end
      head_low = omega (arith, here, queue_low, q.low)

      long : length nodes' ≡ length nodes + 1
      long = length-append nodes (v ∷ [])

      old_node : (i : ℕ) → i < length nodes → slice_index nodes' i ≡ slice_index nodes i
      old_node i low = get_or_append_left nodes (v ∷ []) 0 i low

      old_depth : (i : ℕ) → i < length nodes → slice_index depths' i ≡ slice_index depths i
      old_depth i low = get_or_append_left depths (deeper ∷ []) 0 i (omega (arith, q.as_many, low))

      new_node : (i : ℕ) → length nodes ≤ i → i < length nodes' → slice_index nodes' i ≡ v
      new_node i high low =
          let at : i ≡ length nodes = omega (arith, high, low, long) in
          ap (λ (z : ℕ). slice_index nodes' z) at ∙ get_or-append_seam nodes v [] 0

      new_depth : (i : ℕ) → length nodes ≤ i → i < length nodes' → slice_index depths' i ≡ deeper
      new_depth i high low =
          let at : i ≡ length depths = omega (arith, high, low, long, q.as_many) in
          ap (λ (z : ℕ). slice_index depths' z) at ∙ get_or-append_seam depths deeper [] 0

      fresh : Contains nodes v → ⊥
      fresh c = q.met v c none

      old_place : (u : ℕ) → u ≢ v → get_or places' u end ≡ get_or places u end
      old_place u differs = get_or-set_other places v u head end differs

      new_place : get_or places' v end ≡ head
      new_place = get_or-set_same places v head end (omega (arith, low_v, q.sized))

      nodes_cases : (u : ℕ) → Contains nodes' u → Contains nodes u ⊎ (u ≡ v)
      nodes_cases u c =
          elim (mem_cases nodes (v ∷ []) u (contains_mem nodes' u c)) [
            | inl a ↦ inl (mem_contains nodes u a)
            | inr b ↦ elim b [ inl same ↦ inr same | inr nothing ↦ absurd nothing ]
          ]

      apart : (u : ℕ) → Contains nodes u → u ≢ v
      apart u c same = let P : ℕ → Type 0 = λ z. Contains nodes z in fresh (subst P same c)

      nodes_more : (u : ℕ) → Contains nodes u → Contains nodes' u
      nodes_more u c = mem_contains nodes' u (mem_left nodes (v ∷ []) u (contains_mem nodes u c))

      -- a node that was near is so still
      pub near_more : (u d : ℕ) → IsNear nodes depths u d → IsNear nodes' depths' u d
      near_more u d n =
          record {
            place = n.place;
            within = omega (arith, n.within, long);
            is = old_node n.place n.within ∙ n.is;
            near = omega (arith, old_depth n.place n.within, n.near);
          }

      -- and so is the child
      pub near_new : IsNear nodes' depths' v deeper
      near_new =
          let at : length nodes < length nodes' = omega (arith, long) in
          record {
            place = length nodes;
            within = at;
            is = new_node (length nodes) (omega arith) at;
            near = omega (arith, new_depth (length nodes) (omega arith) at);
          }

      met_old : (i : ℕ) → 0 < i → i < length nodes → IsMetFrom end g places' nodes' depths' i
      met_old i some low =
          let f = q.from i some low in
          let p = place_before end places nodes i in
          let node = old_node i low in
          let place : place_before end places' nodes' i ≡ p =
          ap (λ (z : ℕ). get_or places' z end) node
          ∙ old_place (slice_index nodes i) (apart (slice_index nodes i) (in_nodes i low)) in
          let low_p : p < length nodes = omega (arith, f.earlier, low) in
          let P : ℕ → Type 0 = λ z. AreJoined g z (slice_index nodes' i) in
          let Q : ℕ → Type 0 = λ z. AreJoined g (slice_index nodes p) z in
          let at_node : slice_index nodes' (place_before end places' nodes' i) ≡ slice_index nodes p =
          ap (λ (z : ℕ). slice_index nodes' z) place ∙ old_node p low_p in
          let at_depth : slice_index depths' (place_before end places' nodes' i) ≡ slice_index depths p =
          ap (λ (z : ℕ). slice_index depths' z) place ∙ old_depth p low_p in
          record {
            earlier = omega (arith, place, f.earlier);
            joined = subst P (sym at_node) (subst Q (sym node) f.joined);
            deeper = omega (arith, old_depth i low, f.deeper, at_depth);
          }

      met_new : (i : ℕ) → length nodes ≤ i → i < length nodes' → IsMetFrom end g places' nodes' depths' i
      met_new i high low =
          let node = new_node i high low in
          let place : place_before end places' nodes' i ≡ head = ap (λ (z : ℕ). get_or places' z end) node ∙ new_place in
          let P : ℕ → Type 0 = λ z. AreJoined g z (slice_index nodes' i) in
          let Q : ℕ → Type 0 = λ z. AreJoined g (slice_index nodes head) z in
          let at_node : slice_index nodes' (place_before end places' nodes' i) ≡ slice_index nodes head =
          ap (λ (z : ℕ). slice_index nodes' z) place ∙ old_node head here in
          let at_depth : slice_index depths' (place_before end places' nodes' i) ≡ slice_index depths head =
          ap (λ (z : ℕ). slice_index depths' z) place ∙ old_depth head here in
          record {
            earlier = omega (arith, place, here, high);
            joined = subst P (sym at_node) (subst Q (sym node) joined);
            deeper = omega (arith, new_depth i high low, at_depth);
          }

      depth_most : (i : ℕ) → i < length nodes' → slice_index depths' i ≤ deeper
      depth_most i low =
          elim (cases_lt i (length nodes)) [
            | inl old ↦ omega (arith, old_depth i old, q.near i old here)
            | inr new ↦ omega (arith, new_depth i new low)
          ]

      -- the child is put into the queue
      pub put : IsQueue end g start places' nodes' depths' head
      put =
          record {
            sized = length-set places v head ∙ q.sized;
            low = q.low;
            some = omega (arith, q.some, long);
            begins = old_node 0 q.some ∙ q.begins;
            as_many = omega (arith, length-append depths (deeper ∷ []), q.as_many, long);
            once = distinct_from_unique nodes' (unique_append nodes (v ∷ []) (unique_from_distinct nodes q.once)
                (λ none. none, tt) (λ u a b. elim b [
                  | inl same ↦ apart u (mem_contains nodes u a) same
                  | inr none ↦ none
                ]));
            real = λ u c. elim (nodes_cases u c) [
              | inl old ↦ q.real u old
              | inr same ↦ (let P : ℕ → Type 0 = λ z. HasNode g z in subst P (sym same) exists)
            ];
            met = λ u c h. elim (nodes_cases u c) [
              | inl old ↦ q.met u old (sym (old_place u (apart u old)) ∙ h)
              | inr same ↦
                  omega (arith, ap (λ (z : ℕ). get_or places' z end) same, new_place, h, head_low)
            ];
            unmet = λ u low_u. elim (cases_eq u v) [
              | inl same ↦ (
                  let P : ℕ → Type 0 = λ z. Contains nodes' z in
                  inr (subst P (sym same) (mem_contains nodes' v (mem_right nodes (v ∷ []) v (inl refl))))
                  )
              | inr differs ↦ elim (q.unmet u low_u) [
                | inl vacant ↦ inl (old_place u differs ∙ vacant)
                | inr c ↦ inr (nodes_more u c)
              ]
            ];
            zero = old_depth 0 q.some ∙ q.zero;
            from = λ i some low. elim (cases_lt i (length nodes)) [
              | inl old ↦ met_old i some old
              | inr new ↦ met_new i new low
            ];
            rises = λ i j le low. elim (cases_lt j (length nodes)) [
              | inl old ↦ omega (arith, old_depth i (omega (arith, le, old)), old_depth j old, q.rises i j le old)
              | inr new ↦ omega (arith, new_depth j new low, depth_most i (omega (arith, le, low)))
            ];
            near = λ i low next. omega (arith, depth_most i low, old_depth head here);
            children = λ i u lt low j. (
                let low_i : i < length nodes = omega (arith, lt, here) in
                let P : ℕ → Type 0 = λ z. AreJoined g z u in
                let Q : ℕ → Type 0 = λ z. IsNear nodes' depths' u (z + 1) in
                let c = q.children i u lt low_i (subst P (old_node i low_i) j) in
                (c.0, subst Q (sym (old_depth i low_i)) (near_more u _ c.1)));
          }

      pub old_head : slice_index nodes' head ≡ slice_index nodes head
      old_head = old_node head here

      pub old_head_depth : slice_index depths' head ≡ slice_index depths head
      old_head_depth = old_depth head here

  -- no path back is shorter than what the search finds

  before_head : (i a : ℕ) → i < length nodes → head < length nodes → slice_index depths i ≤ a
      → a < slice_index depths head → i < head
  before_head i a low here near lt =
      elim (cases_lt i head) [
        | inl before ↦ before
        | inr late ↦ absurd (omega (arith, q.rises head i late low, near, lt))
      ]

  none_shorter : (i a v : ℕ) (rest : List ℕ) → i < length nodes → head < length nodes → slice_index depths i ≤ a
      → IsPath g (slice_index nodes i ∷ v ∷ rest) → a + 1 + length rest ≤ slice_index depths head → end_of v rest ≢ start
  none_shorter i a v [] low here near p few =
      (q.children i v (before_head i a low here near (omega (arith, few))) low p.1).0
  none_shorter i a v (x ∷ rest) low here near p few =
      let c = (q.children i v (before_head i a low here near (omega (arith, few))) low p.1).1 in
      let P : ℕ → Type 0 = λ z. IsPath g (z ∷ x ∷ rest) in
      none_shorter c.place (a + 1) x rest c.within here (omega (arith, c.near, near)) (subst P (sym c.is) p.2)
      (omega (arith, few))

  pub shortest : head < length nodes → (v : ℕ) (rest : List ℕ) → IsPath g (start ∷ v ∷ rest) → end_of v rest ≡ start
      → slice_index depths head + 1 ≤ length (v ∷ rest)
  shortest here v rest p round =
      let P : ℕ → Type 0 = λ z. IsPath g (z ∷ v ∷ rest) in
      elim (cases_lt (length rest) (slice_index depths head)) [
        | inl few ↦ absurd (none_shorter 0 0 v rest q.some here (omega (arith, q.zero)) (subst P (sym q.begins) p)
            (omega (arith, few)) round)
        | inr many ↦ omega (arith, many)
      ]

  -- if all of the queue was read, there is none at all
  none_back : length nodes ≤ head → (i v : ℕ) (rest : List ℕ) → i < length nodes
      → IsPath g (slice_index nodes i ∷ v ∷ rest) → end_of v rest ≢ start
  none_back all i v [] low p = (q.children i v (omega (arith, all, low)) low p.1).0
  none_back all i v (x ∷ rest) low p =
      let c = (q.children i v (omega (arith, all, low)) low p.1).1 in
      let P : ℕ → Type 0 = λ z. IsPath g (z ∷ x ∷ rest) in
      none_back all c.place x rest c.within (subst P (sym c.is) p.2)

  pub on_none : length nodes ≤ head → IsOnNoCycle g start
  on_none all v rest p =
      let P : ℕ → Type 0 = λ z. IsPath g (z ∷ v ∷ rest) in
      none_back all 0 v rest q.some (subst P (sym q.begins) p)

  -- the way to a node of the queue

  module _ {at : ℕ} (low_at : at < length nodes) where
    abbrev node : ℕ → ℕ
    node i = slice_index nodes i

    abbrev before : ℕ → ℕ
    before i = place_before end places nodes i

    trail_up : (i : ℕ) (rest : List ℕ) → IsTrail before (i ∷ rest) → end_of i rest ≡ at → i ≤ at
    trail_up i [] t last = omega (arith, last)
    trail_up i (j ∷ rest) t last =
        let up = trail_up j rest t.2 last in
        let f = q.from j t.0 (omega (arith, up, low_at)) in
        omega (arith, f.earlier, t.1, up)

    met_by : (i j : ℕ) (rest : List ℕ) → IsTrail before (i ∷ j ∷ rest) → end_of j rest ≡ at
        → (i < j) × AreJoined g (node i) (node j) × (slice_index depths j ≡ slice_index depths i + 1)
    met_by i j rest t last =
        let f = q.from j t.0 (omega (arith, trail_up j rest t.2 last, low_at)) in
        let P : ℕ → Type 0 = λ z. AreJoined g (node z) (node j) in
        let Q : ℕ → Type 0 = λ z. slice_index depths j ≡ slice_index depths z + 1 in (
          omega (arith, f.earlier, t.1),
          subst P t.1 f.joined,
          subst Q t.1 f.deeper,
        )

    trail_path : (i : ℕ) (rest : List ℕ) → IsTrail before (i ∷ rest) → end_of i rest ≡ at
        → IsPath g (node i ∷ map node rest)
    trail_path i [] t last = q.real (node i) (in_nodes i (omega (arith, last, low_at)))
    trail_path i (j ∷ rest) t last =
        let low_i : i < length nodes = omega (arith, trail_up i (j ∷ rest) t last, low_at) in
        (q.real (node i) (in_nodes i low_i), (met_by i j rest t last).1, trail_path j rest t.2 last)

    trail_depth : (i : ℕ) (rest : List ℕ) → IsTrail before (i ∷ rest) → end_of i rest ≡ at
        → slice_index depths at ≡ slice_index depths i + length rest
    trail_depth i [] t last = omega (arith, ap (λ (z : ℕ). slice_index depths z) last)
    trail_depth i (j ∷ rest) t last =
        omega (arith, trail_depth j rest t.2 last, (met_by i j rest t last).2)

    -- a node before the trail is not on it
    off_trail : (k i : ℕ) (rest : List ℕ) → k < i → IsTrail before (i ∷ rest) → end_of i rest ≡ at
        → Mem (node k) (node i ∷ map node rest) → ⊥
    off_trail k i [] lt t last m =
        let low_i : i < length nodes = omega (arith, last, low_at) in
        elim m [
          | inl same ↦ apart_at nodes (unique_from_distinct nodes q.once) k i lt low_i same
          | inr none ↦ none
        ]
    off_trail k i (j ∷ rest) lt t last m =
        let low_i : i < length nodes = omega (arith, trail_up i (j ∷ rest) t last, low_at) in
        elim m [
          | inl same ↦ apart_at nodes (unique_from_distinct nodes q.once) k i lt low_i same
          | inr more ↦ off_trail k j rest (omega (arith, lt, (met_by i j rest t last).0)) t.2 last more
        ]

    trail_once : (i : ℕ) (rest : List ℕ) → IsTrail before (i ∷ rest) → end_of i rest ≡ at
        → Unique (node i ∷ map node rest)
    trail_once i [] t last = (λ none. none, tt)
    trail_once i (j ∷ rest) t last =
        (off_trail i j rest (met_by i j rest t last).0 t.2 last, trail_once j rest t.2 last)

  -- the cycle that is found
  pub is_shortest : {way : List ℕ} → head < length nodes → AreJoined g (slice_index nodes head) start
      → IsWayTo end places nodes head way → IsShortestCycle g start way
  is_shortest {way} here back t =
      let f : ℕ → ℕ = slice_index nodes in
      let rest = map (slice_index nodes) t.rest in
      let is : way ≡ start ∷ rest = t.are ∙ ap (λ (z : ℕ). z ∷ rest) q.begins in
      let P : ℕ → Type 0 = λ z. IsPath g (z ∷ rest) in
      let Q : ℕ → Type 0 = λ z. Unique (z ∷ rest) in
      let R : ℕ → Type 0 = λ z. AreJoined g (end_of z rest) start in
      let S : ℕ → Type 0 = λ z. AreJoined g z start in
      let T : List ℕ → Type 0 = λ z. IsCycle g z in
      let ends : end_of (slice_index nodes 0) rest ≡ slice_index nodes head =
      end_of_map (slice_index nodes) 0 t.rest ∙ ap (λ (z : ℕ). slice_index nodes z) t.last in
      let path : IsPath g (start ∷ rest) = subst P q.begins (trail_path here 0 t.rest t.trail t.last) in
      let once : Unique (start ∷ rest) = subst Q q.begins (trail_once here 0 t.rest t.trail t.last) in
      let closes : AreJoined g (end_of start rest) start = subst R q.begins (subst S (sym ends) back) in
      let cycle : IsCycle g (start ∷ rest) = (path, distinct_from_unique (start ∷ rest) once, closes) in
      record {
        cycle_is = subst T (sym is) cycle;
        rest = rest;
        begins = is;
        shortest = λ v others p round.
            omega (
              arith,
              shortest here v others p round,
              trail_depth here 0 t.rest t.trail t.last,
              q.zero,
              ap (λ (z : List ℕ). length z) is,
              length-map t.rest (slice_index nodes),
            );
      }
