-- The steps of the search for components, by the variables of its code.
use Rattle.std.proofs.Common.{◌≡◌, ◌≢◌, ℕ, suc, ◌+◌, ◌-◌, ◌<◌, ◌≤◌, ◌⊎◌, inl, inr, List, [], ◌∷◌, ◌++◌}
use Rattle.std.proofs.Common.{length, drop, take, get_or, set, refl, sym, ap, subst, ◌∙◌, arith, length-set, append_assoc}
use Rattle.std.proofs.lemmas.List.{get_or-set_same, length-append, drop-set-lt}
use Rattle.std.proofs.Math.Seq.{take-append_seam}
use Rattle.std.proofs.lemmas.Bool.{cases_lt}
use Rattle.daggy_base.specs.Graph.{Graph, HasNode, HasEdge, out_list, edge_count}
use Rattle.daggy_base.specs.Cursor.{first_of}
use Rattle.daggy_base.specs.WellFormed.{IsWellFormed}
use Rattle.daggy_base.specs.Look.{IsLook}
use Rattle.daggy_base.proofs.Lists.{Mem, Unique, mem_left}
use Rattle.daggy_base.proofs.OutEdgesRead.{has_edge, child_exists, child_joined, next_cursor, read_part, read_whole}
use Rattle.daggy_search.proofs.FinishingOrder.{Stop, nodes_of}
use Rattle.daggy_search.proofs.SortNodesState.{AreKept}
use Rattle.std.specs.List.{concat}
use Rattle.daggy_components.specs.Stored.{placed, ends_of}
use Rattle.daggy_components.proofs.Parts.{part}
use Rattle.daggy_components.proofs.Groups.{Group, In, InSome, Nothing, merged, merges, goes_in}
use Rattle.daggy_components.proofs.Groups.{passes_over, leaves, closes}
use Rattle.daggy_components.proofs.Placing.{way_of, lefts_of, height, IsFirst, AreBases, numbered_low}
use Rattle.daggy_components.proofs.Placing.{height_merged}
use Rattle.daggy_components.proofs.Tallies.{Tally, met_of, met_group, met_closed, met_cases, few, low}
use Rattle.daggy_components.proofs.Tallies.{tally_enters, tally_passes, tally_leaves, tally_merges, tally_closes}
use Rattle.daggy_components.proofs.Tallies.{room, looked_within, is_new, closed_high, groups_few, height_is}
use Rattle.daggy_components.proofs.Groups.{members_more, merged_left, merged_right}
use Rattle.std.proofs.lemmas.List.{get_or-drop, get_or_append_left, get_or_read_under}
use Rattle.daggy_base.proofs.Lists.{mem_at}
use Rattle.daggy_components.proofs.Progress.{Start, Now, Spot, Between, Resting, Walking, group_at, kept_stack, kept_cursors}

-- where a walk goes on, once a node was finished
module _ {N E : Type 0} {end : ℕ} {start : Start N E} {i : ℕ} {now : Now N E} where
  pub goes_up : (stops : List Stop) (left : List ℕ) (lower : List Group) (closed : List (List ℕ)) (looked : ℕ)
      → Between end start i now (record { stops = stops; left = left } ∷ lower) closed looked
      → AreKept end start.graph now.lists.nodes now.cursors (stops ++ way_of lower)
      → {spot : Spot} → spot.len + 1 ≡ length (nodes_of (stops ++ way_of lower))
      → ((d : ℕ) → spot.node ≡ get_or now.lists.nodes spot.len d)
      → ((d : ℕ) → spot.edge ≡ get_or now.cursors spot.len d) → spot.groups ≡ suc (length lower)
      → spot.opened ≡ height (record { stops = stops; left = left } ∷ lower) → Walking end start i now spot
  goes_up [] left lower closed looked b kept {spot} len node edge groups opened = absurd (omega (arith, b.tally.stops.0))
  goes_up (t ∷ ts) left lower closed looked b kept {spot} len node edge groups opened =
      let at : spot.len ≡ length (nodes_of (ts ++ way_of lower)) = omega (arith, len) in
      let is : spot.node ≡ t.node =
      node 0 ∙ (ap (λ (z : ℕ). get_or now.lists.nodes z 0) at ∙ kept.0 0) in
      let same_edge : spot.edge ≡ first_of end (drop t.passed (out_list start.graph t.node)) =
      edge 0 ∙ (ap (λ (z : ℕ). get_or now.cursors z 0) at ∙ kept.1 0) in
      let P : ℕ → Type 0 = λ z. Between end start i now (group_at z t.passed ts left ∷ lower) closed looked in
      let Q : ℕ → Type 0 = λ z. spot.opened ≡ height (group_at z t.passed ts left ∷ lower) in
      record {
        closed = closed;
        looked = looked;
        passed = t.passed;
        ss = ts;
        left = left;
        lower = lower;
        between = subst P (sym is) b;
        cursor = same_edge ∙ ap (λ (z : ℕ). first_of end (drop t.passed (out_list start.graph z))) (sym is);
        deep = at;
        kept = kept.2;
        groups_are = groups;
        opened_are = subst Q (sym is) opened;
      }

  pub ends_walk : (groups : List Group) (closed : List (List ℕ)) (looked : ℕ) → Between end start i now groups closed looked
      → length (nodes_of (way_of groups)) ≡ 0 → Resting end start i now
  ends_walk [] closed looked b none = record { closed = closed; looked = looked; between = b }
  ends_walk (G ∷ Gs) closed looked b none =
      absurd (omega (arith, b.tally.stops.0, none, nodes_length G.stops (way_of Gs)))
    where
      nodes_length : (ss ts : List Stop) → length (nodes_of ss) ≤ length (nodes_of (ss ++ ts))
      nodes_length [] ts = omega arith
      nodes_length (s ∷ ss) ts = let h = nodes_length ss ts in omega (arith, h)

module _ {N E : Type 0} {end : ℕ} {start : Start N E} {i : ℕ} {now : Now N E} {spot : Spot}
    (w : IsWellFormed end start.graph) (s : Walking end start i now spot) where
  abbrev last : Group
  last = group_at spot.node s.passed s.ss s.left

  pub node_here : HasNode start.graph spot.node
  node_here = s.between.tally.real spot.node (inl refl)

  pub node_low : spot.node < start.bound
  node_low = low s.between.tally spot.node node_here

  -- what the numbers are
  pub sizes_walked : (0 < spot.groups) × (spot.groups ≤ spot.opened) × (spot.opened ≤ start.bound)
      × (spot.len < spot.opened)
  sizes_walked =
      let few_now = few s.between.tally in
      let many = groups_few (last ∷ s.lower) s.between.tally.stops in
      let tall = height_is (last ∷ s.lower) in (
        omega (arith, s.groups_are),
        omega (arith, s.groups_are, s.opened_are, many),
        omega (arith, s.opened_are, few_now),
        omega (arith, s.opened_are, s.deep, tall),
      )

  -- one more component has a number
  pub number_left : length now.lists.ends + 1 ≤ start.bound
  number_left =
      omega (
        arith,
        few s.between.tally,
        s.between.tally.stops.0,
        ap (λ (z : List ℕ). length z) s.between.tally.ends_are,
        ends_length 0 s.closed,
      )
    where
      ends_length : (from : ℕ) (cs : List (List ℕ)) → length (ends_of from cs) ≡ length cs
      ends_length from [] = refl
      ends_length from (c ∷ cs) = ap (λ (z : ℕ). suc z) (ends_length (from + length c) cs)

  -- where the last group begins
  pub base_is : {base : ℕ} → ((d : ℕ) → base ≡ get_or now.lists.bases (spot.groups - 1) d) → base ≡ height s.lower
  base_is {base} is =
      let at : spot.groups - 1 ≡ length s.lower = omega (arith, s.groups_are) in
      is 0 ∙ (ap (λ (z : ℕ). get_or now.lists.bases z 0) at ∙ s.between.tally.bases_are.0 0)

  -- what is read
  pub base_read : {base x : ℕ} → base ≡ x → x ≡ get_or now.lists.bases (spot.groups - 1) x → base ≡ height s.lower
  base_read {base} {x} is read =
      let at : spot.groups - 1 ≡ length s.lower = omega (arith, s.groups_are) in
      is ∙ (read ∙ (ap (λ (z : ℕ). get_or now.lists.bases z x) at ∙ s.between.tally.bases_are.0 x))

  pub place_read : {at x j v : ℕ} → at ≡ x → x ≡ get_or now.lists.places j x → j ≡ v → v < start.bound
      → get_or now.lists.places v end ≡ at
  place_read {at} {x} {j} {v} is read same below =
      let here : j < length now.lists.places = omega (arith, same, below, s.between.tally.sized_places) in
      ap (λ (z : ℕ). get_or now.lists.places z end) (sym same)
      ∙ (sym (get_or_read_under now.lists.places j (length now.lists.places) x end read here refl) ∙ sym is)

  -- some node is in the last group
  pub opened_some : height s.lower < spot.opened
  opened_some = omega (arith, s.opened_are)

  -- the way does not reach what was left
  pub apart : spot.len + 1 ≤ now.lists.top
  apart =
      let tall = height_is (last ∷ s.lower) in
      omega (arith, s.deep, few s.between.tally, s.between.tally.at_top, tall)

  pub top_high : now.lists.top ≤ start.bound
  top_high = omega (arith, s.between.tally.at_top)

  pub few_walked : (start.looks ≤ now.looks) × (now.looks ≤ start.looks + edge_count start.graph)
  few_walked =
      let within = looked_within s.between.tally w in
      (omega (arith, s.between.counted), omega (arith, s.between.counted, within))

  -- at the end of a list
  module _ (h : spot.edge ≡ end) where
    whole : s.passed ≡ length (out_list start.graph spot.node)
    whole = read_whole end start.graph w spot.node s.passed spot.edge s.cursor s.between.tally.within.0 h

    -- the node is the first of its group
    module _ {base : ℕ} (base_at : base ≡ height s.lower) where
      alone : get_or now.lists.places spot.node end ≡ base → s.ss ≡ []
      alone at =
          is_alone s.ss s.between.tally.once (s.between.tally.numbered.2 spot.node (inl (inl refl)) (at ∙ base_at))
        where
          first_in : (v : ℕ) (ts : List Stop) → IsFirst v ts → Mem v (nodes_of (ts ++ way_of s.lower))
          first_in v [] f = absurd f
          first_in v (t ∷ []) f = inl f
          first_in v (t ∷ u ∷ ts) f = inr (first_in v (u ∷ ts) f)

          is_alone : (ts : List Stop)
              → Unique (spot.node ∷ (nodes_of (ts ++ way_of s.lower)
              ++ ((s.left ++ lefts_of s.lower) ++ concat s.closed)))
              → IsFirst spot.node (record { node = spot.node; passed = s.passed } ∷ ts) → ts ≡ []
          is_alone [] u f = refl
          is_alone (t ∷ ts) u f =
              absurd (u.0 (mem_left (nodes_of ((t ∷ ts) ++ way_of s.lower)) _ spot.node (first_in spot.node (t ∷ ts) f)))

      more : get_or now.lists.places spot.node end ≢ base → (t : Stop) × (ts : List Stop) × (s.ss ≡ t ∷ ts)
      more apart = is_more s.ss s.between.tally.numbered.1
        where
          is_more : (ts : List Stop)
              → ((v : ℕ) → IsFirst v (record { node = spot.node; passed = s.passed } ∷ ts)
              → get_or now.lists.places v end ≡ height s.lower)
              → (u : Stop) × (us : List Stop) × (ts ≡ u ∷ us)
          is_more [] f = absurd (apart (f spot.node refl ∙ sym base_at))
          is_more (t ∷ ts) f = (t, ts, refl)

      -- the group, once its first node was left
      module _ (at : get_or now.lists.places spot.node end ≡ base) where
        single : Between end start i now (group_at spot.node s.passed [] s.left ∷ s.lower) s.closed s.looked
        single =
            let P : List Stop → Type 0 = λ z.
            Between end start i now (group_at spot.node s.passed z s.left ∷ s.lower) s.closed s.looked in
            subst P (alone at) s.between

        pub lefts_long : spot.opened - base - 1 ≡ length s.left
        lefts_long =
            let P : List Stop → Type 0 = λ z. spot.opened ≡ height (group_at spot.node s.passed z s.left ∷ s.lower) in
            let tall = subst P (alone at) s.opened_are in
            omega (arith, tall, base_at)

        pub rest_within : now.lists.top + (spot.opened - base - 1) ≤ start.bound
        rest_within =
            omega (arith, lefts_long, s.between.tally.at_top, length-append s.left (lefts_of s.lower))

        pub part_is : {rest : ℕ} → rest ≡ now.lists.top + (spot.opened - base - 1)
            → part now.lists.top (rest - now.lists.top) now.lists.nodes ≡ s.left
        part_is {rest} is =
            let count : rest - now.lists.top ≡ length s.left = omega (arith, is, lefts_long) in
            ap (λ (z : ℕ). take z (drop now.lists.top now.lists.nodes)) count
            ∙ (ap (λ (z : List ℕ). take (length s.left) z) s.between.tally.behind
            ∙ take-append_seam s.left (lefts_of s.lower))

        -- each of its nodes is within the places
        pub part_low : (k : ℕ) → now.lists.top ≤ k → k < now.lists.top + (spot.opened - base - 1)
            → get_or now.lists.nodes k 0 < start.bound
        part_low k above below =
            let j = k - now.lists.top in
            let is : get_or now.lists.nodes k 0 ≡ get_or s.left j 0 =
            ap (λ (z : ℕ). get_or now.lists.nodes z 0) (let e : k ≡ now.lists.top + j = omega arith in e)
            ∙ (sym (get_or-drop now.lists.top now.lists.nodes j 0)
            ∙ (ap (λ (z : List ℕ). get_or z j 0) s.between.tally.behind
            ∙ get_or_append_left s.left (lefts_of s.lower) 0 j (omega (arith, lefts_long)))) in
            let here : Mem (get_or s.left j 0) s.left = mem_at s.left j 0 (omega (arith, lefts_long)) in
            let low_there =
            low s.between.tally (get_or s.left j 0) (s.between.tally.real (get_or s.left j 0)
            (met_group (last ∷ s.lower) s.closed (get_or s.left j 0) (inl (inr here)))) in
            omega (arith, is, low_there)

        pub closed_now : {places' members' ends' : List ℕ} {rest : ℕ}
            → rest ≡ now.lists.top + (spot.opened - base - 1)
            → places' ≡ placed (set now.lists.places spot.node (start.bound - 1 - length now.lists.ends))
            (part now.lists.top (rest - now.lists.top) now.lists.nodes) (start.bound - 1 - length now.lists.ends)
            → members' ≡ now.lists.members ++ spot.node ∷ part now.lists.top (rest - now.lists.top) now.lists.nodes
            → ends' ≡ now.lists.ends ++ length members' ∷ []
            → Between end start i record now {
              lists = record now.lists { places = places'; members = members'; ends = ends'; top = rest };
            } s.lower (s.closed ++ (spot.node ∷ s.left) ∷ []) s.looked
        closed_now {places'} {members'} {ends'} {rest} is places members ends =
            let b = single in
            let whole_now = whole in
            let few_edges : s.passed ≤ length (out_list start.graph spot.node) = b.tally.within.0 in
            let state =
            closes w s.closed spot.node s.passed s.left s.lower s.cursor few_edges h b.closed_are b.grouped in
            let t = tally_closes spot.node s.passed s.left s.lower whole_now b.tally in
            let count : length now.lists.ends ≡ length s.closed =
            ap (λ (z : List ℕ). length z) b.tally.ends_are ∙ ends_length 0 s.closed in
            let the_part = part_is is in
            let places_are : places'
            ≡ placed now.lists.places (spot.node ∷ s.left) (start.bound - 1 - length s.closed) =
            places
            ∙ (ap (λ (z : List ℕ). placed (set now.lists.places spot.node (start.bound - 1 - length now.lists.ends)) z
            (start.bound - 1 - length now.lists.ends)) the_part
            ∙ ap (λ (z : ℕ). placed (set now.lists.places spot.node (start.bound - 1 - z)) s.left (start.bound - 1 - z)) count)
            in
            let members_are : members' ≡ now.lists.members ++ spot.node ∷ s.left =
            members ∙ ap (λ (z : List ℕ). now.lists.members ++ spot.node ∷ z) the_part in
            let long : length members' ≡ length now.lists.members + length (spot.node ∷ s.left) =
            ap (λ (z : List ℕ). length z) members_are ∙ length-append now.lists.members (spot.node ∷ s.left) in
            let ends_are : ends' ≡ now.lists.ends ++ (length now.lists.members + length (spot.node ∷ s.left)) ∷ [] =
            ends ∙ ap (λ (z : ℕ). now.lists.ends ++ z ∷ []) long in
            let top_is : rest ≡ now.lists.top + length s.left = omega (arith, is, lefts_long) in
            let P : List ℕ → Type 0 = λ z.
            Tally end start.graph start.bound record now.lists {
              places = z;
              members = now.lists.members ++ spot.node ∷ s.left;
              ends = now.lists.ends ++ (length now.lists.members + length (spot.node ∷ s.left)) ∷ [];
              top = now.lists.top + length s.left;
            } s.lower (s.closed ++ (spot.node ∷ s.left) ∷ []) s.looked in
            let Q : List ℕ → Type 0 = λ z.
            Tally end start.graph start.bound record now.lists {
              places = places';
              members = z;
              ends = now.lists.ends ++ (length now.lists.members + length (spot.node ∷ s.left)) ∷ [];
              top = now.lists.top + length s.left;
            } s.lower (s.closed ++ (spot.node ∷ s.left) ∷ []) s.looked in
            let R : List ℕ → Type 0 = λ z.
            Tally end start.graph start.bound record now.lists {
              places = places';
              members = members';
              ends = z;
              top = now.lists.top + length s.left;
            } s.lower (s.closed ++ (spot.node ∷ s.left) ∷ []) s.looked in
            let T : ℕ → Type 0 = λ z.
            Tally end start.graph start.bound record now.lists {
              places = places';
              members = members';
              ends = ends';
              top = z;
            } s.lower (s.closed ++ (spot.node ∷ s.left) ∷ []) s.looked in
            record {
              same = b.same;
              sized_cursors = b.sized_cursors;
              visited = λ m below exists. moved m (b.visited m below exists);
              counted = b.counted;
              closed_are = state.0;
              grouped = state.1;
              tally =
                  subst T (sym top_is) (subst R (sym ends_are) (subst Q (sym members_are) (subst P (sym places_are) t)));
            }
          where
            ends_length : (from : ℕ) (cs : List (List ℕ)) → length (ends_of from cs) ≡ length cs
            ends_length from [] = refl
            ends_length from (c ∷ cs) = ap (λ (z : ℕ). suc z) (ends_length (from + length c) cs)

            moved : (m : ℕ) → Mem m (met_of (group_at spot.node s.passed [] s.left ∷ s.lower) s.closed)
                → Mem m (met_of s.lower (s.closed ++ (spot.node ∷ s.left) ∷ []))
            moved m here =
                elim (met_cases (group_at spot.node s.passed [] s.left ∷ s.lower) s.closed m here) [
                  | inl j ↦ elim j [
                    | inl a ↦ met_closed s.lower (s.closed ++ (spot.node ∷ s.left) ∷ []) m (members_more s.closed
                        (spot.node ∷ s.left) m (inr (elim a [
                          | inl b ↦ elim b [ inl eq ↦ inl eq | inr n ↦ absurd n ]
                          | inr b ↦ inr b
                        ])))
                    | inr b ↦ met_group s.lower (s.closed ++ (spot.node ∷ s.left) ∷ []) m b
                  ]
                  | inr b ↦ met_closed s.lower (s.closed ++ (spot.node ∷ s.left) ∷ []) m (members_more s.closed
                      (spot.node ∷ s.left) m (inl b))
                ]

        -- the way is that of the groups below
        pub closed_way : (spot.len ≡ length (nodes_of (way_of s.lower)))
            × AreKept end start.graph now.lists.nodes now.cursors (way_of s.lower)
        closed_way =
            let P : List Stop → Type 0 = λ z.
            (spot.len ≡ length (nodes_of (z ++ way_of s.lower)))
            × AreKept end start.graph now.lists.nodes now.cursors (z ++ way_of s.lower) in
            subst P (alone at) (s.deep, s.kept)

      -- the node is left, and the group goes on at the node before it
      module _ (not_at : get_or now.lists.places spot.node end ≢ base) (top' : ℕ) (one : top' + 1 ≡ now.lists.top) where
        pub left_now : Between end start i record now {
          lists = record now.lists { nodes = set now.lists.nodes top' spot.node; top = top' };
        } (record { stops = s.ss; left = spot.node ∷ s.left } ∷ s.lower) s.closed s.looked
        left_now =
            let b = s.between in
            let m = more not_at in
            let t = tally_leaves spot.node s.passed s.ss s.left s.lower m.0 m.1 m.2 whole b.tally one in
            let g = leaves w (λ v. Mem v (concat s.closed)) spot.node s.passed s.ss s.left s.lower s.cursor b.tally.within.0 h b.grouped in
            record {
              same = b.same;
              sized_cursors = b.sized_cursors;
              visited = λ k below exists. moved k (b.visited k below exists);
              counted = b.counted;
              closed_are = b.closed_are;
              grouped = g;
              tally = t;
            }
          where
            moved : (k : ℕ) → Mem k (met_of (last ∷ s.lower) s.closed)
                → Mem k (met_of (record { stops = s.ss; left = spot.node ∷ s.left } ∷ s.lower) s.closed)
            moved k here =
                let new : List Group = record { stops = s.ss; left = spot.node ∷ s.left } ∷ s.lower in
                elim (met_cases (last ∷ s.lower) s.closed k here) [
                  | inl j ↦ met_group new s.closed k (elim j [
                    | inl a ↦ inl (elim a [
                      | inl b ↦ elim b [ inl eq ↦ inr (inl eq) | inr c ↦ inl c ]
                      | inr b ↦ inr (inr b)
                    ])
                    | inr b ↦ inr b
                  ])
                  | inr b ↦ met_closed new s.closed k b
                ]

        pub left_kept : AreKept end start.graph (set now.lists.nodes top' spot.node) now.cursors (s.ss ++ way_of s.lower)
        left_kept =
            kept_stack end start.graph now.lists.nodes now.cursors top' spot.node (s.ss ++ way_of s.lower)
            (omega (arith, s.deep, apart, one)) s.kept

        pub left_tall : spot.opened ≡ height (record { stops = s.ss; left = spot.node ∷ s.left } ∷ s.lower)
        left_tall = omega (arith, s.opened_are)

        pub left_some : spot.len ≢ 0
        left_some =
            let m = more not_at in
            let P : List Stop → Type 0 = λ z. spot.len ≡ length (nodes_of (z ++ way_of s.lower)) in
            let long = subst P m.2 s.deep in
            λ eq. absurd (omega (arith, long, eq))

  -- at an edge
  module _ (here : spot.edge ≢ end) where
    pub edge_here : HasEdge now.graph spot.edge
    edge_here =
        let P : Graph N E → Type 0 = λ z. HasEdge z spot.edge in
        subst P (sym s.between.same) (has_edge end start.graph w spot.node s.passed spot.edge s.cursor here)

    module _ {v next : ℕ} (look : IsLook end now.graph spot.edge v next) where
      look₀ : IsLook end start.graph spot.edge v next
      look₀ = let P : Graph N E → Type 0 = λ z. IsLook end z spot.edge v next in subst P s.between.same look

      child_real : HasNode start.graph v
      child_real = child_exists end start.graph w spot.node s.passed spot.edge s.cursor here v next look₀

      pub child_low : v < start.bound
      child_low = low s.between.tally v child_real

      part_left : s.passed < length (out_list start.graph spot.node)
      part_left = (read_part end start.graph w spot.node s.passed spot.edge s.cursor here).0

      -- with one edge more
      abbrev Passed : List Stop → List ℕ → List Group → ℕ → Group
      Passed ss left lower k = group_at spot.node k ss left

      -- one more look is one of few
      pub looked_once : {looks' : ℕ} → looks' ≡ now.looks + 1 → looks' ≤ start.looks + edge_count start.graph
      looked_once one =
          let t = tally_passes spot.node s.passed s.ss s.left s.lower part_left s.between.tally in
          let within = looked_within t w in
          omega (arith, s.between.counted, one, within)

      module _ (unseen : get_or now.lists.places v end ≡ end) where
        new : Mem v (met_of (last ∷ s.lower) s.closed) → ⊥
        new = is_new s.between.tally v unseen

        pub room_here : spot.opened < start.bound
        room_here = omega (arith, s.opened_are, room s.between.tally v child_real new)

        below_top : spot.len < now.lists.top
        below_top = omega (arith, apart)

        pub steps_in : {g' : Graph N E} → g' ≡ now.graph → {looks' : ℕ} → looks' ≡ now.looks + 1 → {e' : ℕ}
            → e' ≡ first_of end (out_list g' v)
            → Walking end start i record {
              graph = g';
              lists = record now.lists {
                places = set now.lists.places v spot.opened;
                nodes = set now.lists.nodes spot.len spot.node;
                bases = set now.lists.bases spot.groups spot.opened;
              };
              cursors = set now.cursors spot.len next;
              looks = looks';
            } record { groups = spot.groups + 1; opened = spot.opened + 1; len = spot.len + 1; node = v; edge = e' }
        steps_in {g'} unchanged {looks'} one {e'} first =
            let b = s.between in
            let same : g' ≡ start.graph = unchanged ∙ b.same in
            let passed_on = tally_passes spot.node s.passed s.ss s.left s.lower part_left b.tally in
            let groups' : List Group = group_at spot.node (suc s.passed) s.ss s.left ∷ s.lower in
            let tall : height groups' ≡ spot.opened = omega (arith, s.opened_are) in
            let many : length groups' ≡ spot.groups = omega (arith, s.groups_are) in
            let t = tally_enters passed_on v child_real unseen in
            let P : ℕ → Type 0 = λ z.
            Tally end start.graph start.bound record now.lists {
              places = set now.lists.places v z;
              bases = set now.lists.bases (length groups') z;
            } (group_at v 0 [] [] ∷ groups') s.closed (s.looked + 1) in
            let Q : ℕ → Type 0 = λ z.
            Tally end start.graph start.bound record now.lists {
              places = set now.lists.places v spot.opened;
              bases = set now.lists.bases z spot.opened;
            } (group_at v 0 [] [] ∷ groups') s.closed (s.looked + 1) in
            let t' = subst Q many (subst P tall t) in
            let within : spot.len < length now.lists.nodes = omega (arith, below_top, top_high, b.tally.sized_nodes) in
            let within_cursors : spot.len < length now.cursors = omega (arith, below_top, top_high, b.sized_cursors) in
            record {
              closed = s.closed;
              looked = s.looked + 1;
              passed = 0;
              ss = [];
              left = [];
              lower = groups';
              between = record {
                same = same;
                sized_cursors = length-set now.cursors spot.len next ∙ b.sized_cursors;
                visited = λ k below exists. inr (b.visited k below exists);
                counted = omega (arith, b.counted, one);
                closed_are = b.closed_are;
                grouped =
                    goes_in w (λ z. Mem z (concat s.closed)) spot.node s.passed s.ss s.left s.lower s.cursor here v next
                    look₀ b.grouped;
                tally = record {
                  bound_is = t'.bound_is;
                  bound_low = t'.bound_low;
                  sized_places = t'.sized_places;
                  sized_nodes = length-set now.lists.nodes spot.len spot.node ∙ b.tally.sized_nodes;
                  sized_bases = t'.sized_bases;
                  some = t'.some;
                  stops = t'.stops;
                  within = t'.within;
                  once = t'.once;
                  real = t'.real;
                  counted = t'.counted;
                  numbered = t'.numbered;
                  bases_are = t'.bases_are;
                  closed_at = t'.closed_at;
                  unmet = t'.unmet;
                  at_top = t'.at_top;
                  behind = drop-set-lt now.lists.top now.lists.nodes spot.len spot.node below_top ∙ b.tally.behind;
                  members_are = t'.members_are;
                  ends_are = t'.ends_are;
                };
              };
              cursor = first ∙ ap (λ (z : Graph N E). first_of end (out_list z v)) same;
              deep = omega (arith, s.deep);
              kept = (
                λ d.
                    ap (λ (z : ℕ). get_or (set now.lists.nodes spot.len spot.node) z d) (sym s.deep)
                    ∙ get_or-set_same now.lists.nodes spot.len spot.node d within,
                λ d.
                    ap (λ (z : ℕ). get_or (set now.cursors spot.len next) z d) (sym s.deep)
                    ∙ (get_or-set_same now.cursors spot.len next d within_cursors
                    ∙ next_cursor end start.graph w spot.node s.passed spot.edge s.cursor here v next look₀),
                kept_cursors end start.graph (set now.lists.nodes spot.len spot.node) now.cursors spot.len next
                    (s.ss ++ way_of s.lower) (omega (arith, s.deep))
                    (kept_stack end start.graph now.lists.nodes now.cursors spot.len spot.node (s.ss ++ way_of s.lower)
                    (omega (arith, s.deep)) s.kept),
              );
              groups_are = omega (arith, many);
              opened_are = omega (arith, tall);
            }

      -- the last groups as one, down to that of the child
      pub record Merged (groups' : ℕ) : Type 0 where
        pub ss : List Stop
        pub left : List ℕ
        pub lower : List Group
        pub between : Between end start i now (group_at spot.node s.passed ss left ∷ lower) s.closed s.looked
        pub way : ss ++ way_of lower ≡ s.ss ++ way_of s.lower
        pub groups_are : groups' ≡ suc (length lower)
        pub opened_are : spot.opened ≡ height (group_at spot.node s.passed ss left ∷ lower)
        pub child : In (group_at spot.node s.passed ss left) v ⊎ Mem v (concat s.closed)

      module _ (seen : get_or now.lists.places v end ≢ end) {groups' : ℕ} (some : 0 < groups')
          (joins : (k : ℕ) → groups' ≤ k → k < spot.groups → get_or now.lists.places v end < get_or now.lists.bases k 0)
          (stays : get_or now.lists.bases (groups' - 1) 0 ≤ get_or now.lists.places v end) where
        -- from some groups on
        merge_from : (ss : List Stop) (left : List ℕ) (lower : List Group)
            → Between end start i now (group_at spot.node s.passed ss left ∷ lower) s.closed s.looked
            → ss ++ way_of lower ≡ s.ss ++ way_of s.lower → groups' ≤ suc (length lower) → suc (length lower) ≤ spot.groups
            → spot.opened ≡ height (group_at spot.node s.passed ss left ∷ lower) → Merged groups'
        merge_from ss left [] b way fewer within tall =
            record {
              ss = ss;
              left = left;
              lower = [];
              between = b;
              way = way;
              groups_are = omega (arith, some, fewer);
              opened_are = tall;
              child =
                  elim (b.tally.unmet v child_low) [
                    | inl e ↦ absurd (seen e)
                    | inr m ↦ elim (met_cases (group_at spot.node s.passed ss left ∷ []) s.closed v m) [
                      | inl j ↦ elim j [ inl a ↦ inl a | inr n ↦ absurd n ]
                      | inr c ↦ inr c
                    ]
                  ];
            }
        merge_from ss left (H ∷ Hs) b way fewer within tall =
            let G = group_at spot.node s.passed ss left in
            let cases : In G v ⊎ (InSome (H ∷ Hs) v ⊎ Mem v (concat s.closed)) =
            elim (b.tally.unmet v child_low) [
              | inl e ↦ absurd (seen e)
              | inr m ↦ elim (met_cases (G ∷ H ∷ Hs) s.closed v m) [
                | inl j ↦ elim j [ inl a ↦ inl a | inr a ↦ inr (inl a) ]
                | inr c ↦ inr (inr c)
              ]
            ] in
            elim (cases_lt (length (H ∷ Hs)) groups') [
              | inl above ↦ (
                  -- this is the group
                  let last_at : groups' - 1 ≡ length (H ∷ Hs) = omega (arith, fewer) in
                  let base : get_or now.lists.bases (groups' - 1) 0 ≡ height (H ∷ Hs) =
                  ap (λ (z : ℕ). get_or now.lists.bases z 0) last_at ∙ b.tally.bases_are.0 0 in
                  record {
                    ss = ss;
                    left = left;
                    lower = H ∷ Hs;
                    between = b;
                    way = way;
                    groups_are = omega (arith, fewer);
                    opened_are = tall;
                    child =
                        elim cases [
                          | inl a ↦ inl a
                          | inr r ↦ elim r [
                            | inl j ↦ (
                                let under = numbered_low end now.lists.places (H ∷ Hs) b.tally.numbered.3 v j in
                                absurd (omega (arith, under, base, stays))
                                )
                            | inr c ↦ inr c
                          ]
                        ];
                  }
                  )
              | inr below ↦ (
                  let base : get_or now.lists.bases (length (H ∷ Hs)) 0 ≡ height (H ∷ Hs) = b.tally.bases_are.0 0 in
                  let under : get_or now.lists.places v end < height (H ∷ Hs) =
                  let j = joins (length (H ∷ Hs)) below (omega (arith, within)) in omega (arith, j, base) in
                  let low_down : InSome (H ∷ Hs) v = elim cases [
                    | inl a ↦ absurd (omega (arith, (b.tally.numbered.0 v a).0, under))
                    | inr r ↦ elim r [
                      | inl j ↦ j
                      | inr c ↦ absurd (omega (arith, closed_high b.tally v c, under))
                    ]
                  ] in
                  let joined = child_joined end start.graph w spot.node s.passed spot.edge s.cursor here v next look₀ in
                  merge_from (ss ++ H.stops) (left ++ H.left) Hs record {
                    same = b.same;
                    sized_cursors = b.sized_cursors;
                    visited = λ k less exists. moved G H Hs k (b.visited k less exists);
                    counted = b.counted;
                    closed_are = b.closed_are;
                    grouped =
                        merges w (λ z. Mem z (concat s.closed)) G H Hs spot.node v (inl (inl refl)) joined low_down
                        b.grouped;
                    tally = tally_merges G H Hs b.tally;
                  } (append_assoc ss H.stops (way_of Hs) ∙ way) below (omega (arith, within)) (tall
                  ∙ sym (height_merged G H Hs))
                  )
            ]
          where
            moved : (G H : Group) (Hs : List Group) (k : ℕ) → Mem k (met_of (G ∷ H ∷ Hs) s.closed)
                → Mem k (met_of (merged G H ∷ Hs) s.closed)
            moved G H Hs k m =
                elim (met_cases (G ∷ H ∷ Hs) s.closed k m) [
                  | inl j ↦ met_group (merged G H ∷ Hs) s.closed k (elim j [
                    | inl a ↦ inl (merged_left G H k a)
                    | inr r ↦ elim r [ inl a ↦ inl (merged_right G H k a) | inr a ↦ inr a ]
                  ])
                  | inr c ↦ met_closed (merged G H ∷ Hs) s.closed k c
                ]

        pub steps_over : groups' ≤ spot.groups → {g' : Graph N E} → g' ≡ now.graph → {looks' : ℕ} → looks' ≡ now.looks + 1
            → Walking end start i record now { graph = g'; looks = looks' } record spot { groups = groups'; edge = next }
        steps_over fewer {g'} unchanged {looks'} one =
            let m =
            merge_from s.ss s.left s.lower s.between refl (omega (arith, fewer, s.groups_are)) (omega (arith, s.groups_are))
            s.opened_are in
            let b = m.between in
            let P : List Stop → Type 0 = λ z.
            (spot.len ≡ length (nodes_of z)) × AreKept end start.graph now.lists.nodes now.cursors z in
            let kept = subst P (sym m.way) (s.deep, s.kept) in
            let G = group_at spot.node s.passed m.ss m.left in
            let to : (In G v ⊎ ⊥) ⊎ Mem v (concat s.closed) =
            elim m.child [ inl a ↦ inl (inl a) | inr c ↦ inr c ] in
            record {
              closed = s.closed;
              looked = s.looked + 1;
              passed = suc s.passed;
              ss = m.ss;
              left = m.left;
              lower = m.lower;
              between = record {
                same = unchanged ∙ b.same;
                sized_cursors = b.sized_cursors;
                visited = b.visited;
                counted = omega (arith, b.counted, one);
                closed_are = b.closed_are;
                grouped =
                    passes_over w (λ z. Mem z (concat s.closed)) spot.node s.passed m.ss m.left m.lower s.cursor here v
                    next look₀ Nothing to b.grouped;
                tally = tally_passes spot.node s.passed m.ss m.left m.lower part_left b.tally;
              };
              cursor = next_cursor end start.graph w spot.node s.passed spot.edge s.cursor here v next look₀;
              deep = kept.0;
              kept = kept.1;
              groups_are = m.groups_are;
              opened_are = m.opened_are;
            }

      -- the base of all groups is 0
      pub first_base : get_or now.lists.bases 0 0 ≤ get_or now.lists.places v end
      first_base = omega (arith, bottom (last ∷ s.lower) s.between.tally.bases_are (omega arith))
        where
          bottom : (Gs : List Group) → AreBases now.lists.bases Gs → (0 < length Gs) → get_or now.lists.bases 0 0 ≡ 0
          bottom [] h some = absurd (omega arith)
          bottom (G ∷ []) h some = h.0 0
          bottom (G ∷ H ∷ Gs) h some = bottom (H ∷ Gs) h.1 (omega arith)

-- What there is once a node was finished: the groups, the nodes on the way, and how many of all there are.
pub record Finished {N E : Type 0} (end : ℕ) (start : Start N E) (i : ℕ) (now : Now N E) (len groups opened : ℕ)
    : Type 0 where
  pub list : List Group
  pub closed : List (List ℕ)
  pub looked : ℕ
  pub between : Between end start i now list closed looked
  pub kept : AreKept end start.graph now.lists.nodes now.cursors (way_of list)
  pub deep : len ≡ length (nodes_of (way_of list))
  pub groups_are : groups ≡ length list
  pub opened_are : opened ≡ height list

module _ {N E : Type 0} {end : ℕ} {start : Start N E} {i : ℕ} {now : Now N E} {spot : Spot}
    (w : IsWellFormed end start.graph) (s : Walking end start i now spot) (h : spot.edge ≡ end) {base : ℕ}
    (base_at : base ≡ height s.lower) where
  pub finished_closed : (at : get_or now.lists.places spot.node end ≡ base)
      → {places' members' ends' : List ℕ} {rest : ℕ} → rest ≡ now.lists.top + (spot.opened - base - 1)
      → places' ≡ placed (set now.lists.places spot.node (start.bound - 1 - length now.lists.ends))
      (part now.lists.top (rest - now.lists.top) now.lists.nodes) (start.bound - 1 - length now.lists.ends)
      → members' ≡ now.lists.members ++ spot.node ∷ part now.lists.top (rest - now.lists.top) now.lists.nodes
      → ends' ≡ now.lists.ends ++ length members' ∷ []
      → Finished end start i record now {
        lists = record now.lists { places = places'; members = members'; ends = ends'; top = rest };
      } spot.len (spot.groups - 1) base
  finished_closed at is places members ends =
      let way = closed_way w s h base_at at in
      record {
        list = s.lower;
        closed = s.closed ++ (spot.node ∷ s.left) ∷ [];
        looked = s.looked;
        between = closed_now w s h base_at at is places members ends;
        kept = way.1;
        deep = way.0;
        groups_are = omega (arith, s.groups_are);
        opened_are = base_at;
      }

  pub finished_left : (not_at : get_or now.lists.places spot.node end ≢ base) (top' : ℕ) → top' + 1 ≡ now.lists.top
      → Finished end start i record now {
        lists = record now.lists { nodes = set now.lists.nodes top' spot.node; top = top' };
      } spot.len spot.groups spot.opened
  finished_left not_at top' one =
      record {
        list = record { stops = s.ss; left = spot.node ∷ s.left } ∷ s.lower;
        closed = s.closed;
        looked = s.looked;
        between = left_now w s h base_at not_at top' one;
        kept = left_kept w s h base_at not_at top' one;
        deep = s.deep;
        groups_are = omega (arith, s.groups_are);
        opened_are = left_tall w s h base_at not_at top' one;
      }

module _ {N E : Type 0} {end : ℕ} {start : Start N E} {i : ℕ} {now : Now N E} {len groups opened : ℕ}
    (f : Finished end start i now len groups opened) where
  pub finish_ends : len ≡ 0 → Resting end start i now
  finish_ends none = ends_walk f.list f.closed f.looked f.between (sym f.deep ∙ none)

  pub finish_low : len ≢ 0 → len - 1 < length now.lists.nodes
  finish_low some =
      omega (arith, f.deep, height_is f.list, few f.between.tally, f.between.tally.sized_nodes, some)

  pub finish_goes : len ≢ 0 → {spot : Spot} → spot.len ≡ len - 1
      → ((d : ℕ) → spot.node ≡ get_or now.lists.nodes spot.len d)
      → ((d : ℕ) → spot.edge ≡ get_or now.cursors spot.len d) → spot.groups ≡ groups → spot.opened ≡ opened
      → Walking end start i now spot
  finish_goes some {spot} at node edge groups_same opened_same =
      on f.list f.between f.kept (f.deep) f.groups_are f.opened_are
    where
      on : (list : List Group) → Between end start i now list f.closed f.looked
          → AreKept end start.graph now.lists.nodes now.cursors (way_of list) → len ≡ length (nodes_of (way_of list))
          → groups ≡ length list → opened ≡ height list → Walking end start i now spot
      on [] b kept deep g o = absurd (some deep)
      on (G ∷ Gs) b kept deep g o =
          goes_up G.stops G.left Gs f.closed f.looked b kept (omega (arith, at, deep, some)) node edge (groups_same ∙ g)
          (opened_same ∙ o)
