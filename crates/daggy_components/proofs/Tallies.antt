-- The lists of a search for components, as they stand for groups and components.
use Rattle.std.proofs.Common.{◌≡◌, ◌≢◌, ℕ, zero, suc, ◌+◌, ◌-◌, ◌<◌, ◌≤◌, ◌⊎◌, inl, inr, List, [], ◌∷◌, ◌++◌}
use Rattle.std.proofs.Common.{length, drop, get_or, set, refl, sym, ap, subst, ◌∙◌, arith, append_assoc, length-set}
use Rattle.std.proofs.lemmas.List.{get_or-set_other, get_or-set_same, length-append, drop-set}
use Rattle.std.proofs.lemmas.List.{append-nil, drop-drop}
use Rattle.std.proofs.Math.Seq.{drop-append_seam}
use Rattle.std.proofs.lemmas.Bool.{cases_eq}
use Rattle.daggy_base.specs.Graph.{Graph, HasNode, out_list, edge_count, node_bound}
use Rattle.daggy_base.specs.WellFormed.{IsWellFormed}
use Rattle.daggy_base.proofs.Lists.{Mem, Unique, mem_left, mem_right, mem_cases, mem_mid, mem_into, mem_out, unique_mid}
use Rattle.daggy_base.proofs.Lists.{fewer_than, unique_append, unique_right}
use Rattle.daggy_base.proofs.OutEdgesRead.{lists_of, lists_few, below_bound}
use Rattle.daggy_search.proofs.FinishingOrder.{Stop, nodes_of, passed_by}
use Rattle.std.specs.List.{concat}
use Rattle.daggy_components.specs.Components.{component}
use Rattle.daggy_components.specs.Stored.{placed, ends_of}
use Rattle.daggy_components.proofs.Groups.{Group, In, InSome, merged, unique_apart, member, members_more}
use Rattle.daggy_components.proofs.Placing.{way_of, lefts_of, height, IsFirst, HaveStops, AreNumbered, AreBases}
use Rattle.daggy_components.proofs.Placing.{bases_kept, numbered_low, numbered_kept, numbered_merged}

-- all nodes that were met
abbrev pub met_of : List Group → List (List ℕ) → List ℕ
met_of groups closed = nodes_of (way_of groups) ++ (lefts_of groups ++ concat closed)

abbrev pub AreWithin : {N E : Type 0} → Graph N E → List Stop → Type 0
AreWithin g [] = Unit {0}
AreWithin g (s ∷ ss) = (s.passed ≤ length (out_list g s.node)) × AreWithin g ss

abbrev pub AreSome : List (List ℕ) → Type 0
AreSome [] = Unit {0}
AreSome (c ∷ cs) = (0 < length c) × AreSome cs

-- The lists: the places of nodes; a list with the way in front and what was left behind, from `top` on; where the groups
-- begin; and the members and the ends of components.
pub record Lists : Type 0 where
  pub places : List ℕ
  pub nodes : List ℕ
  pub bases : List ℕ
  pub members : List ℕ
  pub ends : List ℕ
  pub top : ℕ

-- What they stand for.
pub record Tally {N E : Type 0} (end : ℕ) (g : Graph N E) (bound : ℕ) (lists : Lists) (groups : List Group)
    (closed : List (List ℕ)) (looked : ℕ) : Type 0 where
  pub bound_is : bound ≡ node_bound g
  pub bound_low : bound ≤ end
  pub sized_places : length lists.places ≡ bound
  pub sized_nodes : length lists.nodes ≡ bound
  pub sized_bases : length lists.bases ≡ bound
  pub some : AreSome closed
  pub stops : HaveStops groups
  pub within : AreWithin g (way_of groups)
  pub once : Unique (met_of groups closed)
  pub real : (n : ℕ) → Mem n (met_of groups closed) → HasNode g n
  pub counted : looked ≡ passed_by (way_of groups) + length (lists_of g (lefts_of groups ++ concat closed))
  pub numbered : AreNumbered end lists.places groups
  pub bases_are : AreBases lists.bases groups
  pub closed_at : (k v : ℕ) → Mem v (component closed k) → get_or lists.places v end + 1 + k ≡ bound
  pub unmet : (v : ℕ) → v < bound → (get_or lists.places v end ≡ end) ⊎ Mem v (met_of groups closed)
  pub at_top : lists.top + length (lefts_of groups) ≡ bound
  pub behind : drop lists.top lists.nodes ≡ lefts_of groups
  pub members_are : lists.members ≡ concat closed
  pub ends_are : lists.ends ≡ ends_of 0 closed

some_nodes : (ss ts : List Stop) (v : ℕ) → Mem v (nodes_of ss) ⊎ Mem v (nodes_of ts) → Mem v (nodes_of (ss ++ ts))
some_nodes [] ts v m = elim m [ inl n ↦ absurd n | inr b ↦ b ]
some_nodes (s ∷ ss) ts v m =
    elim m [
      | inl a ↦ elim a [ inl eq ↦ inl eq | inr b ↦ inr (some_nodes ss ts v (inl b)) ]
      | inr b ↦ inr (some_nodes ss ts v (inr b))
    ]

nodes_some : (ss ts : List Stop) (v : ℕ) → Mem v (nodes_of (ss ++ ts)) → Mem v (nodes_of ss) ⊎ Mem v (nodes_of ts)
nodes_some [] ts v m = inr m
nodes_some (s ∷ ss) ts v m =
    elim m [
      | inl e ↦ inl (inl e)
      | inr b ↦ elim (nodes_some ss ts v b) [ inl c ↦ inl (inr c) | inr d ↦ inr d ]
    ]

nodes_length : (ss ts : List Stop) → length (nodes_of (ss ++ ts)) ≡ length (nodes_of ss) + length (nodes_of ts)
nodes_length [] ts = omega arith
nodes_length (s ∷ ss) ts = let h = nodes_length ss ts in omega (arith, h)

-- a node of a group was met
pub in_met : (Gs : List Group) (v : ℕ) → InSome Gs v → Mem v (nodes_of (way_of Gs)) ⊎ Mem v (lefts_of Gs)
in_met [] v m = absurd m
in_met (G ∷ Gs) v m =
    elim m [
      | inl i ↦ elim i [
        | inl a ↦ inl (some_nodes G.stops (way_of Gs) v (inl a))
        | inr b ↦ inr (mem_left G.left (lefts_of Gs) v b)
      ]
      | inr b ↦ elim (in_met Gs v b) [
        | inl c ↦ inl (some_nodes G.stops (way_of Gs) v (inr c))
        | inr d ↦ inr (mem_right G.left (lefts_of Gs) v d)
      ]
    ]

pub in_groups : (Gs : List Group) (v : ℕ) → Mem v (nodes_of (way_of Gs)) ⊎ Mem v (lefts_of Gs) → InSome Gs v
in_groups [] v m = elim m [ inl a ↦ absurd a | inr b ↦ absurd b ]
in_groups (G ∷ Gs) v m =
    elim m [
      | inl a ↦ elim (nodes_some G.stops (way_of Gs) v a) [
        | inl c ↦ inl (inl c)
        | inr d ↦ inr (in_groups Gs v (inl d))
      ]
      | inr b ↦ elim (mem_cases G.left (lefts_of Gs) v b) [
        | inl c ↦ inl (inr c)
        | inr d ↦ inr (in_groups Gs v (inr d))
      ]
    ]

pub met_group : (Gs : List Group) (closed : List (List ℕ)) (v : ℕ) → InSome Gs v → Mem v (met_of Gs closed)
met_group Gs closed v m =
    elim (in_met Gs v m) [
      | inl a ↦ mem_left (nodes_of (way_of Gs)) (lefts_of Gs ++ concat closed) v a
      | inr b ↦ mem_right (nodes_of (way_of Gs)) (lefts_of Gs ++ concat closed) v (mem_left (lefts_of Gs)
          (concat closed) v b)
    ]

pub met_closed : (Gs : List Group) (closed : List (List ℕ)) (v : ℕ) → Mem v (concat closed) → Mem v (met_of Gs closed)
met_closed Gs closed v m =
    mem_right (nodes_of (way_of Gs)) (lefts_of Gs ++ concat closed) v (mem_right (lefts_of Gs) (concat closed) v m)

pub met_cases : (Gs : List Group) (closed : List (List ℕ)) (v : ℕ) → Mem v (met_of Gs closed)
    → InSome Gs v ⊎ Mem v (concat closed)
met_cases Gs closed v m =
    elim (mem_cases (nodes_of (way_of Gs)) (lefts_of Gs ++ concat closed) v m) [
      | inl a ↦ inl (in_groups Gs v (inl a))
      | inr b ↦ elim (mem_cases (lefts_of Gs) (concat closed) v b) [
        | inl c ↦ inl (in_groups Gs v (inr c))
        | inr d ↦ inr d
      ]
    ]

-- how many nodes there are
pub height_is : (Gs : List Group) → length (nodes_of (way_of Gs)) + length (lefts_of Gs) ≡ height Gs
height_is [] = refl
height_is (G ∷ Gs) =
    omega (arith, height_is Gs, nodes_length G.stops (way_of Gs), length-append G.left (lefts_of Gs))

pub groups_few : (Gs : List Group) → HaveStops Gs → length Gs ≤ height Gs
groups_few [] h = omega arith
groups_few (G ∷ Gs) h = omega (arith, h.0, groups_few Gs h.1)

pub closed_few : (cs : List (List ℕ)) → AreSome cs → length cs ≤ length (concat cs)
closed_few [] h = omega arith
closed_few (c ∷ cs) h = omega (arith, h.0, closed_few cs h.1, length-append c (concat cs))

-- the component of a member
pub component_of : (cs : List (List ℕ)) (v : ℕ) → Mem v (concat cs) → (k : ℕ) × (k < length cs) × Mem v (component cs k)
component_of [] v m = absurd m
component_of (c ∷ cs) v m =
    elim (mem_cases c (concat cs) v m) [
      | inl a ↦ (0, omega arith, a)
      | inr b ↦ let p = component_of cs v b in (suc p.0, omega (arith, p.1), p.2)
    ]

passed_few : {N E : Type 0} (g : Graph N E) (ss : List Stop) (rest : List ℕ) → AreWithin g ss
    → passed_by ss + length (lists_of g rest) ≤ length (lists_of g (nodes_of ss ++ rest))
passed_few g [] rest h = omega arith
passed_few g (s ∷ ss) rest h =
    omega (arith, h.0, passed_few g ss rest h.1, length-append (out_list g s.node) (lists_of g (nodes_of ss ++ rest)))

module _ {N E : Type 0} {end : ℕ} {g : Graph N E} {bound : ℕ} {lists : Lists} {groups : List Group}
    {closed : List (List ℕ)} {looked : ℕ} (t : Tally end g bound lists groups closed looked) where
  pub low : (v : ℕ) → HasNode g v → v < bound
  low v h = omega (arith, below_bound g.nodes v h, t.bound_is)

  all_length : length (met_of groups closed) ≡ height groups + length (concat closed)
  all_length =
      omega (
        arith,
        length-append (nodes_of (way_of groups)) (lefts_of groups ++ concat closed),
        length-append (lefts_of groups) (concat closed),
        height_is groups,
      )

  -- nodes are few
  pub few : height groups + length closed ≤ bound
  few =
      omega (
        arith,
        all_length,
        closed_few closed t.some,
        fewer_than (met_of groups closed) bound t.once (λ v m. low v (t.real v m)),
      )

  -- one more has room
  pub room : (v : ℕ) → HasNode g v → (Mem v (met_of groups closed) → ⊥) → height groups + length closed < bound
  room v exists new =
      omega (
        arith,
        all_length,
        closed_few closed t.some,
        fewer_than (v ∷ met_of groups closed) bound (new, t.once) (λ z m.
            elim m [
              | inl eq ↦ (let P : ℕ → Type 0 = λ y. y < bound in subst P (sym eq) (low v exists))
              | inr b ↦ low z (t.real z b)
            ]),
      )

  pub looked_within : IsWellFormed end g → looked ≤ edge_count g
  looked_within w =
      omega (
        arith,
        t.counted,
        passed_few g (way_of groups) (lefts_of groups ++ concat closed) t.within,
        lists_few end g w (met_of groups closed) t.once,
      )

  -- the place of a node that was met is not `end`
  pub met_place : (v : ℕ) → Mem v (met_of groups closed) → get_or lists.places v end ≢ end
  met_place v m eq =
      elim (met_cases groups closed v m) [
        | inl i ↦ absurd (omega (arith, numbered_low end lists.places groups t.numbered v i, few, t.bound_low, eq))
        | inr b ↦ (
            let p = component_of closed v b in
            absurd (omega (arith, t.closed_at p.0 v p.2, t.bound_low, eq))
            )
      ]

  -- a node whose place is `end` was not met
  pub is_new : (v : ℕ) → get_or lists.places v end ≡ end → Mem v (met_of groups closed) → ⊥
  is_new v eq m = met_place v m eq

  -- the place of a node in a component is high
  pub closed_high : (v : ℕ) → Mem v (concat closed) → height groups ≤ get_or lists.places v end
  closed_high v m =
      let p = component_of closed v m in
      omega (arith, t.closed_at p.0 v p.2, p.1, few)

  -- a node begins a group
  pub tally_enters : (v : ℕ) → HasNode g v → get_or lists.places v end ≡ end
      → Tally end g bound record lists {
        places = set lists.places v (height groups);
        bases = set lists.bases (length groups) (height groups);
      } (record { stops = record { node = v; passed = 0 } ∷ []; left = [] } ∷ groups) closed looked
  tally_enters v exists unseen =
      let new = is_new v unseen in
      let v_low = low v exists in
      let places' = set lists.places v (height groups) in
      let apart : (z : ℕ) → Mem z (met_of groups closed) → z ≢ v = λ z m eq.
      let P : ℕ → Type 0 = λ y. Mem y (met_of groups closed) in new (subst P eq m) in
      let other : (z : ℕ) → Mem z (met_of groups closed) → get_or places' z end ≡ get_or lists.places z end = λ z m.
      get_or-set_other lists.places v z (height groups) end (apart z m) in
      let own : get_or places' v end ≡ height groups =
      get_or-set_same lists.places v (height groups) end (omega (arith, v_low, t.sized_places)) in
      let group : Group = record { stops = record { node = v; passed = 0 } ∷ []; left = [] } in
      let is : (z : ℕ) → In group z → z ≡ v = λ z i.
      elim i [ inl a ↦ elim a [ inl eq ↦ eq | inr n ↦ absurd n ] | inr n ↦ absurd n ] in
      let at : (z : ℕ) → z ≡ v → get_or places' z end ≡ height groups = λ z eq.
      ap (λ (y : ℕ). get_or places' y end) eq ∙ own in
      let place_low : length groups < length lists.bases =
      omega (arith, groups_few groups t.stops, room v exists new, t.sized_bases) in
      record {
        bound_is = t.bound_is;
        bound_low = t.bound_low;
        sized_places = length-set lists.places v (height groups) ∙ t.sized_places;
        sized_nodes = t.sized_nodes;
        sized_bases = length-set lists.bases (length groups) (height groups) ∙ t.sized_bases;
        some = t.some;
        stops = (omega arith, t.stops);
        within = (omega arith, t.within);
        once = (new, t.once);
        real = λ z m. elim m [
          | inl eq ↦ (let P : ℕ → Type 0 = λ y. HasNode g y in subst P (sym eq) exists)
          | inr b ↦ t.real z b
        ];
        counted = omega (arith, t.counted);
        numbered = (
          λ z i. let eq = at z (is z i) in (omega (arith, eq), omega (arith, eq)),
          λ z f. at z f,
          λ z i eq. is z i,
          numbered_kept end lists.places places' groups (λ z m. other z (met_group groups closed z m)) t.numbered,
        );
        bases_are = (
          λ d. get_or-set_same lists.bases (length groups) (height groups) d place_low,
          bases_kept lists.bases (length groups) (height groups) groups (omega arith) t.bases_are,
        );
        closed_at = λ k z m.
            let same = other z (met_closed groups closed z (member closed k z m)) in
            omega (arith, same, t.closed_at k z m);
        unmet = λ z below. elim (cases_eq z v) [
          | inl eq ↦ inr (inl eq)
          | inr d ↦ elim (t.unmet z below) [
            | inl e ↦ inl (get_or-set_other lists.places v z (height groups) end d ∙ e)
            | inr m ↦ inr (inr m)
          ]
        ];
        at_top = t.at_top;
        behind = t.behind;
        members_are = t.members_are;
        ends_are = t.ends_are;
      }

-- one more edge of the last node was looked at
module _ {N E : Type 0} {end : ℕ} {g : Graph N E} {bound : ℕ} {lists : Lists} {closed : List (List ℕ)} {looked : ℕ}
    (at passed : ℕ) (ss : List Stop) (left : List ℕ) (Gs : List Group) where
  pub tally_passes : passed < length (out_list g at)
      → Tally end g bound lists (record { stops = record { node = at; passed = passed } ∷ ss; left = left } ∷ Gs) closed
      looked
      → Tally end g bound lists (record { stops = record { node = at; passed = suc passed } ∷ ss; left = left } ∷ Gs) closed
      (looked + 1)
  tally_passes here t =
      record {
        bound_is = t.bound_is;
        bound_low = t.bound_low;
        sized_places = t.sized_places;
        sized_nodes = t.sized_nodes;
        sized_bases = t.sized_bases;
        some = t.some;
        stops = t.stops;
        within = (omega (arith, here), t.within.1);
        once = t.once;
        real = t.real;
        counted = omega (arith, t.counted);
        numbered = (t.numbered.0, first_same ss t.numbered.1, first_back ss t.numbered.2, t.numbered.3);
        bases_are = t.bases_are;
        closed_at = t.closed_at;
        unmet = t.unmet;
        at_top = t.at_top;
        behind = t.behind;
        members_are = t.members_are;
        ends_are = t.ends_are;
      }
    where
      old : List Stop → List Stop
      old rs = record { node = at; passed = passed } ∷ rs

      new : List Stop → List Stop
      new rs = record { node = at; passed = suc passed } ∷ rs

      first_same : (rs : List Stop) → ((v : ℕ) → IsFirst v (old rs) → get_or lists.places v end ≡ height Gs)
          → (v : ℕ) → IsFirst v (new rs) → get_or lists.places v end ≡ height Gs
      first_same [] f v h = f v h
      first_same (r ∷ rs) f v h = f v h

      first_back : (rs : List Stop)
          → ((v : ℕ) → In (record { stops = old ss; left = left }) v → get_or lists.places v end ≡ height Gs
          → IsFirst v (old rs))
          → (v : ℕ) → In (record { stops = old ss; left = left }) v → get_or lists.places v end ≡ height Gs
          → IsFirst v (new rs)
      first_back [] f v i eq = f v i eq
      first_back (r ∷ rs) f v i eq = f v i eq

  -- The last node is not the first of its group: it is left.
  pub tally_leaves : (s : Stop) (ts : List Stop) → ss ≡ s ∷ ts → passed ≡ length (out_list g at)
      → Tally end g bound lists (record { stops = record { node = at; passed = passed } ∷ ss; left = left } ∷ Gs) closed
      looked
      → {top' : ℕ} → top' + 1 ≡ lists.top
      → Tally end g bound record lists { nodes = set lists.nodes top' at; top = top' }
      (record { stops = ss; left = at ∷ left } ∷ Gs) closed looked
  tally_leaves s ts is whole t {top'} one =
      let D = nodes_of (ss ++ way_of Gs) in
      let R = (left ++ lefts_of Gs) ++ concat closed in
      let new : Group = record { stops = ss; left = at ∷ left } in
      let out : (n : ℕ) → Mem n (D ++ at ∷ R) → Mem n (at ∷ (D ++ R)) = λ n m. mem_out D R at n m in
      let into : (n : ℕ) → Mem n (at ∷ (D ++ R)) → Mem n (D ++ at ∷ R) = λ n m.
      elim m [
        | inl eq ↦ (let P : ℕ → Type 0 = λ z. Mem z (D ++ at ∷ R) in subst P (sym eq) (mem_mid D R at))
        | inr b ↦ mem_into D R at n b
      ] in
      let back : (v : ℕ) → In new v → In (record { stops = record { node = at; passed = passed } ∷ ss; left = left }) v =
      λ v m.
      elim m [
        | inl a ↦ inl (inr a)
        | inr b ↦ elim b [ inl eq ↦ inl (inl eq) | inr c ↦ inr c ]
      ] in
      let some : 0 < length (nodes_of ss) =
      let P : List Stop → Type 0 = λ z. 0 < length (nodes_of z) in subst P (sym is) (omega arith) in
      let within : top' < length lists.nodes =
      omega (arith, one, t.at_top, t.sized_nodes) in
      record {
        bound_is = t.bound_is;
        bound_low = t.bound_low;
        sized_places = t.sized_places;
        sized_nodes = length-set lists.nodes top' at ∙ t.sized_nodes;
        sized_bases = t.sized_bases;
        some = t.some;
        stops = (some, t.stops.1);
        within = t.within.1;
        once = unique_mid D R at t.once.1 t.once.0;
        real = λ n m. t.real n (out n m);
        counted = omega (arith, t.counted, whole, length-append (out_list g at) (lists_of g R));
        numbered = (
          λ v i. let p = t.numbered.0 v (back v i) in (omega (arith, p.0), omega (arith, p.1)),
          λ v f. t.numbered.1 v (first_over ss s ts is v f),
          λ v i eq. first_under ss s ts is v (t.numbered.2 v (back v i) eq),
          t.numbered.3,
        );
        bases_are = t.bases_are;
        closed_at = t.closed_at;
        unmet = λ v below. elim (t.unmet v below) [ inl e ↦ inl e | inr m ↦ inr (into v m) ];
        at_top = omega (arith, t.at_top, one);
        behind =
            drop-set lists.nodes top' at within
            ∙ ap (λ (z : List ℕ). at ∷ z) (ap (λ (z : ℕ). drop z lists.nodes) (omega (arith, one)) ∙ t.behind);
        members_are = t.members_are;
        ends_are = t.ends_are;
      }
    where
      first_over : (rs : List Stop) (s : Stop) (ts : List Stop) → rs ≡ s ∷ ts
          → (v : ℕ) → IsFirst v rs → IsFirst v (record { node = at; passed = passed } ∷ rs)
      first_over [] s ts is v f = absurd f
      first_over (r ∷ rs) s ts is v f = f

      first_under : (rs : List Stop) (s : Stop) (ts : List Stop) → rs ≡ s ∷ ts
          → (v : ℕ) → IsFirst v (record { node = at; passed = passed } ∷ rs) → IsFirst v rs
      first_under [] s ts is v f = absurd (cons_some s ts is)
        where
          cons_some : (s : Stop) (ts : List Stop) → [] ≡ s ∷ ts → ⊥
          cons_some s ts e =
              let P : List Stop → Type 0 = λ z. elim z [ [] ↦ Unit {0} | r ∷ rs ↦ ⊥ ] in subst P e tt
      first_under (r ∷ rs) s ts is v f = f

-- two groups are one
pub tally_merges : {N E : Type 0} {end : ℕ} {g : Graph N E} {bound : ℕ} {lists : Lists} {closed : List (List ℕ)}
    {looked : ℕ} (G H : Group) (Gs : List Group) → Tally end g bound lists (G ∷ H ∷ Gs) closed looked
    → Tally end g bound lists (merged G H ∷ Gs) closed looked
tally_merges {N} {E} {end} {g} {bound} {lists} {closed} {looked} G H Gs t =
    let way : G.stops ++ (H.stops ++ way_of Gs) ≡ (G.stops ++ H.stops) ++ way_of Gs =
    sym (append_assoc G.stops H.stops (way_of Gs)) in
    let lefts : G.left ++ (H.left ++ lefts_of Gs) ≡ (G.left ++ H.left) ++ lefts_of Gs =
    sym (append_assoc G.left H.left (lefts_of Gs)) in
    let met : met_of (G ∷ H ∷ Gs) closed ≡ met_of (merged G H ∷ Gs) closed =
    ap (λ (z : List Stop). nodes_of z ++ ((G.left ++ (H.left ++ lefts_of Gs)) ++ concat closed)) way
    ∙ ap (λ (z : List ℕ). nodes_of ((G.stops ++ H.stops) ++ way_of Gs) ++ (z ++ concat closed)) lefts in
    let Real : List ℕ → Type 0 = λ z. (n : ℕ) → Mem n z → HasNode g n in
    let Unmet : List ℕ → Type 0 = λ z. (v : ℕ) → v < bound → (get_or lists.places v end ≡ end) ⊎ Mem v z in
    let Within : List Stop → Type 0 = λ z. AreWithin g z in
    let Once : List ℕ → Type 0 = λ z. Unique z in
    let Counted : List Stop → Type 0 = λ z.
    looked ≡ passed_by z + length (lists_of g ((G.left ++ (H.left ++ lefts_of Gs)) ++ concat closed)) in
    let Lefts : List ℕ → Type 0 = λ z.
    looked ≡ passed_by ((G.stops ++ H.stops) ++ way_of Gs) + length (lists_of g (z ++ concat closed)) in
    let Top : List ℕ → Type 0 = λ z. lists.top + length z ≡ bound in
    let Behind : List ℕ → Type 0 = λ z. drop lists.top lists.nodes ≡ z in
    record {
      bound_is = t.bound_is;
      bound_low = t.bound_low;
      sized_places = t.sized_places;
      sized_nodes = t.sized_nodes;
      sized_bases = t.sized_bases;
      some = t.some;
      stops = (omega (arith, t.stops.0, nodes_length G.stops H.stops), t.stops.1.1);
      within = subst Within way t.within;
      once = subst Once met t.once;
      real = subst Real met t.real;
      counted = subst Lefts lefts (subst Counted way t.counted);
      numbered = numbered_merged end lists.places G H Gs t.stops.1 t.numbered;
      bases_are = t.bases_are.1;
      closed_at = t.closed_at;
      unmet = subst Unmet met t.unmet;
      at_top = subst Top lefts t.at_top;
      behind = subst Behind lefts t.behind;
      members_are = t.members_are;
      ends_are = t.ends_are;
    }

pub placed_length : (places xs : List ℕ) (k : ℕ) → length (placed places xs k) ≡ length places
placed_length places [] k = refl
placed_length places (x ∷ xs) k = placed_length (set places x k) xs k ∙ length-set places x k

pub placed_other : (places xs : List ℕ) (k v d : ℕ)
    → (Mem v xs → ⊥) → get_or (placed places xs k) v d ≡ get_or places v d
placed_other places [] k v d out = refl
placed_other places (x ∷ xs) k v d out =
    placed_other (set places x k) xs k v d (λ m. out (inr m))
    ∙ get_or-set_other places x v k d (λ eq. out (inl eq))

pub placed_same : (places xs : List ℕ) (k v d : ℕ) → Unique xs → Mem v xs → v < length places
    → get_or (placed places xs k) v d ≡ k
placed_same places [] k v d once m low = absurd m
placed_same places (x ∷ xs) k v d once m low =
    elim m [
      | inl eq ↦ (
          let out : Mem v xs → ⊥ = λ b. let P : ℕ → Type 0 = λ z. Mem z xs in once.0 (subst P eq b) in
          let P : ℕ → Type 0 = λ z. get_or (set places z k) v d ≡ k in
          placed_other (set places x k) xs k v d out ∙ subst P eq (get_or-set_same places v k d low)
          )
      | inr b ↦ placed_same (set places x k) xs k v d once.1 b (omega (arith, low, length-set places x k))
    ]

pub members_append : (cs : List (List ℕ)) (c : List ℕ) → concat (cs ++ c ∷ []) ≡ concat cs ++ c
members_append [] c = append-nil c
members_append (d ∷ cs) c =
    ap (λ (z : List ℕ). d ++ z) (members_append cs c) ∙ sym (append_assoc d (concat cs) c)

pub ends_append : (start : ℕ) (cs : List (List ℕ)) (c : List ℕ)
    → ends_of start (cs ++ c ∷ []) ≡ ends_of start cs ++ (start + length (concat cs) + length c) ∷ []
ends_append start [] c = ap (λ (z : ℕ). z ∷ []) (omega arith)
ends_append start (d ∷ cs) c =
    ap (λ (z : List ℕ). (start + length d) ∷ z) (ends_append (start + length d) cs c
    ∙ ap (λ (z : ℕ). ends_of (start + length d) cs ++ z ∷ []) (omega (arith, length-append d (concat cs))))

pub some_more : (cs : List (List ℕ)) (c : List ℕ) → 0 < length c → AreSome cs → AreSome (cs ++ c ∷ [])
some_more [] c some h = (some, tt)
some_more (d ∷ cs) c some h = (h.0, some_more cs c some h.1)

pub component_more : (cs : List (List ℕ)) (c : List ℕ) (k v : ℕ) → Mem v (component (cs ++ c ∷ []) k)
    → Mem v (component cs k) ⊎ ((k ≡ length cs) × Mem v c)
component_more [] c zero v m = inr (refl, m)
component_more [] c (suc k) v m = absurd m
component_more (d ∷ cs) c zero v m = inl m
component_more (d ∷ cs) c (suc k) v m =
    elim (component_more cs c k v m) [ inl a ↦ inl a | inr b ↦ inr (omega (arith, b.0), b.1) ]

members_cases : (cs : List (List ℕ)) (c : List ℕ) (v : ℕ)
    → Mem v (concat (cs ++ c ∷ [])) → Mem v (concat cs) ⊎ Mem v c
members_cases cs c v m =
    let P : List ℕ → Type 0 = λ z. Mem v z in mem_cases (concat cs) c v (subst P (members_append cs c) m)

unique_left : (xs ys : List ℕ) → Unique (xs ++ ys) → Unique xs
unique_left [] ys u = tt
unique_left (x ∷ xs) ys u = (λ m. u.0 (mem_left xs ys x m), unique_left xs ys u.1)

pub lists_append : {N E : Type 0} (g : Graph N E) (xs ys : List ℕ)
    → length (lists_of g (xs ++ ys)) ≡ length (lists_of g xs) + length (lists_of g ys)
lists_append g [] ys = omega arith
lists_append g (x ∷ xs) ys =
    omega (
      arith,
      lists_append g xs ys,
      length-append (out_list g x) (lists_of g (xs ++ ys)),
      length-append (out_list g x) (lists_of g xs),
    )

-- The first node of the last group was left, so the group is a component.
pub tally_closes : {N E : Type 0} {end : ℕ} {g : Graph N E} {bound : ℕ} {lists : Lists} {closed : List (List ℕ)}
    {looked : ℕ} (at passed : ℕ) (left : List ℕ) (Gs : List Group) → passed ≡ length (out_list g at)
    → Tally end g bound lists (record { stops = record { node = at; passed = passed } ∷ []; left = left } ∷ Gs) closed
    looked
    → Tally end g bound record {
      places = placed lists.places (at ∷ left) (bound - 1 - length closed);
      nodes = lists.nodes;
      bases = lists.bases;
      members = lists.members ++ at ∷ left;
      ends = lists.ends ++ (length lists.members + length (at ∷ left)) ∷ [];
      top = lists.top + length left;
    } Gs (closed ++ (at ∷ left) ∷ []) looked
tally_closes {N} {E} {end} {g} {bound} {lists} {closed} {looked} at passed left Gs whole t =
    let c : List ℕ = at ∷ left in
    let k = bound - 1 - length closed in
    let W = nodes_of (way_of Gs) in
    let L = lefts_of Gs in
    let C = concat closed in
    let places' = placed lists.places c k in
    let few_now = few t in
    -- the parts
    let once_w : Unique W = unique_left W ((left ++ L) ++ C) t.once.1 in
    let once_r : Unique ((left ++ L) ++ C) = unique_right W ((left ++ L) ++ C) t.once.1 in
    let once_ll : Unique (left ++ L) = unique_left (left ++ L) C once_r in
    let once_c : Unique c = (
      λ m. t.once.0 (mem_right W ((left ++ L) ++ C) at (mem_left (left ++ L) C at (mem_left left L at m))),
      unique_left left L once_ll,
    ) in
    -- no node of the group is elsewhere
    let not_group : (v : ℕ) → Mem v c → Mem v W ⊎ Mem v L → ⊥ = λ v m i.
    elim m [
      | inl eq ↦ (
          let P : ℕ → Type 0 = λ z. Mem z (W ++ ((left ++ L) ++ C)) in
          t.once.0 (subst P eq (elim i [
            | inl a ↦ mem_left W ((left ++ L) ++ C) v a
            | inr b ↦ mem_right W ((left ++ L) ++ C) v (mem_left (left ++ L) C v (mem_right left L v b))
          ]))
          )
      | inr b ↦ elim i [
        | inl a ↦ unique_apart W ((left ++ L) ++ C) v t.once.1 a (mem_left (left ++ L) C v (mem_left left L v b))
        | inr d ↦ unique_apart left L v once_ll b d
      ]
    ] in
    let not_closed : (v : ℕ) → Mem v c → Mem v C → ⊥ = λ v m i.
    elim m [
      | inl eq ↦ (
          let P : ℕ → Type 0 = λ z. Mem z (W ++ ((left ++ L) ++ C)) in
          t.once.0 (subst P eq (mem_right W ((left ++ L) ++ C) v (mem_right (left ++ L) C v i)))
          )
      | inr b ↦ unique_apart (left ++ L) C v once_r (mem_left left L v b) i
    ] in
    let from : (v : ℕ) → Mem v (met_of Gs (closed ++ c ∷ []))
    → Mem v (met_of (record { stops = record { node = at; passed = passed } ∷ []; left = left } ∷ Gs) closed) = λ v m.
    elim (met_cases Gs (closed ++ c ∷ []) v m) [
      | inl i ↦ met_group (record { stops = record { node = at; passed = passed } ∷ []; left = left } ∷ Gs) closed v (inr i)
      | inr b ↦ elim (members_cases closed c v b) [
        | inl d ↦ met_closed (record { stops = record { node = at; passed = passed } ∷ []; left = left } ∷ Gs) closed v d
        | inr d ↦ met_group (record { stops = record { node = at; passed = passed } ∷ []; left = left } ∷ Gs) closed v
            (inl (elim d [ inl eq ↦ inl (inl eq) | inr e ↦ inr e ]))
      ]
    ] in
    let to : (v : ℕ)
    → Mem v (met_of (record { stops = record { node = at; passed = passed } ∷ []; left = left } ∷ Gs) closed)
    → Mem v (met_of Gs (closed ++ c ∷ [])) = λ v m.
    elim (met_cases (record { stops = record { node = at; passed = passed } ∷ []; left = left } ∷ Gs) closed v m) [
      | inl i ↦ elim i [
        | inl a ↦ met_closed Gs (closed ++ c ∷ []) v (members_more closed c v (inr (elim a [
          | inl b ↦ elim b [ inl eq ↦ inl eq | inr n ↦ absurd n ]
          | inr b ↦ inr b
        ])))
        | inr b ↦ met_group Gs (closed ++ c ∷ []) v b
      ]
      | inr b ↦ met_closed Gs (closed ++ c ∷ []) v (members_more closed c v (inl b))
    ] in
    let other : (v : ℕ) → (Mem v c → ⊥) → get_or places' v end ≡ get_or lists.places v end = λ v out.
    placed_other lists.places c k v end out in
    let real_c : (v : ℕ) → Mem v c → HasNode g v = λ v m.
    t.real v (from v (met_closed Gs (closed ++ c ∷ []) v (members_more closed c v (inr m)))) in
    let ends_at : length lists.members + length c ≡ 0 + length C + length c =
    let h : length lists.members ≡ length C = ap (λ (z : List ℕ). length z) t.members_are in omega (arith, h) in
    let same_length : length (lists_of g (concat (closed ++ c ∷ []))) ≡ length (lists_of g (C ++ c)) =
    ap (λ (z : List ℕ). length (lists_of g z)) (members_append closed c) in
    record {
      bound_is = t.bound_is;
      bound_low = t.bound_low;
      sized_places = placed_length lists.places c k ∙ t.sized_places;
      sized_nodes = t.sized_nodes;
      sized_bases = t.sized_bases;
      some = some_more closed c (omega arith) t.some;
      stops = t.stops.1;
      within = t.within.1;
      once =
          unique_append W (L ++ concat (closed ++ c ∷ [])) once_w
          (unique_append L (concat (closed ++ c ∷ [])) (unique_right left L once_ll)
          (let P : List ℕ → Type 0 = λ z. Unique z in
          subst P (sym (members_append closed c)) (unique_append C c (unique_right (left ++ L) C once_r) once_c (λ v a b.
          not_closed v b a)))
          (λ v a b. elim (members_cases closed c v b) [
            | inl d ↦ unique_apart (left ++ L) C v once_r (mem_right left L v a) d
            | inr d ↦ not_group v d (inr a)
          ]))
          (λ v a b. elim (mem_cases L (concat (closed ++ c ∷ [])) v b) [
            | inl d ↦
                unique_apart W ((left ++ L) ++ C) v t.once.1 a (mem_left (left ++ L) C v (mem_right left L v d))
            | inr d ↦ elim (members_cases closed c v d) [
              | inl e ↦ unique_apart W ((left ++ L) ++ C) v t.once.1 a (mem_right (left ++ L) C v e)
              | inr e ↦ not_group v e (inl a)
            ]
          ]);
      real = λ v m. t.real v (from v m);
      counted =
          omega (
            arith,
            t.counted,
            whole,
            lists_append g (left ++ L) C,
            lists_append g left L,
            lists_append g L (concat (closed ++ c ∷ [])),
            same_length,
            lists_append g C c,
            length-append (out_list g at) (lists_of g left),
          );
      numbered =
          numbered_kept end lists.places places' Gs (λ v m. other v (λ i. not_group v i (in_met Gs v m))) t.numbered.3;
      bases_are = t.bases_are.1;
      closed_at = λ j v m. elim (component_more closed c j v m) [
        | inl a ↦
            (let same = other v (λ i. not_closed v i (member closed j v a)) in omega (arith, same, t.closed_at j v a))
        | inr b ↦ (
            let low_v : v < length lists.places = omega (arith, low t v (real_c v b.1), t.sized_places) in
            let same = placed_same lists.places c k v end once_c b.1 low_v in
            omega (arith, same, b.0, few_now, t.stops.0)
            )
      ];
      unmet = λ v below. elim (t.unmet v below) [
        | inl e ↦ inl (other v (λ i. is_new t v e (from v (met_closed Gs (closed ++ c ∷ []) v (members_more closed c v
            (inr i))))) ∙ e)
        | inr m ↦ inr (to v m)
      ];
      at_top = omega (arith, t.at_top, length-append left L);
      behind = drop_more left L lists.top lists.nodes t.behind;
      members_are = ap (λ (z : List ℕ). z ++ c) t.members_are ∙ sym (members_append closed c);
      ends_are =
          ap (λ (z : List ℕ). z ++ (length lists.members + length c) ∷ []) t.ends_are
          ∙ (ap (λ (z : ℕ). ends_of 0 closed ++ z ∷ []) ends_at ∙ sym (ends_append 0 closed c));
    }
  where
    drop_more : (xs ys : List ℕ) (top : ℕ) (nodes : List ℕ) → drop top nodes ≡ xs ++ ys → drop (top + length xs) nodes ≡ ys
    drop_more xs ys top nodes is =
        sym (drop-drop (length xs) top nodes) ∙ (ap (λ (z : List ℕ). drop (length xs) z) is ∙ drop-append_seam xs ys)
