-- The search for components: groups of nodes that reach each other, and the components that were closed.
use Rattle.std.proofs.Common.{◌≡◌, ◌≢◌, ℕ, zero, suc, ◌<◌, ◌≤◌, ◌⊎◌, ◌↔◌, inl, inr, List, [], ◌∷◌, ◌++◌}
use Rattle.std.proofs.Common.{length, drop}
use Rattle.std.proofs.Common.{refl, sym, subst, arith}
use Rattle.daggy_base.specs.Graph.{Graph, HasNode, out_list}
use Rattle.daggy_base.specs.Path.{AreJoined, Reaches}
use Rattle.daggy_base.specs.Cursor.{first_of}
use Rattle.daggy_base.specs.WellFormed.{IsWellFormed}
use Rattle.daggy_base.specs.Look.{IsLook}
use Rattle.daggy_base.proofs.Lists.{Mem, Unique, mem_left, mem_right, mem_cases, unique_right, contains_mem}
use Rattle.daggy_base.proofs.Lists.{mem_contains, distinct_from_unique}
use Rattle.daggy_base.proofs.OutEdgesRead.{LookedTo, all_read, child_exists}
use Rattle.daggy_base.proofs.OutEdgesRead.{child_joined, looked_more}
use Rattle.daggy_base.proofs.LongerPaths.{reaches_more}
use Rattle.daggy_base.proofs.PathsWithEdge.{reaches_itself, reaches_on}
use Rattle.daggy_search.proofs.SearchProgress.{reaches_stays}
use Rattle.daggy_search.proofs.FinishingOrder.{Stop, nodes_of}
use Rattle.std.specs.List.{concat}
use Rattle.daggy_components.specs.Components.{AreComponents, component}

-- A group of nodes that reach each other and are in no component yet: those on the way, last one first, and those that
-- were left, last one first.
pub record Group : Type 0 where
  pub stops : List Stop
  pub left : List ℕ

abbrev pub In : Group → ℕ → Type 0
In G v = Mem v (nodes_of G.stops) ⊎ Mem v G.left

abbrev pub InSome : List Group → ℕ → Type 0
InSome [] v = ⊥
InSome (G ∷ Gs) v = In G v ⊎ InSome Gs v

-- what was looked at leads to nodes of a kind
abbrev pub AreRead : {N E : Type 0} → (end : ℕ) → Graph N E → (P : ℕ → Type 0) → List Stop → Type 0
AreRead end g P [] = Unit {0}
AreRead end g P (s ∷ ss) = LookedTo end g P s.node s.passed × AreRead end g P ss

-- Groups, last one first. Each node of a group reaches the group and all above it, and what was looked at leads there
-- or to nodes that are done.
abbrev pub AreGroups : {N E : Type 0} → (end : ℕ) → Graph N E → (Done Above : ℕ → Type 0) → List Group → Type 0
AreGroups end g Done Above [] = Unit {0}
AreGroups end g Done Above (G ∷ Gs) =
    ((u v : ℕ) → In G u → In G v ⊎ Above v → Reaches g u v)
    × AreRead end g (λ v. (In G v ⊎ Above v) ⊎ Done v) G.stops
    × ((u v : ℕ) → Mem u G.left → AreJoined g u v → (In G v ⊎ Above v) ⊎ Done v)
    × AreGroups end g Done (λ v. In G v ⊎ Above v) Gs

-- Components in the order in which they were closed, after nodes that were closed before: their nodes reach each other,
-- and lead to them and to earlier ones alone.
abbrev pub AreClosed : {N E : Type 0} → Graph N E → (Before : ℕ → Type 0) → List (List ℕ) → Type 0
AreClosed g Before [] = Unit {0}
AreClosed g Before (c ∷ cs) =
    ((u v : ℕ) → Mem u c → Mem v c → Reaches g u v) × ((u v : ℕ) → Mem u c → AreJoined g u v → Before v ⊎ Mem v c)
    × AreClosed g (λ v. Before v ⊎ Mem v c) cs

read_more : {N E : Type 0} (end : ℕ) (g : Graph N E) (P Q : ℕ → Type 0) (ss : List Stop)
    → ((v : ℕ) → P v → Q v) → AreRead end g P ss → AreRead end g Q ss
read_more end g P Q [] f h = tt
read_more end g P Q (s ∷ ss) f h = (λ j x lt a. f x.child (h.0 j x lt a), read_more end g P Q ss f h.1)

read_append : {N E : Type 0} (end : ℕ) (g : Graph N E) (P : ℕ → Type 0) (ss ts : List Stop)
    → AreRead end g P ss → AreRead end g P ts → AreRead end g P (ss ++ ts)
read_append end g P [] ts h k = k
read_append end g P (s ∷ ss) ts h k = (h.0, read_append end g P ss ts h.1 k)

-- each node reaches what is above
pub reaches_above : {N E : Type 0} (end : ℕ) (g : Graph N E) (Done Above : ℕ → Type 0) (Gs : List Group)
    → AreGroups end g Done Above Gs → (u v : ℕ) → InSome Gs u → Above v → Reaches g u v
reaches_above end g Done Above [] h u v m a = absurd m
reaches_above end g Done Above (G ∷ Gs) h u v m a =
    elim m [
      | inl i ↦ h.0 u v i (inr a)
      | inr b ↦ reaches_above end g Done (λ z. In G z ⊎ Above z) Gs h.3 u v b (inr a)
    ]

-- what is above changes, and what is done grows
pub groups_kept : {N E : Type 0} (end : ℕ) (g : Graph N E) (Done Done' Above Above' : ℕ → Type 0) (Gs : List Group)
    → AreGroups end g Done Above Gs → ((u v : ℕ) → InSome Gs u → Above' v → Reaches g u v)
    → ((v : ℕ) → Above v ⊎ Done v → Above' v ⊎ Done' v) → AreGroups end g Done' Above' Gs
groups_kept end g Done Done' Above Above' [] h reach more = tt
groups_kept end g Done Done' Above Above' (G ∷ Gs) h reach more =
    let to : (v : ℕ) → (In G v ⊎ Above v) ⊎ Done v → (In G v ⊎ Above' v) ⊎ Done' v = λ v m.
    elim m [
      | inl a ↦ elim a [
        | inl i ↦ inl (inl i)
        | inr b ↦ elim (more v (inl b)) [ inl c ↦ inl (inr c) | inr d ↦ inr d ]
      ]
      | inr d ↦ elim (more v (inr d)) [ inl c ↦ inl (inr c) | inr e ↦ inr e ]
    ] in (
      λ u v i m. elim m [ inl a ↦ h.0 u v i (inl a) | inr b ↦ reach u v (inl i) b ],
      read_more end g (λ v. (In G v ⊎ Above v) ⊎ Done v) (λ v. (In G v ⊎ Above' v) ⊎ Done' v) G.stops to h.1,
      λ u v m j. to v (h.2 u v m j),
      groups_kept end g Done Done' (λ v. In G v ⊎ Above v) (λ v. In G v ⊎ Above' v) Gs h.3 (λ u v m i.
          elim i [
            | inl a ↦ reaches_above end g Done (λ z. In G z ⊎ Above z) Gs h.3 u v m (inl a)
            | inr b ↦ reach u v (inr m) b
          ]) to,
    )

nodes_append : (ss ts : List Stop) (v : ℕ)
    → Mem v (nodes_of (ss ++ ts)) → Mem v (nodes_of ss) ⊎ Mem v (nodes_of ts)
nodes_append [] ts v m = inr m
nodes_append (s ∷ ss) ts v m =
    elim m [
      | inl e ↦ inl (inl e)
      | inr b ↦ elim (nodes_append ss ts v b) [ inl c ↦ inl (inr c) | inr d ↦ inr d ]
    ]

nodes_left : (ss ts : List Stop) (v : ℕ) → Mem v (nodes_of ss) → Mem v (nodes_of (ss ++ ts))
nodes_left [] ts v m = absurd m
nodes_left (s ∷ ss) ts v m = elim m [ inl e ↦ inl e | inr b ↦ inr (nodes_left ss ts v b) ]

nodes_right : (ss ts : List Stop) (v : ℕ) → Mem v (nodes_of ts) → Mem v (nodes_of (ss ++ ts))
nodes_right [] ts v m = m
nodes_right (s ∷ ss) ts v m = inr (nodes_right ss ts v m)

-- two groups as one
abbrev pub merged : Group → Group → Group
merged G H = record { stops = G.stops ++ H.stops; left = G.left ++ H.left }

pub in_merged : (G H : Group) (v : ℕ) → In (merged G H) v → In G v ⊎ In H v
in_merged G H v m =
    elim m [
      | inl a ↦ elim (nodes_append G.stops H.stops v a) [ inl c ↦ inl (inl c) | inr d ↦ inr (inl d) ]
      | inr b ↦ elim (mem_cases G.left H.left v b) [ inl c ↦ inl (inr c) | inr d ↦ inr (inr d) ]
    ]

pub merged_left : (G H : Group) (v : ℕ) → In G v → In (merged G H) v
merged_left G H v m =
    elim m [
      | inl a ↦ inl (nodes_left G.stops H.stops v a)
      | inr b ↦ inr (mem_left G.left H.left v b)
    ]

pub merged_right : (G H : Group) (v : ℕ) → In H v → In (merged G H) v
merged_right G H v m =
    elim m [
      | inl a ↦ inl (nodes_right G.stops H.stops v a)
      | inr b ↦ inr (mem_right G.left H.left v b)
    ]

abbrev pub Nothing : ℕ → Type 0
Nothing v = ⊥

module _ {N E : Type 0} {end : ℕ} {g : Graph N E} (w : IsWellFormed end g) (Done : ℕ → Type 0) where
  -- an edge from the last group to a lower one joins it with the one below it
  pub merges : (G H : Group) (Gs : List Group) (at v : ℕ) → In G at → AreJoined g at v → InSome (H ∷ Gs) v
      → AreGroups end g Done Nothing (G ∷ H ∷ Gs) → AreGroups end g Done Nothing (merged G H ∷ Gs)
  merges G H Gs at v here j low h =
      let M = merged G H in
      -- a node of either group, as it is seen from below
      let either : (z : ℕ) → In M z ⊎ ⊥ → In H z ⊎ (In G z ⊎ ⊥) = λ z m.
      elim m [
        | inl i ↦ elim (in_merged G H z i) [ inl a ↦ inr (inl a) | inr b ↦ inl b ]
        | inr n ↦ absurd n
      ] in
      let back : (z : ℕ) → In M z ⊎ ⊥ → Reaches g v z = λ z m.
      elim low [
        | inl i ↦ h.3.0 v z i (either z m)
        | inr b ↦ reaches_above end g Done (λ y. In H y ⊎ (In G y ⊎ ⊥)) Gs h.3.3 v z b (either z m)
      ] in
      let to_g : (z : ℕ) → (In G z ⊎ ⊥) ⊎ Done z → (In M z ⊎ ⊥) ⊎ Done z = λ z m.
      elim m [
        | inl a ↦ elim a [ inl i ↦ inl (inl (merged_left G H z i)) | inr n ↦ absurd n ]
        | inr d ↦ inr d
      ] in
      let to_h : (z : ℕ) → (In H z ⊎ (In G z ⊎ ⊥)) ⊎ Done z → (In M z ⊎ ⊥) ⊎ Done z = λ z m.
      elim m [
        | inl a ↦ elim a [
          | inl i ↦ inl (inl (merged_right G H z i))
          | inr b ↦ elim b [ inl i ↦ inl (inl (merged_left G H z i)) | inr n ↦ absurd n ]
        ]
        | inr d ↦ inr d
      ] in
      let exists : HasNode g v = w.children j.0 _ j.2 in (
        λ x z i m. elim (in_merged G H x i) [
          | inl a ↦ reaches_on g x v z (reaches_more g x at v (h.0 x at a (inl here)) j exists) (back z m)
          | inr b ↦ h.3.0 x z b (either z m)
        ],
        read_append end g (λ z. (In M z ⊎ ⊥) ⊎ Done z) G.stops H.stops (read_more end g _ _ G.stops to_g h.1)
            (read_more end g _ _ H.stops to_h h.3.1),
        λ x z m k. elim (mem_cases G.left H.left x m) [
          | inl a ↦ to_g z (h.2 x z a k)
          | inr b ↦ to_h z (h.3.2 x z b k)
        ],
        groups_kept end g Done Done (λ z. In H z ⊎ (In G z ⊎ ⊥)) (λ z. In M z ⊎ ⊥) Gs h.3.3 (λ x z m i.
            reaches_above end g Done (λ y. In H y ⊎ (In G y ⊎ ⊥)) Gs h.3.3 x z m (either z i)) to_h,
      )

-- at a cursor
module _ {N E : Type 0} {end : ℕ} {g : Graph N E} (w : IsWellFormed end g) (Done : ℕ → Type 0) (at passed : ℕ)
    (ss : List Stop) (left : List ℕ) (Gs : List Group) {e : ℕ}
    (cursor : e ≡ first_of end (drop passed (out_list g at))) where
  -- the last group, with so many edges looked at
  abbrev pub last : ℕ → Group
  last k = record { stops = record { node = at; passed = k } ∷ ss; left = left }

  module _ (here : e ≢ end) (v next : ℕ) (look : IsLook end g e v next) where
    -- a child that is done, of the group, or above
    pub passes_over : (Above : ℕ → Type 0) → (In (last passed) v ⊎ Above v) ⊎ Done v
        → AreGroups end g Done Above (last passed ∷ Gs) → AreGroups end g Done Above (last (suc passed) ∷ Gs)
    passes_over Above to h = (
      h.0,
      (
        looked_more end g w at passed e cursor here v next look (λ z. (In (last passed) z ⊎ Above z) ⊎ Done z) h.1.0 to,
        h.1.1,
      ),
      h.2,
      h.3,
    )

    -- a child that was not met begins a group
    pub goes_in : AreGroups end g Done Nothing (last passed ∷ Gs)
        → AreGroups end g Done Nothing
        (record { stops = record { node = v; passed = 0 } ∷ []; left = [] } ∷ last (suc passed) ∷ Gs)
    goes_in h =
        let exists = child_exists end g w at passed e cursor here v next look in
        let joined = child_joined end g w at passed e cursor here v next look in
        let new : Group = record { stops = record { node = v; passed = 0 } ∷ []; left = [] } in
        let is : (z : ℕ) → In new z ⊎ ⊥ → z ≡ v = λ z m.
        elim m [
          | inl a ↦ elim a [ inl b ↦ elim b [ inl eq ↦ eq | inr n ↦ absurd n ] | inr n ↦ absurd n ]
          | inr n ↦ absurd n
        ] in
        let own : In (last passed) at = inl (inl refl) in
        let reach : (u z : ℕ) → InSome (last passed ∷ Gs) u → In new z ⊎ ⊥ → Reaches g u z = λ u z m i.
        let to_at : Reaches g u at = elim m [
          | inl a ↦ h.0 u at a (inl own)
          | inr b ↦ reaches_above end g Done (λ y. In (last passed) y ⊎ ⊥) Gs h.3 u at b (inl own)
        ] in
        let P : ℕ → Type 0 = λ y. Reaches g u y in
        subst P (sym (is z i)) (reaches_more g u at v to_at joined exists) in
        let raised : AreGroups end g Done (λ z. In new z ⊎ ⊥) (last passed ∷ Gs) =
        groups_kept end g Done Done Nothing (λ z. In new z ⊎ ⊥) (last passed ∷ Gs) h reach (λ z m.
        elim m [ inl n ↦ absurd n | inr d ↦ inr d ]) in (
          λ u z i m.
              let P : ℕ → Type 0 = λ y. Reaches g y z in
              let Q : ℕ → Type 0 = λ y. Reaches g v y in
              subst P (sym (is u (inl i))) (subst Q (sym (is z m)) (reaches_itself g v exists)),
          (λ j x lt a. absurd (omega arith), tt),
          λ u z m k. absurd m,
          passes_over (λ z. In new z ⊎ ⊥) (inl (inr (inl (inl (inl refl))))) raised,
        )

  module _ (few : passed ≤ length (out_list g at)) (h : e ≡ end) where
    -- a node that is not the first of its group is left
    pub leaves : AreGroups end g Done Nothing (last passed ∷ Gs)
        → AreGroups end g Done Nothing (record { stops = ss; left = at ∷ left } ∷ Gs)
    leaves k =
        let old = last passed in
        let new : Group = record { stops = ss; left = at ∷ left } in
        let to : (z : ℕ) → In old z → In new z = λ z m.
        elim m [
          | inl a ↦ elim a [ inl eq ↦ inr (inl eq) | inr b ↦ inl b ]
          | inr b ↦ inr (inr b)
        ] in
        let from : (z : ℕ) → In new z → In old z = λ z m.
        elim m [
          | inl a ↦ inl (inr a)
          | inr b ↦ elim b [ inl eq ↦ inl (inl eq) | inr c ↦ inr c ]
        ] in
        let on : (z : ℕ) → (In old z ⊎ ⊥) ⊎ Done z → (In new z ⊎ ⊥) ⊎ Done z = λ z m.
        elim m [
          | inl a ↦ elim a [ inl i ↦ inl (inl (to z i)) | inr n ↦ absurd n ]
          | inr d ↦ inr d
        ] in
        let under : (z : ℕ) → In new z ⊎ ⊥ → In old z ⊎ ⊥ = λ z m.
        elim m [ inl i ↦ inl (from z i) | inr n ↦ absurd n ] in (
          λ u z i m. k.0 u z (from u i) (under z m),
          read_more end g _ _ ss on k.1.1,
          λ u z m j. elim m [
            | inl eq ↦ (
                let P : ℕ → Type 0 = λ y. AreJoined g y z in
                on z (all_read end g w at passed e cursor few h (λ y. (In old y ⊎ ⊥) ⊎ Done y) k.1.0 z (subst P eq j))
                )
            | inr b ↦ on z (k.2 u z b j)
          ],
          groups_kept end g Done Done (λ z. In old z ⊎ ⊥) (λ z. In new z ⊎ ⊥) Gs k.3 (λ u z m i.
              reaches_above end g Done (λ y. In old y ⊎ ⊥) Gs k.3 u z m (under z i)) on,
        )

-- one more component
pub members_more : (cs : List (List ℕ)) (c : List ℕ) (v : ℕ)
    → Mem v (concat cs) ⊎ Mem v c → Mem v (concat (cs ++ c ∷ []))
members_more [] c v m = elim m [ inl n ↦ absurd n | inr b ↦ mem_left c [] v b ]
members_more (d ∷ cs) c v m =
    elim m [
      | inl a ↦ elim (mem_cases d (concat cs) v a) [
        | inl b ↦ mem_left d _ v b
        | inr b ↦ mem_right d _ v (members_more cs c v (inl b))
      ]
      | inr b ↦ mem_right d _ v (members_more cs c v (inr b))
    ]

closed_more : {N E : Type 0} (g : Graph N E) (Before : ℕ → Type 0) (cs : List (List ℕ)) (c : List ℕ)
    → AreClosed g Before cs → ((u v : ℕ) → Mem u c → Mem v c → Reaches g u v)
    → ((u v : ℕ) → Mem u c → AreJoined g u v → (Before v ⊎ Mem v (concat cs)) ⊎ Mem v c)
    → AreClosed g Before (cs ++ c ∷ [])
closed_more g Before [] c h strong on = (
  strong,
  λ u v m j. elim (on u v m j) [
    | inl a ↦ elim a [ inl b ↦ inl b | inr n ↦ absurd n ]
    | inr i ↦ inr i
  ],
  tt,
)
closed_more g Before (d ∷ cs) c h strong on = (
  h.0,
  h.1,
  closed_more g (λ v. Before v ⊎ Mem v d) cs c h.2 strong (λ u v m j.
      elim (on u v m j) [
        | inl a ↦ elim a [
          | inl b ↦ inl (inl (inl b))
          | inr b ↦ elim (mem_cases d (concat cs) v b) [ inl x ↦ inl (inl (inr x)) | inr y ↦ inl (inr y) ]
        ]
        | inr i ↦ inr i
      ]),
)

-- the first node of the last group is left, so the group is a component
module _ {N E : Type 0} {end : ℕ} {g : Graph N E} (w : IsWellFormed end g) (closed : List (List ℕ)) (at passed : ℕ)
    (left : List ℕ) (Gs : List Group) {e : ℕ} (cursor : e ≡ first_of end (drop passed (out_list g at)))
    (few : passed ≤ length (out_list g at)) (h : e ≡ end) where
  abbrev pub whole : Group
  whole = record { stops = record { node = at; passed = passed } ∷ []; left = left }

  -- its nodes
  is_node : (v : ℕ) → In whole v → Mem v (at ∷ left)
  is_node v m =
      elim m [
        | inl a ↦ elim a [ inl eq ↦ inl eq | inr n ↦ absurd n ]
        | inr b ↦ inr b
      ]

  node_is : (v : ℕ) → Mem v (at ∷ left) → In whole v
  node_is v m = elim m [ inl eq ↦ inl (inl eq) | inr b ↦ inr b ]

  into : (v : ℕ) → (In whole v ⊎ ⊥) ⊎ Mem v (concat closed) → (⊥ ⊎ Mem v (concat closed)) ⊎ Mem v (at ∷ left)
  into v m =
      elim m [
        | inl a ↦ elim a [ inl i ↦ inr (is_node v i) | inr n ↦ absurd n ]
        | inr b ↦ inl (inr b)
      ]

  pub closes : AreClosed g Nothing closed
      → AreGroups end g (λ v. Mem v (concat closed)) Nothing (whole ∷ Gs)
      → AreClosed g Nothing (closed ++ (at ∷ left) ∷ [])
      × AreGroups end g (λ v. Mem v (concat (closed ++ (at ∷ left) ∷ []))) Nothing Gs
  closes c k = (
    closed_more g Nothing closed (at ∷ left) c (λ u v a b. k.0 u v (node_is u a) (inl (node_is v b))) (λ u v m j.
        elim m [
          | inl eq ↦ (
              let P : ℕ → Type 0 = λ y. AreJoined g y v in
              into v (all_read end g w at passed e cursor few h (λ y. (In whole y ⊎ ⊥) ⊎ Mem y (concat closed)) k.1.0 v
              (subst P eq j))
              )
          | inr b ↦ into v (k.2 u v b j)
        ]),
    groups_kept end g (λ v. Mem v (concat closed)) (λ v. Mem v (concat (closed ++ (at ∷ left) ∷ [])))
        (λ v. In whole v ⊎ ⊥) Nothing Gs k.3 (λ u v m n. absurd n) (λ v m.
        inr (members_more closed (at ∷ left) v (elim (into v m) [
          | inl a ↦ elim a [ inl n ↦ absurd n | inr b ↦ inl b ]
          | inr b ↦ inr b
        ]))),
  )

-- a node of a component
pub member : (cs : List (List ℕ)) (k v : ℕ) → Mem v (component cs k) → Mem v (concat cs)
member [] k v m = absurd m
member (c ∷ cs) zero v m = mem_left c (concat cs) v m
member (c ∷ cs) (suc k) v m = mem_right c (concat cs) v (member cs k v m)

pub unique_apart : (xs ys : List ℕ) (x : ℕ) → Unique (xs ++ ys) → Mem x xs → Mem x ys → ⊥
unique_apart [] ys x u a b = absurd a
unique_apart (y ∷ xs) ys x u a b =
    elim a [
      | inl eq ↦ (let P : ℕ → Type 0 = λ z. Mem z (xs ++ ys) in u.0 (subst P eq (mem_right xs ys x b)))
      | inr m ↦ unique_apart xs ys x u.1 m b
    ]

-- nodes before, which no edge leads out of
module _ {N E : Type 0} (g : Graph N E) where
  -- no edge leads out of the first component and the nodes before it
  first_stays : (Before : ℕ → Type 0) (c : List ℕ) (cs : List (List ℕ)) → AreClosed g Before (c ∷ cs)
      → ((u v : ℕ) → Before u → AreJoined g u v → Before v)
      → (u v : ℕ) → Before u ⊎ Mem u c → AreJoined g u v → Before v ⊎ Mem v c
  first_stays Before c cs h stays u v m j = elim m [ inl b ↦ inl (stays u v b j) | inr i ↦ h.1 u v i j ]

  first_apart : (Before : ℕ → Type 0) (c : List ℕ) (cs : List (List ℕ)) → Unique (c ++ concat cs)
      → ((u : ℕ) → Before u → Mem u (c ++ concat cs) → ⊥)
      → (u : ℕ) → Before u ⊎ Mem u c → Mem u (concat cs) → ⊥
  first_apart Before c cs once apart u m i =
      elim m [
        | inl b ↦ apart u b (mem_right c (concat cs) u i)
        | inr a ↦ unique_apart c (concat cs) u once a i
      ]

  -- nodes that reach each other are in one component
  pub one_class : (Before : ℕ → Type 0) (cs : List (List ℕ)) → AreClosed g Before cs → Unique (concat cs)
      → ((u v : ℕ) → Before u → AreJoined g u v → Before v)
      → ((u : ℕ) → Before u → Mem u (concat cs) → ⊥)
      → (k u v : ℕ) → Mem u (component cs k) → Reaches g u v → Reaches g v u → Mem v (component cs k)
  one_class Before [] h once stays apart k u v m r back = absurd m
  one_class Before (c ∷ cs) h once stays apart zero u v m r back =
      elim (reaches_stays g (λ z. Before z ⊎ Mem z c) (first_stays Before c cs h stays) u v r (inr m)) [
        | inl b ↦ absurd (apart u (reaches_stays g Before stays v u back b) (mem_left c (concat cs) u m))
        | inr i ↦ i
      ]
  one_class Before (c ∷ cs) h once stays apart (suc k) u v m r back =
      one_class (λ z. Before z ⊎ Mem z c) cs h.2 (unique_right c (concat cs) once) (first_stays Before c cs h stays)
      (first_apart Before c cs once apart) k u v m r back

  -- the nodes of a component reach each other
  pub reach_all : (Before : ℕ → Type 0) (cs : List (List ℕ)) → AreClosed g Before cs
      → (k u v : ℕ) → Mem u (component cs k) → Mem v (component cs k) → Reaches g u v
  reach_all Before [] h k u v m i = absurd m
  reach_all Before (c ∷ cs) h zero u v m i = h.0 u v m i
  reach_all Before (c ∷ cs) h (suc k) u v m i = reach_all (λ z. Before z ⊎ Mem z c) cs h.2 k u v m i

  -- an edge leads to the same component or to an earlier one
  pub leads_back : (Before : ℕ → Type 0) (cs : List (List ℕ)) → AreClosed g Before cs → Unique (concat cs)
      → ((u : ℕ) → Before u → Mem u (concat cs) → ⊥)
      → (j k u v : ℕ) → AreJoined g u v → Mem u (component cs j) → Mem v (component cs k) → k ≤ j
  leads_back Before [] h once apart j k u v e m i = absurd m
  leads_back Before (c ∷ cs) h once apart j zero u v e m i = omega arith
  leads_back Before (c ∷ cs) h once apart zero (suc k) u v e m i =
      absurd (first_apart Before c cs once apart v (h.1 u v m e) (member cs k v i))
  leads_back Before (c ∷ cs) h once apart (suc j) (suc k) u v e m i =
      let low =
      leads_back (λ z. Before z ⊎ Mem z c) cs h.2 (unique_right c (concat cs) once)
      (first_apart Before c cs once apart) j k u v e m i in
      omega (arith, low)

  -- all nodes are in components
  pub are_components : (cs : List (List ℕ)) → AreClosed g Nothing cs → Unique (concat cs)
      → ((k : ℕ) → k < length cs → component cs k ≢ []) → ((n : ℕ) → Mem n (concat cs) ↔ HasNode g n)
      → AreComponents g cs
  are_components cs h once some exact =
      record {
        exact = λ n. (
          λ m. (exact n).0 (contains_mem (concat cs) n m),
          λ x. mem_contains (concat cs) n ((exact n).1 x),
        );
        once = distinct_from_unique (concat cs) once;
        some = some;
        class = λ k u v m.
            let here = contains_mem (component cs k) u m in (
              λ i. let there = contains_mem (component cs k) v i in (
                reach_all Nothing cs h k u v here there,
                reach_all Nothing cs h k v u there here,
              ),
              λ r. mem_contains (component cs k) v (one_class Nothing cs h once (λ a b n j. absurd n) (λ a n x. absurd n) k
                  u v here r.0 r.1),
            );
        order = λ j k u v e m i.
            leads_back Nothing cs h once (λ a n x. absurd n) j k u v e (contains_mem (component cs j) u m)
            (contains_mem (component cs k) v i);
      }
