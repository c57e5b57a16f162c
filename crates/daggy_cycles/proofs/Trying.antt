-- Edges that are tried in turn.
use Rattle.std.proofs.Common.{◌≡◌, ℕ, zero, suc, ◌<◌, ◌≤◌, ◌↔◌, ◌⊎◌, inl, inr, Bool, true, false, List, []}
use Rattle.std.proofs.Common.{◌∷◌, ◌++◌, length, get_or, set, Option, Some, None, IsSome, is_some, refl, sym, ap, subst}
use Rattle.std.proofs.Common.{◌∙◌, arith, length-set, count_by}
use Rattle.std.proofs.lemmas.List.Sums.{count_by-le-length}
use Rattle.std.specs.List.{Contains}
use Rattle.std.proofs.lemmas.Bool.{cases_eq, false≢true}
use Rattle.std.proofs.lemmas.List.{get_or-set_other, get_or-set_same}
use Rattle.daggy_base.specs.Graph.{Graph, Edge, HasNode, HasEdge, edge_at, edge_bound, edge_count, slot}
use Rattle.daggy_base.specs.Path.{AreJoined, IsPath, Reaches, IsAcyclic, end_of}
use Rattle.daggy_base.specs.Adding.{with_edge}
use Rattle.daggy_base.specs.WellFormed.{IsWellFormed}
use Rattle.daggy_base.proofs.Lists.{Mem, Unique, mem_left, mem_right, mem_cases, contains_mem, mem_contains, split_at}
use Rattle.daggy_base.proofs.Lists.{unique_from_distinct, distinct_from_unique, unique_append, pigeon}
use Rattle.daggy_base.proofs.OutEdgesRead.{below_bound, slot_get_or}
use Rattle.daggy_base.proofs.PathsWithEdge.{reaches_itself, reaches_before, reaches_on, no_round, joined_cases}
use Rattle.daggy_base.proofs.PathsWithEdge.{joined_kept, joined_new, free_edge}
use Rattle.daggy_guard.proofs.AcceptedEdges.{count_with_edge}
use Rattle.daggy_components.specs.Components.{ReachEachOther}
use Rattle.daggy_cycles.specs.EdgeWays.{Lead}
use Rattle.daggy_cycles.specs.Feedback.{AreLeftOut, ClosesCycle}
use Rattle.daggy_cycles.specs.Trying.{AreTried, AreMany, IsKept}
use Rattle.daggy_cycles.proofs.Ways.{lead_reaches, joins}

-- lists

pub is_mem : (x : ℕ) (xs : List ℕ) → Mem x xs ⊎ (Mem x xs → ⊥)
is_mem x [] = inr (λ m. absurd m)
is_mem x (y ∷ ys) =
    elim (cases_eq x y) [
      | inl same ↦ inl (inl same)
      | inr differs ↦ elim (is_mem x ys) [
        | inl m ↦ inl (inr m)
        | inr out ↦ inr (λ m. elim m [ inl same ↦ differs same | inr more ↦ out more ])
      ]
    ]

-- a list with one more element, cut in two: at that element, or before it
last_or_before : (xs : List ℕ) (x : ℕ) (before : List ℕ) (y : ℕ) (after : List ℕ) → xs ++ x ∷ [] ≡ before ++ y ∷ after
    → ((before ≡ xs) × (y ≡ x)) ⊎ ((rest : List ℕ) × (xs ≡ before ++ y ∷ rest))
last_or_before [] x [] y after e = inl (refl, cc)
last_or_before [] x (b ∷ []) y after e = absurd cc
last_or_before [] x (b ∷ c ∷ bs) y after e = absurd cc
last_or_before (z ∷ xs) x [] y after e = let same : z ≡ y = cc in inr (xs, ap (λ (n : ℕ). n ∷ xs) same)
last_or_before (z ∷ xs) x (b ∷ bs) y after e =
    let first : z ≡ b = cc in
    let tail : xs ++ x ∷ [] ≡ bs ++ y ∷ after = cc in
    elim (last_or_before xs x bs y after tail) [
      | inl h ↦ inl (ap (λ (n : ℕ). n ∷ bs) (sym first) ∙ ap (λ (l : List ℕ). z ∷ l) h.0, h.1)
      | inr h ↦ inr (h.0, ap (λ (n : ℕ). n ∷ xs) first ∙ ap (λ (l : List ℕ). b ∷ l) h.1)
    ]

pub slot_is : {A : Type 0} (xs : List (Option A)) (i : ℕ) → slot xs i ≡ get_or xs i None
slot_is [] i = refl
slot_is (x ∷ xs) zero = refl
slot_is (x ∷ xs) (suc i) = slot_is xs i

pub more_of : (xs : List ℕ) (x e : ℕ) → Contains xs e → Contains (xs ++ x ∷ []) e
more_of xs x e c = mem_contains (xs ++ x ∷ []) e (mem_left xs (x ∷ []) e (contains_mem xs e c))

pub last_of : (xs : List ℕ) (x : ℕ) → Contains (xs ++ x ∷ []) x
last_of xs x = mem_contains (xs ++ x ∷ []) x (mem_right xs (x ∷ []) x (inl refl))

pub of_more : (xs : List ℕ) (x e : ℕ) → Contains (xs ++ x ∷ []) e → Contains xs e ⊎ (e ≡ x)
of_more xs x e c =
    elim (mem_cases xs (x ∷ []) e (contains_mem (xs ++ x ∷ []) e c)) [
      | inl a ↦ inl (mem_contains xs e a)
      | inr b ↦ elim b [ inl same ↦ inr same | inr none ↦ absurd none ]
    ]

before_in : (xs before : List ℕ) (e : ℕ) (after : List ℕ) → xs ≡ before ++ e ∷ after → (d : ℕ) → Contains before d
    → Contains xs d
before_in xs before e after is d c =
    let P : List ℕ → Type 0 = λ z. Contains z d in
    subst P (sym is) (mem_contains (before ++ e ∷ after) d (mem_left before (e ∷ after) d (contains_mem before d c)))

here_in : (xs before : List ℕ) (e : ℕ) (after : List ℕ) → xs ≡ before ++ e ∷ after → Contains xs e
here_in xs before e after is =
    let P : List ℕ → Type 0 = λ z. Contains z e in
    subst P (sym is) (mem_contains (before ++ e ∷ after) e (mem_right before (e ∷ after) e (inl refl)))

-- closing edges

module _ {N E : Type 0} {g : Graph N E} where
  -- what is kept, said of other lists
  kept_as : {tried out tried' out' : List ℕ} {u v : ℕ} (k : IsKept g tried out u v) → Contains tried' k.index
      → ¬ Contains out' k.index → IsKept g tried' out' u v
  kept_as k t o =
      record {
        index = k.index;
        edge = k.edge;
        at = k.at;
        from = k.from;
        to = k.to;
        tried_is = t;
        stays = o;
        round = k.round;
      }

  -- with more edges before it, an edge still closes a cycle
  closes_more : {tried out tried' : List ℕ} {x : Edge E} → ((e : ℕ) → Contains tried e → Contains tried' e)
      → ClosesCycle g tried out x → ClosesCycle g tried' out x
  closes_more more c =
      record { way = c.way; leads = c.leads; kept = λ e m. let h = c.kept e m in (more e h.0, h.1) }

  -- the same, if the edges that are left out are others
  closes_with : {tried out out' : List ℕ} {x : Edge E}
      → ((e : ℕ) → Contains tried e → ¬ Contains out e → ¬ Contains out' e)
      → ClosesCycle g tried out x → ClosesCycle g tried out' x
  closes_with others c =
      record { way = c.way; leads = c.leads; kept = λ e m. let h = c.kept e m in (h.0, others e h.0 h.1) }

  -- one more edge is tried, and none is left out
  passes : {tried out : List ℕ} {e : ℕ} → AreLeftOut g tried out
      → ((x : Edge E) → edge_at g e ≡ Some x → Contains out e ↔ ClosesCycle g tried out x)
      → AreLeftOut g (tried ++ e ∷ []) out
  passes {tried} {out} {e} a here =
      record {
        exact = λ before after d x is at. elim (last_or_before tried e before d after is) [
          | inl h ↦ (
              let P : List ℕ → Type 0 = λ z. Contains out d ↔ ClosesCycle g z out x in
              let Q : ℕ → Type 0 = λ z. edge_at g z ≡ Some x in
              let R : ℕ → Type 0 = λ z. Contains out z ↔ ClosesCycle g tried out x in
              subst P (sym h.0) (subst R (sym h.1) (here x (subst Q h.1 at)))
              )
          | inr h ↦ a.exact before h.0 d x h.1 at
        ];
        edges = a.edges;
        once = a.once;
      }

  -- one more edge is tried and left out
  leaves_out : {tried out : List ℕ} {e : ℕ} {y : Edge E} → AreLeftOut g tried out
      → ((d : ℕ) → Contains out d → Contains tried d) → ¬ Contains tried e → edge_at g e ≡ Some y
      → ClosesCycle g tried out y → AreLeftOut g (tried ++ e ∷ []) (out ++ e ∷ [])
  leaves_out {tried} {out} {e} {y} a within new at_e closes =
      let others : (d : ℕ) → Contains tried d → ¬ Contains out d → ¬ Contains (out ++ e ∷ []) d = λ d t o m.
      elim (of_more out e d m) [
        | inl old ↦ o old
        | inr same ↦ (let P : ℕ → Type 0 = λ z. Contains tried z in new (subst P same t))
      ] in
      let fewer : (d : ℕ) → ¬ Contains (out ++ e ∷ []) d → ¬ Contains out d = λ d o m. o (more_of out e d m) in
      record {
        exact = λ before after d x is at. elim (last_or_before tried e before d after is) [
          | inl h ↦ (
              let P : ℕ → Type 0 = λ z. Contains (out ++ e ∷ []) z in
              let Q : ℕ → Type 0 = λ z. edge_at g z ≡ Some x in
              let R : List ℕ → Type 0 = λ z. ClosesCycle g z (out ++ e ∷ []) x in
              let S : Edge E → Type 0 = λ z. ClosesCycle g tried out z in
              let some : Some y ≡ Some x = sym at_e ∙ subst Q h.1 at in
              let same : y ≡ x = cc in (
                λ _. subst R (sym h.0) (closes_with others (subst S same closes)),
                λ _. subst P (sym h.1) (last_of out e),
              )
              )
          | inr h ↦ (
              let old = a.exact before h.0 d x h.1 at in (
                λ m. closes_with (λ f t o. others f (before_in tried before d h.0 h.1 f t) o) (old.0
                    (elim (of_more out e d m) [
                      | inl was ↦ was
                      | inr same ↦ (
                          let P : ℕ → Type 0 = λ z. Contains tried z in
                          absurd (new (subst P same (here_in tried before d h.0 h.1)))
                          )
                    ])),
                λ c. more_of out e d (old.1 (closes_with (λ f t o. fewer f o) c)),
              )
              )
        ];
        edges = λ d m. elim (of_more out e d m) [
          | inl was ↦ a.edges d was
          | inr same ↦ (
              let P : ℕ → Type 0 = λ z. HasEdge g z in
              let some : HasEdge g e = ap is_some at_e in
              subst P (sym same) some
              )
        ];
        once = distinct_from_unique (out ++ e ∷ [])
            (unique_append out (e ∷ []) (unique_from_distinct out a.once) ((λ none. absurd none), tt)
            (λ d m n. elim n [
              | inl same ↦ (
                  let P : ℕ → Type 0 = λ z. Contains tried z in
                  new (subst P same (within d (mem_contains out d m)))
                  )
              | inr none ↦ absurd none
            ]));
      }

-- what is known once edges were tried

module _ {N E M F : Type 0} {end : ℕ} {g : Graph N E} (w : IsWellFormed end g) {dag : Graph M F} {marks : List Bool}
    {tried out : List ℕ} (s : AreTried g dag marks tried out) where
  -- an edge that is kept, between nodes that reach each other, joins them in the dag
  pub kept_joins : (e : ℕ) (x : Edge E) → edge_at g e ≡ Some x → Contains tried e → ¬ Contains out e
      → ReachEachOther g x.parent x.child → AreJoined dag x.parent x.child
  kept_joins e x at t o round =
      (s.joined x.parent x.child).1 (record {
        index = e;
        edge = x;
        at = at;
        from = refl;
        to = refl;
        tried_is = t;
        stays = o;
        round = round;
      })

  -- a way back along kept edges is a path of the dag
  way_reaches : (way : List ℕ) (u v : ℕ) → HasNode g v → Lead g way u v
      → ((e : ℕ) → Contains way e → Contains tried e × ¬ Contains out e) → Reaches g v u → Reaches dag u v
  way_reaches [] u v h l kept back =
      let P : ℕ → Type 0 = λ z. Reaches dag z v in subst P (sym l) (reaches_itself dag v (s.nodes v h))
  way_reaches (e ∷ es) u v h l kept back =
      let x = l.0 in
      let here = kept e (0, omega arith, refl) in
      let on : Reaches g x.child v = lead_reaches w es x.child v h l.3 in
      let from : Reaches g v x.parent = (let P : ℕ → Type 0 = λ z. Reaches g v z in subst P (sym l.2) back) in
      let step : Reaches g x.parent x.child =
      reaches_before g x.parent x.child x.child (w.parents e x l.1) (joins g e x l.1)
      (reaches_itself g x.child (w.children e x l.1)) in
      let rest : Reaches dag x.child v =
      way_reaches es x.child v h l.3 (λ d c. kept d (mem_contains (e ∷ es) d (inr (contains_mem es d c))))
      (reaches_on g v x.parent x.child from step) in
      let P : ℕ → Type 0 = λ z. Reaches dag z v in
      subst P l.2 (reaches_before dag x.parent x.child v (s.nodes x.parent (w.parents e x l.1))
      (kept_joins e x l.1 here.0 here.1 (step, reaches_on g x.child v x.parent on from)) rest)

  -- a path of the dag is a way along kept edges
  path_ways : (u : ℕ) (rest : List ℕ) → IsPath dag (u ∷ rest)
      → (way : List ℕ) × Lead g way u (end_of u rest) × ((e : ℕ) → Contains way e → Contains tried e × ¬ Contains out e)
  path_ways u [] p = ([], refl, λ e c. absurd (contains_mem [] e c))
  path_ways u (v ∷ rest) p =
      let k = (s.joined u v).0 p.1 in
      let more = path_ways v rest p.2 in
      let P : ℕ → Type 0 = λ z. Lead g more.0 z (end_of v rest) in (
        k.index ∷ more.0,
        (k.edge, k.at, k.from, subst P (sym k.to) more.1),
        λ e c. elim (contains_mem (k.index ∷ more.0) e c) [
          | inl same ↦ (
              let Q : ℕ → Type 0 = λ z. Contains tried z × ¬ Contains out z in
              subst Q (sym same) (k.tried_is, k.stays)
              )
          | inr m ↦ more.2 e (mem_contains more.0 e m)
        ],
      )

  module _ (e : ℕ) {x : Edge E} (at : edge_at g e ≡ Some x) where
    -- an edge closes a cycle if the dag has a path back, and only then if its ends reach each other
    closes_back : ClosesCycle g tried out x → Reaches dag x.child x.parent
    closes_back c =
        way_reaches c.way x.child x.parent (w.parents e x at) c.leads c.kept
        (reaches_before g x.parent x.child x.child (w.parents e x at) (joins g e x at)
        (reaches_itself g x.child (w.children e x at)))

    back_closes : Reaches dag x.child x.parent → ClosesCycle g tried out x
    back_closes r =
        let p = path_ways x.child r.0 r.1 in
        let P : ℕ → Type 0 = λ z. Lead g p.0 x.child z in
        record { way = p.0; leads = subst P r.2 p.1; kept = p.2 }

    -- its ends reach each other then
    closes_round : ClosesCycle g tried out x → ReachEachOther g x.parent x.child
    closes_round c = (
      reaches_before g x.parent x.child x.child (w.parents e x at) (joins g e x at)
          (reaches_itself g x.child (w.children e x at)),
      lead_reaches w c.way x.child x.parent (w.parents e x at) c.leads,
    )

    -- an edge that was tried before: what was said of it still holds
    again : IsAcyclic dag → Contains tried e → Contains out e ↔ ClosesCycle g tried out x
    again acyclic t = (
      λ o.
          let p = split_at tried e (contains_mem tried e t) in
          closes_more (before_in tried p.0 e p.1 p.2) ((s.left_out.exact p.0 p.1 e x p.2 at).0 o),
      λ c. elim (is_mem e out) [
        | inl m ↦ mem_contains out e m
        | inr o ↦ absurd (no_round dag acyclic x.parent x.child (s.nodes x.parent (w.parents e x at))
            (kept_joins e x at t (λ h. o (contains_mem out e h)) (closes_round c)) (closes_back c))
      ],
    )

  kept_more : (e u v : ℕ) → IsKept g tried out u v → IsKept g (tried ++ e ∷ []) out u v
  kept_more e u v k = kept_as k (more_of tried e k.index k.tried_is) k.stays

  many_more : (e count : ℕ) → AreMany g tried count → AreMany g (tried ++ e ∷ []) count
  many_more e count m =
      record {
        edges = m.edges;
        once = m.once;
        some = λ d c. let h = m.some d c in (h.0, more_of tried e d h.1);
        many = m.many;
      }

  -- there is no such edge
  pub tries_none : (e : ℕ) → edge_at g e ≡ None → AreTried g dag marks (tried ++ e ∷ []) out
  tries_none e none =
      let missing : (d : ℕ) (x : Edge E) → edge_at g d ≡ Some x → d ≡ e → ⊥ = λ d x at same.
      (let P : ℕ → Type 0 = λ z. edge_at g z ≡ Some x in
      let some : edge_at g e ≡ Some x = subst P same at in
      absurd cc) in
      record {
        nodes = s.nodes;
        joined = λ u v. (
          λ j. kept_more e u v ((s.joined u v).0 j),
          λ k. elim (of_more tried e k.index k.tried_is) [
            | inl was ↦ (s.joined u v).1 (kept_as k was k.stays)
            | inr same ↦ absurd (missing k.index k.edge k.at same)
          ],
        );
        left_out = passes s.left_out (λ x at. absurd (missing e x at refl));
        within = λ d c. more_of tried e d (s.within d c);
        long = s.long;
        marked = λ d h. (
          λ m. more_of tried e d ((s.marked d h).0 m),
          λ c. elim (of_more tried e d c) [
            | inl was ↦ (s.marked d h).1 was
            | inr same ↦ (
                let P : ℕ → Type 0 = λ z. HasEdge g z in
                let some : IsSome (edge_at g e) = subst P same h in
                let is : is_some (edge_at g e) ≡ false = ap is_some none in
                absurd (false≢true (sym is ∙ some))
                )
          ],
        );
        many = many_more e (edge_count dag) s.many;
      }

  -- it was tried already
  pub tries_again : (e : ℕ) (x : Edge E) → edge_at g e ≡ Some x → IsAcyclic dag → get_or marks e false ≡ true
      → AreTried g dag marks (tried ++ e ∷ []) out
  tries_again e x at acyclic mark =
      let exists : HasEdge g e = ap is_some at in
      let t : Contains tried e = (s.marked e exists).0 mark in
      let old : (d : ℕ) → Contains (tried ++ e ∷ []) d → Contains tried d = λ d c.
      elim (of_more tried e d c) [
        | inl was ↦ was
        | inr same ↦ (let P : ℕ → Type 0 = λ z. Contains tried z in subst P (sym same) t)
      ] in
      record {
        nodes = s.nodes;
        joined = λ u v. (
          λ j. kept_more e u v ((s.joined u v).0 j),
          λ k. (s.joined u v).1 (kept_as k (old k.index k.tried_is) k.stays),
        );
        left_out = passes s.left_out (λ y at_y.
            (let some : Some x ≡ Some y = sym at ∙ at_y in
            let same : x ≡ y = cc in
            let P : Edge E → Type 0 = λ z. Contains out e ↔ ClosesCycle g tried out z in
            subst P same (again e at acyclic t)));
        within = λ d c. more_of tried e d (s.within d c);
        long = s.long;
        marked = λ d h. (λ m. more_of tried e d ((s.marked d h).0 m), λ c. (s.marked d h).1 (old d c));
        many = many_more e (edge_count dag) s.many;
      }

  -- a new edge
  module _ (e : ℕ) {x : Edge E} (at : edge_at g e ≡ Some x) (unmarked : get_or marks e false ≡ false) where
    exists : HasEdge g e
    exists = ap is_some at

    new : ¬ Contains tried e
    new t = false≢true (sym unmarked ∙ (s.marked e exists).1 t)

    not_out : ¬ Contains out e
    not_out o = new (s.within e o)

    pub low : e < length marks
    low = omega (arith, below_bound g.edges e exists, s.long)

    marks_long : length (set marks e true) ≡ edge_bound g
    marks_long = length-set marks e true ∙ s.long

    marks_more : (d : ℕ) → HasEdge g d → (get_or (set marks e true) d false ≡ true) ↔ Contains (tried ++ e ∷ []) d
    marks_more d h =
        elim (cases_eq d e) [
          | inl same ↦ (
              let P : ℕ → Type 0 = λ z. Contains (tried ++ e ∷ []) z in
              let Q : ℕ → Type 0 = λ z. get_or (set marks e true) z false ≡ true in (
                λ _. subst P (sym same) (last_of tried e),
                λ _. subst Q (sym same) (get_or-set_same marks e true false low),
              )
              )
          | inr differs ↦ (
              let other = get_or-set_other marks e d true false differs in (
                λ m. more_of tried e d ((s.marked d h).0 (sym other ∙ m)),
                λ c. elim (of_more tried e d c) [
                  | inl was ↦ other ∙ (s.marked d h).1 was
                  | inr same ↦ absurd (differs same)
                ],
              )
              )
        ]

    -- it leads to another component
    pub tries_apart : ¬ ReachEachOther g x.parent x.child
        → AreTried g dag (set marks e true) (tried ++ e ∷ []) out
    tries_apart apart =
        record {
          nodes = s.nodes;
          joined = λ u v. (
            λ j. kept_more e u v ((s.joined u v).0 j),
            λ k. elim (of_more tried e k.index k.tried_is) [
              | inl was ↦ (s.joined u v).1 (kept_as k was k.stays)
              | inr same ↦ (
                  let P : ℕ → Type 0 = λ z. edge_at g z ≡ Some k.edge in
                  let some : Some x ≡ Some k.edge = sym at ∙ subst P same k.at in
                  let is : x ≡ k.edge = cc in
                  let Q : ℕ → Type 0 = λ z. ReachEachOther g z v in
                  let R : ℕ → Type 0 = λ z. ReachEachOther g k.edge.parent z in
                  let S : Edge E → Type 0 = λ z. ReachEachOther g z.parent z.child in
                  absurd (apart (subst S (sym is) (subst R (sym k.to) (subst Q (sym k.from) k.round))))
                  )
            ],
          );
          left_out = passes s.left_out (λ y at_y.
              (let some : Some y ≡ Some x = sym at_y ∙ at in
              let same : y ≡ x = cc in (
                λ o. absurd (not_out o),
                λ c. (let P : Edge E → Type 0 = λ z. ClosesCycle g tried out z in
                    absurd (apart (closes_round e at (subst P same c)))),
              )));
          within = λ d c. more_of tried e d (s.within d c);
          long = marks_long;
          marked = marks_more;
          many = many_more e (edge_count dag) s.many;
        }

    -- it closes a cycle
    pub tries_closing : Reaches dag x.child x.parent
        → AreTried g dag (set marks e true) (tried ++ e ∷ []) (out ++ e ∷ [])
    tries_closing back =
        record {
          nodes = s.nodes;
          joined = λ u v. (
            λ j.
                let k = (s.joined u v).0 j in
                kept_as k (more_of tried e k.index k.tried_is) (λ o. elim (of_more out e k.index o) [
                  | inl was ↦ k.stays was
                  | inr same ↦ (let P : ℕ → Type 0 = λ z. Contains tried z in new (subst P same k.tried_is))
                ]),
            λ k. elim (of_more tried e k.index k.tried_is) [
              | inl was ↦ (s.joined u v).1 (kept_as k was (λ o. k.stays (more_of out e k.index o)))
              | inr same ↦ (
                  let P : ℕ → Type 0 = λ z. Contains (out ++ e ∷ []) z in
                  absurd (k.stays (subst P (sym same) (last_of out e)))
                  )
            ],
          );
          left_out = leaves_out s.left_out s.within new at (back_closes e at back);
          within = λ d c. elim (of_more out e d c) [
            | inl was ↦ more_of tried e d (s.within d was)
            | inr same ↦ (
                let P : ℕ → Type 0 = λ z. Contains (tried ++ e ∷ []) z in
                subst P (sym same) (last_of tried e)
                )
          ];
          long = marks_long;
          marked = marks_more;
          many = many_more e (edge_count dag) s.many;
        }

    -- it is kept
    pub tries_kept : (limit : ℕ) → IsWellFormed limit dag → (f : F) → ReachEachOther g x.parent x.child
        → ¬ Reaches dag x.child x.parent
        → AreTried g (with_edge dag x.parent x.child f) (set marks e true) (tried ++ e ∷ []) out
    tries_kept limit wd f round apart =
        let a = x.parent in
        let b = x.child in
        let free = free_edge dag a b f limit wd in
        record {
          nodes = s.nodes;
          joined = λ u v. (
            λ j. elim (joined_cases dag a b f u v j) [
              | inl old ↦ kept_more e u v ((s.joined u v).0 old)
              | inr is ↦ (
                  let P : ℕ → Type 0 = λ z. ReachEachOther g z v in
                  let Q : ℕ → Type 0 = λ z. ReachEachOther g a z in
                  record {
                    index = e;
                    edge = x;
                    at = at;
                    from = sym is.0;
                    to = sym is.1;
                    tried_is = last_of tried e;
                    stays = not_out;
                    round = subst P (sym is.0) (subst Q (sym is.1) round);
                  }
                  )
            ],
            λ k. elim (of_more tried e k.index k.tried_is) [
              | inl was ↦ joined_kept dag a b f free u v ((s.joined u v).1 (kept_as k was k.stays))
              | inr same ↦ (
                  let P : ℕ → Type 0 = λ z. edge_at g z ≡ Some k.edge in
                  let some : Some x ≡ Some k.edge = sym at ∙ subst P same k.at in
                  let is : x ≡ k.edge = cc in
                  let from : a ≡ u = ap (λ (z : Edge E). z.parent) is ∙ k.from in
                  let to : b ≡ v = ap (λ (z : Edge E). z.child) is ∙ k.to in
                  let Q : ℕ → Type 0 = λ z. AreJoined (with_edge dag a b f) z v in
                  let R : ℕ → Type 0 = λ z. AreJoined (with_edge dag a b f) a z in
                  subst Q from (subst R to (joined_new dag a b f free))
                  )
            ],
          );
          left_out = passes s.left_out (λ y at_y.
              (let some : Some y ≡ Some x = sym at_y ∙ at in
              let same : y ≡ x = cc in (
                λ o. absurd (not_out o),
                λ c. (let P : Edge E → Type 0 = λ z. ClosesCycle g tried out z in
                    absurd (apart (closes_back e at (subst P same c)))),
              )));
          within = λ d c. more_of tried e d (s.within d c);
          long = marks_long;
          marked = marks_more;
          many = record {
            edges = e ∷ s.many.edges;
            once = (λ m. new (s.many.some e m).1, s.many.once);
            some = λ d c. elim (contains_mem (e ∷ s.many.edges) d c) [
              | inl same ↦ (
                  let P : ℕ → Type 0 = λ z. HasEdge g z × Contains (tried ++ e ∷ []) z in
                  subst P (sym same) (exists, last_of tried e)
                  )
              | inr m ↦ (
                  let h = s.many.some d (mem_contains s.many.edges d m) in
                  (h.0, more_of tried e d h.1)
                  )
            ];
            many = omega (arith, count_with_edge limit dag a b f wd, s.many.many);
          };
        }

    -- an index is left for it
    pub index_left : edge_count dag < end
    index_left =
        let es = e ∷ s.many.edges in
        let once : Unique es = unique_from_distinct es (λ m. new (s.many.some e m).1, s.many.once) in
        let few : length es ≤ edge_count g =
        pigeon is_some None refl es g.edges once (λ d m.
        elim m [
          | inl same ↦ (
              let P : ℕ → Type 0 = λ z. is_some (get_or g.edges z None) ≡ true in
              subst P (sym same) (ap is_some (slot_get_or g.edges e x at))
              )
          | inr more ↦ found d (s.many.some d (mem_contains s.many.edges d more)).0
        ]) in
        omega (arith, few, s.many.many, w.few_edges, edges_low g.edges)
      where
        found : (d : ℕ) → HasEdge g d → is_some (get_or g.edges d None) ≡ true
        found d h = ap is_some (sym (slot_is g.edges d)) ∙ h

        edges_low : (ys : List (Option (Edge E))) → count_by is_some ys ≤ length ys
        edges_low ys = count_by-le-length is_some ys
