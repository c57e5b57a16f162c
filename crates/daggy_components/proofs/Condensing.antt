-- The edges of the members of each component, read one after the other.
use Rattle.std.proofs.Common.{◌≡◌, ◌≢◌, ℕ, zero, suc, ◌+◌, ◌<◌, ◌≤◌, ◌⊎◌, inl, inr, List, [], ◌∷◌, ◌++◌, length, get_or}
use Rattle.std.proofs.Common.{take, drop, Option, Some, is_some, length-set, map, refl, sym, ap, subst, ◌∙◌, arith}
use Rattle.std.specs.List.{concat, count_by}
use Rattle.std.specs.Prelude.{Contains}
use Rattle.std.proofs.lemmas.List.{length-append, take_all, length-map, get_or-map, get_or_append_left, get_or-append-add}
use Rattle.std.proofs.lemmas.List.{take-append-drop, length_push}
use Rattle.std.proofs.lemmas.List.Sums.{count_by-le-length}
use Rattle.std.proofs.Math.Seq.{take-suc}
use Rattle.daggy_base.specs.Graph.{Graph, Edge, HasEdge, out_list, edge_count, node_bound}
use Rattle.daggy_base.specs.State.{State}
use Rattle.daggy_base.specs.Cursor.{first_of}
use Rattle.daggy_base.specs.WellFormed.{IsWellFormed}
use Rattle.daggy_base.specs.Look.{IsLook}
use Rattle.daggy_base.proofs.Lists.{Mem, Unique, mem_cases, mem_left, mem_right, contains_mem, mem_contains, mem_at}
use Rattle.daggy_base.proofs.Lists.{unique_from_distinct, fewer_than}
use Rattle.daggy_base.proofs.Sorted.{unique_left}
use Rattle.daggy_base.proofs.PathsWithNode.{bound_low}
use Rattle.daggy_base.proofs.OutEdgesRead.{lists_of, lists_few, read_whole, read_part, cursor_leaves, has_edge}
use Rattle.daggy_base.proofs.OutEdgesRead.{child_exists, next_cursor, listed, below_bound}
use Rattle.daggy_components.specs.Components.{AreComponents, component}
use Rattle.daggy_components.specs.Condensation.{LeadsBetween, AreBetween}
use Rattle.daggy_components.specs.Noting.{IsLowered, IsAppended}
use Rattle.daggy_components.proofs.Tallies.{component_of, lists_append}
use Rattle.daggy_components.proofs.Gathering.{Gathered, gathered_none, gathered_next, gathered_seen, gathers_inner}
use Rattle.daggy_components.proofs.Gathering.{gathers_new, gathers_less, gathered_all}

-- how many nodes there are before a component
abbrev pub before : List (List ℕ) → ℕ → ℕ
before cs j = length (concat (take j cs))

pub before_next : (cs : List (List ℕ)) (j : ℕ) → j < length cs → before cs (suc j) ≡ before cs j + length (component cs j)
before_next [] j low = absurd (omega arith)
before_next (c ∷ cs) zero low = omega (arith, length-append c [])
before_next (c ∷ cs) (suc j) low =
    let rest = before_next cs j (omega arith) in
    omega (arith, rest, length-append c (concat (take (suc j) cs)), length-append c (concat (take j cs)))

-- the members of a component among all nodes
pub stands_at : (cs : List (List ℕ)) (j i d : ℕ) → i < length (component cs j)
    → (get_or (concat cs) (before cs j + i) d ≡ get_or (component cs j) i d) × (before cs j + i < length (concat cs))
stands_at [] j i d low = absurd (omega arith)
stands_at (c ∷ cs) zero i d low =
    let none : before (c ∷ cs) zero + i ≡ i = omega arith in (
      ap (λ (z : ℕ). get_or (c ++ concat cs) z d) none ∙ get_or_append_left c (concat cs) d i low,
      omega (arith, low, length-append c (concat cs)),
    )
stands_at (c ∷ cs) (suc j) i d low =
    let rest = stands_at cs j i d low in
    let at : length (c ++ concat (take j cs)) + i ≡ length c + (before cs j + i) =
    omega (arith, length-append c (concat (take j cs))) in (
      ap (λ (z : ℕ). get_or (c ++ concat cs) z d) at ∙ (get_or-append-add c (concat cs) (before cs j + i) d ∙ rest.0),
      omega (arith, rest.1, at, length-append c (concat cs)),
    )

-- a member, as it is read
pub member_at : {I : Type 0} (number : I → ℕ) (items : List I) (cs : List (List ℕ)) (j i : ℕ) (n : I)
    → map number items ≡ component cs j → i < length items → n ≡ get_or items i n
    → (get_or (concat cs) (before cs j + i) 0 ≡ number n) × (before cs j + i < length (concat cs))
    × Mem (number n) (component cs j)
member_at number items cs j i n are low is =
    let long : length items ≡ length (component cs j) =
    sym (length-map items number) ∙ ap (λ (z : List ℕ). length z) are in
    let s = stands_at cs j i 0 (omega (arith, low, long)) in
    let read : get_or (component cs j) i 0 ≡ number n =
    ap (λ (z : List ℕ). get_or z i 0) (sym are) ∙ (get_or-map number items i n 0 low ∙ ap number (sym is)) in
    let P : ℕ → Type 0 = λ z. Mem z (component cs j) in
    (s.0 ∙ read, s.1, subst P read (mem_at (component cs j) i 0 (omega (arith, low, long))))

-- there is an index for each component
pub count_low : {N E : Type 0} {end : ℕ} {g : Graph N E} {cs : List (List ℕ)} → IsWellFormed end g → AreComponents g cs
    → length cs ≤ end
count_low {N} {E} {end} {g} {cs} w are =
    let few =
    fewer_than (concat cs) (node_bound g) (unique_from_distinct (concat cs) are.once) (λ v m.
    below_bound g.nodes v ((are.exact v).0 (mem_contains (concat cs) v m))) in
    omega (arith, few, bound_low g.nodes, w.few_nodes, some_few cs are.some)
  where
    some_few : (ds : List (List ℕ)) → ((k : ℕ) → k < length ds → component ds k ≢ []) → length ds ≤ length (concat ds)
    some_few [] some = omega arith
    some_few ([] ∷ ds) some = absurd (some 0 (omega arith) refl)
    some_few ((x ∷ d) ∷ ds) some =
        let rest = some_few ds (λ k low. some (suc k) (omega arith)) in
        omega (arith, rest, length-append d (concat ds))

-- what there is once the lists of the first m nodes were read
pub record Listed {N E X : Type 0} (number : X → ℕ) (start : State N E) (cs : List (List ℕ)) (j m : ℕ) (now : State N E)
    (found : List ℕ) (slots : List (Option (Edge X))) : Type 0 where
  pub same : now.graph ≡ start.graph
  pub sized : length found ≡ length cs
  pub gathered : Gathered number start.graph cs j found (λ e. Mem e (lists_of start.graph (take m (concat cs)))) slots
  pub counted : now.looks ≡ start.looks + length (lists_of start.graph (take m (concat cs)))
  pub few : length slots ≤ length (lists_of start.graph (take m (concat cs)))

-- and while the list of the next is read
pub record Reading {N E X : Type 0} (end : ℕ) (number : X → ℕ) (start : State N E) (cs : List (List ℕ)) (j m : ℕ)
    (now : State N E) (found : List ℕ) (slots : List (Option (Edge X))) (e : ℕ) : Type 0 where
  pub at : ℕ
  pub passed : ℕ
  pub place : m < length (concat cs)
  pub here : get_or (concat cs) m 0 ≡ at
  pub own : Mem at (component cs j)
  pub cursor : e ≡ first_of end (drop passed (out_list start.graph at))
  pub within : passed ≤ length (out_list start.graph at)
  pub same : now.graph ≡ start.graph
  pub sized : length found ≡ length cs
  pub gathered : Gathered number start.graph cs j found
      (λ z. Mem z (lists_of start.graph (take m (concat cs))) ⊎ Mem z (take passed (out_list start.graph at))) slots
  pub counted : now.looks ≡ start.looks + (length (lists_of start.graph (take m (concat cs))) + passed)
  pub few : length slots ≤ length (lists_of start.graph (take m (concat cs))) + passed

lists_cases : {N E : Type 0} (g : Graph N E) (xs : List ℕ) (x e : ℕ) → Mem e (lists_of g (xs ++ x ∷ []))
    → Mem e (lists_of g xs) ⊎ Mem e (out_list g x)
lists_cases g [] x e m = elim (mem_cases (out_list g x) [] e m) [ inl a ↦ inr a | inr b ↦ absurd b ]
lists_cases g (y ∷ xs) x e m =
    elim (mem_cases (out_list g y) (lists_of g (xs ++ x ∷ [])) e m) [
      | inl a ↦ inl (mem_left (out_list g y) (lists_of g xs) e a)
      | inr b ↦ elim (lists_cases g xs x e b) [
        | inl c ↦ inl (mem_right (out_list g y) (lists_of g xs) e c)
        | inr d ↦ inr d
      ]
    ]

lists_in : {N E : Type 0} (g : Graph N E) (us : List ℕ) (u e : ℕ) → Mem u us → Mem e (out_list g u) → Mem e (lists_of g us)
lists_in g [] u e m i = absurd m
lists_in g (x ∷ us) u e m i =
    elim m [
      | inl eq ↦
          mem_left (out_list g x) (lists_of g us) e (let P : ℕ → Type 0 = λ z. Mem e (out_list g z) in subst P eq i)
      | inr b ↦ mem_right (out_list g x) (lists_of g us) e (lists_in g us u e b i)
    ]

module _ {N E : Type 0} {end : ℕ} {g : Graph N E} {cs : List (List ℕ)} (w : IsWellFormed end g) (are : AreComponents g cs) where
  once : Unique (concat cs)
  once = unique_from_distinct (concat cs) are.once

  -- the first nodes are distinct, and differ from the next
  first_once : (m : ℕ) → m < length (concat cs) → Unique (take m (concat cs) ++ get_or (concat cs) m 0 ∷ [])
  first_once m low =
      let P : List ℕ → Type 0 = λ z. Unique z in
      let whole : Unique (take (suc m) (concat cs) ++ drop (suc m) (concat cs)) =
      subst P (sym (take-append-drop (suc m) (concat cs))) once in
      subst P (take-suc (concat cs) m 0 low) (unique_left (take (suc m) (concat cs)) (drop (suc m) (concat cs)) whole)

  first_few : (m : ℕ) → m < length (concat cs)
      → length (lists_of g (take m (concat cs))) + length (out_list g (get_or (concat cs) m 0))
      ≤ edge_count g
  first_few m low =
      let x = get_or (concat cs) m 0 in
      omega (
        arith,
        lists_few end g w (take m (concat cs) ++ x ∷ []) (first_once m low),
        lists_append g (take m (concat cs)) (x ∷ []),
        length-append (out_list g x) [],
      )

module _ {N E X : Type 0} {end : ℕ} {number : X → ℕ} {start : State N E} {cs : List (List ℕ)}
    (w : IsWellFormed end start.graph) (are : AreComponents start.graph cs) where
  module _ {j m : ℕ} {now : State N E} {found : List ℕ} {slots : List (Option (Edge X))}
      (s : Listed number start cs j m now found slots) where
    pub few_listed : (start.looks ≤ now.looks) × (now.looks ≤ start.looks + edge_count start.graph)
    few_listed =
        let P : List ℕ → Type 0 = λ z. Unique z in
        let some : Unique (take m (concat cs)) =
        unique_left (take m (concat cs)) (drop m (concat cs)) (subst P (sym (take-append-drop m (concat cs))) (once w are)) in (
          omega (arith, s.counted),
          omega (arith, s.counted, lists_few end start.graph w (take m (concat cs)) some),
        )

    pub few_slots : length slots ≤ end
    few_slots =
        let P : List ℕ → Type 0 = λ z. Unique z in
        let some : Unique (take m (concat cs)) =
        unique_left (take m (concat cs)) (drop m (concat cs)) (subst P (sym (take-append-drop m (concat cs))) (once w are)) in
        omega (
          arith,
          s.few,
          lists_few end start.graph w (take m (concat cs)) some,
          few_edges start.graph.edges,
          w.few_edges,
        )
      where
        few_edges : {A : Type 0} (xs : List (Option A)) → count_by is_some xs ≤ length xs
        few_edges xs = count_by-le-length is_some xs

    -- the same number of nodes
    pub listed_again : {m' : ℕ} → m' ≡ m → Listed number start cs j m' now found slots
    listed_again is = let P : ℕ → Type 0 = λ z. Listed number start cs j z now found slots in subst P (sym is) s

    pub next_listed : {j' m' : ℕ} → j' ≡ j + 1 → m' ≡ m → Listed number start cs j' m' now found slots
    next_listed {j'} {m'} next is =
        let P : ℕ → Type 0 = λ z. Listed number start cs j' z now found slots in
        subst P (sym is) (record {
          same = s.same;
          sized = s.sized;
          gathered = gathered_next s.gathered next;
          counted = s.counted;
          few = s.few;
        })

    -- the list of the next node is begun
    pub begins : {e at : ℕ} → m < length (concat cs) → get_or (concat cs) m 0 ≡ at → Mem at (component cs j)
        → e ≡ first_of end (out_list now.graph at) → Reading end number start cs j m now found slots e
    begins {e} {at} low here own first =
        record {
          at = at;
          passed = 0;
          place = low;
          here = here;
          own = own;
          cursor = first ∙ ap (λ (z : Graph N E). first_of end (out_list z at)) s.same;
          within = omega arith;
          same = s.same;
          sized = s.sized;
          gathered = gathered_seen s.gathered (λ e seen. elim seen [ inl a ↦ a | inr b ↦ absurd b ]);
          counted = omega (arith, s.counted);
          few = omega (arith, s.few);
        }

    -- all was read
    pub all_listed : m ≡ length (concat cs) → AreBetween number start.graph cs slots
    all_listed is =
        gathered_all s.gathered (λ e a b between.
        let exists = w.parents e between.0 between.1 in
        let in_all : Mem between.0.parent (concat cs) = contains_mem (concat cs) _ ((are.exact between.0.parent).1 exists) in
        let all : take m (concat cs) ≡ concat cs = take_all m (concat cs) (omega (arith, is)) in
        let P : List ℕ → Type 0 = λ z. Mem e (lists_of start.graph z) in
        subst P (sym all) (lists_in start.graph (concat cs) between.0.parent e in_all
        (listed end start.graph w between.0.parent e between.0 between.1 refl)))

  module _ {j m : ℕ} {now : State N E} {found : List ℕ} {slots : List (Option (Edge X))} {e : ℕ}
      (s : Reading end number start cs j m now found slots e) where
    pub few_read : (start.looks ≤ now.looks) × (now.looks ≤ start.looks + edge_count start.graph)
    few_read =
        let P : ℕ → Type 0 = λ z.
        length (lists_of start.graph (take m (concat cs))) + length (out_list start.graph z) ≤ edge_count start.graph in
        let few : P s.at = subst P s.here (first_few w are m s.place) in
        (omega (arith, s.counted), omega (arith, s.counted, s.within, few))

    -- the list was read to its end
    pub ends : e ≡ end → {m' : ℕ} → m' ≡ m + 1 → Listed number start cs j m' now found slots
    ends h {m'} next =
        let xs = concat cs in
        let g = start.graph in
        let all = read_whole end g w s.at s.passed e s.cursor s.within h in
        let more : take (suc m) xs ≡ take m xs ++ s.at ∷ [] =
        take-suc xs m 0 s.place ∙ ap (λ (z : ℕ). take m xs ++ z ∷ []) s.here in
        let list : take s.passed (out_list g s.at) ≡ out_list g s.at =
        take_all s.passed (out_list g s.at) (omega (arith, all)) in
        let long : length (lists_of g (take (suc m) xs)) ≡ length (lists_of g (take m xs)) + s.passed =
        let one : length (lists_of g (take (suc m) xs)) ≡ length (lists_of g (take m xs ++ s.at ∷ [])) =
        ap (λ (z : List ℕ). length (lists_of g z)) more in
        omega (
          arith,
          one,
          lists_append g (take m xs) (s.at ∷ []),
          length-append (out_list g s.at) [],
          all,
        ) in
        let seen : (z : ℕ) → Mem z (lists_of g (take (suc m) xs))
        → Mem z (lists_of g (take m xs)) ⊎ Mem z (take s.passed (out_list g s.at)) = λ z i.
        let P : List ℕ → Type 0 = λ y. Mem z (lists_of g y) in
        elim (lists_cases g (take m xs) s.at z (subst P more i)) [
          | inl a ↦ inl a
          | inr b ↦ inr (let Q : List ℕ → Type 0 = λ y. Mem z y in subst Q (sym list) b)
        ] in
        let P : ℕ → Type 0 = λ z. Listed number start cs j z now found slots in
        let is : suc m ≡ m' = omega (arith, next) in
        subst P is (record {
          same = s.same;
          sized = s.sized;
          gathered = gathered_seen s.gathered seen;
          counted = omega (arith, s.counted, long);
          few = omega (arith, s.few, long);
        })

    module _ (here : e ≢ end) where
      pub edge_here : HasEdge now.graph e
      edge_here =
          let P : Graph N E → Type 0 = λ z. HasEdge z e in
          subst P (sym s.same) (has_edge end start.graph w s.at s.passed e s.cursor here)

      pub looked_once : {looks' : ℕ} → looks' ≡ now.looks + 1 → looks' ≤ start.looks + edge_count start.graph
      looked_once one_more =
          let P : ℕ → Type 0 = λ z.
          length (lists_of start.graph (take m (concat cs))) + length (out_list start.graph z) ≤ edge_count start.graph in
          let few : P s.at = subst P s.here (first_few w are m s.place) in
          omega (arith, s.counted, few, one_more, (read_part end start.graph w s.at s.passed e s.cursor here).0)

      module _ {v next : ℕ} (look : IsLook end now.graph e v next) where
        look₀ : IsLook end start.graph e v next
        look₀ = let P : Graph N E → Type 0 = λ z. IsLook end z e v next in subst P s.same look

        -- the child is in a component
        pub child_in : (k : ℕ) × (k < length cs) × Contains (component cs k) v
        child_in =
            let exists = child_exists end start.graph w s.at s.passed e s.cursor here v next look₀ in
            let p = component_of cs v (contains_mem (concat cs) v ((are.exact v).1 exists)) in
            (p.0, p.1, mem_contains (component cs p.0) v p.2)

        pub component_low : (k : ℕ) → Contains (component cs k) v → k < length cs
        component_low k in_k = within cs k (contains_mem (component cs k) v in_k)
          where
            within : (ds : List (List ℕ)) (i : ℕ) → Mem v (component ds i) → i < length ds
            within [] i i_in = absurd i_in
            within (d ∷ ds) zero i_in = omega arith
            within (d ∷ ds) (suc i) i_in = let h = within ds i i_in in omega (arith, h)

        leads : (k : ℕ) → Contains (component cs k) v → LeadsBetween start.graph cs e j k
        leads k in_k =
            let p = cursor_leaves end start.graph w s.at s.passed e s.cursor here in
            let same : Some p.0 ≡ Some look₀.edge = sym p.1 ∙ look₀.at in
            let whole : p.0 ≡ look₀.edge = cc in
            let child : v ≡ p.0.child = look₀.child_is ∙ sym (ap (λ (x : Edge E). x.child) whole) in
            let P : ℕ → Type 0 = λ z. Contains (component cs j) z in
            let Q : ℕ → Type 0 = λ z. Contains (component cs k) z in
            (p.0, p.1, subst P (sym p.2) (mem_contains (component cs j) s.at s.own), subst Q child in_k)

        seen_more : (z : ℕ)
            → Mem z (lists_of start.graph (take m (concat cs))) ⊎ Mem z (take (suc s.passed) (out_list start.graph s.at))
            → (z ≡ e) ⊎ (Mem z (lists_of start.graph (take m (concat cs)))
            ⊎ Mem z (take s.passed (out_list start.graph s.at)))
        seen_more z seen =
            let r = read_part end start.graph w s.at s.passed e s.cursor here in
            let xs = out_list start.graph s.at in
            let more : take (suc s.passed) xs ≡ take s.passed xs ++ e ∷ [] =
            take-suc xs s.passed end r.0 ∙ ap (λ (y : ℕ). take s.passed xs ++ y ∷ []) (sym r.1) in
            let P : List ℕ → Type 0 = λ y. Mem z y in
            elim seen [
              | inl a ↦ inr (inl a)
              | inr b ↦ elim (mem_cases (take s.passed xs) (e ∷ []) z (subst P more b)) [
                | inl c ↦ inr (inr c)
                | inr d ↦ elim d [ inl is ↦ inl is | inr n ↦ absurd n ]
              ]
            ]

        module _ {now' : State N E} (unchanged : now'.graph ≡ now.graph) (one_more : now'.looks ≡ now.looks + 1) where
          -- with what is gathered now
          goes_on : {found' : List ℕ} {slots' : List (Option (Edge X))} → length found' ≡ length found
              → length slots' ≤ length slots + 1
              → Gathered number start.graph cs j found' (λ z.
              Mem z (lists_of start.graph (take m (concat cs))) ⊎ Mem z (take (suc s.passed) (out_list start.graph s.at))) slots'
              → Reading end number start cs j m now' found' slots' next
          goes_on long short gathered =
              record {
                at = s.at;
                passed = suc s.passed;
                place = s.place;
                here = s.here;
                own = s.own;
                cursor = next_cursor end start.graph w s.at s.passed e s.cursor here v next look₀;
                within = omega (arith, (read_part end start.graph w s.at s.passed e s.cursor here).0);
                same = unchanged ∙ s.same;
                sized = long ∙ s.sized;
                gathered = gathered;
                counted = omega (arith, s.counted, one_more);
                few = omega (arith, s.few, short);
              }

          -- past an edge within the component
          pub goes_past : {k : ℕ} → Contains (component cs k) v → k ≡ j → (x : X) → number x ≡ e
              → Reading end number start cs j m now' found slots next
          goes_past {k} in_k inner x is =
              let P : ℕ → Type 0 = λ y. LeadsBetween start.graph cs y j k in
              let more : (z : ℕ)
              → Mem z (lists_of start.graph (take m (concat cs))) ⊎ Mem z (take (suc s.passed) (out_list start.graph s.at))
              → (z ≡ number x) ⊎ (Mem z (lists_of start.graph (take m (concat cs)))
              ⊎ Mem z (take s.passed (out_list start.graph s.at))) = λ z seen.
              elim (seen_more z seen) [ inl a ↦ inl (a ∙ sym is) | inr b ↦ inr b ] in
              goes_on refl (omega arith) (gathers_inner s.gathered (once w are) more (subst P (sym is) (leads k in_k)) inner)

          -- past an edge that was noted
          pub goes_noting : {k : ℕ} → Contains (component cs k) v → k ≢ j → {x : X} → number x ≡ e → {at : ℕ} {found' : List ℕ}
              {slots' : List (Option (Edge X))}
              → (IsLowered number slots slots' at j k x × (found' ≡ found)) ⊎ IsAppended slots slots' found found' j k x
              → Reading end number start cs j m now' found' slots' next
          goes_noting {k} in_k apart {x} is {at} {found'} {slots'} noted =
              let P : ℕ → Type 0 = λ y. LeadsBetween start.graph cs y j k in
              let between = subst P (sym is) (leads k in_k) in
              let more : (z : ℕ)
              → Mem z (lists_of start.graph (take m (concat cs))) ⊎ Mem z (take (suc s.passed) (out_list start.graph s.at))
              → (z ≡ number x) ⊎ (Mem z (lists_of start.graph (take m (concat cs)))
              ⊎ Mem z (take s.passed (out_list start.graph s.at))) = λ z seen.
              elim (seen_more z seen) [ inl a ↦ inl (a ∙ sym is) | inr b ↦ inr b ] in
              elim noted [
                | inl p ↦ (
                    let Q : List ℕ → Type 0 = λ z. Reading end number start cs j m now' z slots' next in
                    subst Q (sym p.1) (goes_on refl (omega (arith, p.0.long))
                    (gathers_less s.gathered (once w are) more between apart p.0))
                    )
                | inr p ↦ (
                    let low : k < length found = omega (arith, component_low k in_k, s.sized) in
                    let long : length found' ≡ length found =
                    ap (λ (z : List ℕ). length z) p.noted ∙ length-set found k (length slots) in
                    let short : length slots' ≡ length slots + 1 =
                    ap (λ z. length z) p.slots ∙ length_push slots (Some (record { parent = j; child = k; weight = x })) in
                    goes_on long (omega (arith, short)) (gathers_new s.gathered (once w are) more between apart low p)
                    )
              ]

-- at the start
pub none_listed : {N E X : Type 0} {number : X → ℕ} {start : State N E} {cs : List (List ℕ)} {found : List ℕ}
    → length found ≡ length cs → Listed number start cs 0 (before cs 0) start found []
none_listed {N} {E} {X} {number} {start} {cs} {found} sized =
    record {
      same = refl;
      sized = sized;
      gathered = gathered_none found (λ e m. m);
      counted = omega arith;
      few = omega arith;
    }

pub before_all : (cs : List (List ℕ)) (j : ℕ) → length cs ≤ j → before cs j ≡ length (concat cs)
before_all cs j high = ap (λ (z : List (List ℕ)). length (concat z)) (take_all j cs high)
