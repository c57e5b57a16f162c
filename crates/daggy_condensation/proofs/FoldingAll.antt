-- The edges of the members of each component, read one after the other, and folded.
use Rattle.std.proofs.Common.{◌≡◌, ◌≢◌, ℕ, suc, ◌+◌, ◌<◌, ◌≤◌, inl, inr, List, [], ◌∷◌, ◌++◌, length, get_or, take, drop}
use Rattle.std.proofs.Common.{Option, Some, None, IsSome, is_some, length-set, refl, sym, ap, subst, ◌∙◌, arith, append_assoc}
use Rattle.std.specs.List.{concat, count_by, flat_map, slice_index}
use Rattle.std.specs.Prelude.{Contains, ◌⊎◌}
use Rattle.std.specs.Borrow.{Bor}
use Rattle.std.proofs.lemmas.List.{length-append, take_all, append-nil, drop_more, take-append-drop, length_push}
use Rattle.std.proofs.lemmas.List.Sums.{count_by-le-length}
use Rattle.std.proofs.Math.Seq.{take-suc}
use Rattle.daggy_base.specs.Graph.{Graph, Edge, HasEdge, slot, edge_at, out_list, edge_count}
use Rattle.daggy_base.specs.State.{State}
use Rattle.daggy_base.specs.Cursor.{first_of}
use Rattle.daggy_base.specs.WellFormed.{IsWellFormed}
use Rattle.daggy_base.specs.Look.{IsLook}
use Rattle.daggy_base.proofs.Lists.{Mem, Unique, mem_left, mem_right, contains_mem, mem_contains, unique_from_distinct}
use Rattle.daggy_base.proofs.Sorted.{unique_left}
use Rattle.daggy_base.proofs.OutEdgesRead.{lists_of, lists_few, read_whole, read_part, cursor_leaves, has_edge}
use Rattle.daggy_base.proofs.OutEdgesRead.{child_exists, next_cursor, listed}
use Rattle.daggy_components.specs.Components.{AreComponents, component}
use Rattle.daggy_components.specs.Condensation.{LeadsBetween}
use Rattle.daggy_components.specs.Noting.{Joins, IsAppended}
use Rattle.daggy_components.proofs.Tallies.{component_of}
use Rattle.daggy_components.proofs.Condensing.{before}
use Rattle.daggy_condensation.specs.Folding.{edges_read, IsGiven, IsFolded, CanFold}
use Rattle.daggy_condensation.specs.Replacing.{IsReplaced}
use Rattle.daggy_condensation.proofs.FoldedEdges.{Folded, folded_none, folded_next, folded_seen, given_again, given_first}
use Rattle.daggy_condensation.proofs.FoldedEdges.{folds_inner, folds_new, folds_again}

module _ {N E : Type 0} (g : Graph N E) where
  pub lists_read : (us : List ℕ) → lists_of g us ≡ flat_map (out_list g) us
  lists_read [] = refl
  lists_read (u ∷ us) = ap (λ z. out_list g u ++ z) (lists_read us)

  lists_more : (us vs : List ℕ) → lists_of g (us ++ vs) ≡ lists_of g us ++ lists_of g vs
  lists_more [] vs = refl
  lists_more (u ∷ us) vs =
      ap (λ z. out_list g u ++ z) (lists_more us vs) ∙ sym (append_assoc (out_list g u) (lists_of g us) (lists_of g vs))

  lists_in : (us : List ℕ) (u e : ℕ) → Mem u us → Mem e (out_list g u) → Mem e (lists_of g us)
  lists_in [] u e m i = absurd m
  lists_in (x ∷ us) u e m i =
      elim m [
        | inl eq ↦
            mem_left (out_list g x) (lists_of g us) e (let P : ℕ → Type 0 = λ z. Mem e (out_list g z) in subst P eq i)
        | inr b ↦ mem_right (out_list g x) (lists_of g us) e (lists_in us u e b i)
      ]

few_edges : {A : Type 0} (xs : List (Option A)) → count_by is_some xs ≤ length xs
few_edges xs = count_by-le-length is_some xs

-- the edges of the lists of the first m nodes, and the first so many of the list of the next
abbrev pub read_so_far : {N E : Type 0} → Graph N E → List (List ℕ) → (m at passed : ℕ) → List ℕ
read_so_far g cs m at passed = lists_of g (take m (concat cs)) ++ take passed (out_list g at)

module _ {N E I W : Type 0} (post : Option W → I → Bor E → W → Type 0) (of : ℕ → I) (start : State N E)
    (cs : List (List ℕ)) where
  -- what there is once the lists of the first m nodes were read
  pub record Listed (j m : ℕ) (now : State N E) (found : List ℕ) (slots : List (Option (Edge W))) : Type 0 where
    pub same : now.graph ≡ start.graph
    pub sized : length found ≡ length cs
    pub folded : Folded post of start.graph cs j found (lists_of start.graph (take m (concat cs))) slots
    pub counted : now.looks ≡ start.looks + length (lists_of start.graph (take m (concat cs)))
    pub few : length slots ≤ length (lists_of start.graph (take m (concat cs)))

  -- and while the list of the next is read
  pub record Reading (end j m : ℕ) (now : State N E) (found : List ℕ) (slots : List (Option (Edge W))) (e : ℕ)
      : Type 0 where
    pub at : ℕ
    pub passed : ℕ
    pub place : m < length (concat cs)
    pub here : get_or (concat cs) m 0 ≡ at
    pub own : Mem at (component cs j)
    pub cursor : e ≡ first_of end (drop passed (out_list start.graph at))
    pub within : passed ≤ length (out_list start.graph at)
    pub same : now.graph ≡ start.graph
    pub sized : length found ≡ length cs
    pub folded : Folded post of start.graph cs j found (read_so_far start.graph cs m at passed) slots
    pub counted : now.looks ≡ start.looks + (length (lists_of start.graph (take m (concat cs))) + passed)
    pub few : length slots ≤ length (lists_of start.graph (take m (concat cs))) + passed

  -- at the start
  pub none_listed : {found : List ℕ} → length found ≡ length cs → Listed 0 (before cs 0) start found []
  none_listed {found} sized =
      record {
        same = refl;
        sized = sized;
        folded = folded_none post of start.graph cs found;
        counted = omega arith;
        few = omega arith;
      }

  module _ {end : ℕ} (w : IsWellFormed end start.graph) (are : AreComponents start.graph cs) where
    once : Unique (concat cs)
    once = unique_from_distinct (concat cs) are.once

    first_once : (m : ℕ) → Unique (take m (concat cs))
    first_once m =
        let P : List ℕ → Type 0 = λ z. Unique z in
        unique_left (take m (concat cs)) (drop m (concat cs)) (subst P (sym (take-append-drop m (concat cs))) once)

    module _ {j m : ℕ} {now : State N E} {found : List ℕ} {slots : List (Option (Edge W))}
        (s : Listed j m now found slots) where
      pub few_slots : length slots ≤ end
      few_slots =
          omega (
            arith,
            s.few,
            lists_few end start.graph w (take m (concat cs)) (first_once m),
            few_edges start.graph.edges,
            w.few_edges,
          )

      -- the same number of nodes
      pub listed_again : {m' : ℕ} → m' ≡ m → Listed j m' now found slots
      listed_again is = let P : ℕ → Type 0 = λ z. Listed j z now found slots in subst P (sym is) s

      pub next_listed : {j' m' : ℕ} → j' ≡ j + 1 → m' ≡ m → Listed j' m' now found slots
      next_listed {j'} {m'} next is =
          let P : ℕ → Type 0 = λ z. Listed j' z now found slots in
          subst P (sym is) (record {
            same = s.same;
            sized = s.sized;
            folded = folded_next post of start.graph cs s.folded next;
            counted = s.counted;
            few = s.few;
          })

      -- the list of the next node is begun
      pub begins : {e at : ℕ} → m < length (concat cs) → get_or (concat cs) m 0 ≡ at → Mem at (component cs j)
          → e ≡ first_of end (out_list now.graph at) → Reading end j m now found slots e
      begins {e} {at} low here own first =
          record {
            at = at;
            passed = 0;
            place = low;
            here = here;
            own = own;
            cursor = first ∙ ap (λ (z : Graph N E). first_of end (out_list z at)) s.same;
            within = omega arith;
            same = s.same;
            sized = s.sized;
            folded =
                folded_seen post of start.graph cs s.folded (append-nil (lists_of start.graph (take m (concat cs))));
            counted = omega (arith, s.counted);
            few = omega (arith, s.few);
          }

      -- all was read
      pub all_folded : m ≡ length (concat cs) → IsFolded post of start.graph cs slots
      all_folded is =
          let g = start.graph in
          let all : take m (concat cs) ≡ concat cs = take_all m (concat cs) (omega (arith, is)) in
          let whole : lists_of g (take m (concat cs)) ≡ edges_read g cs =
          ap (λ z. lists_of g z) all ∙ lists_read g (concat cs) in
          let f = folded_seen post of g cs s.folded (sym whole) in
          record {
            folds = f.folds;
            every = λ e a b between apart.
                let exists = w.parents e between.0 between.1 in
                let in_all : Mem between.0.parent (concat cs) =
                contains_mem (concat cs) _ ((are.exact between.0.parent).1 exists) in
                let in_list : Mem e (lists_of g (concat cs)) =
                lists_in g (concat cs) between.0.parent e in_all
                (listed end g w between.0.parent e between.0 between.1 refl) in
                let P : List ℕ → Type 0 = λ z. Mem e z in
                f.every e a b (subst P (lists_read g (concat cs)) in_list) between apart;
            single = f.single;
          }

      pub all_full : (i : ℕ) → i < length slots → IsSome (slot slots i)
      all_full = s.folded.full

    module _ {j m : ℕ} {now : State N E} {found : List ℕ} {slots : List (Option (Edge W))} {e : ℕ}
        (s : Reading end j m now found slots e) where
      -- the looks are few
      pub few_read : (here : e ≢ end) → now.looks < start.looks + edge_count start.graph
      few_read here =
          let xs = concat cs in
          let g = start.graph in
          let r = read_part end g w s.at s.passed e s.cursor here in
          let more : take (suc m) xs ≡ take m xs ++ s.at ∷ [] =
          take-suc xs m 0 s.place ∙ ap (λ (z : ℕ). take m xs ++ z ∷ []) s.here in
          let long : length (lists_of g (take (suc m) xs)) ≡ length (lists_of g (take m xs) ++ lists_of g (s.at ∷ [])) =
          ap (λ (z : List ℕ). length (lists_of g z)) more
          ∙ ap (λ (z : List ℕ). length z) (lists_more g (take m xs) (s.at ∷ [])) in
          omega (
            arith,
            s.counted,
            r.0,
            long,
            length-append (lists_of g (take m xs)) (lists_of g (s.at ∷ [])),
            length-append (out_list g s.at) [],
            lists_few end g w (take (suc m) xs) (first_once (suc m)),
          )

      -- the list was read to its end
      pub ends : e ≡ end → {m' : ℕ} → m' ≡ m + 1 → Listed j m' now found slots
      ends h {m'} next =
          let xs = concat cs in
          let g = start.graph in
          let all = read_whole end g w s.at s.passed e s.cursor s.within h in
          let more : take (suc m) xs ≡ take m xs ++ s.at ∷ [] =
          take-suc xs m 0 s.place ∙ ap (λ (z : ℕ). take m xs ++ z ∷ []) s.here in
          let list : take s.passed (out_list g s.at) ≡ out_list g s.at =
          take_all s.passed (out_list g s.at) (omega (arith, all)) in
          let same : lists_of g (take (suc m) xs) ≡ read_so_far g cs m s.at s.passed =
          ap (λ z. lists_of g z) more ∙ lists_more g (take m xs) (s.at ∷ [])
          ∙ ap (λ z. lists_of g (take m xs) ++ z) (append-nil (out_list g s.at) ∙ sym list) in
          let long : length (lists_of g (take (suc m) xs)) ≡ length (lists_of g (take m xs)) + s.passed =
          omega (
            arith,
            ap (λ (z : List ℕ). length z) same,
            length-append (lists_of g (take m xs)) (take s.passed (out_list g s.at)),
            ap (λ (z : List ℕ). length z) list,
            all,
          ) in
          let P : ℕ → Type 0 = λ z. Listed j z now found slots in
          let is : suc m ≡ m' = omega (arith, next) in
          subst P is (record {
            same = s.same;
            sized = s.sized;
            folded = folded_seen post of g cs s.folded same;
            counted = omega (arith, s.counted, long);
            few = omega (arith, s.few, long);
          })

      module _ (here : e ≢ end) where
        pub edge_here : HasEdge now.graph e
        edge_here =
            let P : Graph N E → Type 0 = λ z. HasEdge z e in
            subst P (sym s.same) (has_edge end start.graph w s.at s.passed e s.cursor here)

        -- the edges that were read, the one at hand, and the others
        pub split : (after : List ℕ) × (edges_read start.graph cs ≡ read_so_far start.graph cs m s.at s.passed ++ e ∷ after)
        split =
            let xs = concat cs in
            let g = start.graph in
            let out = out_list g s.at in
            let r = read_part end g w s.at s.passed e s.cursor here in
            let front = lists_of g (take m xs) in
            let rest = lists_of g (drop (m + 1) xs) in
            let back = drop (s.passed + 1) out in
            let tail : drop m xs ≡ s.at ∷ drop (m + 1) xs =
            drop_more xs m 0 s.place ∙ ap (λ (z : ℕ). z ∷ drop (m + 1) xs) s.here in
            let nodes : concat cs ≡ take m xs ++ s.at ∷ drop (m + 1) xs =
            sym (take-append-drop m xs) ∙ ap (λ z. take m xs ++ z) tail in
            let list : out ≡ take s.passed out ++ e ∷ back =
            sym (take-append-drop s.passed out)
            ∙ ap (λ z. take s.passed out ++ z)
            (drop_more out s.passed end r.0 ∙ ap (λ (z : ℕ). z ∷ back) (sym r.1)) in
            let whole : edges_read g cs ≡ front ++ ((take s.passed out ++ e ∷ back) ++ rest) =
            sym (lists_read g (concat cs)) ∙ ap (λ z. lists_of g z) nodes
            ∙ lists_more g (take m xs) (s.at ∷ drop (m + 1) xs)
            ∙ ap (λ z. front ++ (z ++ rest)) list in (
              back ++ rest,
              whole ∙ ap (λ z. front ++ z) (append_assoc (take s.passed out) (e ∷ back) rest)
                  ∙ sym (append_assoc front (take s.passed out) (e ∷ (back ++ rest))),
            )

        module _ {v next : ℕ} (look : IsLook end now.graph e v next) where
          look₀ : IsLook end start.graph e v next
          look₀ = let P : Graph N E → Type 0 = λ z. IsLook end z e v next in subst P s.same look

          -- the child is in a component
          pub child_in : (k : ℕ) × (k < length cs) × Contains (component cs k) v
          child_in =
              let exists = child_exists end start.graph w s.at s.passed e s.cursor here v next look₀ in
              let p = component_of cs v (contains_mem (concat cs) v ((are.exact v).1 exists)) in
              (p.0, p.1, mem_contains (component cs p.0) v p.2)

          pub leads : (k : ℕ) → Contains (component cs k) v → LeadsBetween start.graph cs e j k
          leads k in_k =
              let p = cursor_leaves end start.graph w s.at s.passed e s.cursor here in
              let same : Some p.0 ≡ Some look₀.edge = sym p.1 ∙ look₀.at in
              let whole : p.0 ≡ look₀.edge = cc in
              let child : v ≡ p.0.child = look₀.child_is ∙ sym (ap (λ (x : Edge E). x.child) whole) in
              let P : ℕ → Type 0 = λ z. Contains (component cs j) z in
              let Q : ℕ → Type 0 = λ z. Contains (component cs k) z in
              (p.0, p.1, subst P (sym p.2) (mem_contains (component cs j) s.at s.own), subst Q child in_k)

          module _ {now' : State N E} (unchanged : now'.graph ≡ now.graph) (one_more : now'.looks ≡ now.looks + 1) where
            -- with what is folded now
            goes_on : {found' : List ℕ} {slots' : List (Option (Edge W))} → length found' ≡ length found
                → length slots' ≤ length slots + 1
                → Folded post of start.graph cs j found' (read_so_far start.graph cs m s.at s.passed ++ e ∷ []) slots'
                → Reading end j m now' found' slots' next
            goes_on long short folded =
                let out = out_list start.graph s.at in
                let r = read_part end start.graph w s.at s.passed e s.cursor here in
                let front = lists_of start.graph (take m (concat cs)) in
                let more : take (suc s.passed) out ≡ take s.passed out ++ e ∷ [] =
                take-suc out s.passed end r.0 ∙ ap (λ (y : ℕ). take s.passed out ++ y ∷ []) (sym r.1) in
                let seen : front ++ take (suc s.passed) out ≡ (front ++ take s.passed out) ++ e ∷ [] =
                ap (λ z. front ++ z) more ∙ sym (append_assoc front (take s.passed out) (e ∷ [])) in
                record {
                  at = s.at;
                  passed = suc s.passed;
                  place = s.place;
                  here = s.here;
                  own = s.own;
                  cursor = next_cursor end start.graph w s.at s.passed e s.cursor here v next look₀;
                  within = omega (arith, r.0);
                  same = unchanged ∙ s.same;
                  sized = long ∙ s.sized;
                  folded = folded_seen post of start.graph cs folded seen;
                  counted = omega (arith, s.counted, one_more);
                  few = omega (arith, s.few, short);
                }

            -- past an edge within the component
            pub goes_past : {k : ℕ} → Contains (component cs k) v → k ≡ j → Reading end j m now' found slots next
            goes_past {k} in_k inner =
                goes_on refl (omega arith) (folds_inner post of start.graph cs s.folded once e k (leads k in_k) inner)

            -- past an edge that was folded
            pub goes_folding : {k : ℕ} → Contains (component cs k) v → k ≢ j → k < length cs → {at : ℕ} {found' : List ℕ}
                {slots' : List (Option (Edge W))}
                → (IsReplaced (λ given made. IsGiven post of start.graph cs (Some given) e made) slots slots' at j k
                × (found' ≡ found))
                ⊎ ((made : W) × IsGiven post of start.graph cs None e made × IsAppended slots slots' found found' j k made)
                → Reading end j m now' found' slots' next
            goes_folding {k} in_k apart below {at} {found'} {slots'} folded =
                elim folded [
                  | inl p ↦ (
                      let Q : List ℕ → Type 0 = λ z. Reading end j m now' z slots' next in
                      subst Q (sym p.1) (goes_on refl (omega (arith, p.0.long))
                      (folds_again post of start.graph cs s.folded once e k (leads k in_k) apart p.0))
                      )
                  | inr p ↦ (
                      let low : k < length found = omega (arith, below, s.sized) in
                      let long : length found' ≡ length found =
                      ap (λ (z : List ℕ). length z) p.2.noted ∙ length-set found k (length slots) in
                      let short : length slots' ≡ length slots + 1 =
                      ap (λ z. length z) p.2.slots ∙ length_push slots (Some (record { parent = j; child = k; weight = p.0 })) in
                      goes_on long (omega (arith, short))
                      (folds_new post of start.graph cs s.folded once e k (leads k in_k) apart p.0 low p.1 p.2)
                      )
                ]

          module _ (k : ℕ) (in_k : Contains (component cs k) v) (apart : k ≢ j) (pre : Option W → I → Bor E → Type 0)
              (can : CanFold post of start.graph cs pre) (x : Edge E) (is : edge_at start.graph e ≡ Some x)
              (shown : Bor E) (shows : shown.now ≡ x.weight) where
            -- the call for one more edge between the same two may be made
            pub may_fold : (at : ℕ) (given : W) → slot slots at ≡ Some (record { parent = j; child = k; weight = given })
                → pre (Some given) (of e) shown
            may_fold at given there =
                can j k e (read_so_far start.graph cs m s.at s.passed) split.0 (Some given) x shown split.1
                (λ same. apart (sym same)) (leads k in_k) (given_again post of start.graph cs s.folded at k given there) is shows

            -- and the one for the first
            pub may_begin : ¬ Joins slots (slice_index found k) j k → pre None (of e) shown
            may_begin none =
                can j k e (read_so_far start.graph cs m s.at s.passed) split.0 None x shown split.1
                (λ same. apart (sym same)) (leads k in_k)
                (given_first post of start.graph cs s.folded k (λ same. apart (sym same)) none) is shows
