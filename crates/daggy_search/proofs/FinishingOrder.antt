-- A walk that discovers nodes, and finishes each once all its edges were looked at.
use Rattle.std.proofs.Common.{◌≡◌, ◌≢◌, ℕ, suc, ◌+◌, ◌<◌, ◌≤◌, Bool, true, false, ◌↔◌, inl, inr, List, [], ◌∷◌, ◌++◌}
use Rattle.std.proofs.Common.{length, get_or, drop, set, refl, sym, subst, ◌∙◌, arith}
use Rattle.std.proofs.lemmas.List.{length-append}
use Rattle.std.proofs.lemmas.Bool.{false≢true}
use Rattle.daggy_base.specs.Graph.{Graph, HasNode, out_list, edge_count}
use Rattle.daggy_base.specs.Path.{AreJoined, IsPath, IsAcyclic, Reaches, end_of}
use Rattle.daggy_base.specs.Cursor.{first_of}
use Rattle.daggy_base.specs.WellFormed.{IsWellFormed}
use Rattle.daggy_base.specs.Look.{IsLook}
use Rattle.daggy_search.specs.Sorting.{LeadsOnward, IsSorted}
use Rattle.daggy_base.proofs.Lists.{Mem, Unique, mem_cases, mem_out, mem_into, mem_mid, unique_mid, contains_mem}
use Rattle.daggy_base.proofs.Lists.{fewer_than}
use Rattle.daggy_base.proofs.Lists.{mem_contains, unique_from_distinct, distinct_from_unique}
use Rattle.daggy_base.proofs.OutEdgesRead.{lists_of, lists_few, LookedTo, read_whole, all_read, read_part, child_exists}
use Rattle.daggy_base.proofs.OutEdgesRead.{child_joined, looked_more}
use Rattle.daggy_search.proofs.SearchProgress.{path_stays, marked_within, set_marked}
use Rattle.daggy_base.proofs.LongerPaths.{reaches_more}

-- a node on the way, and how many of the edges that leave it were looked at
pub record Stop : Type 0 where
  pub node : ℕ
  pub passed : ℕ

abbrev pub nodes_of : List Stop → List ℕ
nodes_of [] = []
nodes_of (s ∷ ss) = s.node ∷ nodes_of ss

abbrev pub passed_by : List Stop → ℕ
passed_by [] = 0
passed_by (s ∷ ss) = s.passed + passed_by ss

-- The way, last node first. Each node is joined to the one after it, and what was looked at leads to that one or to a
-- node that was finished.
abbrev pub IsWay : {N E : Type 0} → (end : ℕ) → Graph N E → (finished next : List ℕ) → List Stop → Type 0
IsWay end g finished next [] = Unit {0}
IsWay end g finished next (s ∷ ss) =
    ((v : ℕ) → Mem v next → AreJoined g s.node v) × (s.passed ≤ length (out_list g s.node))
    × LookedTo end g (λ v. Mem v (next ++ finished)) s.node s.passed × IsWay end g finished (s.node ∷ []) ss

-- the nodes that were finished, last first: each leads to earlier ones alone
abbrev pub IsOrdered : {N E : Type 0} → Graph N E → List ℕ → Type 0
IsOrdered g [] = Unit {0}
IsOrdered g (u ∷ us) = ((v : ℕ) → AreJoined g u v → Mem v us) × IsOrdered g us

pub record Leaving {N E : Type 0} (end : ℕ) (g : Graph N E) (discovered finished : List Bool) (way : List Stop)
    (order : List ℕ) (looked : ℕ) : Type 0 where
  pub is_way : IsWay end g order [] way
  pub ordered : IsOrdered g order
  pub once : Unique (nodes_of way ++ order)
  pub real : (n : ℕ) → Mem n (nodes_of way ++ order) → HasNode g n
  pub discovered_are : (n : ℕ) → (get_or discovered n false ≡ true) ↔ Mem n (nodes_of way ++ order)
  pub finished_are : (n : ℕ) → (get_or finished n false ≡ true) ↔ Mem n order
  pub counted : looked ≡ passed_by way + length (lists_of g order)

-- nothing leads out of the nodes that were finished
ordered_stays : {N E : Type 0} (g : Graph N E) (us : List ℕ)
    → IsOrdered g us → (u v : ℕ) → Mem u us → AreJoined g u v → Mem v us
ordered_stays g [] o u v m j = absurd m
ordered_stays g (x ∷ us) o u v m j =
    elim m [
      | inl eq ↦ inr (o.0 v (let P : ℕ → Type 0 = λ z. AreJoined g z v in subst P eq j))
      | inr b ↦ inr (ordered_stays g us o.1 u v b j)
    ]

leads_onward : {N E : Type 0} (g : Graph N E) (us : List ℕ) → IsOrdered g us → LeadsOnward g us
leads_onward g [] o = tt
leads_onward g (u ∷ us) o = (λ v j. mem_contains us v (o.0 v j), leads_onward g us o.1)

ordered_onward : {N E : Type 0} (g : Graph N E) (us : List ℕ) → LeadsOnward g us → IsOrdered g us
ordered_onward g [] o = tt
ordered_onward g (u ∷ us) o = (λ v j. contains_mem us v (o.0 v j), ordered_onward g us o.1)

-- so no path among them comes back
ordered_acyclic : {N E : Type 0} (g : Graph N E) (us : List ℕ)
    → IsOrdered g us → Unique us → (u v : ℕ) (rest : List ℕ) → Mem u us → IsPath g (u ∷ v ∷ rest) → end_of v rest ≢ u
ordered_acyclic g [] o once u v rest m p back = absurd m
ordered_acyclic g (x ∷ us) o once u v rest m p back =
    elim m [
      | inl eq ↦ (
          let P : ℕ → Type 0 = λ z. Mem z us in
          let next : Mem v us = o.0 v (let Q : ℕ → Type 0 = λ z. AreJoined g z v in subst Q eq p.1) in
          let last : Mem (end_of v rest) us = path_stays g P (λ a b. ordered_stays g us o.1 a b) v rest p.2 next in
          once.0 (subst P (back ∙ eq) last)
          )
      | inr b ↦ ordered_acyclic g us o.1 once.1 u v rest b p back
    ]

-- a graph whose nodes can be sorted is acyclic
pub acyclic_from_sorted : {N E : Type 0} (g : Graph N E) (nodes : List ℕ) → IsSorted g nodes → IsAcyclic g
acyclic_from_sorted g nodes s u v rest p =
    ordered_acyclic g nodes (ordered_onward g nodes s.onward) (unique_from_distinct nodes s.once) u v rest
    (contains_mem nodes u ((s.exact u).1 p.0)) p

-- one more node that was finished
way_more : {N E : Type 0} (end : ℕ) (g : Graph N E) (finished next : List ℕ) (u : ℕ) (ss : List Stop)
    → IsWay end g finished next ss → IsWay end g (u ∷ finished) next ss
way_more end g finished next u [] h = tt
way_more end g finished next u (s ∷ ss) h = (
  h.0,
  h.1,
  λ j x lt a. mem_into next finished u x.child (h.2 j x lt a),
  way_more end g finished (s.node ∷ []) u ss h.3,
)

-- the edges that were looked at are few
passed_few : {N E : Type 0} (end : ℕ) (g : Graph N E) (finished next : List ℕ) (ss : List Stop)
    → IsWay end g finished next ss
    → passed_by ss + length (lists_of g finished) ≤ length (lists_of g (nodes_of ss ++ finished))
passed_few end g finished next [] h = omega arith
passed_few end g finished next (s ∷ ss) h =
    omega (
      arith,
      h.1,
      passed_few end g finished (s.node ∷ []) ss h.3,
      length-append (out_list g s.node) (lists_of g (nodes_of ss ++ finished)),
    )

-- each node of the way reaches the last
way_reaches : {N E : Type 0} {end : ℕ} {g : Graph N E}
    → IsWellFormed end g → (finished : List ℕ) (n : ℕ) (ss : List Stop) → IsWay end g finished (n ∷ []) ss
    → (v : ℕ) → Mem v (n ∷ nodes_of ss) → HasNode g n → Reaches g v n
way_reaches {N} {E} {end} {g} w finished n [] h v m exists =
    elim m [
      | inl eq ↦ (let P : ℕ → Type 0 = λ z. Reaches g z n in subst P (sym eq) ([], exists, refl))
      | inr b ↦ absurd b
    ]
way_reaches {N} {E} {end} {g} w finished n (s ∷ ss) h v m exists =
    elim m [
      | inl eq ↦ (let P : ℕ → Type 0 = λ z. Reaches g z n in subst P (sym eq) ([], exists, refl))
      | inr b ↦ (
          let j = h.0 n (inl refl) in
          reaches_more g v s.node n (way_reaches w finished s.node ss h.3 v b (w.parents j.0 _ j.2)) j exists
          )
    ]

module _ {N E : Type 0} (end : ℕ) (g : Graph N E) where
  -- the start
  pub none_discovered : (discovered finished : List Bool) → ((n : ℕ) → get_or discovered n false ≡ false)
      → ((n : ℕ) → get_or finished n false ≡ false) → Leaving end g discovered finished [] [] 0
  none_discovered discovered finished clear empty =
      record {
        is_way = tt;
        ordered = tt;
        once = tt;
        real = λ n m. absurd m;
        discovered_are = λ n. (λ k. absurd (false≢true (sym (clear n) ∙ k)), λ m. absurd m);
        finished_are = λ n. (λ k. absurd (false≢true (sym (empty n) ∙ k)), λ m. absurd m);
        counted = refl;
      }

  -- the nodes that are entered, with one more
  entered_more : (discovered : List Bool) (ns : List ℕ) (v : ℕ)
      → v < length discovered → ((n : ℕ) → (get_or discovered n false ≡ true) ↔ Mem n ns)
      → (n : ℕ) → (get_or (set discovered v true) n false ≡ true) ↔ Mem n (v ∷ ns)
  entered_more discovered ns v low are n = (
    λ k. elim ((set_marked discovered v n low).0 k) [ inl eq ↦ inl eq | inr m ↦ inr ((are n).0 m) ],
    λ m. (set_marked discovered v n low).1 (elim m [ inl eq ↦ inl eq | inr b ↦ inr ((are n).1 b) ]),
  )

  real_more : (ns : List ℕ) (v : ℕ)
      → HasNode g v → ((n : ℕ) → Mem n ns → HasNode g n) → (n : ℕ) → Mem n (v ∷ ns) → HasNode g n
  real_more ns v exists real n m =
      elim m [
        | inl eq ↦ (let P : ℕ → Type 0 = λ z. HasNode g z in subst P (sym eq) exists)
        | inr b ↦ real n b
      ]

  module _ (discovered finished : List Bool) (way : List Stop) (order : List ℕ) (looked : ℕ)
      (s : Leaving end g discovered finished way order looked) where
    absent : (v : ℕ) → get_or discovered v false ≡ false → Mem v (nodes_of way ++ order) → ⊥
    absent v unseen m = false≢true (sym unseen ∙ (s.discovered_are v).1 m)

    -- one more stop has room
    pub has_room : (v : ℕ) → v < length discovered → get_or discovered v false ≡ false
        → length (nodes_of way) + length order < length discovered
    has_room v low unseen =
        let low_all : (x : ℕ) → Mem x (v ∷ (nodes_of way ++ order)) → x < length discovered = λ x m.
        elim m [
          | inl eq ↦ omega (arith, eq)
          | inr b ↦ marked_within discovered x ((s.discovered_are x).1 b)
        ] in
        let few = fewer_than (v ∷ (nodes_of way ++ order)) (length discovered) (absent v unseen, s.once) low_all in
        omega (arith, few, length-append (nodes_of way) order)

    -- the nodes that were discovered are few
    pub entered_few : length (nodes_of way) + length order ≤ length discovered
    entered_few =
        let low_all : (x : ℕ) → Mem x (nodes_of way ++ order) → x < length discovered = λ x m.
        marked_within discovered x ((s.discovered_are x).1 m) in
        let few = fewer_than (nodes_of way ++ order) (length discovered) s.once low_all in
        omega (arith, few, length-append (nodes_of way) order)

    pub looked_within : IsWellFormed end g → looked ≤ edge_count g
    looked_within w =
        omega (
          arith,
          s.counted,
          passed_few end g order [] way s.is_way,
          lists_few end g w (nodes_of way ++ order) s.once,
        )

  -- a walk from a root begins
  pub entered_root : (discovered finished : List Bool) (order : List ℕ) (looked v : ℕ)
      → Leaving end g discovered finished [] order looked → HasNode g v → v < length discovered
      → get_or discovered v false ≡ false
      → Leaving end g (set discovered v true) finished (record { node = v; passed = 0 } ∷ []) order looked
  entered_root discovered finished order looked v s exists low unseen =
      record {
        is_way = (λ n m. absurd m, omega arith, λ j x lt a. absurd (omega arith), tt);
        ordered = s.ordered;
        once = (absent discovered finished [] order looked s v unseen, s.once);
        real = real_more order v exists s.real;
        discovered_are = entered_more discovered order v low s.discovered_are;
        finished_are = s.finished_are;
        counted = omega (arith, s.counted);
      }

  -- all nodes were finished: each once, and each before its children
  pub all_sorted : (discovered finished : List Bool) (order : List ℕ) (looked : ℕ)
      → Leaving end g discovered finished [] order looked → ((n : ℕ) → HasNode g n → get_or discovered n false ≡ true)
      → IsSorted g order
  all_sorted discovered finished order looked s all =
      record {
        exact = λ n. (
          λ m. s.real n (contains_mem order n m),
          λ h. mem_contains order n ((s.discovered_are n).0 (all n h)),
        );
        once = distinct_from_unique order s.once;
        onward = leads_onward g order s.ordered;
      }

-- a cursor at a node
module _ {N E : Type 0} {end : ℕ} {g : Graph N E} (w : IsWellFormed end g) {discovered : List Bool}
    (finished : List Bool)
    (at passed : ℕ) {way : List Stop} {order : List ℕ} {looked : ℕ}
    (s : Leaving end g discovered finished (record { node = at; passed = passed } ∷ way) order looked) {e : ℕ}
    (cursor : e ≡ first_of end (drop passed (out_list g at))) where
  -- at `end` the node is left
  pub leaves_node : e ≡ end → at < length finished
      → Leaving end g discovered (set finished at true) way (at ∷ order) looked
  leaves_node h low =
      let D = nodes_of way in
      let few = s.is_way.1 in
      let out : (n : ℕ) → Mem n (D ++ at ∷ order) → Mem n (at ∷ (D ++ order)) = λ n m. mem_out D order at n m in
      let into : (n : ℕ) → Mem n (at ∷ (D ++ order)) → Mem n (D ++ at ∷ order) = λ n m.
      elim m [
        | inl eq ↦ (let P : ℕ → Type 0 = λ z. Mem z (D ++ at ∷ order) in subst P (sym eq) (mem_mid D order at))
        | inr b ↦ mem_into D order at n b
      ] in
      record {
        is_way = unlocked way s.is_way.3;
        ordered = (λ v j. all_read end g w at passed e cursor few h (λ z. Mem z order) s.is_way.2 v j, s.ordered);
        once = unique_mid D order at s.once.1 s.once.0;
        real = λ n m. s.real n (out n m);
        discovered_are = λ n. (λ k. into n ((s.discovered_are n).0 k), λ m. (s.discovered_are n).1 (out n m));
        finished_are = entered_more end g finished order at low s.finished_are;
        counted = omega (
          arith,
          s.counted,
          read_whole end g w at passed e cursor few h,
          length-append (out_list g at) (lists_of g order),
        );
      }
    where
      unlocked : (ss : List Stop) → IsWay end g order (at ∷ []) ss → IsWay end g (at ∷ order) [] ss
      unlocked [] i = tt
      unlocked (t ∷ ss) i = (λ v m. absurd m, i.1, i.2, way_more end g order (t.node ∷ []) at ss i.3)

  -- one more look is one of few
  pub look_within : e ≢ end → looked + 1 ≤ edge_count g
  look_within here =
      omega (
        arith,
        (read_part end g w at passed e cursor here).0,
        s.counted,
        passed_few end g order (at ∷ []) way s.is_way.3,
        lists_few end g w (at ∷ (nodes_of way ++ order)) s.once,
        length-append (out_list g at) (lists_of g (nodes_of way ++ order)),
      )

  module _ (here : e ≢ end) (v next : ℕ) (look : IsLook end g e v next) where
    -- a child that was finished
    pub passes : get_or finished v false ≡ true
        → Leaving end g discovered finished (record { node = at; passed = suc passed } ∷ way) order (looked + 1)
    passes seen =
        record {
          is_way = (
            s.is_way.0,
            omega (arith, (read_part end g w at passed e cursor here).0),
            looked_more end g w at passed e cursor here v next look (λ z. Mem z order) s.is_way.2
                ((s.finished_are v).0 seen),
            s.is_way.3,
          );
          ordered = s.ordered;
          once = s.once;
          real = s.real;
          discovered_are = s.discovered_are;
          finished_are = s.finished_are;
          counted = omega (arith, s.counted);
        }

    -- a child that was not entered
    pub enters : v < length discovered → get_or discovered v false ≡ false
        → Leaving end g (set discovered v true) finished
        (record { node = v; passed = 0 } ∷ record { node = at; passed = suc passed } ∷ way) order (looked + 1)
    enters low unseen =
        let joined = child_joined end g w at passed e cursor here v next look in
        let to : (n : ℕ) → Mem n (v ∷ []) → AreJoined g at n = λ n m.
        elim m [
          | inl eq ↦ (let P : ℕ → Type 0 = λ z. AreJoined g at z in subst P (sym eq) joined)
          | inr b ↦ absurd b
        ] in
        record {
          is_way = (
            λ n m. absurd m,
            omega arith,
            λ j x lt a. absurd (omega arith),
            (
              to,
              omega (arith, (read_part end g w at passed e cursor here).0),
              looked_more end g w at passed e cursor here v next look (λ z. Mem z (v ∷ order))
                  (λ j x lt a. inr (s.is_way.2 j x lt a)) (inl refl),
              s.is_way.3,
            ),
          );
          ordered = s.ordered;
          once = (absent end g discovered finished _ order looked s v unseen, s.once);
          real =
              real_more end g (at ∷ (nodes_of way ++ order)) v
              (child_exists end g w at passed e cursor here v next look) s.real;
          discovered_are = entered_more end g discovered (at ∷ (nodes_of way ++ order)) v low s.discovered_are;
          finished_are = s.finished_are;
          counted = omega (arith, s.counted);
        }

    -- a child that was discovered and not left is on the way, so the edge to it closes a cycle
    pub closes : get_or discovered v false ≡ true → get_or finished v false ≡ false → IsAcyclic g → ⊥
    closes seen unleft acyclic =
        let exists = child_exists end g w at passed e cursor here v next look in
        let joined = child_joined end g w at passed e cursor here v next look in
        let on_way : Mem v (at ∷ nodes_of way) =
        elim (mem_cases (at ∷ nodes_of way) order v ((s.discovered_are v).0 seen)) [
          | inl a ↦ a
          | inr b ↦ absurd (false≢true (sym unleft ∙ (s.finished_are v).1 b))
        ] in
        let at_exists : HasNode g at = w.parents joined.0 _ joined.2 in
        let r = way_reaches w order at way s.is_way.3 v on_way at_exists in
        acyclic at v r.0 (at_exists, joined, r.1) r.2
