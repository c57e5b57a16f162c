-- The state of `sort_nodes`, by the variables of its code.
use Rattle.std.proofs.Common.{◌≡◌, ◌≢◌, ℕ, suc, ◌+◌, ◌-◌, ◌<◌, ◌≤◌, true, false, inl, inr, List, [], ◌∷◌, length}
use Rattle.std.proofs.Common.{get_or, drop, set, refl, sym, ap, subst, ◌∙◌, arith, length-set}
use Rattle.std.proofs.lemmas.List.{get_or-set_other, get_or-set_same, drop-set, drop-set-lt, drop_all}
use Rattle.std.proofs.lemmas.Bool.{cases_lt}
use Rattle.daggy_base.specs.Graph.{Graph, HasNode, HasEdge, out_list, node_bound, edge_count}
use Rattle.daggy_base.specs.Path.{IsAcyclic}
use Rattle.daggy_search.specs.Sorting.{IsSorted}
use Rattle.daggy_search.specs.Work.{Work, IsSized, IsCleared}
use Rattle.daggy_search.proofs.Sized.{sized_entered, sized_marked, sized_put_node, sized_put_cursor}
use Rattle.daggy_base.specs.Cursor.{first_of}
use Rattle.daggy_base.specs.WellFormed.{IsWellFormed}
use Rattle.daggy_base.specs.Look.{IsLook}
use Rattle.daggy_base.proofs.OutEdgesRead.{below_bound, has_edge, child_exists, next_cursor}
use Rattle.daggy_search.proofs.SearchProgress.{marked_within, set_marked}
use Rattle.daggy_search.proofs.FinishingOrder.{Stop, nodes_of, Leaving, none_discovered, entered_root, all_sorted}
use Rattle.daggy_search.proofs.FinishingOrder.{entered_few, has_room, looked_within, leaves_node, look_within, passes}
use Rattle.daggy_search.proofs.FinishingOrder.{enters, closes}

-- the stack has the nodes of a way, first node first, each with a cursor at the edge that is next to be looked at
abbrev pub AreKept : {N E : Type 0} → (end : ℕ) → Graph N E → (stack cursors : List ℕ) → List Stop → Type 0
AreKept end g stack cursors [] = Unit {0}
AreKept end g stack cursors (s ∷ ss) =
    ((d : ℕ) → get_or stack (length (nodes_of ss)) d ≡ s.node)
    × ((d : ℕ) → get_or cursors (length (nodes_of ss)) d ≡ first_of end (drop s.passed (out_list g s.node)))
    × AreKept end g stack cursors ss

-- what stands above them does not matter
kept_stack : {N E : Type 0} (end : ℕ) (g : Graph N E) (stack cursors : List ℕ) (k n : ℕ) (ss : List Stop)
    → length (nodes_of ss) ≤ k → AreKept end g stack cursors ss → AreKept end g (set stack k n) cursors ss
kept_stack end g stack cursors k n [] low kept = tt
kept_stack end g stack cursors k n (s ∷ ss) low kept =
    let apart : length (nodes_of ss) ≢ k = λ eq. absurd (omega arith) in (
      λ d. get_or-set_other stack k (length (nodes_of ss)) n d apart ∙ kept.0 d,
      kept.1,
      kept_stack end g stack cursors k n ss (omega arith) kept.2,
    )

kept_cursors : {N E : Type 0} (end : ℕ) (g : Graph N E) (stack cursors : List ℕ) (k e : ℕ) (ss : List Stop)
    → length (nodes_of ss) ≤ k → AreKept end g stack cursors ss → AreKept end g stack (set cursors k e) ss
kept_cursors end g stack cursors k e [] low kept = tt
kept_cursors end g stack cursors k e (s ∷ ss) low kept =
    let apart : length (nodes_of ss) ≢ k = λ eq. absurd (omega arith) in (
      kept.0,
      λ d. get_or-set_other cursors k (length (nodes_of ss)) e d apart ∙ kept.1 d,
      kept_cursors end g stack cursors k e ss (omega arith) kept.2,
    )

-- What a sort begins with: the graph, the size of its worklist, and how often edges were looked at till then.
pub record Start (N E : Type 0) : Type 0 where
  pub graph : Graph N E
  pub size : ℕ
  pub looks : ℕ

-- What a sort has so far: the graph, the worklist, with the nodes that were discovered, those that were finished, and a
-- stack with its cursors, the first place of the stack that holds a finished node, and how often edges were looked at.
pub record Sorting (N E : Type 0) : Type 0 where
  pub graph : Graph N E
  pub work : Work
  pub top : ℕ
  pub looks : ℕ

-- Where a walk is: how many nodes are on the way to it, its node, and the next edge of that one.
pub record Spot : Type 0 where
  pub len : ℕ
  pub node : ℕ
  pub edge : ℕ

-- what stays
pub record ScratchSizes {N E : Type 0} (start : Start N E) (now : Sorting N E) : Type 0 where
  pub same : now.graph ≡ start.graph
  pub bounded : node_bound start.graph ≤ start.size
  pub sized : IsSized start.size now.work

-- the nodes that were finished stand at the back of the stack, from top on
pub record StandBehind (stack : List ℕ) (top : ℕ) (order : List ℕ) : Type 0 where
  pub at_top : top + length order ≡ length stack
  pub are : drop top stack ≡ order

-- between two roots: the nodes below i were visited
pub record Resting {N E : Type 0} (end : ℕ) (start : Start N E) (i : ℕ) (now : Sorting N E) : Type 0 where
  pub sizes : ScratchSizes start now
  pub visited : (m : ℕ) → m < i → HasNode start.graph m → get_or now.work.entered m false ≡ true
  pub looked : ℕ
  pub counted : now.looks ≡ start.looks + looked
  pub order : List ℕ
  pub behind : StandBehind now.work.nodes now.top order
  pub state : Leaving end start.graph now.work.entered now.work.marked [] order looked

-- on a walk from a root, at a node and an edge of its list
pub record Walking {N E : Type 0} (end : ℕ) (start : Start N E) (i : ℕ) (now : Sorting N E) (spot : Spot)
    : Type 0 where
  pub sizes : ScratchSizes start now
  pub visited : (m : ℕ) → m < i → HasNode start.graph m → get_or now.work.entered m false ≡ true
  pub looked : ℕ
  pub counted : now.looks ≡ start.looks + looked
  pub order : List ℕ
  pub way : List Stop
  pub passed : ℕ
  pub behind : StandBehind now.work.nodes now.top order
  pub state : Leaving end start.graph now.work.entered now.work.marked (record { node = spot.node; passed = passed } ∷ way)
      order looked
  pub cursor : spot.edge ≡ first_of end (drop passed (out_list start.graph spot.node))
  pub deep : spot.len ≡ length (nodes_of way)
  pub high : spot.len ≤ start.size
  pub kept : AreKept end start.graph now.work.nodes now.work.cursors way

pub rests : {N E : Type 0} {end size : ℕ} (now : Sorting N E)
    → node_bound now.graph ≤ size → IsSized size now.work → IsCleared now.work → now.top ≡ size
    → Resting end record { graph = now.graph; size = size; looks = now.looks } 0 now
rests {N} {E} {end} {size} now bounded sized clear at_top =
    record {
      sizes = record { same = refl; bounded = bounded; sized = sized };
      visited = λ m low exists. absurd (omega arith);
      looked = 0;
      counted = omega arith;
      order = [];
      behind = record {
        at_top = omega (arith, at_top, sized.nodes_are);
        are = drop_all now.top now.work.nodes (omega (arith, at_top, sized.nodes_are));
      };
      state = none_discovered end now.graph now.work.entered now.work.marked clear.none_entered clear.none_marked;
    }

module _ {N E : Type 0} {start : Start N E} {now : Sorting N E} (r : ScratchSizes start now) where
  exists_now : (m : ℕ) → HasNode start.graph m → HasNode now.graph m
  exists_now m h = let P : Graph N E → Type 0 = λ z. HasNode z m in subst P (sym r.same) h

  exists_then : (m : ℕ) → HasNode now.graph m → HasNode start.graph m
  exists_then m h = let P : Graph N E → Type 0 = λ z. HasNode z m in subst P r.same h

  below_entered : (m : ℕ) → HasNode start.graph m → m < length now.work.entered
  below_entered m h = omega (arith, below_bound start.graph.nodes m h, r.bounded, r.sized.entered_are)

  -- the worklist is another of that size
  resized : {work : Work} → IsSized start.size work → {top : ℕ} → ScratchSizes start record now { work = work; top = top }
  resized sized = record { same = r.same; bounded = r.bounded; sized = sized }

module _ {N E : Type 0} {end : ℕ} {start : Start N E} {i : ℕ} {now : Sorting N E} (w : IsWellFormed end start.graph)
    (s : Resting end start i now) where
  pub few_rested : now.looks ≤ start.looks + edge_count start.graph
  few_rested = omega (arith, s.counted, looked_within end start.graph _ _ _ _ _ s.state w)

  -- all roots were tried
  pub all_found : node_bound start.graph ≤ i → IsSorted start.graph (drop now.top now.work.nodes)
  all_found all =
      let P : List ℕ → Type 0 = λ z. IsSorted start.graph z in
      subst P (sym s.behind.are) (all_sorted end start.graph now.work.entered now.work.marked s.order s.looked s.state
      (λ m h. s.visited m (omega (arith, below_bound start.graph.nodes m h)) h))

  pub top_within : now.top ≤ start.size
  top_within = omega (arith, s.behind.at_top, s.sizes.sized.nodes_are)

  -- a root that does not exist, or was discovered on an earlier walk
  pub skipped : (HasNode now.graph i → get_or now.work.entered i false ≡ true)
      → Resting end start (i + 1) now
  skipped here =
      record {
        sizes = s.sizes;
        visited = λ m low exists.
            elim (cases_lt m i) [
              | inl a ↦ s.visited m a exists
              | inr b ↦ (
                  let last : i ≡ m = omega arith in
                  let P : ℕ → Type 0 = λ z. HasNode now.graph z → get_or now.work.entered z false ≡ true in
                  subst P last here (exists_now s.sizes m exists)
                  )
            ];
        looked = s.looked;
        counted = s.counted;
        order = s.order;
        behind = s.behind;
        state = s.state;
      }

  pub begins : {n e : ℕ} → HasNode now.graph n → get_or now.work.entered i false ≡ false → n ≡ i
      → e ≡ first_of end (out_list now.graph n)
      → Walking end start (i + 1) record now { work = record now.work { entered = set now.work.entered i true } } record {
        len = 0;
        node = n;
        edge = e;
      }
  begins {n} {e} exists unseen is first =
      let there : HasNode now.graph i = let P : ℕ → Type 0 = λ z. HasNode now.graph z in subst P is exists in
      let low : i < length now.work.entered = below_entered s.sizes i (exists_then s.sizes i there) in
      let on =
      entered_root end start.graph now.work.entered now.work.marked s.order s.looked i s.state
      (exists_then s.sizes i there) low unseen in
      record {
        sizes = resized s.sizes (sized_entered s.sizes.sized i);
        visited = λ m below real.
            (set_marked now.work.entered i m low).1 (elim (cases_lt m i) [
              | inl a ↦ inr (s.visited m a real)
              | inr b ↦ inl (omega arith)
            ]);
        looked = s.looked;
        counted = s.counted;
        order = s.order;
        way = [];
        passed = 0;
        behind = s.behind;
        state =
            let P : ℕ → Type 0 = λ z.
            Leaving end start.graph (set now.work.entered i true) now.work.marked (record { node = z; passed = 0 } ∷ [])
            s.order s.looked in
            subst P (sym is) on;
        cursor = first ∙ ap (λ (z : Graph N E). first_of end (out_list z n)) s.sizes.same;
        deep = refl;
        high = omega arith;
        kept = tt;
      }

module _ {N E : Type 0} {end : ℕ} {start : Start N E} {i : ℕ} {now : Sorting N E} {spot : Spot}
    (w : IsWellFormed end start.graph) (s : Walking end start i now spot) where
  pub looked_once : spot.edge ≢ end → {looks' : ℕ}
      → looks' ≡ now.looks + 1 → looks' ≤ start.looks + edge_count start.graph
  looked_once here one_more =
      omega (arith, s.counted, look_within w _ _ _ s.state s.cursor here)

  pub edge_here : spot.edge ≢ end → HasEdge now.graph spot.edge
  edge_here here =
      let P : Graph N E → Type 0 = λ z. HasEdge z spot.edge in
      subst P (sym s.sizes.same) (has_edge end start.graph w spot.node s.passed spot.edge s.cursor here)

  pub node_low : spot.node < length now.work.marked
  node_low =
      omega (
        arith,
        marked_within now.work.entered spot.node ((s.state.discovered_are spot.node).1 (inl refl)),
        s.sizes.sized.entered_are,
        s.sizes.sized.marked_are,
      )

  -- there is a place between the way and the nodes that were finished
  pub place_free : spot.len < now.top
  place_free =
      omega (
        arith,
        entered_few end start.graph now.work.entered now.work.marked _ s.order s.looked s.state,
        s.deep,
        s.behind.at_top,
        s.sizes.sized.entered_are,
        s.sizes.sized.nodes_are,
      )

  after : spot.edge ≡ end → Leaving end start.graph now.work.entered (set now.work.marked spot.node true) s.way
      (spot.node ∷ s.order) s.looked
  after h =
      leaves_node w now.work.marked spot.node s.passed s.state s.cursor h node_low

  -- the node is left, and put before the nodes that were finished
  module _ (h : spot.edge ≡ end) {m : ℕ} (is : m ≡ spot.node) {at : ℕ} (free : at + 1 ≡ now.top) where
    behind : StandBehind (set now.work.nodes at spot.node) at (spot.node ∷ s.order)
    behind =
        let within : at < length now.work.nodes = omega (arith, s.behind.at_top) in
        record {
          at_top = omega (arith, s.behind.at_top, length-set now.work.nodes at spot.node);
          are =
              drop-set now.work.nodes at spot.node within
              ∙ ap (λ (z : List ℕ). spot.node ∷ z) (ap (λ (z : ℕ). drop z now.work.nodes) free ∙ s.behind.are);
        }

    sizes : ScratchSizes start record now {
      work = record now.work { marked = set now.work.marked m true; nodes = set now.work.nodes at spot.node };
      top = at;
    }
    sizes = resized s.sizes (sized_put_node (sized_marked s.sizes.sized m) at spot.node)

    -- it was the last of the way
    pub walked : spot.len ≡ 0 → Resting end start i record now {
      work = record now.work { marked = set now.work.marked m true; nodes = set now.work.nodes at spot.node };
      top = at;
    }
    walked empty =
        let none : s.way ≡ [] = nothing s.way (omega (arith, s.deep)) in
        let P : List Stop → Type 0 = λ z.
        Leaving end start.graph now.work.entered (set now.work.marked spot.node true) z (spot.node ∷ s.order) s.looked in
        let Q : ℕ → Type 0 = λ z.
        Leaving end start.graph now.work.entered (set now.work.marked z true) [] (spot.node ∷ s.order) s.looked in
        record {
          sizes = sizes;
          visited = s.visited;
          looked = s.looked;
          counted = s.counted;
          order = spot.node ∷ s.order;
          behind = behind;
          state = subst Q (sym is) (subst P none (after h));
        }
      where
        nothing : (ss : List Stop) → length (nodes_of ss) ≡ 0 → ss ≡ []
        nothing [] k = refl
        nothing (t ∷ ss) k = absurd (omega arith)

    -- the walk goes on at the node before it
    pub steps_back : spot.len ≢ 0 → {next : Spot} → next.len ≡ spot.len - 1
        → ((d : ℕ) → next.node ≡ get_or (set now.work.nodes at spot.node) next.len d)
        → ((d : ℕ) → next.edge ≡ get_or now.work.cursors next.len d) → Walking end start i record now {
          work = record now.work { marked = set now.work.marked m true; nodes = set now.work.nodes at spot.node };
          top = at;
        } next
    steps_back some {next} last is_node is_cursor =
        on s.way (omega (arith, s.deep)) (after h)
        (kept_stack end start.graph now.work.nodes now.work.cursors at spot.node s.way (omega (arith, place_free, s.deep))
        s.kept)
      where
        on : (ss : List Stop)
            → length (nodes_of ss) ≡ next.len + 1
            → Leaving end start.graph now.work.entered (set now.work.marked spot.node true) ss (spot.node ∷ s.order) s.looked
            → AreKept end start.graph (set now.work.nodes at spot.node) now.work.cursors ss
            → Walking end start i record now {
              work = record now.work { marked = set now.work.marked m true; nodes = set now.work.nodes at spot.node };
              top = at;
            } next
        on [] more l kept = absurd (omega arith)
        on (t ∷ ss) more l kept =
            let deep : next.len ≡ length (nodes_of ss) = omega arith in
            let same_node : next.node ≡ t.node =
            is_node 0 ∙ (ap (λ (z : ℕ). get_or (set now.work.nodes at spot.node) z 0) deep ∙ kept.0 0) in
            let same_edge : next.edge ≡ first_of end (drop t.passed (out_list start.graph t.node)) =
            is_cursor 0 ∙ (ap (λ (z : ℕ). get_or now.work.cursors z 0) deep ∙ kept.1 0) in
            let P : ℕ → Type 0 = λ z.
            Leaving end start.graph now.work.entered (set now.work.marked z true)
            (record { node = t.node; passed = t.passed } ∷ ss) (spot.node ∷ s.order) s.looked in
            let Q : ℕ → Type 0 = λ z.
            Leaving end start.graph now.work.entered (set now.work.marked m true)
            (record { node = z; passed = t.passed } ∷ ss) (spot.node ∷ s.order) s.looked in
            record {
              sizes = sizes;
              visited = s.visited;
              looked = s.looked;
              counted = s.counted;
              order = spot.node ∷ s.order;
              way = ss;
              passed = t.passed;
              behind = behind;
              state = subst Q (sym same_node) (subst P (sym is) l);
              cursor =
                  same_edge ∙ ap (λ (z : ℕ). first_of end (drop t.passed (out_list start.graph z))) (sym same_node);
              deep = deep;
              high = omega (arith, s.high, last);
              kept = kept.2;
            }

  module _ (here : spot.edge ≢ end) {v next : ℕ} (look : IsLook end now.graph spot.edge v next) where
    look₀ : IsLook end start.graph spot.edge v next
    look₀ = let P : Graph N E → Type 0 = λ z. IsLook end z spot.edge v next in subst P s.sizes.same look

    child_real : HasNode start.graph v
    child_real = child_exists end start.graph w spot.node s.passed spot.edge s.cursor here v next look₀

    pub child_low : v < length now.work.entered
    child_low = below_entered s.sizes v child_real

    -- one more node on the way has room
    pub room_here : get_or now.work.entered v false ≡ false → spot.len + 1 < start.size
    room_here unseen =
        omega (
          arith,
          has_room end start.graph now.work.entered now.work.marked _ s.order s.looked s.state v child_low unseen,
          s.deep,
          s.sizes.sized.entered_are,
        )

    -- also below the nodes that were finished
    below_top : get_or now.work.entered v false ≡ false → spot.len < now.top
    below_top unseen =
        omega (
          arith,
          has_room end start.graph now.work.entered now.work.marked _ s.order s.looked s.state v child_low unseen,
          s.deep,
          s.behind.at_top,
          s.sizes.sized.entered_are,
          s.sizes.sized.nodes_are,
        )

    pub way_round : get_or now.work.entered v false ≡ true → get_or now.work.marked v false ≡ false
        → IsAcyclic start.graph → ⊥
    way_round =
        closes w now.work.marked spot.node s.passed s.state s.cursor here v next look₀

    module _ {g' : Graph N E} (unchanged : g' ≡ now.graph) {looks' : ℕ} (one_more : looks' ≡ now.looks + 1) where
      pub steps_over : get_or now.work.marked v false ≡ true
          → Walking end start i record now { graph = g'; looks = looks' } record spot { edge = next }
      steps_over seen =
          record {
            sizes = record { same = unchanged ∙ s.sizes.same; bounded = s.sizes.bounded; sized = s.sizes.sized };
            visited = s.visited;
            looked = s.looked + 1;
            counted = omega (arith, s.counted, one_more);
            order = s.order;
            way = s.way;
            passed = suc s.passed;
            behind = s.behind;
            state =
                passes w now.work.marked spot.node s.passed s.state s.cursor here v next look₀ seen;
            cursor = next_cursor end start.graph w spot.node s.passed spot.edge s.cursor here v next look₀;
            deep = s.deep;
            high = s.high;
            kept = s.kept;
          }

      pub steps_in : {m e' : ℕ} → m ≡ v → get_or now.work.entered v false ≡ false → e' ≡ first_of end (out_list g' v)
          → Walking end start i record now {
            graph = g';
            work = record now.work {
              entered = set now.work.entered m true;
              nodes = set now.work.nodes spot.len spot.node;
              cursors = set now.work.cursors spot.len next;
            };
            looks = looks';
          } record { len = spot.len + 1; node = v; edge = e' }
      steps_in {m} {e'} is unseen first =
          let low = child_low in
          let more = room_here unseen in
          let sized = s.sizes.sized in
          let on =
          enters w now.work.marked spot.node s.passed s.state s.cursor here v next look₀ low unseen in
          let P : ℕ → Type 0 = λ z.
          Leaving end start.graph (set now.work.entered z true) now.work.marked
          (record { node = v; passed = 0 } ∷ record { node = spot.node; passed = suc s.passed } ∷ s.way) s.order
          (s.looked + 1) in
          let within : spot.len < length now.work.nodes = omega (arith, more, sized.nodes_are) in
          let within_cursors : spot.len < length now.work.cursors = omega (arith, more, sized.cursors_are) in
          let same : g' ≡ start.graph = unchanged ∙ s.sizes.same in
          record {
            sizes = record {
              same = same;
              bounded = s.sizes.bounded;
              sized = sized_put_cursor (sized_put_node (sized_entered sized m) spot.len spot.node) spot.len next;
            };
            visited = λ k below real.
                let lower : m < length now.work.entered = omega (arith, low, is) in
                (set_marked now.work.entered m k lower).1 (inr (s.visited k below real));
            looked = s.looked + 1;
            counted = omega (arith, s.counted, one_more);
            order = s.order;
            way = record { node = spot.node; passed = suc s.passed } ∷ s.way;
            passed = 0;
            behind = record {
              at_top = omega (arith, s.behind.at_top, length-set now.work.nodes spot.len spot.node);
              are = drop-set-lt now.top now.work.nodes spot.len spot.node (below_top unseen) ∙ s.behind.are;
            };
            state = subst P (sym is) on;
            cursor = first ∙ ap (λ (z : Graph N E). first_of end (out_list z v)) same;
            deep = omega (arith, s.deep);
            high = omega (arith, more);
            kept = (
              λ d.
                  ap (λ (z : ℕ). get_or (set now.work.nodes spot.len spot.node) z d) (sym s.deep)
                  ∙ get_or-set_same now.work.nodes spot.len spot.node d within,
              λ d.
                  ap (λ (z : ℕ). get_or (set now.work.cursors spot.len next) z d) (sym s.deep)
                  ∙ (get_or-set_same now.work.cursors spot.len next d within_cursors
                  ∙ next_cursor end start.graph w spot.node s.passed spot.edge s.cursor here v next look₀),
              kept_cursors end start.graph (set now.work.nodes spot.len spot.node) now.work.cursors spot.len next s.way
                  (omega (arith, s.deep))
                  (kept_stack end start.graph now.work.nodes now.work.cursors spot.len spot.node s.way (omega (arith, s.deep))
                  s.kept),
            );
          }
