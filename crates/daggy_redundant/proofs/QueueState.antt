-- The state of such a queue, in the variables of its code.
use Rattle.std.proofs.Common.{◌≡◌, ◌≢◌, ℕ, zero, suc, ◌+◌, ◌<◌, ◌≤◌, Bool, true, false, ◌⊎◌, ◌↔◌, inl, inr, List, [], Contains}
use Rattle.std.proofs.Common.{◌∷◌, ◌++◌, length, get_or, take, set, refl, sym, ap, subst, ◌∙◌, arith}
use Rattle.std.proofs.lemmas.List.{take_more_set, length-take-le, length-append, get_or-set_same, get_or-take}
use Rattle.daggy_base.specs.Graph.{Graph, HasNode, HasEdge, out_list, node_bound, edge_count}
use Rattle.daggy_base.specs.Cursor.{first_of}
use Rattle.daggy_base.specs.WellFormed.{IsWellFormed, AreDistinct}
use Rattle.daggy_base.specs.Look.{IsLook}
use Rattle.daggy_base.specs.Ordered.{edges_from}
use Rattle.daggy_base.proofs.Lists.{Mem, Unique, mem_right, mem_contains, contains_mem, unique_from_distinct}
use Rattle.daggy_base.proofs.OutEdgesRead.{below_bound}
use Rattle.daggy_search.specs.Work.{Work, IsSized}
use Rattle.daggy_search.proofs.Sized.{sized_entered, sized_marked, sized_put_node}
use Rattle.daggy_redundant.specs.Closure.{IsQueue, IsClosure, MeetsChildren}
use Rattle.daggy_redundant.proofs.QueueProgress.{Task, to_all, Queue, Queueing, looked_within, looked_from}
use Rattle.daggy_redundant.proofs.QueueProgress.{look_within, edge_exists, head_within, has_room, found_exists}
use Rattle.daggy_redundant.proofs.QueueProgress.{moved, meets_child, pushed, next_node, all_reached, all_met}
use Rattle.daggy_redundant.proofs.QueueProgress.{started}

place_after : (xs : List ℕ) (a y : ℕ) (ys : List ℕ) (d : ℕ) → get_or (xs ++ a ∷ y ∷ ys) (suc (length xs)) d ≡ y
place_after [] a y ys d = refl
place_after (x ∷ xs) a y ys d = place_after xs a y ys d

pub distinct_from_unique : (xs : List ℕ) → Unique xs → AreDistinct xs
distinct_from_unique [] u = tt
distinct_from_unique (x ∷ xs) u = (λ c. u.0 (contains_mem xs x c), distinct_from_unique xs u.1)

-- What a search begins with: the worklist, and how often edges were looked at till then.
pub record Start : Type 0 where
  pub begun : Work
  pub looks : ℕ

-- What a search has so far: the graph, the worklist, with the nodes that were entered, those that were met and the
-- queue, how many places of the queue are in use, the place that is read, the next edge of its node, and how often edges
-- were looked at.
pub record Reading (N E : Type 0) : Type 0 where
  pub graph : Graph N E
  pub work : Work
  pub len : ℕ
  pub head : ℕ
  pub edge : ℕ
  pub looks : ℕ

abbrev pub queue_of : {N E : Type 0} → Reading N E → (looked : ℕ) → Queue
queue_of now looked = record {
  marks = now.work.entered;
  met = now.work.marked;
  nodes = take now.len now.work.nodes;
  head = now.head;
  edge = now.edge;
  looked = looked;
}

-- nothing was changed but the sets and the queue, and that is read as far as `now` says
pub record Draining {N E : Type 0} (task : Task N E) (start : Start) (now : Reading N E) : Type 0 where
  pub same : now.graph ≡ task.graph
  pub sized : IsSized start.begun.size now.work
  pub aside : now.work.cursors ≡ start.begun.cursors
  pub fits : node_bound task.graph ≤ start.begun.size
  pub high : now.len ≤ start.begun.size
  pub looked : ℕ
  pub counted : now.looks ≡ start.looks + looked
  pub going : Queueing task (queue_of now looked)

in_use : {N E : Type 0} {task : Task N E} {start : Start} {now : Reading N E}
    → Draining task start now → now.len ≤ length now.work.nodes
in_use s = omega (arith, s.high, s.sized.nodes_are)

module _ {N E : Type 0} {task : Task N E} (w : IsWellFormed task.end task.graph) {start : Start} {now : Reading N E}
    (s : Draining task start now) where
  abbrev end : ℕ
  end = task.end

  abbrev g₀ : Graph N E
  g₀ = task.graph

  pub few : now.looks ≤ start.looks + edge_count g₀
  few = omega (arith, s.counted, looked_within w s.going)

  pub few_visited : (ns : List ℕ) → ((n : ℕ) → Contains (take now.len now.work.nodes) n → Contains ns n)
      → now.looks ≤ start.looks + edges_from g₀ ns
  few_visited ns all =
      omega (arith, s.counted, looked_from w s.going ns (λ n m. contains_mem ns n (all n (mem_contains _ n m))))

  pub looked_once : now.edge ≢ end → {looks' : ℕ} → looks' ≡ now.looks + 1 → looks' ≤ start.looks + edge_count g₀
  looked_once here one_more = omega (arith, s.counted, look_within w s.going here)

  pub edge_here : now.edge ≢ end → HasEdge now.graph now.edge
  edge_here here =
      let P : Graph N E → Type 0 = λ z. HasEdge z now.edge in
      subst P (sym s.same) (edge_exists w s.going here)

  pub head_low : now.head < now.len
  head_low = omega (arith, head_within w s.going, length-take-le now.len now.work.nodes (in_use s))

  module _ (here : now.edge ≢ end) {v next : ℕ} (look : IsLook end now.graph now.edge v next) where
    look₀ : IsLook end g₀ now.edge v next
    look₀ = let P : Graph N E → Type 0 = λ z. IsLook end z now.edge v next in subst P s.same look

    pub child_exists_here : HasNode g₀ v
    child_exists_here = found_exists w s.going here look₀

    pub child_low : v < node_bound g₀
    child_low = below_bound g₀.nodes v child_exists_here

    pub room_here : get_or now.work.entered v false ≡ false → now.len < start.begun.size
    room_here unseen =
        omega (
          arith,
          has_room w s.going v (omega (arith, child_low, s.fits, s.sized.entered_are)) unseen,
          s.sized.entered_are,
          length-take-le now.len now.work.nodes (in_use s),
        )

    -- the child is in the queue, or beyond
    pub record Entered (work' : Work) (len' : ℕ) : Type 0 where
      pub queueing : Queueing task record (queue_of now s.looked) {
        marks = work'.entered;
        nodes = take len' work'.nodes;
      }
      pub member : Mem v (take len' work'.nodes) ⊎ task.Beyond v
      pub sized_still : IsSized start.begun.size work'
      pub aside_still : work'.cursors ≡ start.begun.cursors
      pub met_still : work'.marked ≡ now.work.marked
      pub high_still : len' ≤ start.begun.size

    pub left_out : task.Beyond v → Entered now.work now.len
    left_out far =
        record {
          queueing = s.going;
          member = inr far;
          sized_still = s.sized;
          aside_still = s.aside;
          met_still = refl;
          high_still = s.high;
        }

    pub entered : task.Inside v → {work' : Work} {len' : ℕ}
        → (get_or now.work.entered v false ≡ true → (work' ≡ now.work) × (len' ≡ now.len))
        → (get_or now.work.entered v false ≡ false → (work' ≡ record now.work {
          entered = set now.work.entered v true;
          nodes = set now.work.nodes now.len v;
        }) × (len' ≡ now.len + 1)) → Entered work' len'
    entered within {work'} {len'} old new = go (get_or now.work.entered v false) refl
      where
        go : (b : Bool) → b ≡ get_or now.work.entered v false → Entered work' len'
        go true is =
            let h = old (sym is) in
            let same : Entered now.work now.len = record {
              queueing = s.going;
              member = inl ((s.going.marked v).0 (sym is));
              sized_still = s.sized;
              aside_still = s.aside;
              met_still = refl;
              high_still = s.high;
            } in
            rw (h.0, h.1) same
        go false is =
            let h = new (sym is) in
            let more : now.len < length now.work.nodes = omega (arith, room_here (sym is), s.sized.nodes_are) in
            let longer = take_more_set now.work.nodes now.len v more in
            let low : v < length now.work.entered = omega (arith, child_low, s.fits, s.sized.entered_are) in
            let grown : Entered record now.work {
              entered = set now.work.entered v true;
              nodes = set now.work.nodes now.len v;
            } (now.len + 1) = record {
              queueing = rw longer (pushed w s.going here look₀ within low (sym is));
              member = inl (rw longer (mem_right (take now.len now.work.nodes) (v ∷ []) v (inl refl)));
              sized_still = sized_put_node (sized_entered s.sized v) now.len v;
              aside_still = s.aside;
              met_still = refl;
              high_still = omega (arith, room_here (sym is));
            } in
            rw (h.0, h.1) grown

    -- it is met where that is due
    module _ {g' : Graph N E} (kept : g' ≡ now.graph) {looks' : ℕ} (one_more : looks' ≡ now.looks + 1)
        {work' met' : Work} {len' : ℕ}
        (entry : Entered work' len') (meets : now.head ≢ 0 → met' ≡ record work' { marked = set work'.marked v true })
        (meets_not : now.head ≡ 0 → met' ≡ work') where
      pub visited : Draining task start record {
        graph = g';
        work = met';
        len = len';
        head = now.head;
        edge = next;
        looks = looks';
      }
      visited = go now.head refl
        where
          on : (work : Work) → IsSized start.begun.size work → work.cursors ≡ start.begun.cursors
              → Queueing task record (queue_of now s.looked) {
                marks = work.entered;
                met = work.marked;
                nodes = take len' work.nodes;
              } → Mem v (take len' work.nodes) ⊎ task.Beyond v
              → (now.head ≢ 0 → get_or work.marked v false ≡ true)
              → Draining task start record {
                graph = g';
                work = work;
                len = len';
                head = now.head;
                edge = next;
                looks = looks';
              }
          on work sized aside queueing member there =
              record {
                same = kept ∙ s.same;
                sized = sized;
                aside = aside;
                fits = s.fits;
                high = entry.high_still;
                looked = s.looked + 1;
                counted = omega (arith, s.counted, one_more);
                going = moved w queueing here look₀ member there;
              }

          go : (k : ℕ) → k ≡ now.head → Draining task start record {
            graph = g';
            work = met';
            len = len';
            head = now.head;
            edge = next;
            looks = looks';
          }
          go zero is =
              rw (meets_not (sym is)) (on work' entry.sized_still entry.aside_still
              (rw entry.met_still entry.queueing) entry.member (λ some. absurd (some (sym is))))
          go (suc k) is =
              let some : now.head ≢ 0 = λ z. omega (arith, is, z) in
              let low : v < length now.work.marked = omega (arith, child_low, s.fits, s.sized.marked_are) in
              rw (meets some, entry.met_still) (on record work' { marked = set now.work.marked v true }
              (let P : List Bool → Type 0 = λ z. IsSized start.begun.size record work' { marked = set z v true } in
              subst P entry.met_still (sized_marked entry.sized_still v)) entry.aside_still
              (meets_child w entry.queueing here look₀ some low) entry.member
              (λ _. get_or-set_same now.work.marked v true false low))

  -- the next node of the queue, or none
  pub rest_nothing : now.head + 1 ≡ now.len → s.going.rest ≡ []
  rest_nothing last = go s.going.rest refl
    where
      go : (r : List ℕ) → r ≡ s.going.rest → s.going.rest ≡ []
      go [] is = sym is
      go (y ∷ ys) is =
          absurd (omega (
            arith,
            last,
            s.going.read,
            ap length s.going.split,
            ap length is,
            length-append s.going.done (s.going.at ∷ s.going.rest),
            length-take-le now.len now.work.nodes (in_use s),
          ))

  pub next_here : now.edge ≡ end → (k u : ℕ) {e' : ℕ} → k ≡ now.head + 1 → k ≢ now.len → u ≡ get_or now.work.nodes k u
      → e' ≡ first_of end (out_list now.graph u)
      → Draining task start record now { head = k; edge = e' }
  next_here h k u {e'} one more top first = go s.going.rest refl
    where
      go : (r : List ℕ) → r ≡ s.going.rest → Draining task start record now { head = k; edge = e' }
      go [] is =
          absurd (more (omega (
            arith,
            one,
            s.going.read,
            ap length s.going.split,
            ap length is,
            length-append s.going.done (s.going.at ∷ s.going.rest),
            length-take-le now.len now.work.nodes (in_use s),
          )))
      go (y ∷ ys) is =
          let low : k < now.len =
          omega (
            arith,
            one,
            s.going.read,
            ap length s.going.split,
            ap length is,
            length-append s.going.done (s.going.at ∷ s.going.rest),
            length-take-le now.len now.work.nodes (in_use s),
          ) in
          let place : k ≡ suc (length s.going.done) = omega (arith, one, s.going.read) in
          let found : get_or (take now.len now.work.nodes) k u ≡ y =
          ap (λ z. get_or z k u) (s.going.split ∙ ap (λ z. s.going.done ++ s.going.at ∷ z) (sym is))
          ∙ ap (λ z. get_or (s.going.done ++ s.going.at ∷ y ∷ ys) z u) place
          ∙ place_after s.going.done s.going.at y ys u in
          let same_node : y ≡ u = sym found ∙ get_or-take now.len now.work.nodes k u low ∙ sym top in
          let on = next_node w s.going h y ys (sym is) in
          let P : ℕ → Type 0 = λ z.
          Queueing task record (queue_of now s.looked) { head = now.head + 1; edge = first_of end (out_list g₀ z) } in
          let is_first : e' ≡ first_of end (out_list g₀ u) =
          first ∙ ap (λ (z : Graph N E). first_of end (out_list z u)) s.same in
          record {
            same = s.same;
            sized = s.sized;
            aside = s.aside;
            fits = s.fits;
            high = s.high;
            looked = s.looked;
            counted = s.counted;
            going = rw (one, is_first) (subst P same_node on);
          }

-- at the end, where no node is kept out
module _ {N E : Type 0} {end : ℕ} {g₀ : Graph N E} (w : IsWellFormed end g₀) {starts : List ℕ} {before : List Bool}
    {start : Start} {now : Reading N E}
    (s : Draining (to_all end g₀ starts before) start now) (h : now.edge ≡ end) (last : now.head + 1 ≡ now.len) where
  pub is_closure : IsClosure g₀ starts (take now.len now.work.nodes)
  is_closure =
      record {
        exact = λ n. (
          λ c. (let r = s.going.reached n (contains_mem _ n c) in (r.0, mem_contains _ r.0 r.1, r.2)),
          λ r.
              elim (all_reached w s.going h (rest_nothing w s last) (λ u v far j. far) n r.0
              (contains_mem _ r.0 r.1) r.2) [
                | inl m ↦ mem_contains _ n m
                | inr none ↦ absurd none
              ],
        );
        once = distinct_from_unique _ s.going.once;
        later = s.going.later;
        begins = s.going.begins;
      }

  -- the entered nodes are those in the queue
  pub entered_are : (n : ℕ) → (get_or now.work.entered n false ≡ true) ↔ Contains (take now.len now.work.nodes) n
  entered_are n =
      let m = s.going.marked n in
      (λ t. mem_contains _ n (m.0 t), λ c. m.1 (contains_mem _ n c))

  pub meets_children : MeetsChildren g₀ (take now.len now.work.nodes) before now.work.marked
  meets_children n =
      let all = all_met w s.going h (rest_nothing w s last) n in (
        λ m. elim (all.0 m) [ inl a ↦ inl a | inr c ↦ inr (c.0, mem_contains _ c.0 c.1, c.2) ],
        λ m. all.1 (elim m [ inl a ↦ inl a | inr c ↦ inr (c.0, contains_mem _ c.0 c.1, c.2) ]),
      )

-- the start
pub starts_here : {N E : Type 0} (end : ℕ) {now : Reading N E}
    → IsQueue now.graph now.work.entered (take now.len now.work.nodes) → 0 < now.len
    → node_bound now.graph ≤ now.work.size → IsSized now.work.size now.work → now.len ≤ now.work.size
    → {u : ℕ} → u ≡ get_or now.work.nodes 0 u → now.head ≡ 0 → now.edge ≡ first_of end (out_list now.graph u)
    → Draining (to_all end now.graph (take now.len now.work.nodes) now.work.marked) record {
      begun = now.work;
      looks = now.looks;
    } now
starts_here {N} {E} end {now} is some fits sized high {u} top at_front first =
    record {
      same = refl;
      sized = sized;
      aside = refl;
      fits = fits;
      high = high;
      looked = 0;
      counted = omega arith;
      going = go (take now.len now.work.nodes) refl;
    }
  where
    go : (q : List ℕ)
        → q ≡ take now.len now.work.nodes → Queueing (to_all end now.graph (take now.len now.work.nodes) now.work.marked) (queue_of now 0)
    go [] empty = absurd (omega (arith, some, ap length empty, length-take-le now.len now.work.nodes (omega (arith, high, sized.nodes_are))))
    go (x ∷ xs) front =
        let same_node : x ≡ u = ap (λ z. get_or z 0 u) front ∙ get_or-take now.len now.work.nodes 0 u some ∙ sym top in
        let exist : (n : ℕ) → Mem n (x ∷ xs) → HasNode now.graph n = λ n m.
        is.exist n (mem_contains _ n (let P : List ℕ → Type 0 = λ z. Mem n z in subst P front m)) in
        let once : Unique (x ∷ xs) = let P : List ℕ → Type 0 = λ z. Unique z in
        subst P (sym front) (unique_from_distinct _ is.once) in
        let marked : (n : ℕ) → (get_or now.work.entered n false ≡ true) ↔ Mem n (x ∷ xs) = λ n. (
        let P : List ℕ → Type 0 = λ z. Mem n z in (
          λ m. subst P (sym front) (contains_mem _ n ((is.marked n).0 m)),
          λ m. (is.marked n).1 (mem_contains _ n (subst P front m)),
        )
        ) in
        let on = started end now.graph now.work.entered now.work.marked x xs exist once marked in
        let P : ℕ → Type 0 = λ z.
        Queueing (to_all end now.graph (x ∷ xs) now.work.marked) record (queue_of now 0) {
          nodes = x ∷ xs;
          head = 0;
          edge = first_of end (out_list now.graph z);
        } in
        rw (sym front, at_front, first) (subst P same_node on)
