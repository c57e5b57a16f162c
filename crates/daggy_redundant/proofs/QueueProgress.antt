-- A queue of nodes that is read from the front, while new children are appended.
use Rattle.std.proofs.Common.{◌≡◌, ◌≢◌, ℕ, suc, ◌+◌, ◌<◌, ◌≤◌, Bool, true, false, ◌⊎◌, ◌↔◌, inl, inr, List, [], ◌∷◌}
use Rattle.std.proofs.Common.{◌++◌, length, get_or, drop, set, take, refl, sym, ap, subst, ◌∙◌, arith, append_assoc}
use Rattle.std.proofs.Common.{append-nil}
use Rattle.std.proofs.lemmas.List.{length-append}
use Rattle.std.proofs.lemmas.Bool.{false≢true}
use Rattle.daggy_base.specs.Graph.{Graph, HasNode, HasEdge, out_list, edge_count}
use Rattle.daggy_base.specs.Path.{AreJoined, Reaches}
use Rattle.daggy_base.specs.Cursor.{first_of}
use Rattle.daggy_base.specs.WellFormed.{IsWellFormed}
use Rattle.daggy_base.specs.Look.{IsLook}
use Rattle.daggy_base.proofs.Lists.{Mem, Unique, mem_left, mem_right, mem_cases, mem_mid, unique_append, fewer_than}
use Rattle.daggy_base.proofs.OutEdgesRead.{lists_of, lists_few, LookedTo, read_whole, all_read, read_part, has_edge}
use Rattle.daggy_base.proofs.OutEdgesRead.{child_exists, child_joined, next_cursor, looked_more}
use Rattle.daggy_search.proofs.SearchProgress.{reaches_stays, marked_within, set_marked}
use Rattle.daggy_base.proofs.LongerPaths.{reaches_more}
use Rattle.daggy_base.specs.Ordered.{edges_from}
use Rattle.daggy_base.proofs.EdgesFrom.{edges_few, lists_length}
use Rattle.daggy_redundant.specs.Closure.{behind}

pub take_none : (xs : List ℕ) → take 0 xs ≡ []
take_none [] = refl
take_none (x ∷ xs) = refl

-- no node is kept out
abbrev pub Anywhere : ℕ → Type 0
Anywhere n = Unit {0}

abbrev pub Nowhere : ℕ → Type 0
Nowhere n = ⊥

-- What a search has to do: the graph and the number past all its edges, which nodes may be put into the queue and which
-- are kept out of it, the nodes it starts from, and which nodes were met before it.
pub record Task (N E : Type 0) : Type 1 where
  pub end : ℕ
  pub graph : Graph N E
  pub Inside : ℕ → Type 0
  pub Beyond : ℕ → Type 0
  pub starts : List ℕ
  pub before : List Bool

-- the search of all nodes that some reach, which keeps none out
abbrev pub to_all : {N E : Type 0} → (end : ℕ) → Graph N E → (starts : List ℕ) → (before : List Bool) → Task N E
to_all end g starts before = record {
  end = end;
  graph = g;
  Inside = Anywhere;
  Beyond = Nowhere;
  starts = starts;
  before = before;
}

-- How far a queue was read: the marks of its nodes, which nodes were met, the nodes in it, the place of the one that is
-- read, the next edge of that one, and how many edges were looked at.
pub record Queue : Type 0 where
  pub marks : List Bool
  pub met : List Bool
  pub nodes : List ℕ
  pub head : ℕ
  pub edge : ℕ
  pub looked : ℕ

-- A queue that is read, with marks for its nodes and marks for the children of all but its first node. Its nodes are
-- all inside, and the children that are beyond are not put into it.
pub record Queueing {N E : Type 0} (task : Task N E) (now : Queue) : Type 0 where
  -- the nodes that were read, the one whose list is read, those behind it, and how much of that list was read
  pub done : List ℕ
  pub at : ℕ
  pub rest : List ℕ
  pub passed : ℕ
  pub split : now.nodes ≡ done ++ at ∷ rest
  pub read : length done ≡ now.head
  pub cursor : now.edge ≡ first_of task.end (drop passed (out_list task.graph at))
  pub within : passed ≤ length (out_list task.graph at)
  pub once : Unique now.nodes
  pub marked : (n : ℕ) → (get_or now.marks n false ≡ true) ↔ Mem n now.nodes
  pub reached : (n : ℕ) → Mem n now.nodes → (s : ℕ) × Mem s task.starts × Reaches task.graph s n
  pub start : (s : ℕ) → Mem s task.starts → Mem s now.nodes
  pub later : List ℕ
  pub begins : now.nodes ≡ task.starts ++ later
  pub inside : (n : ℕ) → Mem n now.nodes → task.Inside n
  pub closed : (u v : ℕ) → Mem u done → AreJoined task.graph u v → Mem v now.nodes ⊎ task.Beyond v
  pub half : LookedTo task.end task.graph (λ v. Mem v now.nodes ⊎ task.Beyond v) at passed
  pub met_only : (n : ℕ)
      → get_or now.met n false ≡ true
      → (get_or task.before n false ≡ true) ⊎ ((m : ℕ) × Mem m (behind now.nodes) × AreJoined task.graph m n)
  pub met_before : (n : ℕ) → get_or task.before n false ≡ true → get_or now.met n false ≡ true
  pub met_closed : (u v : ℕ) → Mem u (behind done) → AreJoined task.graph u v → get_or now.met v false ≡ true
  pub met_half : now.head ≢ 0 → LookedTo task.end task.graph (λ v. get_or now.met v false ≡ true) at passed
  pub counted : now.looked ≡ passed + length (lists_of task.graph done)

-- lists of lists
pub lists_append : {N E : Type 0} (g : Graph N E) (us : List ℕ) (u : ℕ)
    → length (lists_of g (us ++ u ∷ [])) ≡ length (lists_of g us) + length (out_list g u)
lists_append g [] u = omega (arith, length-append (out_list g u) [])
lists_append g (x ∷ us) u =
    let later = lists_append g us u in
    omega (
      arith,
      later,
      length-append (out_list g x) (lists_of g (us ++ u ∷ [])),
      length-append (out_list g x) (lists_of g us),
    )

unique_left : (xs ys : List ℕ) → Unique (xs ++ ys) → Unique xs
unique_left [] ys u = tt
unique_left (x ∷ xs) ys u = (λ m. u.0 (mem_left xs ys x m), unique_left xs ys u.1)

behind_left : (xs ys : List ℕ) (m : ℕ) → Mem m (behind xs) → Mem m (behind (xs ++ ys))
behind_left [] ys m h = absurd h
behind_left (x ∷ xs) ys m h = mem_left xs ys m h

behind_mid : (xs : List ℕ) (y : ℕ) (ys : List ℕ) → length xs ≢ 0 → Mem y (behind (xs ++ y ∷ ys))
behind_mid [] y ys some = absurd (some refl)
behind_mid (x ∷ xs) y ys some = mem_mid xs ys y

behind_last : (xs : List ℕ) (y m : ℕ) → Mem m (behind (xs ++ y ∷ [])) → Mem m (behind xs) ⊎ ((m ≡ y) × (length xs ≢ 0))
behind_last [] y m h = absurd h
behind_last (x ∷ xs) y m h =
    elim (mem_cases xs (y ∷ []) m h) [
      | inl a ↦ inl a
      | inr b ↦ elim b [ inl e ↦ inr (e, λ k. omega (arith, k)) | inr none ↦ absurd none ]
    ]

-- what is known of a queue
module _ {N E : Type 0} {task : Task N E} (w : IsWellFormed task.end task.graph) {now : Queue}
    (s : Queueing task now) where
  abbrev end : ℕ
  end = task.end

  abbrev g : Graph N E
  g = task.graph

  once_to_here : Unique (s.done ++ s.at ∷ [])
  once_to_here =
      let P : List ℕ → Type 0 = λ z. Unique z in
      let is : now.nodes ≡ (s.done ++ s.at ∷ []) ++ s.rest = s.split ∙ sym (append_assoc s.done (s.at ∷ []) s.rest) in
      unique_left (s.done ++ s.at ∷ []) s.rest (subst P is s.once)

  at_queued : Mem s.at now.nodes
  at_queued = let P : List ℕ → Type 0 = λ z. Mem s.at z in subst P (sym s.split) (mem_mid s.done s.rest s.at)

  here_queued : (x : ℕ) → Mem x (s.done ++ s.at ∷ []) → Mem x now.nodes
  here_queued x m =
      let P : List ℕ → Type 0 = λ z. Mem x z in
      let is : now.nodes ≡ (s.done ++ s.at ∷ []) ++ s.rest = s.split ∙ sym (append_assoc s.done (s.at ∷ []) s.rest) in
      subst P (sym is) (mem_left (s.done ++ s.at ∷ []) s.rest x m)

  read_few : (k : ℕ) → k ≤ length (out_list g s.at) → k + length (lists_of g s.done) ≤ edge_count g
  read_few k within =
      let few = lists_few end g w (s.done ++ s.at ∷ []) once_to_here in
      omega (arith, few, within, lists_append g s.done s.at)

  -- no more looks than edges leave the nodes of any list that has those of the queue
  module _ (ns : List ℕ) (all : (n : ℕ) → Mem n now.nodes → Mem n ns) where
    few_from : (k : ℕ) → k ≤ length (out_list g s.at) → k + length (lists_of g s.done) ≤ edges_from g ns
    few_from k within =
        let few = edges_few g (s.done ++ s.at ∷ []) ns once_to_here (λ x m. all x (here_queued x m)) in
        omega (arith, few, within, lists_append g s.done s.at, lists_length g (s.done ++ s.at ∷ []))

    pub looked_from : now.looked ≤ edges_from g ns
    looked_from = omega (arith, few_from s.passed s.within, s.counted)

  pub looked_within : now.looked ≤ edge_count g
  looked_within = omega (arith, read_few s.passed s.within, s.counted)

  pub look_within : now.edge ≢ end → now.looked + 1 ≤ edge_count g
  look_within h =
      let more = read_few (suc s.passed) (read_part end g w s.at s.passed now.edge s.cursor h).0 in
      omega (arith, more, s.counted)

  pub edge_exists : now.edge ≢ end → HasEdge g now.edge
  edge_exists h = has_edge end g w s.at s.passed now.edge s.cursor h

  pub head_within : now.head < length now.nodes
  head_within = omega (arith, s.read, ap length s.split, length-append s.done (s.at ∷ s.rest))

  pub has_room : (v : ℕ) → v < length now.marks → get_or now.marks v false ≡ false → length now.nodes < length now.marks
  has_room v low unseen =
      let absent : Mem v now.nodes → ⊥ = λ m. false≢true (sym unseen ∙ (s.marked v).1 m) in
      let low_all : (x : ℕ) → Mem x (v ∷ now.nodes) → x < length now.marks = λ x m.
      elim m [
        | inl eq ↦ omega (arith, eq, low)
        | inr b ↦ marked_within now.marks x ((s.marked x).1 b)
      ] in
      let few = fewer_than (v ∷ now.nodes) (length now.marks) (absent, s.once) low_all in
      omega (arith, few)

  -- what a look at the cursor gives
  module _ (here : now.edge ≢ end) {v next : ℕ} (look : IsLook end g now.edge v next) where
    pub found_exists : HasNode g v
    found_exists = child_exists end g w s.at s.passed now.edge s.cursor here v next look

    joined_here : AreJoined g s.at v
    joined_here = child_joined end g w s.at s.passed now.edge s.cursor here v next look

    -- the cursor moves on from a child that is in the queue
    pub moved : Mem v now.nodes ⊎ task.Beyond v → (now.head ≢ 0 → get_or now.met v false ≡ true)
        → Queueing task record now { edge = next; looked = now.looked + 1 }
    moved seen meets =
        record {
          done = s.done;
          at = s.at;
          rest = s.rest;
          passed = suc s.passed;
          split = s.split;
          read = s.read;
          cursor = next_cursor end g w s.at s.passed now.edge s.cursor here v next look;
          within = omega (arith, (read_part end g w s.at s.passed now.edge s.cursor here).0);
          once = s.once;
          marked = s.marked;
          reached = s.reached;
          start = s.start;
          later = s.later;
          begins = s.begins;
          inside = s.inside;
          closed = s.closed;
          half =
              looked_more end g w s.at s.passed now.edge s.cursor here v next look
              (λ z. Mem z now.nodes ⊎ task.Beyond z) s.half seen;
          met_only = s.met_only;
          met_before = s.met_before;
          met_closed = s.met_closed;
          met_half = λ some.
              looked_more end g w s.at s.passed now.edge s.cursor here v next look (λ z. get_or now.met z false ≡ true)
              (s.met_half some) (meets some);
          counted = omega (arith, s.counted);
        }

    -- a child of a node behind the first is met
    pub meets_child : now.head ≢ 0 → v < length now.met
        → Queueing task record now { met = set now.met v true }
    meets_child some low =
        let at_behind : Mem s.at (behind now.nodes) = (
        let P : List ℕ → Type 0 = λ z. Mem s.at (behind z) in
        let longer : length s.done ≢ 0 = λ k. some (sym s.read ∙ k) in
        subst P (sym s.split) (behind_mid s.done s.at s.rest longer)
        ) in
        let stays : (n : ℕ) → get_or now.met n false ≡ true → get_or (set now.met v true) n false ≡ true = λ n m.
        (set_marked now.met v n low).1 (inr m) in
        record {
          done = s.done;
          at = s.at;
          rest = s.rest;
          passed = s.passed;
          split = s.split;
          read = s.read;
          cursor = s.cursor;
          within = s.within;
          once = s.once;
          marked = s.marked;
          reached = s.reached;
          start = s.start;
          later = s.later;
          begins = s.begins;
          inside = s.inside;
          closed = s.closed;
          half = s.half;
          met_only = λ n m.
              elim ((set_marked now.met v n low).0 m) [
                | inl eq ↦
                    (let P : ℕ → Type 0 = λ z. AreJoined g s.at z in
                    inr (s.at, at_behind, subst P (sym eq) joined_here))
                | inr old ↦ s.met_only n old
              ];
          met_before = λ n m. stays n (s.met_before n m);
          met_closed = λ a b m j. stays b (s.met_closed a b m j);
          met_half = λ k j x lt a. stays x.child (s.met_half k j x lt a);
          counted = s.counted;
        }

    -- a child that is new goes behind
    pub pushed : task.Inside v → v < length now.marks → get_or now.marks v false ≡ false
        → Queueing task record now { marks = set now.marks v true; nodes = now.nodes ++ v ∷ [] }
    pushed within low unseen =
        let absent : Mem v now.nodes → ⊥ = λ m. false≢true (sym unseen ∙ (s.marked v).1 m) in
        let old : (n : ℕ) → Mem n now.nodes → Mem n (now.nodes ++ v ∷ []) = λ n m. mem_left now.nodes (v ∷ []) n m in
        let out : (n : ℕ) → Mem n (now.nodes ++ v ∷ []) → Mem n now.nodes ⊎ (n ≡ v) = λ n m.
        elim (mem_cases now.nodes (v ∷ []) n m) [
          | inl a ↦ inl a
          | inr b ↦ elim b [ inl eq ↦ inr eq | inr none ↦ absurd none ]
        ] in
        let from = s.reached s.at at_queued in
        record {
          done = s.done;
          at = s.at;
          rest = s.rest ++ v ∷ [];
          passed = s.passed;
          split = ap (λ z. z ++ v ∷ []) s.split ∙ append_assoc s.done (s.at ∷ s.rest) (v ∷ []);
          read = s.read;
          cursor = s.cursor;
          within = s.within;
          once = unique_append now.nodes (v ∷ []) s.once (λ m. m, tt) (λ x a b. elim b [
            | inl eq ↦ (let P : ℕ → Type 0 = λ z. Mem z now.nodes in absent (subst P eq a))
            | inr none ↦ none
          ]);
          marked = λ n. (
            λ k. elim ((set_marked now.marks v n low).0 k) [
              | inl eq ↦
                  (let P : ℕ → Type 0 = λ z. Mem z (now.nodes ++ v ∷ []) in
                  subst P (sym eq) (mem_right now.nodes (v ∷ []) v (inl refl)))
              | inr m ↦ old n ((s.marked n).0 m)
            ],
            λ m. (set_marked now.marks v n low).1 (elim (out n m) [ inl a ↦ inr ((s.marked n).1 a) | inr eq ↦ inl eq ]),
          );
          reached = λ n m.
              elim (out n m) [
                | inl a ↦ s.reached n a
                | inr eq ↦ (
                    let P : ℕ → Type 0 = λ z. Reaches g from.0 z in
                    (from.0, from.1, subst P (sym eq) (reaches_more g from.0 s.at v from.2 joined_here found_exists))
                    )
              ];
          start = λ n m. old n (s.start n m);
          later = s.later ++ v ∷ [];
          begins = ap (λ z. z ++ v ∷ []) s.begins ∙ append_assoc task.starts s.later (v ∷ []);
          inside = λ n m.
              elim (out n m) [
                | inl a ↦ s.inside n a
                | inr eq ↦ (let P : ℕ → Type 0 = λ z. task.Inside z in subst P (sym eq) within)
              ];
          closed = λ a b m j. elim (s.closed a b m j) [ inl q ↦ inl (old b q) | inr far ↦ inr far ];
          half = λ j x lt a. elim (s.half j x lt a) [ inl q ↦ inl (old x.child q) | inr far ↦ inr far ];
          met_only = λ n m.
              elim (s.met_only n m) [
                | inl a ↦ inl a
                | inr c ↦ inr (c.0, behind_left now.nodes (v ∷ []) c.0 c.1, c.2)
              ];
          met_before = s.met_before;
          met_closed = s.met_closed;
          met_half = s.met_half;
          counted = s.counted;
        }

  -- at `end` the list was read whole
  closed_here : now.edge ≡ end → (u v : ℕ) → Mem u (s.done ++ s.at ∷ []) → AreJoined g u v
      → Mem v now.nodes ⊎ task.Beyond v
  closed_here h u v m j =
      elim (mem_cases s.done (s.at ∷ []) u m) [
        | inl a ↦ s.closed u v a j
        | inr b ↦ elim b [
          | inl eq ↦
              (let P : ℕ → Type 0 = λ z. AreJoined g z v in
              all_read end g w s.at s.passed now.edge s.cursor s.within h (λ z. Mem z now.nodes ⊎ task.Beyond z) s.half
              v (subst P eq j))
          | inr none ↦ absurd none
        ]
      ]

  met_here : now.edge ≡ end → (u v : ℕ) → Mem u (behind (s.done ++ s.at ∷ [])) → AreJoined g u v
      → get_or now.met v false ≡ true
  met_here h u v m j =
      elim (behind_last s.done s.at u m) [
        | inl a ↦ s.met_closed u v a j
        | inr last ↦ (
            let P : ℕ → Type 0 = λ z. AreJoined g z v in
            let some : now.head ≢ 0 = λ k. last.1 (s.read ∙ k) in
            all_read end g w s.at s.passed now.edge s.cursor s.within h (λ z. get_or now.met z false ≡ true)
            (s.met_half some) v (subst P last.0 j)
            )
      ]

  -- the next node of the queue
  pub next_node : now.edge ≡ end → (y : ℕ) (ys : List ℕ) → s.rest ≡ y ∷ ys
      → Queueing task record now { head = now.head + 1; edge = first_of end (out_list g y) }
  next_node h y ys more =
      record {
        done = s.done ++ s.at ∷ [];
        at = y;
        rest = ys;
        passed = 0;
        split = s.split ∙ ap (λ z. s.done ++ s.at ∷ z) more ∙ sym (append_assoc s.done (s.at ∷ []) (y ∷ ys));
        read = omega (arith, length-append s.done (s.at ∷ []), s.read);
        cursor = refl;
        within = omega arith;
        once = s.once;
        marked = s.marked;
        reached = s.reached;
        start = s.start;
        later = s.later;
        begins = s.begins;
        inside = s.inside;
        closed = closed_here h;
        half = λ j x lt a. absurd (omega (arith, lt));
        met_only = s.met_only;
        met_before = s.met_before;
        met_closed = met_here h;
        met_half = λ k j x lt a. absurd (omega (arith, lt));
        counted = omega (
          arith,
          s.counted,
          read_whole end g w s.at s.passed now.edge s.cursor s.within h,
          lists_append g s.done s.at,
        );
      }

  -- nothing is behind the node that was read
  module _ (h : now.edge ≡ end) (last : s.rest ≡ []) where
    whole : now.nodes ≡ s.done ++ s.at ∷ []
    whole = s.split ∙ ap (λ z. s.done ++ s.at ∷ z) last

    -- all that is reached is in the queue or beyond
    module _ (far : (u v : ℕ) → task.Beyond u → AreJoined g u v → task.Beyond v) where
      stays : (u v : ℕ) → Mem u now.nodes ⊎ task.Beyond u → AreJoined g u v → Mem v now.nodes ⊎ task.Beyond v
      stays u v m j =
          let P : List ℕ → Type 0 = λ z. Mem u z in
          elim m [ inl q ↦ closed_here h u v (subst P whole q) j | inr past ↦ inr (far u v past j) ]

      pub all_reached : (n s : ℕ) → Mem s task.starts → Reaches g s n → Mem n now.nodes ⊎ task.Beyond n
      all_reached n s' m r = reaches_stays g (λ z. Mem z now.nodes ⊎ task.Beyond z) stays s' n r (inl (s.start s' m))

    pub all_met : (n : ℕ)
        → (get_or now.met n false ≡ true)
        ↔ ((get_or task.before n false ≡ true) ⊎ ((m : ℕ) × Mem m (behind now.nodes) × AreJoined g m n))
    all_met n = (
      s.met_only n,
      λ k. elim k [
        | inl a ↦ s.met_before n a
        | inr c ↦ (let P : List ℕ → Type 0 = λ z. Mem c.0 (behind z) in met_here h c.0 n (subst P whole c.1) c.2)
      ],
    )

-- the start
pub started : {N E : Type 0} (end : ℕ) (g : Graph N E) (marks met : List Bool) (x : ℕ) (xs : List ℕ)
    → ((n : ℕ) → Mem n (x ∷ xs) → HasNode g n) → Unique (x ∷ xs)
    → ((n : ℕ) → (get_or marks n false ≡ true) ↔ Mem n (x ∷ xs))
    → Queueing (to_all end g (x ∷ xs) met) record {
      marks = marks;
      met = met;
      nodes = x ∷ xs;
      head = 0;
      edge = first_of end (out_list g x);
      looked = 0;
    }
started end g marks met x xs exist once marked =
    record {
      done = [];
      at = x;
      rest = xs;
      passed = 0;
      split = refl;
      read = refl;
      cursor = refl;
      within = omega arith;
      once = once;
      marked = marked;
      reached = λ n m. (n, m, ([], exist n m, refl));
      start = λ n m. m;
      later = [];
      begins = sym (append-nil (x ∷ xs));
      inside = λ n m. tt;
      closed = λ u v m j. absurd m;
      half = λ j x lt a. absurd (omega (arith, lt));
      met_only = λ n m. inl m;
      met_before = λ n m. m;
      met_closed = λ u v m j. absurd m;
      met_half = λ k j x lt a. absurd (omega (arith, lt));
      counted = refl;
    }
