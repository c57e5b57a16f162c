-- Queueing the children of a node, except the one that is last in an order.
use Rattle.std.proofs.Common.{◌≡◌, ◌≢◌, ℕ, zero, suc, ◌+◌, ◌<◌, ◌≤◌, Bool, true, false, ◌⊎◌, ◌↔◌, inl, inr, List, []}
use Rattle.std.proofs.Common.{◌∷◌, ◌++◌, length, get_or, drop, take, set, refl, sym, ap, subst, ◌∙◌, arith}
use Rattle.std.proofs.lemmas.List.{take_more_set, length-take-le}
use Rattle.std.proofs.lemmas.Bool.{false≢true, cases_eq}
use Rattle.daggy_base.specs.Graph.{Graph, HasNode, HasEdge, out_list, node_bound}
use Rattle.daggy_base.specs.Path.{AreJoined}
use Rattle.daggy_base.specs.Cursor.{first_of}
use Rattle.daggy_base.specs.WellFormed.{IsWellFormed}
use Rattle.daggy_base.specs.Look.{IsLook}
use Rattle.daggy_base.proofs.Lists.{Mem, Unique, mem_left, mem_right, mem_cases, unique_append, contains_mem, mem_at}
use Rattle.daggy_base.proofs.Lists.{fewer_than}
use Rattle.daggy_base.proofs.OutEdgesRead.{leaves, joins, LookedTo, all_read, read_part, has_edge}
use Rattle.daggy_base.proofs.OutEdgesRead.{child_exists, child_joined, next_cursor, looked_more, below_bound}
use Rattle.daggy_search.specs.Work.{Work, IsSized, IsCleared}
use Rattle.daggy_search.proofs.Sized.{sized_entered, sized_put_node}
use Rattle.daggy_search.proofs.SearchProgress.{marked_within, set_marked}
use Rattle.daggy_base.specs.Ordered.{IsOrderOf, place}
use Rattle.daggy_base.proofs.Sorted.{place_same, place_other}
use Rattle.daggy_redundant.proofs.QueueProgress.{take_none}

-- The node that a queue begins with: its graph, the number past all edges, the order and the node, and the worklist and
-- how often edges were looked at till then.
pub record First (N E : Type 0) : Type 0 where
  pub end : ℕ
  pub graph : Graph N E
  pub order : List ℕ
  pub node : ℕ
  pub begun : Work
  pub looks : ℕ

-- What was done with its children so far: the graph, the worklist, how many places of the queue are in use, the child
-- that stands last in the order, the next edge, and how often edges were looked at.
pub record Children (N E : Type 0) : Type 0 where
  pub graph : Graph N E
  pub work : Work
  pub len : ℕ
  pub last : ℕ
  pub edge : ℕ
  pub looks : ℕ

-- the children that were seen are in the queue behind the node, but for the last one
pub record Beginning {N E : Type 0} (first : First N E) (now : Children N E) : Type 0 where
  pub same : now.graph ≡ first.graph
  pub sized : IsSized first.begun.size now.work
  pub aside : now.work.cursors ≡ first.begun.cursors
  pub unmet : now.work.marked ≡ first.begun.marked
  pub fits : node_bound first.graph ≤ first.begun.size
  pub high : now.len ≤ first.begun.size
  -- how much of the node's list was read
  pub passed : ℕ
  pub cursor : now.edge ≡ first_of first.end (drop passed (out_list first.graph first.node))
  pub within : passed ≤ length (out_list first.graph first.node)
  pub counted : now.looks ≡ first.looks + passed
  -- the queue
  pub q : List ℕ
  pub is : take now.len now.work.nodes ≡ q
  pub once : Unique q
  pub marked : (n : ℕ) → (get_or now.work.entered n false ≡ true) ↔ Mem n q
  pub before : (n : ℕ) → Mem n q → place first.order n < place first.order now.last
  pub from : (n : ℕ) → Mem n q → (n ≡ first.node) ⊎ AreJoined first.graph first.node n
  pub last_from : (now.last ≡ first.node) ⊎ AreJoined first.graph first.node now.last
  pub found : LookedTo first.end first.graph (λ v. Mem v q ⊎ (v ≡ now.last)) first.node passed
  pub front : ((q ≡ []) × (now.last ≡ first.node)) ⊎ ((others : List ℕ) × (q ≡ first.node ∷ others))

pub begins_here : {N E : Type 0} (end : ℕ) (order : List ℕ) {now : Children N E}
    → now.len ≡ 0 → IsCleared now.work → node_bound now.graph ≤ now.work.size → IsSized now.work.size now.work
    → now.edge ≡ first_of end (out_list now.graph now.last)
    → Beginning record {
      end = end;
      graph = now.graph;
      order = order;
      node = now.last;
      begun = now.work;
      looks = now.looks;
    } now
begins_here end order {now} empty cleared fits sized first =
    record {
      same = refl;
      sized = sized;
      aside = refl;
      unmet = refl;
      fits = fits;
      high = omega (arith, empty);
      passed = 0;
      cursor = first;
      within = omega arith;
      counted = omega arith;
      q = [];
      is = ap (λ k. take k now.work.nodes) empty ∙ take_none now.work.nodes;
      once = tt;
      marked = λ n. (λ m. absurd (false≢true (sym (cleared.none_entered n) ∙ m)), λ m. absurd m);
      before = λ n m. absurd m;
      from = λ n m. absurd m;
      last_from = inl refl;
      found = λ j x lt a. absurd (omega (arith, lt));
      front = inl (refl, refl);
    }

-- places tell nodes apart
pub place_apart : (xs : List ℕ) (a b : ℕ) → Mem a xs → Mem b xs → place xs a ≡ place xs b → a ≡ b
place_apart [] a b m n h = absurd m
place_apart (x ∷ xs) a b m n h =
    elim (cases_eq x a) [
      | inl e ↦ elim (cases_eq x b) [
        | inl f ↦ sym e ∙ f
        | inr d ↦ absurd (omega (arith, h, place_same x a xs e, place_other x b xs d))
      ]
      | inr c ↦ elim (cases_eq x b) [
        | inl f ↦ absurd (omega (arith, h, place_other x a xs c, place_same x b xs f))
        | inr d ↦
            place_apart xs a b (rest a c m) (rest b d n) (omega (arith, h, place_other x a xs c, place_other x b xs d))
      ]
    ]
  where
    rest : (k : ℕ) → (x ≡ k → ⊥) → Mem k (x ∷ xs) → Mem k xs
    rest k c m = elim m [ inl e ↦ absurd (c (sym e)) | inr b ↦ b ]

module _ {N E : Type 0} {first : First N E} (w : IsWellFormed first.end first.graph)
    (ord : IsOrderOf first.graph first.order) (exists : HasNode first.graph first.node) {now : Children N E}
    (s : Beginning first now) where
  abbrev end : ℕ
  end = first.end

  abbrev g₀ : Graph N E
  g₀ = first.graph

  abbrev order : List ℕ
  order = first.order

  abbrev u : ℕ
  u = first.node

  pub last_exists : HasNode g₀ now.last
  last_exists =
      let P : ℕ → Type 0 = λ z. HasNode g₀ z in
      elim s.last_from [ inl eq ↦ subst P (sym eq) exists | inr j ↦ w.children j.0 _ j.2 ]

  pub edge_there : now.edge ≢ end → HasEdge now.graph now.edge
  edge_there here =
      let P : Graph N E → Type 0 = λ z. HasEdge z now.edge in
      subst P (sym s.same) (has_edge end g₀ w u s.passed now.edge s.cursor here)

  pub passed_less : now.edge ≢ end → s.passed < length (out_list g₀ u)
  passed_less here = (read_part end g₀ w u s.passed now.edge s.cursor here).0

  pub low_node : (x : ℕ) → HasNode g₀ x → x < length now.work.entered
  low_node x has = omega (arith, below_bound g₀.nodes x has, s.fits, s.sized.entered_are)

  in_use : now.len ≤ length now.work.nodes
  in_use = omega (arith, s.high, s.sized.nodes_are)

  pub has_room : (x : ℕ) → HasNode g₀ x → get_or now.work.entered x false ≡ false → now.len < length now.work.nodes
  has_room x has unseen =
      let absent : Mem x s.q → ⊥ = λ m. false≢true (sym unseen ∙ (s.marked x).1 m) in
      let low_all : (y : ℕ) → Mem y (x ∷ s.q) → y < length now.work.entered = λ y m.
      elim m [
        | inl eq ↦ omega (arith, eq, low_node x has)
        | inr b ↦ marked_within now.work.entered y ((s.marked y).1 b)
      ] in
      let few = fewer_than (x ∷ s.q) (length now.work.entered) (absent, s.once) low_all in
      omega (arith, few, s.sized.entered_are, s.sized.nodes_are, length-take-le now.len now.work.nodes in_use, ap length s.is)

  -- a node put behind unless it is there
  pub record Put (x : ℕ) (work' : Work) (len' : ℕ) : Type 0 where
    pub q' : List ℕ
    pub is' : take len' work'.nodes ≡ q'
    pub sized' : IsSized first.begun.size work'
    pub aside' : work'.cursors ≡ first.begun.cursors
    pub unmet' : work'.marked ≡ first.begun.marked
    pub high' : len' ≤ first.begun.size
    pub once' : Unique q'
    pub marked' : (n : ℕ) → (get_or work'.entered n false ≡ true) ↔ Mem n q'
    pub old : (n : ℕ) → Mem n s.q → Mem n q'
    pub here : Mem x q'
    pub out : (n : ℕ) → Mem n q' → Mem n s.q ⊎ (n ≡ x)
    pub front' : (q' ≡ s.q) ⊎ (q' ≡ s.q ++ x ∷ [])

  pub put : (x : ℕ) → HasNode g₀ x → {work' : Work} {len' : ℕ}
      → (get_or now.work.entered x false ≡ true → (work' ≡ now.work) × (len' ≡ now.len))
      → (get_or now.work.entered x false ≡ false → (work' ≡ record now.work {
        entered = set now.work.entered x true;
        nodes = set now.work.nodes now.len x;
      }) × (len' ≡ now.len + 1)) → Put x work' len'
  put x has {work'} {len'} there new = go (get_or now.work.entered x false) refl
    where
      go : (b : Bool) → b ≡ get_or now.work.entered x false → Put x work' len'
      go true at =
          let h = there (sym at) in
          let same : Put x now.work now.len = record {
            q' = s.q;
            is' = s.is;
            sized' = s.sized;
            aside' = s.aside;
            unmet' = s.unmet;
            high' = s.high;
            once' = s.once;
            marked' = s.marked;
            old = λ n m. m;
            here = (s.marked x).0 (sym at);
            out = λ n m. inl m;
            front' = inl refl;
          } in
          rw (h.0, h.1) same
      go false at =
          let h = new (sym at) in
          let more = has_room x has (sym at) in
          let low = low_node x has in
          let absent : Mem x s.q → ⊥ = λ m. false≢true (at ∙ (s.marked x).1 m) in
          let cases : (n : ℕ) → Mem n (s.q ++ x ∷ []) → Mem n s.q ⊎ (n ≡ x) = λ n m.
          elim (mem_cases s.q (x ∷ []) n m) [
            | inl a ↦ inl a
            | inr b ↦ elim b [ inl eq ↦ inr eq | inr none ↦ absurd none ]
          ] in
          let at_end : Mem x (s.q ++ x ∷ []) = mem_right s.q (x ∷ []) x (inl refl) in
          let grown : Put x record now.work {
            entered = set now.work.entered x true;
            nodes = set now.work.nodes now.len x;
          } (now.len + 1) = record {
            q' = s.q ++ x ∷ [];
            is' = take_more_set now.work.nodes now.len x more ∙ ap (λ z. z ++ x ∷ []) s.is;
            sized' = sized_put_node (sized_entered s.sized x) now.len x;
            aside' = s.aside;
            unmet' = s.unmet;
            high' = omega (arith, more, s.sized.nodes_are);
            once' = unique_append s.q (x ∷ []) s.once (λ m. m, tt) (λ y a b. elim b [
              | inl eq ↦ (let P : ℕ → Type 0 = λ z. Mem z s.q in absent (subst P eq a))
              | inr none ↦ none
            ]);
            marked' = λ n. (
              λ k. elim ((set_marked now.work.entered x n low).0 k) [
                | inl eq ↦ (let P : ℕ → Type 0 = λ z. Mem z (s.q ++ x ∷ []) in subst P (sym eq) at_end)
                | inr m ↦ mem_left s.q (x ∷ []) n ((s.marked n).0 m)
              ],
              λ m. (set_marked now.work.entered x n low).1 (elim (cases n m) [
                | inl a ↦ inr ((s.marked n).1 a)
                | inr eq ↦ inl eq
              ]),
            );
            old = λ n m. mem_left s.q (x ∷ []) n m;
            here = at_end;
            out = cases;
            front' = inr refl;
          } in
          rw (h.0, h.1) grown

  module _ (here : now.edge ≢ end) {v next : ℕ} (look : IsLook end now.graph now.edge v next) where
    look₀ : IsLook end g₀ now.edge v next
    look₀ = let P : Graph N E → Type 0 = λ z. IsLook end z now.edge v next in subst P s.same look

    pub child_there : HasNode g₀ v
    child_there = child_exists end g₀ w u s.passed now.edge s.cursor here v next look₀

    child_of : AreJoined g₀ u v
    child_of = child_joined end g₀ w u s.passed now.edge s.cursor here v next look₀

    module _ {g' : Graph N E} (kept : g' ≡ now.graph) {looks' : ℕ} (one_more : looks' ≡ now.looks + 1) where
      -- the child stands last so far
      pub put_last : {work' : Work} {len' : ℕ}
          → Put now.last work' len' → place order now.last < place order v
          → Beginning first record {
            graph = g';
            work = work';
            len = len';
            last = v;
            edge = next;
            looks = looks';
          }
      put_last p later =
          record {
            same = kept ∙ s.same;
            sized = p.sized';
            aside = p.aside';
            unmet = p.unmet';
            fits = s.fits;
            high = p.high';
            passed = suc s.passed;
            cursor = next_cursor end g₀ w u s.passed now.edge s.cursor here v next look₀;
            within = omega (arith, passed_less here);
            counted = omega (arith, s.counted, one_more);
            q = p.q';
            is = p.is';
            once = p.once';
            marked = p.marked';
            before = λ n m.
                elim (p.out n m) [
                  | inl a ↦ omega (arith, s.before n a, later)
                  | inr eq ↦ (let P : ℕ → Type 0 = λ z. place order z < place order v in subst P (sym eq) later)
                ];
            from = λ n m.
                elim (p.out n m) [
                  | inl a ↦ s.from n a
                  | inr eq ↦ (let P : ℕ → Type 0 = λ z. (z ≡ u) ⊎ AreJoined g₀ u z in subst P (sym eq) s.last_from)
                ];
            last_from = inr child_of;
            found =
                looked_more end g₀ w u s.passed now.edge s.cursor here v next look₀
                (λ z. Mem z p.q' ⊎ (z ≡ v)) (λ j x lt a.
                elim (s.found j x lt a) [
                  | inl m ↦ inl (p.old x.child m)
                  | inr eq ↦ (let P : ℕ → Type 0 = λ z. Mem z p.q' in inl (subst P (sym eq) p.here))
                ]) (inr refl);
            front = inr (elim s.front [
              | inl none ↦ elim p.front' [
                | inl eq ↦ (let P : List ℕ → Type 0 = λ z. Mem now.last z in absurd (subst P (eq ∙ none.0) p.here))
                | inr eq ↦ ([], eq ∙ ap (λ z. z ++ now.last ∷ []) none.0 ∙ ap (λ (z : ℕ). z ∷ []) none.1)
              ]
              | inr o ↦ elim p.front' [
                | inl eq ↦ (o.0, eq ∙ o.1)
                | inr eq ↦ (o.0 ++ now.last ∷ [], eq ∙ ap (λ z. z ++ now.last ∷ []) o.1)
              ]
            ]);
          }

      -- the child stands before another
      pub put_child : {work' : Work} {len' : ℕ}
          → Put v work' len' → place order v < place order now.last
          → Beginning first record {
            graph = g';
            work = work';
            len = len';
            last = now.last;
            edge = next;
            looks = looks';
          }
      put_child p earlier =
          record {
            same = kept ∙ s.same;
            sized = p.sized';
            aside = p.aside';
            unmet = p.unmet';
            fits = s.fits;
            high = p.high';
            passed = suc s.passed;
            cursor = next_cursor end g₀ w u s.passed now.edge s.cursor here v next look₀;
            within = omega (arith, passed_less here);
            counted = omega (arith, s.counted, one_more);
            q = p.q';
            is = p.is';
            once = p.once';
            marked = p.marked';
            before = λ n m.
                elim (p.out n m) [
                  | inl a ↦ s.before n a
                  | inr eq ↦
                      (let P : ℕ → Type 0 = λ z. place order z < place order now.last in subst P (sym eq) earlier)
                ];
            from = λ n m.
                elim (p.out n m) [
                  | inl a ↦ s.from n a
                  | inr eq ↦ (let P : ℕ → Type 0 = λ z. AreJoined g₀ u z in inr (subst P (sym eq) child_of))
                ];
            last_from = s.last_from;
            found =
                looked_more end g₀ w u s.passed now.edge s.cursor here v next look₀
                (λ z. Mem z p.q' ⊎ (z ≡ now.last)) (λ j x lt a.
                elim (s.found j x lt a) [
                  | inl m ↦ inl (p.old x.child m)
                  | inr eq ↦ inr eq
                ]) (inl p.here);
            front = elim s.front [
              | inl none ↦ (
                  let P : ℕ → Type 0 = λ z. place order v < place order z in
                  let late = subst P none.1 earlier in
                  absurd (omega (arith, late, ord.sorted u v child_of))
                  )
              | inr o ↦ inr (elim p.front' [
                | inl eq ↦ (o.0, eq ∙ o.1)
                | inr eq ↦ (o.0 ++ v ∷ [], eq ∙ ap (λ z. z ++ v ∷ []) o.1)
              ])
            ];
          }

      -- the child is the last one again
      pub last_again : (place order now.last < place order v → ⊥) → (place order v < place order now.last → ⊥)
          → Beginning first record now { graph = g'; edge = next; looks = looks' }
      last_again no_later no_earlier =
          let one : v ≡ now.last =
          place_apart order v now.last (contains_mem order v ((ord.exact v).1 child_there))
          (contains_mem order now.last ((ord.exact now.last).1 last_exists)) (omega (arith, no_later, no_earlier)) in
          record {
            same = kept ∙ s.same;
            sized = s.sized;
            aside = s.aside;
            unmet = s.unmet;
            fits = s.fits;
            high = s.high;
            passed = suc s.passed;
            cursor = next_cursor end g₀ w u s.passed now.edge s.cursor here v next look₀;
            within = omega (arith, passed_less here);
            counted = omega (arith, s.counted, one_more);
            q = s.q;
            is = s.is;
            once = s.once;
            marked = s.marked;
            before = s.before;
            from = s.from;
            last_from = s.last_from;
            found =
                looked_more end g₀ w u s.passed now.edge s.cursor here v next look₀
                (λ z. Mem z s.q ⊎ (z ≡ now.last)) s.found (inr one);
            front = s.front;
          }

  -- the list was read whole
  module _ (ended : now.edge ≡ end) where
    pub children_found : (v : ℕ) → AreJoined g₀ u v → Mem v s.q ⊎ (v ≡ now.last)
    children_found v j =
        all_read end g₀ w u s.passed now.edge s.cursor s.within ended (λ z. Mem z s.q ⊎ (z ≡ now.last)) s.found v j

    pub none_queued : now.len ≡ 0 → (v : ℕ) → AreJoined g₀ u v → ⊥
    none_queued empty v j =
        elim s.front [
          | inl none ↦ (
              let M : List ℕ → Type 0 = λ z. Mem v z in
              elim (children_found v j) [
                | inl m ↦ subst M none.0 m
                | inr eq ↦
                    (let P : ℕ → Type 0 = λ z. place order u < place order z in
                    absurd (omega (arith, subst P (eq ∙ none.1) (ord.sorted u v j))))
              ]
              )
          | inr o ↦
              absurd (omega (arith, empty, ap length s.is, ap length o.1, length-take-le now.len now.work.nodes in_use))
        ]

    -- an empty queue is that of a node without edges
    pub none_listed : now.len ≡ 0 → s.passed ≡ 0
    none_listed empty = go s.passed refl
      where
        go : (k : ℕ) → k ≡ s.passed → s.passed ≡ 0
        go zero is = sym is
        go (suc k) is =
            let low : 0 < length (out_list g₀ u) = omega (arith, is, s.within) in
            let e₀ = get_or (out_list g₀ u) 0 end in
            let p = leaves end g₀ w u e₀ (mem_at (out_list g₀ u) 0 end low) in
            absurd (none_queued empty p.0.child (joins end g₀ w e₀ u p.0 p.1 p.2))
