-- Queueing the roots one by one, and what they reach.
use Rattle.std.proofs.Common.{◌≡◌, ℕ, ◌+◌, ◌<◌, ◌≤◌, Bool, true, false, ◌⊎◌, ◌↔◌, inl, inr, List, [], ◌∷◌, ◌++◌, length}
use Rattle.std.proofs.Common.{get_or, take, set, refl, sym, ap, subst, ◌∙◌, arith, Contains}
use Rattle.std.proofs.lemmas.List.{append-nil, take_more, take_more_set, length-take-le, take_all}
use Rattle.std.proofs.lemmas.Bool.{false≢true}
use Rattle.daggy_base.specs.Graph.{Graph, HasNode, node_bound}
use Rattle.daggy_base.specs.Reduction.{IsBelow}
use Rattle.daggy_base.proofs.Lists.{Mem, Unique, mem_left, mem_right, mem_cases, mem_contains, contains_mem}
use Rattle.daggy_base.proofs.Lists.{fewer_than, unique_from_distinct}
use Rattle.daggy_base.proofs.Lists.{unique_append}
use Rattle.daggy_base.proofs.OutEdgesRead.{below_bound}
use Rattle.daggy_base.proofs.PathEnds.{reached_exists}
use Rattle.daggy_search.specs.Work.{Work, IsSized, IsCleared}
use Rattle.daggy_search.proofs.Sized.{sized_entered, sized_put_node}
use Rattle.daggy_search.proofs.SearchProgress.{marked_within, set_marked}
use Rattle.daggy_redundant.specs.Closure.{IsQueue, IsClosure}
use Rattle.daggy_redundant.proofs.QueueProgress.{take_none}
use Rattle.daggy_redundant.proofs.QueueState.{distinct_from_unique}

-- What is to be put into a queue: the graph, the roots, and the size of the worklist.
pub record Roots (N E : Type 0) : Type 0 where
  pub graph : Graph N E
  pub nodes : List ℕ
  pub size : ℕ

-- What is in the queue so far: the worklist, how many places of the queue are in use, and how many of the roots were
-- seen.
pub record Rooted : Type 0 where
  pub work : Work
  pub len : ℕ
  pub seen : ℕ

-- the queue has each existing root of those that were seen, once
pub record Rooting {N E : Type 0} (roots : Roots N E) (now : Rooted) : Type 0 where
  pub sized : IsSized roots.size now.work
  pub fits : node_bound roots.graph ≤ roots.size
  pub high : now.len ≤ roots.size
  pub once : Unique (take now.len now.work.nodes)
  pub marked : (n : ℕ) → (get_or now.work.entered n false ≡ true) ↔ Mem n (take now.len now.work.nodes)
  pub exact : (n : ℕ)
      → Mem n (take now.len now.work.nodes) ↔ (Mem n (take now.seen roots.nodes) × HasNode roots.graph n)

pub rooting_start : {N E : Type 0} (g : Graph N E) (roots : List ℕ) {size : ℕ} {work : Work}
    → node_bound g ≤ size → IsSized size work → IsCleared work
    → Rooting record { graph = g; nodes = roots; size = size } record { work = work; len = 0; seen = 0 }
rooting_start g roots {size} {work} fits sized cleared =
    record {
      sized = sized;
      fits = fits;
      high = omega arith;
      once = let P : List ℕ → Type 0 = λ z. Unique z in subst P (sym (take_none work.nodes)) tt;
      marked = λ n. (
        λ m. absurd (false≢true (sym (cleared.none_entered n) ∙ m)),
        λ m. (let P : List ℕ → Type 0 = λ z. Mem n z in absurd (subst P (take_none work.nodes) m)),
      );
      exact = λ n. (
        λ m. (let P : List ℕ → Type 0 = λ z. Mem n z in absurd (subst P (take_none work.nodes) m)),
        λ r. (let P : List ℕ → Type 0 = λ z. Mem n z in absurd (subst P (take_none roots) r.0)),
      );
    }

module _ {N E : Type 0} {roots : Roots N E} {now : Rooted} (s : Rooting roots now)
    (within : now.seen < length roots.nodes) where
  more_roots : (r : ℕ) → r ≡ get_or roots.nodes now.seen r
      → take (now.seen + 1) roots.nodes ≡ take now.seen roots.nodes ++ r ∷ []
  more_roots r is = take_more roots.nodes now.seen r within ∙ ap (λ z. take now.seen roots.nodes ++ z ∷ []) (sym is)

  in_more : (r n : ℕ) → r ≡ get_or roots.nodes now.seen r → Mem n (take (now.seen + 1) roots.nodes)
      → Mem n (take now.seen roots.nodes) ⊎ (n ≡ r)
  in_more r n is m =
      let P : List ℕ → Type 0 = λ z. Mem n z in
      elim (mem_cases (take now.seen roots.nodes) (r ∷ []) n (subst P (more_roots r is) m)) [
        | inl a ↦ inl a
        | inr b ↦ elim b [ inl e ↦ inr e | inr none ↦ absurd none ]
      ]

  still_in : (r n : ℕ) → r ≡ get_or roots.nodes now.seen r → Mem n (take now.seen roots.nodes)
      → Mem n (take (now.seen + 1) roots.nodes)
  still_in r n is m = let P : List ℕ → Type 0 = λ z. Mem n z in
      subst P (sym (more_roots r is)) (mem_left (take now.seen roots.nodes) (r ∷ []) n m)

  now_in : (r : ℕ) → r ≡ get_or roots.nodes now.seen r → Mem r (take (now.seen + 1) roots.nodes)
  now_in r is = let P : List ℕ → Type 0 = λ z. Mem r z in
      subst P (sym (more_roots r is)) (mem_right (take now.seen roots.nodes) (r ∷ []) r (inl refl))

  -- a missing root is passed by
  pub root_missing : (r : ℕ) → r ≡ get_or roots.nodes now.seen r → (HasNode roots.graph r → ⊥)
      → Rooting roots record now { seen = now.seen + 1 }
  root_missing r is missing =
      record {
        sized = s.sized;
        fits = s.fits;
        high = s.high;
        once = s.once;
        marked = s.marked;
        exact = λ n. (
          λ m. (let both = (s.exact n).0 m in (still_in r n is both.0, both.1)),
          λ both. elim (in_more r n is both.0) [
            | inl a ↦ (s.exact n).1 (a, both.1)
            | inr e ↦ (let P : ℕ → Type 0 = λ z. HasNode roots.graph z in absurd (missing (subst P e both.1)))
          ],
        );
      }

  module _ (r : ℕ) (is : r ≡ get_or roots.nodes now.seen r) (exists : HasNode roots.graph r) where
    pub root_low : r < length now.work.entered
    root_low = omega (arith, below_bound roots.graph.nodes r exists, s.fits, s.sized.entered_are)

    pub root_room : get_or now.work.entered r false ≡ false → now.len < length now.work.nodes
    root_room unseen =
        let absent : Mem r (take now.len now.work.nodes) → ⊥ = λ m. false≢true (sym unseen ∙ (s.marked r).1 m) in
        let low_all : (x : ℕ) → Mem x (r ∷ take now.len now.work.nodes) → x < length now.work.entered = λ x m.
        elim m [
          | inl e ↦ omega (arith, e, root_low)
          | inr b ↦ marked_within now.work.entered x ((s.marked x).1 b)
        ] in
        let few = fewer_than (r ∷ take now.len now.work.nodes) (length now.work.entered) (absent, s.once) low_all in
        omega (
          arith,
          few,
          s.sized.entered_are,
          s.sized.nodes_are,
          length-take-le now.len now.work.nodes (omega (arith, s.high, s.sized.nodes_are)),
        )

    pub root_entered : {work' : Work} {len' : ℕ}
        → (get_or now.work.entered r false ≡ true → (work' ≡ now.work) × (len' ≡ now.len))
        → (get_or now.work.entered r false ≡ false → (work' ≡ record now.work {
          entered = set now.work.entered r true;
          nodes = set now.work.nodes now.len r;
        }) × (len' ≡ now.len + 1)) → Rooting roots record { work = work'; len = len'; seen = now.seen + 1 }
    root_entered {work'} {len'} old new = go (get_or now.work.entered r false) refl
      where
        go : (b : Bool) → b ≡ get_or now.work.entered r false
            → Rooting roots record { work = work'; len = len'; seen = now.seen + 1 }
        go true at =
            let h = old (sym at) in
            let there : Mem r (take now.len now.work.nodes) = (s.marked r).0 (sym at) in
            let same : Rooting roots record now { seen = now.seen + 1 } = record {
              sized = s.sized;
              fits = s.fits;
              high = s.high;
              once = s.once;
              marked = s.marked;
              exact = λ n. (
                λ m. (let both = (s.exact n).0 m in (still_in r n is both.0, both.1)),
                λ both. elim (in_more r n is both.0) [
                  | inl a ↦ (s.exact n).1 (a, both.1)
                  | inr e ↦ (let P : ℕ → Type 0 = λ z. Mem z (take now.len now.work.nodes) in subst P (sym e) there)
                ],
              );
            } in
            rw (h.0, h.1) same
        go false at =
            let h = new (sym at) in
            let low = root_room (sym at) in
            let q = take now.len now.work.nodes in
            let longer : take (now.len + 1) (set now.work.nodes now.len r) ≡ q ++ r ∷ [] =
            take_more_set now.work.nodes now.len r low in
            let absent : Mem r q → ⊥ = λ m. false≢true (at ∙ (s.marked r).1 m) in
            let out : (n : ℕ) → Mem n (q ++ r ∷ []) → Mem n q ⊎ (n ≡ r) = λ n m.
            elim (mem_cases q (r ∷ []) n m) [
              | inl a ↦ inl a
              | inr b ↦ elim b [ inl e ↦ inr e | inr none ↦ absurd none ]
            ] in
            let here : (n : ℕ) → n ≡ r → Mem n (q ++ r ∷ []) = λ n e.
            (let P : ℕ → Type 0 = λ z. Mem z (q ++ r ∷ []) in subst P (sym e) (mem_right q (r ∷ []) r (inl refl))) in
            let Q : List ℕ → Type 0 = λ z. Unique z in
            let grown : Rooting roots record {
              work = record now.work { entered = set now.work.entered r true; nodes = set now.work.nodes now.len r };
              len = now.len + 1;
              seen = now.seen + 1;
            } =
            record {
              sized = sized_put_node (sized_entered s.sized r) now.len r;
              fits = s.fits;
              high = omega (arith, low, s.sized.nodes_are);
              once = subst Q (sym longer) (unique_append q (r ∷ []) s.once (λ m. m, tt) (λ x a b. elim b [
                | inl e ↦ (let P : ℕ → Type 0 = λ z. Mem z q in absent (subst P e a))
                | inr none ↦ none
              ]));
              marked = λ n. (
                  let P : List ℕ → Type 0 = λ z. Mem n z in (
                    λ m. subst P (sym longer) (elim ((set_marked now.work.entered r n root_low).0 m) [
                      | inl e ↦ here n e
                      | inr before ↦ mem_left q (r ∷ []) n ((s.marked n).0 before)
                    ]),
                    λ m. (set_marked now.work.entered r n root_low).1 (elim (out n (subst P longer m)) [
                      | inl a ↦ inr ((s.marked n).1 a)
                      | inr e ↦ inl e
                    ]),
                  )
                  );
              exact = λ n. (
                  let P : List ℕ → Type 0 = λ z. Mem n z in (
                    λ m. elim (out n (subst P longer m)) [
                      | inl a ↦ (let both = (s.exact n).0 a in (still_in r n is both.0, both.1))
                      | inr e ↦ (
                          let M : ℕ → Type 0 = λ z. Mem z (take (now.seen + 1) roots.nodes) in
                          let H : ℕ → Type 0 = λ z. HasNode roots.graph z in
                          (subst M (sym e) (now_in r is), subst H (sym e) exists)
                          )
                    ],
                    λ both. subst P (sym longer) (elim (in_more r n is both.0) [
                      | inl a ↦ mem_left q (r ∷ []) n ((s.exact n).1 (a, both.1))
                      | inr e ↦ here n e
                    ]),
                  )
                  );
            } in
            rw (h.0, h.1) grown

pub all_rooted : {N E : Type 0} {roots : Roots N E} {now : Rooted} → Rooting roots now → length roots.nodes ≤ now.seen
    → IsQueue roots.graph now.work.entered (take now.len now.work.nodes)
    × ((n : ℕ) → Contains (take now.len now.work.nodes) n ↔ (Contains roots.nodes n × HasNode roots.graph n))
all_rooted {N} {E} {roots} {now} s past =
    let whole : take now.seen roots.nodes ≡ roots.nodes = take_all now.seen roots.nodes past in
    let q = take now.len now.work.nodes in (
      record {
        exist = λ n c. ((s.exact n).0 (contains_mem q n c)).1;
        once = distinct_from_unique q s.once;
        marked = λ n. (λ m. mem_contains q n ((s.marked n).0 m), λ c. (s.marked n).1 (contains_mem q n c));
      },
      λ n. (
          let P : List ℕ → Type 0 = λ z. Mem n z in (
            λ c.
                (let both = (s.exact n).0 (contains_mem q n c) in
                (mem_contains roots.nodes n (subst P whole both.0), both.1)),
            λ both. mem_contains q n ((s.exact n).1 (subst P (sym whole) (contains_mem roots.nodes n both.0), both.1)),
          )
          ),
    )

-- a queue of as many nodes as there are indices holds all nodes
pub closure_whole : {N E : Type 0} (g : Graph N E) (marks : List Bool) (queue : List ℕ)
    → IsQueue g marks queue → length queue ≡ node_bound g → IsClosure g queue queue
closure_whole g marks queue q whole =
    record {
      exact = λ n. (λ c. (n, c, ([], q.exist n c, refl)), λ r. there n (reached_exists g r.0 n r.2));
      once = q.once;
      later = [];
      begins = sym (append-nil queue);
    }
  where
    there : (n : ℕ) → HasNode g n → Contains queue n
    there n exists = go (get_or marks n false) refl
      where
        go : (b : Bool) → b ≡ get_or marks n false → Contains queue n
        go true at = (q.marked n).0 (sym at)
        go false at =
            let absent : Mem n queue → ⊥ = λ m. false≢true (at ∙ (q.marked n).1 (mem_contains queue n m)) in
            let low : (x : ℕ) → Mem x (n ∷ queue) → x < node_bound g = λ x m.
            elim m [
              | inl e ↦ omega (arith, e, below_bound g.nodes n exists)
              | inr b ↦ below_bound g.nodes x (q.exist x (mem_contains queue x b))
            ] in
            let few = fewer_than (n ∷ queue) (node_bound g) (absent, unique_from_distinct queue q.once) low in
            absurd (omega (arith, few, whole))

-- what the existing roots reach is what is below them
pub closure_below : {N E : Type 0} (g : Graph N E) (roots first closure : List ℕ)
    → ((n : ℕ) → Contains first n ↔ (Contains roots n × HasNode g n)) → IsClosure g first closure
    → (n : ℕ) → Contains closure n ↔ IsBelow g roots n
closure_below g roots first closure exact c n = (
  λ k. (let r = (c.exact n).0 k in let both = (exact r.0).0 r.1 in (r.0, both.0, both.1, r.2)),
  λ b. (c.exact n).1 (b.0, (exact b.0).1 (b.1, b.2), b.3),
)
