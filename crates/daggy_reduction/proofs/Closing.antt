-- The rows of a transitive closure, node by node from the last to the first.
use Rattle.std.proofs.Common.{◌≡◌, ◌≢◌, ℕ, suc, ◌+◌, ◌<◌, ◌≤◌, ◌⊎◌, ◌↔◌, Bool, inl, inr, List, [], ◌∷◌, ◌++◌}
use Rattle.std.proofs.Common.{zero, length, drop, refl, sym, ap, subst, ◌∙◌, arith, Contains, append_assoc, append-nil}
use Rattle.std.proofs.lemmas.List.{length-append}
use Rattle.std.proofs.lemmas.List.Elements.{Contains-append_right, Contains-append_cases}
use Rattle.daggy_base.specs.Graph.{Graph, HasNode, HasEdge, out_list, node_bound, edge_count}
use Rattle.daggy_base.specs.Cursor.{first_of}
use Rattle.daggy_base.specs.Look.{IsLook}
use Rattle.daggy_base.specs.Ordered.{IsOrderOf, place}
use Rattle.daggy_base.specs.Path.{AreJoined, Reaches}
use Rattle.daggy_base.specs.WellFormed.{IsWellFormed}
use Rattle.daggy_base.proofs.Lists.{Mem, Unique, contains_mem, mem_contains, mem_cases, unique_from_distinct, unique_right}
use Rattle.daggy_base.proofs.OutEdgesRead.{joins, below_bound, read_whole, read_part, has_edge, child_exists, child_joined}
use Rattle.daggy_base.proofs.OutEdgesRead.{next_cursor, lists_of, lists_few}
use Rattle.daggy_base.proofs.PathsWithEdge.{reaches_itself}
use Rattle.daggy_base.proofs.Sorted.{place_left, place_right, unique_cross}
use Rattle.daggy_visit.specs.Visit.{HasPair}
use Rattle.daggy_reduction.specs.Descendants.{IsDescendantOf}
use Rattle.daggy_reduction.proofs.ListedArcs.{Passed, passed_step, passed_whole}

-- What is joined: the graph and the number past all its edges, the node whose edges are gone through, the matrix from
-- before, and how often edges were looked at till then.
pub record Row (N E : Type 0) : Type 0 where
  pub end : ℕ
  pub graph : Graph N E
  pub node : ℕ
  pub before : List (List Bool)
  pub looks : ℕ

-- How far it is: the graph, the next edge, how often edges were looked at, and the matrix.
pub record Partial (N E : Type 0) : Type 0 where
  pub graph : Graph N E
  pub edge : ℕ
  pub looks : ℕ
  pub matrix : List (List Bool)

-- v is the child c, or in its row
abbrev pub IsFrom : List (List Bool) → (v k c : ℕ) → Type 0
IsFrom before v k c = (v ≡ c) ⊎ HasPair before c v

-- the row of the node has what the edges that were passed lead to
pub record Joining {N E : Type 0} (r : Row N E) (now : Partial N E) : Type 0 where
  pub same : now.graph ≡ r.graph
  pub bound : length now.matrix ≡ length r.before
  pub passed : ℕ
  pub cursor : now.edge ≡ first_of r.end (drop passed (out_list r.graph r.node))
  pub within : passed ≤ length (out_list r.graph r.node)
  pub counted : now.looks ≡ r.looks + passed
  pub pairs : (u v : ℕ) → HasPair now.matrix u v ↔ (HasPair r.before u v
      ⊎ ((u ≡ r.node) × Passed r.end r.graph r.node passed (IsFrom r.before v)))

pub joining_start : {N E : Type 0} (r : Row N E) {e : ℕ} → e ≡ first_of r.end (out_list r.graph r.node)
    → Joining r record { graph = r.graph; edge = e; looks = r.looks; matrix = r.before }
joining_start r first =
    record {
      same = refl;
      bound = refl;
      passed = 0;
      cursor = first;
      within = omega arith;
      counted = omega arith;
      pairs = λ u v. (
        λ h. inl h,
        λ t. elim t [ inl h ↦ h | inr q ↦ absurd (let low = q.1.2 in omega (arith, low)) ],
      );
    }

module _ {N E : Type 0} {r : Row N E} (w : IsWellFormed r.end r.graph) {now : Partial N E} (s : Joining r now) where
  pub joining_edge : now.edge ≢ r.end → HasEdge now.graph now.edge
  joining_edge here =
      let P : Graph N E → Type 0 = λ z. HasEdge z now.edge in
      subst P (sym s.same) (has_edge r.end r.graph w r.node s.passed now.edge s.cursor here)

  pub joining_less : now.edge ≢ r.end → s.passed + 1 ≤ length (out_list r.graph r.node)
  joining_less here = omega (arith, (read_part r.end r.graph w r.node s.passed now.edge s.cursor here).0)

  pub joining_counted : now.edge ≡ r.end → now.looks ≡ r.looks + length (out_list r.graph r.node)
  joining_counted h =
      omega (arith, s.counted, read_whole r.end r.graph w r.node s.passed now.edge s.cursor s.within h)

  pub joining_whole : now.edge ≡ r.end → (u v : ℕ) → HasPair now.matrix u v ↔ (HasPair r.before u v
      ⊎ ((u ≡ r.node) × ((c : ℕ) × AreJoined r.graph r.node c × ((v ≡ c) ⊎ HasPair r.before c v))))
  joining_whole h u v =
      let all = passed_whole r.end r.graph w r.node s.passed now.edge s.cursor s.within h (IsFrom r.before v) in (
        λ has. elim ((s.pairs u v).0 has) [
          | inl b ↦ inl b
          | inr q ↦
              (let k = all.0 q.1 in
              inr (q.0, (k.1.child, joins r.end r.graph w k.0 r.node k.1 k.2 k.3, k.4)))
        ],
        λ t. (s.pairs u v).1 (elim t [
          | inl b ↦ inl b
          | inr q ↦
              (let j = q.1.1 in
              inr (q.0, all.1 (j.0, record { parent = r.node; child = q.1.0; weight = j.1 }, j.2, refl, q.1.2)))
        ]),
      )

  module _ (here : now.edge ≢ r.end) {c next : ℕ} (look : IsLook r.end now.graph now.edge c next) where
    look₀ : IsLook r.end r.graph now.edge c next
    look₀ = let P : Graph N E → Type 0 = λ z. IsLook r.end z now.edge c next in subst P s.same look

    pub joining_child : length r.before ≡ node_bound r.graph → c < length now.matrix
    joining_child sized =
        omega (
          arith,
          below_bound r.graph.nodes c
              (child_exists r.end r.graph w r.node s.passed now.edge s.cursor here c next look₀),
          s.bound,
          sized,
        )

    pub joining_on : (AreJoined r.graph r.node r.node → ⊥) → {g' : Graph N E} → g' ≡ now.graph → {looks' : ℕ}
        → looks' ≡ now.looks + 1 → (once twice : List (List Bool))
        → ((u v : ℕ) → HasPair once u v ↔ (((u ≡ r.node) × (v ≡ c)) ⊎ HasPair now.matrix u v))
        → ((u v : ℕ) → HasPair twice u v ↔ (((u ≡ r.node) × HasPair once c v) ⊎ HasPair once u v))
        → length twice ≡ length now.matrix
        → Joining r record { graph = g'; edge = next; looks = looks'; matrix = twice }
    joining_on apart same' counted' once twice first second sized =
        record {
          same = same' ∙ s.same;
          bound = sized ∙ s.bound;
          passed = suc s.passed;
          cursor = next_cursor r.end r.graph w r.node s.passed now.edge s.cursor here c next look₀;
          within = omega (arith, joining_less here);
          counted = omega (arith, s.counted, counted');
          pairs = λ u v.
              (let step =
              passed_step r.end r.graph w r.node s.passed now.edge s.cursor here c next look₀ (IsFrom r.before v) in (
                λ has. elim ((second u v).0 has) [
                  | inl row ↦ inr (row.0, step.1 (inr (inr (old_row v row.1))))
                  | inr has₁ ↦ elim ((first u v).0 has₁) [
                    | inl new ↦ inr (new.0, step.1 (inr (inl new.1)))
                    | inr has₀ ↦ elim ((s.pairs u v).0 has₀) [
                      | inl b ↦ inl b
                      | inr q ↦ inr (q.0, step.1 (inl q.1))
                    ]
                  ]
                ],
                λ t. elim t [
                  | inl b ↦ keep u v ((s.pairs u v).1 (inl b))
                  | inr q ↦ elim (step.0 q.1) [
                    | inl early ↦ keep u v ((s.pairs u v).1 (inr (q.0, early)))
                    | inr late ↦ elim late [
                      | inl is ↦ (second u v).1 (inr ((first u v).1 (inl (q.0, is))))
                      | inr row ↦
                          (second u v).1 (inl (q.0, (first c v).1 (inr ((s.pairs c v).1 (inl row)))))
                    ]
                  ]
                ],
              ));
        }
      where
        other : c ≢ r.node
        other is =
            let P : ℕ → Type 0 = λ z. AreJoined r.graph r.node z in
            apart (subst P is (child_joined r.end r.graph w r.node s.passed now.edge s.cursor here c next look₀))

        old_row : (v : ℕ) → HasPair once c v → HasPair r.before c v
        old_row v has =
            elim ((first c v).0 has) [
              | inl new ↦ absurd (other new.0)
              | inr has₀ ↦ elim ((s.pairs c v).0 has₀) [ inl b ↦ b | inr q ↦ absurd (other q.0) ]
            ]

        keep : (u v : ℕ) → HasPair now.matrix u v → HasPair twice u v
        keep u v has = (second u v).1 (inr ((first u v).1 (inr has)))

-- What is closed: the graph and the number past all its edges, an order of its nodes, and how often edges were looked
-- at till then.
pub record Whole (N E : Type 0) : Type 0 where
  pub end : ℕ
  pub graph : Graph N E
  pub order : List ℕ
  pub looks : ℕ

-- How far it is: the graph, the nodes that are left, how often edges were looked at, and the matrix.
pub record Far (N E : Type 0) : Type 0 where
  pub graph : Graph N E
  pub left : List ℕ
  pub looks : ℕ
  pub matrix : List (List Bool)

-- the nodes that are done have their rows, and no others have any
pub record Closing {N E : Type 0} (t : Whole N E) (now : Far N E) : Type 0 where
  pub same : now.graph ≡ t.graph
  pub bound : length now.matrix ≡ node_bound t.graph
  pub done : List ℕ
  pub split : t.order ≡ now.left ++ done
  pub pairs : (u v : ℕ) → HasPair now.matrix u v ↔ (Contains done u × IsDescendantOf t.graph u v)
  pub counted : now.looks ≡ t.looks + length (lists_of t.graph done)

pub closing_start : {N E : Type 0} (t : Whole N E) (matrix : List (List Bool)) (left : List ℕ) → left ≡ t.order
    → length matrix ≡ node_bound t.graph → ((u v : ℕ) → HasPair matrix u v → ⊥)
    → Closing t record { graph = t.graph; left = left; looks = t.looks; matrix = matrix }
closing_start t matrix left all sized none =
    record {
      same = refl;
      bound = sized;
      done = [];
      split = sym all ∙ sym (append-nil left);
      pairs = λ u v. (λ has. absurd (none u v has), λ q. absurd (omega (arith, q.0.1)));
      counted = omega arith;
    }

module _ {N E : Type 0} {t : Whole N E} (w : IsWellFormed t.end t.graph) (ordered : IsOrderOf t.graph t.order)
    {now : Far N E} (s : Closing t now) where
  pub closing_well : IsWellFormed t.end now.graph
  closing_well = let P : Graph N E → Type 0 = λ z. IsWellFormed t.end z in subst P (sym s.same) w

  -- no edge leads from a node to itself
  pub closing_apart : (n : ℕ) → AreJoined now.graph n n → ⊥
  closing_apart n j =
      let P : Graph N E → Type 0 = λ z. AreJoined z n n in
      let low = ordered.sorted n n (subst P s.same j) in
      omega (arith, low)

  pub closing_counted : now.looks ≤ t.looks + edge_count t.graph
  closing_counted =
      let all : Unique (now.left ++ s.done) =
      let P : List ℕ → Type 0 = λ z. Unique z in subst P s.split (unique_from_distinct t.order ordered.once) in
      omega (arith, s.counted, lists_few t.end t.graph w s.done (unique_right now.left s.done all))

  pub closing_whole : now.left ≡ [] → (u v : ℕ) → HasPair now.matrix u v ↔ IsDescendantOf t.graph u v
  closing_whole none u v =
      let all : t.order ≡ s.done = s.split ∙ ap (λ z. z ++ s.done) none in
      let C : List ℕ → Type 0 = λ z. Contains z u in (
        λ has. ((s.pairs u v).0 has).1,
        λ r.
            (s.pairs u v).1
            (subst C all ((ordered.exact u).1 (w.parents r.1.0 _ r.1.2)), r),
      )

  module _ (rest : List ℕ) (n : ℕ) (last : now.left ≡ rest ++ n ∷ []) where
    split' : t.order ≡ rest ++ n ∷ s.done
    split' = s.split ∙ ap (λ z. z ++ s.done) last ∙ append_assoc rest (n ∷ []) s.done

    pub closing_node : HasNode t.graph n
    closing_node =
        let C : List ℕ → Type 0 = λ z. Contains z n in
        (ordered.exact n).0 (subst C (sym split')
        (Contains-append_right rest (n ∷ s.done) n (0, omega arith, refl)))

    pub closing_low : n < length now.matrix
    closing_low = omega (arith, below_bound t.graph.nodes n closing_node, s.bound)

    -- the children of the node are done
    child_done : (c : ℕ) → AreJoined t.graph n c → Contains s.done c
    child_done c j =
        let all : Unique (rest ++ n ∷ s.done) =
        let P : List ℕ → Type 0 = λ z. Unique z in subst P split' (unique_from_distinct t.order ordered.once) in
        let fresh : Mem n rest → ⊥ = λ m. unique_cross rest (n ∷ s.done) all n m (inl refl) in
        let M : List ℕ → Type 0 = λ z. Mem c z in
        let P : List ℕ → Type 0 = λ z. place z n < place z c in
        let later = subst P split' (ordered.sorted n c j) in
        let at_n = place_right rest (n ∷ s.done) n fresh in
        let there = subst M split' (contains_mem t.order c ((ordered.exact c).1 (w.children j.0 _ j.2))) in
        elim (mem_cases rest (n ∷ s.done) c there) [
          | inl before ↦ absurd (let low = place_left rest (n ∷ s.done) c before in omega (arith, low, later, at_n))
          | inr here ↦ elim here [
            | inl is ↦
                absurd (let Q : ℕ → Type 0 = λ z. place (rest ++ n ∷ s.done) n < place (rest ++ n ∷ s.done) z in
                let low = subst Q is later in
                omega (arith, low))
            | inr behind ↦ mem_contains s.done c behind
          ]
        ]

    pub closing_on : {g' : Graph N E} → g' ≡ now.graph → {looks' : ℕ}
        → looks' ≡ now.looks + length (out_list now.graph n) → (matrix' : List (List Bool))
        → length matrix' ≡ length now.matrix
        → ((u v : ℕ) → HasPair matrix' u v ↔ (HasPair now.matrix u v
        ⊎ ((u ≡ n) × ((c : ℕ) × AreJoined now.graph n c × ((v ≡ c) ⊎ HasPair now.matrix c v)))))
        → Closing t record { graph = g'; left = rest; looks = looks'; matrix = matrix' }
    closing_on same' counted' matrix' sized joined =
        record {
          same = same' ∙ s.same;
          bound = sized ∙ s.bound;
          done = n ∷ s.done;
          split = split';
          pairs = λ u v. (
            λ has. elim ((joined u v).0 has) [
              | inl old ↦
                  (let p = (s.pairs u v).0 old in (Contains-append_right (n ∷ []) s.done u p.0, p.1))
              | inr q ↦
                  (let J : Graph N E → Type 0 = λ z. AreJoined z n q.1.0 in
                  let j = subst J s.same q.1.1 in
                  let R : ℕ → Type 0 = λ z. Contains (n ∷ s.done) z × IsDescendantOf t.graph z v in
                  subst R (sym q.0) ((0, omega arith, refl), (q.1.0, j, reached q.1.0 j v q.1.2)))
            ],
            λ p. (joined u v).1 (elim (Contains-append_cases (n ∷ []) s.done u p.0) [
              | inr before ↦ inl ((s.pairs u v).1 (before, p.1))
              | inl here ↦
                  (let is : u ≡ n = only u here in
                  let R : ℕ → Type 0 = λ z. IsDescendantOf t.graph z v in
                  let r = subst R is p.1 in
                  let J : Graph N E → Type 0 = λ z. AreJoined z n r.0 in
                  inr (is, (r.0, subst J (sym s.same) r.1, from r.0 r.1 v r.2)))
            ]),
          );
          counted = omega (
            arith,
            s.counted,
            counted',
            ap (λ (z : Graph N E). length (out_list z n)) s.same,
            length-append (out_list t.graph n) (lists_of t.graph s.done),
          );
        }
      where
        only : (u : ℕ) → Contains (n ∷ []) u → u ≡ n
        only u (zero, low, is) = sym is
        only u (suc k, low, is) = absurd (omega (arith, low))

        reached : (c : ℕ) → AreJoined t.graph n c → (v : ℕ) → (v ≡ c) ⊎ HasPair now.matrix c v → Reaches t.graph c v
        reached c j v (inl is) =
            let P : ℕ → Type 0 = λ z. Reaches t.graph c z in
            subst P (sym is) (reaches_itself t.graph c (w.children j.0 _ j.2))
        reached c j v (inr has) =
            let r = ((s.pairs c v).0 has).1 in
            (r.0 ∷ r.2.0, (w.children j.0 _ j.2, r.1, r.2.1), r.2.2)

        from : (c : ℕ) → AreJoined t.graph n c → (v : ℕ) → Reaches t.graph c v → (v ≡ c) ⊎ HasPair now.matrix c v
        from c j v ([], p, e) = inl (sym e)
        from c j v (x ∷ rest, p, e) = inr ((s.pairs c v).1 (child_done c j, (x, p.1, (rest, p.2, e))))
