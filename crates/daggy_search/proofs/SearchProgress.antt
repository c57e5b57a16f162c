-- A search that is on its way.
use Rattle.std.proofs.Common.{◌≡◌, ◌≢◌, ℕ, suc, ◌+◌, ◌<◌, ◌≤◌, Bool, true, false, ◌⊎◌, ◌↔◌, inl, inr, List, [], ◌∷◌}
use Rattle.std.proofs.Common.{◌++◌, length, get_or, drop, set, refl, sym, subst, ◌∙◌, arith, append_assoc}
use Rattle.std.proofs.lemmas.List.{get_or-set_other, get_or-set_same, get_or_past, length-append}
use Rattle.std.proofs.lemmas.Bool.{false≢true, cases_lt, cases_eq}
use Rattle.daggy_base.specs.Graph.{Graph, HasNode, HasEdge, out_list, edge_count}
use Rattle.daggy_base.specs.Path.{AreJoined, IsPath, Reaches, end_of}
use Rattle.daggy_base.specs.Cursor.{first_of}
use Rattle.daggy_base.specs.WellFormed.{IsWellFormed}
use Rattle.daggy_base.specs.Look.{IsLook}
use Rattle.daggy_base.proofs.Lists.{Mem, Unique, mem_out, mem_into, mem_mid, unique_mid, unique_right}
use Rattle.daggy_base.proofs.Lists.{fewer_than}
use Rattle.daggy_base.proofs.LongerPaths.{reaches_more}
use Rattle.daggy_base.proofs.OutEdgesRead.{lists_of, lists_few, LookedTo, read_whole, all_read, read_part, has_edge}
use Rattle.daggy_base.proofs.OutEdgesRead.{child_exists, child_joined, next_cursor, looked_more}

-- a set of nodes that no edge leads out of has all that its members reach
pub path_stays : {N E : Type 0} (g : Graph N E) (P : ℕ → Type 0) → ((u v : ℕ) → P u → AreJoined g u v → P v)
    → (u : ℕ) (rest : List ℕ) → IsPath g (u ∷ rest) → P u → P (end_of u rest)
path_stays g P closed u [] p here = here
path_stays g P closed u (v ∷ rest) p here = path_stays g P closed v rest p.2 (closed u v here p.1)

pub reaches_stays : {N E : Type 0} (g : Graph N E) (P : ℕ → Type 0)
    → ((u v : ℕ) → P u → AreJoined g u v → P v) → (u v : ℕ) → Reaches g u v → P u → P v
reaches_stays g P closed u v r here = subst P r.2 (path_stays g P closed u r.0 r.1 here)

-- marked, or passed over
abbrev pub Met : (marks : List Bool) → (Skip : ℕ → Type 0) → ℕ → Type 0
Met marks Skip n = (get_or marks n false ≡ true) ⊎ Skip n

-- each node that is marked is kept, and each child that is not marked is skipped
pub record Going {N E : Type 0} (end : ℕ) (g : Graph N E) (Keep Skip : ℕ → Type 0) (from : ℕ) (marks : List Bool)
    (st : List ℕ) (e looked : ℕ) : Type 0 where
  -- the node whose list is read, how much of that list was read, and the nodes whose lists were read whole
  pub at : ℕ
  pub passed : ℕ
  pub done : List ℕ
  pub cursor : e ≡ first_of end (drop passed (out_list g at))
  pub within : passed ≤ length (out_list g at)
  pub once : Unique (st ++ at ∷ done)
  pub marked : (n : ℕ) → (get_or marks n false ≡ true) ↔ Mem n (st ++ at ∷ done)
  pub reached : (n : ℕ) → Mem n (st ++ at ∷ done) → Reaches g from n
  pub start : Mem from (st ++ at ∷ done)
  pub kept : (n : ℕ) → Mem n (st ++ at ∷ done) → Keep n
  pub closed : (u v : ℕ) → Mem u done → AreJoined g u v → Met marks Skip v
  pub half : LookedTo end g (Met marks Skip) at passed
  pub counted : looked ≡ passed + length (lists_of g done)

pub marked_within : (marks : List Bool) (n : ℕ) → get_or marks n false ≡ true → n < length marks
marked_within marks n h =
    elim (cases_lt n (length marks)) [ inl a ↦ a | inr b ↦ absurd (false≢true (sym (get_or_past marks n false b) ∙ h)) ]

pub set_marked : (marks : List Bool) (v n : ℕ)
    → v < length marks → (get_or (set marks v true) n false ≡ true) ↔ ((n ≡ v) ⊎ (get_or marks n false ≡ true))
set_marked marks v n h =
    elim (cases_eq n v) [
      | inl e ↦ (
        λ _. inl e,
        λ _. let P : ℕ → Type 0 = λ z. get_or (set marks v true) z false ≡ true in
            subst P (sym e) (get_or-set_same marks v true false h),
      )
      | inr d ↦ (
        λ k. inr (sym (get_or-set_other marks v n true false d) ∙ k),
        λ k. elim k [ inl e ↦ absurd (d e) | inr m ↦ get_or-set_other marks v n true false d ∙ m ],
      )
    ]

met_more : (marks : List Bool) (Skip : ℕ → Type 0) (v n : ℕ)
    → v < length marks → Met marks Skip n → Met (set marks v true) Skip n
met_more marks Skip v n low met =
    elim met [ inl m ↦ inl ((set_marked marks v n low).1 (inr m)) | inr s ↦ inr s ]

-- what is known of a search that is on its way
module _ {N E : Type 0} {end : ℕ} {g : Graph N E} (w : IsWellFormed end g) {Keep Skip : ℕ → Type 0} {from : ℕ}
    {marks : List Bool} {st : List ℕ} {e looked : ℕ} (s : Going end g Keep Skip from marks st e looked) where
  -- the edges that were looked at are few, were all of the list read or a part of it
  read_few : (k : ℕ) → k ≤ length (out_list g s.at) → k + length (lists_of g s.done) ≤ edge_count g
  read_few k within =
      let few = lists_few end g w (s.at ∷ s.done) (unique_right st _ s.once) in
      omega (arith, few, length-append (out_list g s.at) (lists_of g s.done))

  pub looked_within : looked ≤ edge_count g
  looked_within = omega (arith, read_few s.passed s.within, s.counted)

  pub look_within : e ≢ end → looked + 1 ≤ edge_count g
  look_within h = omega (arith, read_few (suc s.passed) (read_part end g w s.at s.passed e s.cursor h).0, s.counted)

  pub edge_exists : e ≢ end → HasEdge g e
  edge_exists h = has_edge end g w s.at s.passed e s.cursor h

  -- what a look at the cursor gives
  module _ (here : e ≢ end) (v next : ℕ) (look : IsLook end g e v next) where
    pub found_exists : HasNode g v
    found_exists = child_exists end g w s.at s.passed e s.cursor here v next look

    pub child_reached : Reaches g from v
    child_reached =
        reaches_more g from s.at v (s.reached s.at (mem_mid st s.done s.at))
        (child_joined end g w s.at s.passed e s.cursor here v next look) found_exists

    -- the cursor moves on from a child that is marked or skipped
    pub moved : Met marks Skip v → Going end g Keep Skip from marks st next (looked + 1)
    moved seen =
        record {
          at = s.at;
          passed = suc s.passed;
          done = s.done;
          cursor = next_cursor end g w s.at s.passed e s.cursor here v next look;
          within = omega (arith, (read_part end g w s.at s.passed e s.cursor here).0);
          once = s.once;
          marked = s.marked;
          reached = s.reached;
          start = s.start;
          kept = s.kept;
          closed = s.closed;
          half = looked_more end g w s.at s.passed e s.cursor here v next look (Met marks Skip) s.half seen;
          counted = omega (arith, s.counted);
        }

    -- a child that is not marked goes on the stack
    pub pushed : v < length marks → Keep v → get_or marks v false ≡ false
        → Going end g Keep Skip from (set marks v true) (st ++ v ∷ []) e looked
    pushed low keep unseen =
        let D = s.at ∷ s.done in
        let is : (st ++ v ∷ []) ++ D ≡ st ++ v ∷ D = append_assoc st (v ∷ []) D in
        let into : (n : ℕ) → Mem n (st ++ v ∷ D) → Mem n ((st ++ v ∷ []) ++ D) = λ n m.
        let P : List ℕ → Type 0 = λ z. Mem n z in
        subst P (sym is) m in
        let out : (n : ℕ) → Mem n ((st ++ v ∷ []) ++ D) → (n ≡ v) ⊎ Mem n (st ++ D) = λ n m.
        mem_out st D v n (let P : List ℕ → Type 0 = λ z. Mem n z in subst P is m) in
        let absent : Mem v (st ++ D) → ⊥ = λ m. false≢true (sym unseen ∙ (s.marked v).1 m) in
        record {
          at = s.at;
          passed = s.passed;
          done = s.done;
          cursor = s.cursor;
          within = s.within;
          once = let P : List ℕ → Type 0 = λ z. Unique z in subst P (sym is) (unique_mid st D v s.once absent);
          marked = λ n. (
            λ k. into n (elim ((set_marked marks v n low).0 k) [
              | inl eq ↦ (let P : ℕ → Type 0 = λ z. Mem z (st ++ v ∷ D) in subst P (sym eq) (mem_mid st D v))
              | inr m ↦ mem_into st D v n ((s.marked n).0 m)
            ]),
            λ m. (set_marked marks v n low).1 (elim (out n m) [ inl eq ↦ inl eq | inr b ↦ inr ((s.marked n).1 b) ]),
          );
          reached = λ n m.
              elim (out n m) [
                | inl eq ↦ (let P : ℕ → Type 0 = λ z. Reaches g from z in subst P (sym eq) child_reached)
                | inr b ↦ s.reached n b
              ];
          start = into from (mem_into st D v from s.start);
          kept = λ n m.
              elim (out n m) [ inl eq ↦ subst Keep (sym eq) keep | inr b ↦ s.kept n b ];
          closed = λ u z m j. met_more marks Skip v z low (s.closed u z m j);
          half = λ j x lt a. met_more marks Skip v x.child low (s.half j x lt a);
          counted = s.counted;
        }

  -- the next node is taken from the stack
  pub has_room : (v : ℕ) → v < length marks → get_or marks v false ≡ false → suc (length st) < length marks
  has_room v low unseen =
      let D = s.at ∷ s.done in
      let absent : Mem v (st ++ D) → ⊥ = λ m. false≢true (sym unseen ∙ (s.marked v).1 m) in
      let low_all : (x : ℕ) → Mem x (v ∷ (st ++ D)) → x < length marks = λ x m.
      elim m [
        | inl eq ↦ omega (arith, eq)
        | inr b ↦ marked_within marks x ((s.marked x).1 b)
      ] in
      let few = fewer_than (v ∷ (st ++ D)) (length marks) (absent, s.once) low_all in
      omega (arith, few, length-append st D)

  -- at `end` each child of a node whose list was read is marked or skipped
  pub closed_now : e ≡ end → (u v : ℕ) → Mem u (s.at ∷ s.done) → AreJoined g u v → Met marks Skip v
  closed_now h u v m j =
      elim m [
        | inl eq ↦
            all_read end g w s.at s.passed e s.cursor s.within h (Met marks Skip) s.half v (let P : ℕ → Type 0 = λ z.
            AreJoined g z v in subst P eq j)
        | inr b ↦ s.closed u v b j
      ]

module _ {N E : Type 0} (end : ℕ) (g : Graph N E) (w : IsWellFormed end g) (Keep Skip : ℕ → Type 0) (from : ℕ) where
  -- the start
  pub started : (marks : List Bool) → HasNode g from → ((n : ℕ) → get_or marks n false ≡ false) → Keep from
      → from < length marks → Going end g Keep Skip from (set marks from true) [] (first_of end (out_list g from)) 0
  started marks exists clear keep low =
      record {
        at = from;
        passed = 0;
        done = [];
        cursor = refl;
        within = omega arith;
        once = (λ m. m, tt);
        marked = λ n. (
          λ k. elim ((set_marked marks from n low).0 k) [
            | inl eq ↦ inl eq
            | inr m ↦ absurd (false≢true (sym (clear n) ∙ m))
          ],
          λ m. (set_marked marks from n low).1 (elim m [ inl eq ↦ inl eq | inr b ↦ absurd b ]),
        );
        reached = λ n m.
            elim m [
              | inl eq ↦ (let P : ℕ → Type 0 = λ z. Reaches g from z in subst P (sym eq) ([], exists, refl))
              | inr b ↦ absurd b
            ];
        start = inl refl;
        kept = λ n m. elim m [ inl eq ↦ subst Keep (sym eq) keep | inr b ↦ absurd b ];
        closed = λ u v m j. absurd m;
        half = λ j x lt a. absurd (omega arith);
        counted = refl;
      }

  -- another node is read, which was waiting
  taken : (marks : List Bool) (st rest : List ℕ) (u e looked : ℕ) (s : Going end g Keep Skip from marks st e looked)
      → e ≡ end → ((n : ℕ) → Mem n (st ++ s.at ∷ s.done) → Mem n (rest ++ u ∷ (s.at ∷ s.done)))
      → ((n : ℕ) → Mem n (rest ++ u ∷ (s.at ∷ s.done)) → Mem n (st ++ s.at ∷ s.done))
      → Unique (rest ++ u ∷ (s.at ∷ s.done))
      → Going end g Keep Skip from marks rest (first_of end (out_list g u)) looked
  taken marks st rest u e looked s h into out once =
      record {
        at = u;
        passed = 0;
        done = s.at ∷ s.done;
        cursor = refl;
        within = omega arith;
        once = once;
        marked = λ n. (λ k. into n ((s.marked n).0 k), λ m. (s.marked n).1 (out n m));
        reached = λ n m. s.reached n (out n m);
        start = into from s.start;
        kept = λ n m. s.kept n (out n m);
        closed = closed_now w s h;
        half = λ j x lt a. absurd (omega arith);
        counted = omega (
          arith,
          s.counted,
          read_whole end g w s.at s.passed e s.cursor s.within h,
          length-append (out_list g s.at) (lists_of g s.done),
        );
      }

  -- the last of a stack
  pub popped : (marks : List Bool) (front : List ℕ) (u e looked : ℕ)
      → Going end g Keep Skip from marks (front ++ u ∷ []) e looked → e ≡ end
      → Going end g Keep Skip from marks front (first_of end (out_list g u)) looked
  popped marks front u e looked s h =
      let D = s.at ∷ s.done in
      let is : (front ++ u ∷ []) ++ D ≡ front ++ u ∷ D = append_assoc front (u ∷ []) D in
      taken marks (front ++ u ∷ []) front u e looked s h
      (λ n m. (let P : List ℕ → Type 0 = λ z. Mem n z in subst P is m))
      (λ n m. (let P : List ℕ → Type 0 = λ z. Mem n z in subst P (sym is) m))
      (let P : List ℕ → Type 0 = λ z. Unique z in subst P is s.once)

  -- the first of a queue
  pub next_read : (marks : List Bool) (rest : List ℕ) (u e looked : ℕ)
      → Going end g Keep Skip from marks (u ∷ rest) e looked → e ≡ end
      → Going end g Keep Skip from marks rest (first_of end (out_list g u)) looked
  next_read marks rest u e looked s h =
      let D = s.at ∷ s.done in
      taken marks (u ∷ rest) rest u e looked s h
      (λ n m. elim m [
        | inl eq ↦ (let P : ℕ → Type 0 = λ z. Mem z (rest ++ u ∷ D) in subst P (sym eq) (mem_mid rest D u))
        | inr b ↦ mem_into rest D u n b
      ]) (λ n m. mem_out rest D u n m) (unique_mid rest D u s.once.1 s.once.0)

  -- nothing is left to read: a set that has the first node, and that no edge to a node that was met leads out of, has
  -- all that is reached
  pub all_met : (marks : List Bool) (e looked : ℕ) → Going end g Keep Skip from marks [] e looked → e ≡ end
      → (u v : ℕ) → get_or marks u false ≡ true → AreJoined g u v → Met marks Skip v
  all_met marks e looked s h u v m j = closed_now w s h u v ((s.marked u).0 m) j

  pub from_met : (marks : List Bool) {st : List ℕ} (e looked : ℕ)
      → Going end g Keep Skip from marks st e looked → get_or marks from false ≡ true
  from_met marks e looked s = (s.marked from).1 s.start
