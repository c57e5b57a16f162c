-- How a path goes down to a node that has no neighbor which was not met.
use Rattle.std.proofs.Common.{◌≡◌, ℕ, ◌+◌, ◌-◌, ◌<◌, ◌≤◌, Bool, ◌⊎◌, ◌↔◌, inl, inr, Some, List, []}
use Rattle.std.proofs.Common.{map, ◌∷◌, ◌++◌, length, refl, sym, ap, subst, ◌∙◌, arith, append_assoc}
use Rattle.std.proofs.lemmas.List.{append-nil, length_push, length-append, same_from_push, nil_from_length}
use Rattle.daggy_base.specs.declared.index.Direction.{Direction}
use Rattle.daggy_base.specs.Graph.{Graph, HasNode, node_bound, list_at}
use Rattle.daggy_base.specs.Cursor.{first_of}
use Rattle.daggy_base.specs.Path.{end_of}
use Rattle.daggy_base.specs.WellFormed.{IsWellFormed}
use Rattle.daggy_base.proofs.Lists.{Mem, Unique, mem_contains, contains_mem}
use Rattle.daggy_base.proofs.Lists.{unique_from_distinct, distinct_from_unique}
use Rattle.daggy_base.proofs.OutEdgesRead.{below_bound}
use Rattle.daggy_visit.specs.Visit.{IsVisited}
use Rattle.daggy_traversal.specs.Traversal.{AreMarked, neighbors, neighbors_left, without_old, first_new}
use Rattle.daggy_traversal.specs.Postorder.{GoesDown, GivesLast, AreLeft}
use Rattle.daggy_traversal.proofs.Edges.{left_first}
use Rattle.daggy_traversal.proofs.Members.{mem_or_not, turned, turned_back, turned_once}
use Rattle.daggy_traversal.proofs.Fresh.{first_in}
use Rattle.daggy_traversal.proofs.Marks.{marked_more, marked_by, marked_room, listed}
use Rattle.daggy_traversal.proofs.Others.{others_old, others_new, others_first, others_still, others_more, first_not_old}

pub last_of_push : (u : ℕ) (xs : List ℕ) (n : ℕ) → end_of u (xs ++ n ∷ []) ≡ n
last_of_push u [] n = refl
last_of_push u (x ∷ xs) n = last_of_push x xs n

-- lists of the same members leave the same
pub others_alike : (old old' : List ℕ) → ((x : ℕ) → Mem x old → Mem x old') → ((x : ℕ) → Mem x old' → Mem x old)
    → (xs : List ℕ) → without_old old xs ≡ without_old old' xs
others_alike old old' into out [] = refl
others_alike old old' into out (x ∷ xs) =
    elim (mem_or_not old x) [
      | inl m ↦
          others_old old xs x m ∙ (others_alike old old' into out xs ∙ sym (others_old old' xs x (into x m)))
      | inr none ↦
          others_new old xs x none
          ∙ (ap (λ z. x ∷ z) (others_alike old old' into out xs) ∙ sym (others_new old' xs x (λ m. none (out x m))))
    ]

-- of the neighbors of each node on a path, those before its cursor were met
abbrev pub LeftEach : {N E : Type 0} → Direction → Graph N E → (met path cursors : List ℕ) → Type 0
LeftEach dir g met [] [] = Unit {0}
LeftEach dir g met [] (e ∷ es) = ⊥
LeftEach dir g met (n ∷ ns) [] = ⊥
LeftEach dir g met (n ∷ ns) (e ∷ es) =
    (without_old met (neighbors dir g n) ≡ without_old met (neighbors_left dir g e)) × LeftEach dir g met ns es

pub left_each : {N E : Type 0} (dir : Direction) (g : Graph N E) (met path cursors : List ℕ)
    → AreLeft dir g met path cursors → LeftEach dir g met path cursors
left_each dir g met [] [] h = tt
left_each dir g met [] (e ∷ es) h = cc
left_each dir g met (n ∷ ns) [] h = cc
left_each dir g met (n ∷ ns) (e ∷ es) h =
    let here : without_old met (neighbors dir g n) ≡ without_old met (neighbors_left dir g e) = cc in
    let rest : AreLeft dir g met ns es = cc in
    (here, left_each dir g met ns es rest)

pub left_all : {N E : Type 0} (dir : Direction) (g : Graph N E) (met path cursors : List ℕ)
    → LeftEach dir g met path cursors → AreLeft dir g met path cursors
left_all dir g met [] [] h = refl
left_all dir g met [] (e ∷ es) h = absurd h
left_all dir g met (n ∷ ns) [] h = absurd h
left_all dir g met (n ∷ ns) (e ∷ es) h =
    let rest = left_all dir g met ns es h.1 in
    ap (λ z. z ∷ map (λ k. without_old met (neighbors dir g k)) ns) h.0
    ∙ ap (λ z. without_old met (neighbors_left dir g e) ∷ z) rest

-- the cursors of a path
module _ {N E : Type 0} (dir : Direction) (g : Graph N E) where
  pub left_long : (met path cursors : List ℕ) → LeftEach dir g met path cursors → length cursors ≡ length path
  left_long met [] [] h = refl
  left_long met [] (e ∷ es) h = absurd h
  left_long met (n ∷ ns) [] h = absurd h
  left_long met (n ∷ ns) (e ∷ es) h = omega (arith, left_long met ns es h.1)

  pub left_more : (met more path cursors : List ℕ)
      → LeftEach dir g met path cursors → LeftEach dir g (met ++ more) path cursors
  left_more met more [] [] h = tt
  left_more met more [] (e ∷ es) h = absurd h
  left_more met more (n ∷ ns) [] h = absurd h
  left_more met more (n ∷ ns) (e ∷ es) h = (
    others_still met more (neighbors dir g n) (neighbors_left dir g e) h.0,
    left_more met more ns es h.1,
  )

  pub left_alike : (met met' : List ℕ) → ((xs : List ℕ) → without_old met xs ≡ without_old met' xs)
      → (path cursors : List ℕ) → LeftEach dir g met path cursors → LeftEach dir g met' path cursors
  left_alike met met' same [] [] h = tt
  left_alike met met' same [] (e ∷ es) h = absurd h
  left_alike met met' same (n ∷ ns) [] h = absurd h
  left_alike met met' same (n ∷ ns) (e ∷ es) h = (
    sym (same (neighbors dir g n)) ∙ (h.0 ∙ same (neighbors_left dir g e)),
    left_alike met met' same ns es h.1,
  )

  pub left_push : (met path cursors : List ℕ) (n e : ℕ) → LeftEach dir g met path cursors
      → without_old met (neighbors dir g n) ≡ without_old met (neighbors_left dir g e)
      → LeftEach dir g met (path ++ n ∷ []) (cursors ++ e ∷ [])
  left_push met [] [] n e h here = (here, tt)
  left_push met [] (x ∷ xs) n e h here = absurd h
  left_push met (y ∷ ys) [] n e h here = absurd h
  left_push met (y ∷ ys) (x ∷ xs) n e h here = (h.0, left_push met ys xs n e h.1 here)

  -- the last node of a path, and its cursor
  pub record Last (met path es : List ℕ) (e : ℕ) : Type 0 where
    pub front : List ℕ
    pub node : ℕ
    pub is : path ≡ front ++ node ∷ []
    pub left : LeftEach dir g met front es
    pub here : without_old met (neighbors dir g node) ≡ without_old met (neighbors_left dir g e)

  pub left_last : (met path es : List ℕ) (e : ℕ) → LeftEach dir g met path (es ++ e ∷ []) → Last met path es e
  left_last met [] [] e h = absurd h
  left_last met [] (x ∷ xs) e h = absurd h
  left_last met (n ∷ []) [] e h = record { front = []; node = n; is = refl; left = tt; here = h.0 }
  left_last met (n ∷ m ∷ ns) [] e h = absurd h.1
  left_last met (n ∷ ns) (x ∷ xs) e h =
      let r = left_last met ns xs e h.1 in
      record {
        front = n ∷ r.front;
        node = r.node;
        is = ap (λ z. n ∷ z) r.is;
        left = (h.0, r.left);
        here = r.here;
      }

  pub down_push : (given path more : List ℕ) (v : ℕ) → GoesDown dir g given path more
      → first_new (given ++ (path ++ more)) (neighbors dir g (end_of 0 (path ++ more))) ≡ Some v
      → GoesDown dir g given path (more ++ v ∷ [])
  down_push given path [] v h next =
      let P : List ℕ → Type 0 = λ z. first_new (given ++ z) (neighbors dir g (end_of 0 z)) ≡ Some v in
      (subst P (append-nil path) next, tt)
  down_push given path (x ∷ xs) v h next =
      let P : List ℕ → Type 0 = λ z. first_new (given ++ z) (neighbors dir g (end_of 0 z)) ≡ Some v in
      (h.0, down_push given (path ++ x ∷ []) xs v h.1 (subst P (sym (append_assoc path (x ∷ []) xs)) next))

-- the path has gone down from where it was
pub record Down {N E : Type 0} (dir : Direction) (g : Graph N E) (given before : List ℕ) (bound : ℕ) (met : List Bool)
    (path cursors : List ℕ) : Type 0 where
  pub more : List ℕ
  pub is : path ≡ before ++ more
  pub rooted : before ≡ [] → path ≡ []
  pub down : GoesDown dir g given before more
  pub left : LeftEach dir g (given ++ path) path cursors
  pub marked : AreMarked met (given ++ path)
  pub sized : length met ≡ bound

-- no cursor is left
module _ {N E : Type 0} {dir : Direction} {g : Graph N E} {given before : List ℕ} {bound : ℕ} {met : List Bool}
    {path cursors : List ℕ} (s : Down dir g given before bound met path cursors) (none : length cursors ≡ 0) where
  pub path_over : path ≡ []
  path_over =
      nil_from_length path (omega (arith, none, left_long dir g (given ++ path) path cursors s.left))

  pub before_over : before ≡ []
  before_over =
      nil_from_length before (omega (
        arith,
        ap (λ z. length z) (sym s.is ∙ path_over),
        length-append before s.more,
      ))

-- the last cursor is at e
module _ {N E : Type 0} {end : ℕ} {g : Graph N E} (w : IsWellFormed end g) {dir : Direction} {given before : List ℕ}
    {bound : ℕ} {met : List Bool} {path cursors : List ℕ} (s : Down dir g given before bound met path cursors)
    (fits : node_bound g ≤ bound) (es : List ℕ) (e : ℕ) (popped : cursors ≡ es ++ e ∷ []) {at : ℕ} (value : at ≡ e) where
  last : Last dir g (given ++ path) path es at
  last =
      let P : List ℕ → Type 0 = λ z. LeftEach dir g (given ++ path) path z in
      left_last dir g (given ++ path) path es at
      (subst P (popped ∙ ap (λ z. es ++ z ∷ []) (sym value)) s.left)

  pub path_some : 0 < length path
  path_some = let r = last in omega (arith, ap (λ z. length z) r.is, length_push r.front r.node)

  -- nothing new is there
  module _ (none : (nodes : List ℕ) → AreMarked met nodes → without_old nodes (neighbors_left dir g at) ≡ [])
      (path' : List ℕ) (n : ℕ) (taken : path ≡ path' ++ n ∷ []) where
    node_is : (last.front ≡ path') × (last.node ≡ n)
    node_is = same_from_push last.front path' last.node n (sym last.is ∙ taken)

    pub gives_last : {m : ℕ} → m ≡ n → GivesLast dir g given before path' m
    gives_last {m} m_is =
        let nothing : without_old (given ++ path) (neighbors dir g last.node) ≡ [] =
        last.here ∙ none (given ++ path) s.marked in
        record {
          some = λ empty. absurd (omega (arith, path_some, ap (λ z. length z) (s.rooted empty)));
          more = s.more;
          down = s.down;
          last = sym s.is ∙ (taken ∙ ap (λ k. path' ++ k ∷ []) (sym m_is));
          over =
              ap (λ z. first_new (given ++ z) (neighbors dir g m)) (sym s.is)
              ∙ (ap (λ k. first_new (given ++ path) (neighbors dir g k)) (m_is ∙ sym node_is.1)
              ∙ (others_first (given ++ path) (neighbors dir g last.node) ∙ ap first_in nothing));
        }

    into : (x : ℕ) → Mem x (given ++ path) → Mem x ((given ++ n ∷ []) ++ path')
    into x m = let P : List ℕ → Type 0 = λ z. Mem x (given ++ z) in turned given path' n x (subst P taken m)

    out : (x : ℕ) → Mem x ((given ++ n ∷ []) ++ path') → Mem x (given ++ path)
    out x m = let P : List ℕ → Type 0 = λ z. Mem x (given ++ z) in subst P (sym taken) (turned_back given path' n x m)

    module _ {given' : List ℕ} {m : ℕ} (gave : given' ≡ given ++ m ∷ []) (m_is : m ≡ n) where
      gave_n : given' ≡ given ++ n ∷ []
      gave_n = gave ∙ ap (λ k. given ++ k ∷ []) m_is

      pub gives_left : {es' : List ℕ} → es' ≡ es → LeftEach dir g (given' ++ path') path' es'
      gives_left {es'} same =
          let P : List ℕ → List ℕ → List ℕ → Type 0 = λ a b z. LeftEach dir g a b z in
          let met' = (given ++ n ∷ []) ++ path' in
          let here : LeftEach dir g met' last.front es =
          left_alike dir g (given ++ path) met' (others_alike (given ++ path) met' into out) last.front es last.left in
          subst (P (given' ++ path') path') (sym same)
          (subst (λ (a : List ℕ). P a path' es) (ap (λ z. z ++ path') (sym gave_n))
          (subst (λ (b : List ℕ). P met' b es) node_is.0 here))

      pub gives_marked : AreMarked met (given' ++ path')
      gives_marked =
          let met' = (given ++ n ∷ []) ++ path' in
          marked_by refl (ap (λ z. z ++ path') gave_n) (record {
            exact = λ x. (
              λ h. mem_contains met' x (into x (listed s.marked x h)),
              λ c. (s.marked.exact x).1 (mem_contains (given ++ path) x (out x (contains_mem met' x c))),
            );
            once = distinct_from_unique met' (turned_once given path' n
                (let P : List ℕ → Type 0 = λ z. Unique (given ++ z) in
                subst P taken (unique_from_distinct (given ++ path) s.marked.once)));
          })

  -- v is the first that is new
  module _ (v next : ℕ) (some : (nodes : List ℕ) → AreMarked met nodes
      → without_old nodes (neighbors_left dir g at) ≡ v ∷ without_old nodes (neighbors_left dir g next))
      (exists : HasNode g v) where
    new_here : without_old (given ++ path) (neighbors dir g last.node)
        ≡ v ∷ without_old (given ++ path) (neighbors_left dir g next)
    new_here = last.here ∙ some (given ++ path) s.marked

    pub new_low : v < length met
    new_low = omega (arith, below_bound g.nodes v exists, fits, s.sized)

    new_out : Mem v (given ++ path) → ⊥
    new_out m = first_not_old (given ++ path) (neighbors_left dir g at) (some (given ++ path) s.marked) m

    new_unvisited : IsVisited met v → ⊥
    new_unvisited h = new_out (listed s.marked v h)

    pub new_room : length path < bound
    new_room =
        omega (
          arith,
          marked_room s.marked v new_unvisited new_low,
          s.sized,
          length-append given path,
        )

    pub cursors_room : length es + 1 ≤ length path
    cursors_room =
        omega (
          arith,
          left_long dir g (given ++ path) path cursors s.left,
          ap (λ z. length z) popped,
          length_push es e,
        )

    module _ {path' : List ℕ} {x : ℕ} (entered : path' ≡ path ++ x ∷ []) (x_is : x ≡ v) where
      pub down_smaller : bound - length path' < bound - length path
      down_smaller = omega (arith, new_room, ap (λ z. length z) entered, length_push path x)

      pub goes_on_down : (met' : List Bool) → ((m : ℕ) → IsVisited met' m ↔ ((m ≡ v) ⊎ IsVisited met m))
          → length met' ≡ length met → {middle cursors' : List ℕ} {a b f first : ℕ} → middle ≡ es ++ a ∷ [] → a ≡ next
          → cursors' ≡ middle ++ b ∷ [] → b ≡ f → f ≡ first → first ≡ first_of end (list_at dir g v)
          → Down dir g given before bound met' path' cursors'
      goes_on_down met' visited same_size {middle} {cursors'} {a} {b} {f} {first} moved a_is more_cursors b_is f_is first_is =
          let more = given ++ path in
          let path_is : path' ≡ path ++ v ∷ [] = entered ∙ ap (λ k. path ++ k ∷ []) x_is in
          let all : given ++ path' ≡ more ++ v ∷ [] =
          ap (λ z. given ++ z) path_is ∙ sym (append_assoc given path (v ∷ [])) in
          let P : List ℕ → Type 0 = λ z. Mem v z in
          let moved_on : without_old (more ++ v ∷ []) (neighbors dir g last.node)
          ≡ without_old (more ++ v ∷ []) (neighbors_left dir g next) =
          others_more more (v ∷ []) (neighbors dir g last.node)
          ∙ (ap (λ z. without_old (v ∷ []) z) new_here
          ∙ (others_old (v ∷ []) (without_old more (neighbors_left dir g next)) v (inl refl)
          ∙ sym (others_more more (v ∷ []) (neighbors_left dir g next)))) in
          let above : LeftEach dir g (more ++ v ∷ []) (last.front ++ last.node ∷ []) (es ++ next ∷ []) =
          left_push dir g (more ++ v ∷ []) last.front es last.node next
          (left_more dir g more (v ∷ []) last.front es last.left) moved_on in
          let here : neighbors_left dir g b ≡ neighbors dir g v = left_first w dir v b (b_is ∙ (f_is ∙ first_is)) in
          let L : List ℕ → List ℕ → List ℕ → Type 0 = λ m p c. LeftEach dir g m p c in
          let whole : LeftEach dir g (more ++ v ∷ []) ((last.front ++ last.node ∷ []) ++ v ∷ []) ((es ++ next ∷ []) ++ b ∷ []) =
          left_push dir g (more ++ v ∷ []) (last.front ++ last.node ∷ []) (es ++ next ∷ []) v b above
          (ap (λ z. without_old (more ++ v ∷ []) z) (sym here)) in
          let cursors_are : cursors' ≡ (es ++ next ∷ []) ++ b ∷ [] =
          more_cursors ∙ ap (λ z. z ++ b ∷ []) (moved ∙ ap (λ k. es ++ k ∷ []) a_is) in
          let path_whole : path' ≡ (last.front ++ last.node ∷ []) ++ v ∷ [] =
          path_is ∙ ap (λ z. z ++ v ∷ []) last.is in
          let first_is_v : first_new (given ++ (before ++ s.more)) (neighbors dir g (end_of 0 (before ++ s.more))) ≡ Some v =
          (let Q : List ℕ → Type 0 = λ z. first_new (given ++ z) (neighbors dir g (end_of 0 z)) ≡ Some v in
          subst Q s.is (ap (λ k. first_new more (neighbors dir g k)) (ap (λ z. end_of 0 z) last.is
          ∙ last_of_push 0 last.front last.node)
          ∙ (others_first more (neighbors dir g last.node) ∙ ap first_in new_here))) in
          record {
            more = s.more ++ v ∷ [];
            rooted = λ empty. absurd (omega (arith, path_some, ap (λ z. length z) (s.rooted empty)));
            is = path_is ∙ (ap (λ z. z ++ v ∷ []) s.is ∙ append_assoc before s.more (v ∷ []));
            down = down_push dir g given before s.more v s.down first_is_v;
            left = subst (λ (z : List ℕ). L z path' cursors') (sym all)
                (subst (λ (z : List ℕ). L (more ++ v ∷ []) z cursors') (sym path_whole)
                (subst (L (more ++ v ∷ []) ((last.front ++ last.node ∷ []) ++ v ∷ [])) (sym cursors_are) whole));
            marked = marked_by refl all (marked_more s.marked v visited new_unvisited);
            sized = same_size ∙ s.sized;
          }
