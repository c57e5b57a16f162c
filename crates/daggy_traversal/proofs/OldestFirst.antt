-- Steps of a walk depth first, oldest edge first.
use Rattle.std.proofs.Common.{◌≡◌, ℕ, zero, suc, ◌+◌, ◌<◌, ◌≤◌, Bool, true, false, ◌⊎◌, ◌↔◌, inl, inr, Option, Some, None}
use Rattle.std.proofs.Common.{List, [], ◌∷◌, ◌++◌, length, reverse, refl, sym, ap, subst, ◌∙◌, arith, append_assoc, Contains}
use Rattle.std.specs.Prelude.{IsNone}
use Rattle.std.specs.Option.{option_map}
use Rattle.std.proofs.lemmas.Bool.{false≢true}
use Rattle.std.proofs.lemmas.List.{append-nil, length-append, length-map, length_push, reverse-append}
use Rattle.daggy_base.specs.declared.index.Direction.{Direction}
use Rattle.daggy_base.specs.Graph.{Graph, Edge, HasNode, node_bound, edge_at, slot, list_at, near_end}
use Rattle.daggy_base.specs.WellFormed.{IsWellFormed}
use Rattle.daggy_base.proofs.Lists.{Mem, Unique, mem_contains, contains_mem, mem_left, mem_right, mem_cases, unique_append}
use Rattle.daggy_base.proofs.Lists.{unique_mid, fewer_than}
use Rattle.daggy_visit.specs.Visit.{IsVisited}
use Rattle.daggy_traversal.specs.Traversal.{LeadsFar, neighbors, neighbors_of, begin, first_new, without_old, is_among}
use Rattle.daggy_traversal.specs.Traversal.{are_found, are_distinct, far_or, AreAllGiven, AreMarked}
use Rattle.daggy_traversal.specs.OldestFirst.{OldestFirst, IsOldestFirst, edges_of, oldest_back, next_oldest}
use Rattle.daggy_traversal.proofs.Begin.{begin_here, begin_none, begin_only, node_or_not}
use Rattle.daggy_traversal.proofs.Depth.{nothing_in}
use Rattle.daggy_traversal.proofs.Edges.{listed_edge, list_once, neighbor_leads, leads_neighbor}
use Rattle.daggy_traversal.proofs.Found.{found_far, found_push, given_few, neighbors_of_has}
use Rattle.daggy_traversal.proofs.Fresh.{first_in}
use Rattle.daggy_traversal.proofs.Marks.{marked_again, marked_more, marked_by, listed, unlisted, was_new}
use Rattle.daggy_traversal.proofs.Members.{among_mem, mem_among, distinct_unique, unique_distinct}
use Rattle.daggy_traversal.proofs.Others.{others_old, others_new, others_append, others_first, others_more, new_is, none_new}
use Rattle.daggy_traversal.proofs.Reaching.{leads_farther, leads_nowhere, leads_within, start_exists, far_node}

reverse_more : (x : ℕ) (xs : List ℕ) → reverse (x ∷ xs) ≡ reverse xs ++ x ∷ []
reverse_more x xs = reverse-append (x ∷ []) xs

mem_reverse : (xs : List ℕ) (x : ℕ) → Mem x xs → Mem x (reverse xs)
mem_reverse [] x m = m
mem_reverse (y ∷ ys) x m =
    let P : List ℕ → Type 0 = λ z. Mem x z in
    subst P (sym (reverse_more y ys)) (elim m [
      | inl same ↦ mem_right (reverse ys) (y ∷ []) x (inl same)
      | inr there ↦ mem_left (reverse ys) (y ∷ []) x (mem_reverse ys x there)
    ])

mem_of_reverse : (xs : List ℕ) (x : ℕ) → Mem x (reverse xs) → Mem x xs
mem_of_reverse [] x m = m
mem_of_reverse (y ∷ ys) x m =
    let P : List ℕ → Type 0 = λ z. Mem x z in
    elim (mem_cases (reverse ys) (y ∷ []) x (subst P (reverse_more y ys) m)) [
      | inl there ↦ inr (mem_of_reverse ys x there)
      | inr here ↦ elim here [ inl same ↦ inl same | inr none ↦ absurd none ]
    ]

-- ---- the neighbors of the yielded nodes

oldest_back_push : {N E : Type 0} (dir : Direction) (g : Graph N E) (ns : List ℕ) (n : ℕ)
    → oldest_back dir g (ns ++ n ∷ []) ≡ reverse (neighbors dir g n) ++ oldest_back dir g ns
oldest_back_push dir g [] n = sym (append-nil (reverse (neighbors dir g n)))
oldest_back_push dir g (m ∷ ns) n =
    ap (λ z. z ++ reverse (neighbors dir g m)) (oldest_back_push dir g ns n)
    ∙ append_assoc (reverse (neighbors dir g n)) (oldest_back dir g ns) (reverse (neighbors dir g m))

oldest_back_has : {N E : Type 0} (dir : Direction) (g : Graph N E) (ns : List ℕ) (u v : ℕ)
    → Mem u ns → Mem v (neighbors dir g u) → Mem v (oldest_back dir g ns)
oldest_back_has dir g [] u v m n = absurd m
oldest_back_has dir g (x ∷ ns) u v m n =
    elim m [
      | inl same ↦ mem_right (oldest_back dir g ns) (reverse (neighbors dir g x)) v
          (let P : ℕ → Type 0 = λ z. Mem v (neighbors dir g z) in mem_reverse (neighbors dir g x) v (subst P same n))
      | inr there ↦ mem_left (oldest_back dir g ns) (reverse (neighbors dir g x)) v (oldest_back_has dir g ns u v there n)
    ]

oldest_back_of : {N E : Type 0} (dir : Direction) (g : Graph N E) (ns : List ℕ) (v : ℕ)
    → Mem v (oldest_back dir g ns) → (u : ℕ) × Mem u ns × Mem v (neighbors dir g u)
oldest_back_of dir g [] v m = absurd m
oldest_back_of dir g (x ∷ ns) v m =
    elim (mem_cases (oldest_back dir g ns) (reverse (neighbors dir g x)) v m) [
      | inl before ↦ (let r = oldest_back_of dir g ns v before in (r.0, inr r.1, r.2))
      | inr here ↦ (x, inl refl, mem_of_reverse (neighbors dir g x) v here)
    ]

-- ---- the edges of the yielded nodes

edges_push : {N E : Type 0} (dir : Direction) (g : Graph N E) (ns : List ℕ) (n : ℕ)
    → length (edges_of dir g (ns ++ n ∷ [])) ≡ length (edges_of dir g ns) + length (list_at dir g n)
edges_push dir g [] n = omega (arith, ap (λ z. length z) (append-nil (list_at dir g n)))
edges_push dir g (m ∷ ns) n =
    omega (
      arith,
      edges_push dir g ns n,
      length-append (list_at dir g m) (edges_of dir g (ns ++ n ∷ [])),
      length-append (list_at dir g m) (edges_of dir g ns),
    )

slot_low : {A : Type 0} (xs : List (Option A)) (i : ℕ) (x : A) → slot xs i ≡ Some x → i < length xs
slot_low [] i x is = absurd cc
slot_low (y ∷ xs) zero x is = omega arith
slot_low (y ∷ xs) (suc i) x is = let h = slot_low xs i x is in omega (arith, h)

module _ {N E : Type 0} {end : ℕ} {g : Graph N E} (w : IsWellFormed end g) (dir : Direction) where
  edge_of_some : (ns : List ℕ) (e : ℕ) → Mem e (edges_of dir g ns)
      → (x : Edge E) × (edge_at g e ≡ Some x) × Mem (near_end dir x) ns
  edge_of_some [] e m = absurd m
  edge_of_some (n ∷ ns) e m =
      elim (mem_cases (list_at dir g n) (edges_of dir g ns) e m) [
        | inl here ↦ (let p = listed_edge w dir n e here in (p.0, p.1, inl p.2))
        | inr later ↦ (let r = edge_of_some ns e later in (r.0, r.1, inr r.2))
      ]

  edges_once : (ns : List ℕ) → Unique ns → Unique (edges_of dir g ns)
  edges_once [] u = tt
  edges_once (n ∷ ns) u =
      unique_append (list_at dir g n) (edges_of dir g ns) (list_once w dir n) (edges_once ns u.1) (λ e here later.
      let p = listed_edge w dir n e here in
      let r = edge_of_some ns e later in
      let same : Some p.0 ≡ Some r.0 = sym p.1 ∙ r.1 in
      let edge : p.0 ≡ r.0 = cc in
      let P : ℕ → Type 0 = λ z. Mem z ns in
      u.0 (subst P (sym (ap (near_end dir) edge) ∙ p.2) r.2))

  -- different nodes have at most as many edges as there are slots
  edges_few : (ns : List ℕ) → Unique ns → length (edges_of dir g ns) ≤ length g.edges
  edges_few ns u =
      fewer_than (edges_of dir g ns) (length g.edges) (edges_once ns u) (λ e m.
      let r = edge_of_some ns e m in slot_low g.edges e r.0 r.1)

-- ---- a walk that is under way

module _ {N E : Type 0} {end : ℕ} {g : Graph N E} (w : IsWellFormed end g) {d : OldestFirst} (s : IsOldestFirst g d) where
  far_given : (n : ℕ) → Mem n d.given → LeadsFar d.dir g d.start n
  far_given n m = found_far w d.dir d.start [] d.given (λ x m. absurd m) s.found n m

  pub oldest_few : length d.given ≤ node_bound g
  oldest_few = given_few w d.dir d.start d.given (distinct_unique d.given s.once) far_given

  fits_still : {dir : Direction} {room : ℕ} → dir ≡ d.dir → room ≡ d.room
      → (ns : List ℕ) → are_distinct ns ≡ true → length (edges_of dir g ns) ≤ room
  fits_still same_dir same_room ns once =
      omega (arith, s.fits ns once, ap (λ z. length (edges_of z g ns)) same_dir, same_room)

  next_of_stack : next_oldest g d.dir d.start d.given ≡ first_new d.given (reverse d.stack)
  next_of_stack =
      others_first d.given (oldest_back d.dir g d.given ++ begin g d.start)
      ∙ (ap first_in (sym s.left) ∙ sym (others_first d.given (reverse d.stack)))

  oldest_over : next_oldest g d.dir d.start d.given ≡ None → AreAllGiven g d.dir d.start d.given
  oldest_over none n far =
      let back = oldest_back d.dir g d.given in
      let P : ℕ → Type 0 = λ z. Mem z d.given in
      let Q : List ℕ → Type 0 = λ z. Mem d.start z in
      let all : (x : ℕ) → Mem x (back ++ begin g d.start) → Mem x d.given = λ x m.
      none_new d.given (back ++ begin g d.start) x none m in
      mem_contains d.given n (leads_within g d.dir P (λ u v m leads. all v
      (mem_left back (begin g d.start) v (oldest_back_has d.dir g d.given u v m (leads_neighbor w d.dir u v leads))))
      d.start n far (all d.start (mem_right back (begin g d.start) d.start
      (subst Q (sym (begin_here g d.start (start_exists g d.dir d.start n far))) (inl refl)))))

  -- n comes next
  module _ (n : ℕ) (next : next_oldest g d.dir d.start d.given ≡ Some n) where
    is_new : Mem n (oldest_back d.dir g d.given ++ begin g d.start) × (Mem n d.given → ⊥)
    is_new = new_is d.given (oldest_back d.dir g d.given ++ begin g d.start) n next

    oldest_far : LeadsFar d.dir g d.start n
    oldest_far =
        elim (mem_cases (oldest_back d.dir g d.given) (begin g d.start) n is_new.0) [
          | inl later ↦ (
              let r = oldest_back_of d.dir g d.given n later in
              leads_farther w d.dir d.start r.0 n (far_given r.0 r.1) (neighbor_leads w d.dir r.0 n r.2)
              )
          | inr first ↦ (
              let o = begin_only g d.start n first in
              let P : ℕ → Type 0 = λ z. LeadsFar d.dir g d.start z in
              subst P (sym o.0) (leads_nowhere g d.dir d.start o.1)
              )
        ]

    oldest_once : Contains d.given n → ⊥
    oldest_once c = is_new.1 (contains_mem d.given n c)

    oldest_found : are_found d.dir g d.start [] (d.given ++ n ∷ []) ≡ true
    oldest_found =
        let X = begin g d.start in
        found_push d.dir g d.start [] d.given n s.found
        (elim (mem_cases (oldest_back d.dir g d.given) X n is_new.0) [
          | inl later ↦ (
              let r = oldest_back_of d.dir g d.given n later in
              mem_right X (neighbors_of d.dir g d.given) n (neighbors_of_has d.dir g d.given r.0 n r.1 r.2)
              )
          | inr first ↦ mem_left X (neighbors_of d.dir g d.given) n first
        ])

    given_once : Unique (d.given ++ n ∷ [])
    given_once =
        let P : List ℕ → Type 0 = λ z. Unique z in
        let Q : List ℕ → Type 0 = λ z. Mem n z → ⊥ in
        unique_mid d.given [] n (subst P (sym (append-nil d.given)) (distinct_unique d.given s.once))
        (subst Q (sym (append-nil d.given)) is_new.1)

  -- a step, which gives a node if there is one
  module _ {A : Type 0} (number : A → ℕ) (o : Option A)
      (popped : option_map number o ≡ first_new d.given (reverse d.stack)) where
    pub oldest_next : option_map number o ≡ next_oldest g d.dir d.start d.given
    oldest_next = popped ∙ sym next_of_stack

    pub oldest_none : IsNone o ↔ AreAllGiven g d.dir d.start d.given
    oldest_none = by_node o oldest_next
      where
        by_node : (a : Option A) → option_map number a ≡ next_oldest g d.dir d.start d.given
            → IsNone a ↔ AreAllGiven g d.dir d.start d.given
        by_node None h = (λ _. oldest_over (sym h), λ _. refl)
        by_node (Some a) h = (
          λ none. absurd (false≢true (sym none)),
          λ all. absurd (oldest_once (number a) (sym h) (all (number a) (oldest_far (number a) (sym h)))),
        )

  pub oldest_reached : {n : ℕ} → Some n ≡ first_new d.given (reverse d.stack) → LeadsFar d.dir g d.start n
  oldest_reached {n} popped = oldest_far n (sym (popped ∙ sym next_of_stack))

  pub oldest_new : {n : ℕ} → Some n ≡ first_new d.given (reverse d.stack) → Contains d.given n → ⊥
  oldest_new {n} popped = oldest_once n (sym (popped ∙ sym next_of_stack))

  -- nothing is left
  pub oldest_ends : None ≡ first_new d.given (reverse d.stack) → {d' : OldestFirst} → d'.start ≡ d.start
      → d'.dir ≡ d.dir → d'.given ≡ d.given → d'.stack ≡ [] → d'.bound ≡ d.bound → d'.room ≡ d.room
      → IsOldestFirst g d'
  oldest_ends popped {d'} same_start same_dir kept over same_bound same_room =
      let back = oldest_back d.dir g d.given ++ begin g d.start in
      let all : without_old d.given back ≡ [] =
      nothing_in (without_old d.given back)
      (sym (others_first d.given back) ∙ (next_of_stack ∙ sym popped)) in
      let P : List ℕ → ℕ → Direction → Type 0 = λ given start dir.
      (without_old given (reverse d'.stack) ≡ without_old given (oldest_back dir g given ++ begin g start))
      × (are_found dir g start [] given ≡ true) in
      let now : P d.given d.start d.dir = (ap (λ z. without_old d.given (reverse z)) over ∙ sym all, s.found) in
      let to = subst (P d'.given d'.start) (sym same_dir) (subst (λ (a : ℕ). P d'.given a d.dir) (sym same_start)
      (subst (λ (z : List ℕ). P z d.start d.dir) (sym kept) now)) in
      let O : List ℕ → Type 0 = λ z. are_distinct z ≡ true in
      let M : List ℕ → Type 0 = λ z. (n : ℕ) → is_among z n ≡ true → HasNode g n in
      record {
        left = to.0;
        once = subst O (sym kept) s.once;
        found = to.1;
        present = subst M (sym over) (λ n m. absurd (false≢true m));
        few = omega (arith, ap (λ z. length z) over);
        bounded = omega (arith, s.bounded, same_bound);
        fits = fits_still same_dir same_room;
      }

  -- n was taken from the stack
  module _ {n : ℕ} (popped : Some n ≡ first_new d.given (reverse d.stack)) (rest : List ℕ)
      (left : without_old d.given (reverse d.stack) ≡ n ∷ without_old d.given (reverse rest))
      (among : (m : ℕ) → is_among rest m ≡ true → is_among d.stack m ≡ true)
      (fewer : length rest < length d.stack) where
    next_is : next_oldest g d.dir d.start d.given ≡ Some n
    next_is = sym (popped ∙ sym next_of_stack)

    pub neighbors_fit : length rest + length (neighbors d.dir g n) ≤ d.room
    neighbors_fit =
        omega (
          arith,
          s.few,
          s.fits (d.given ++ n ∷ []) (unique_distinct (d.given ++ n ∷ []) (given_once n next_is)),
          fewer,
          edges_push d.dir g d.given n,
          length-map (list_at d.dir g n) (λ e. far_or d.dir (edge_at g e)),
        )

    pub oldest_goes_on : {d' : OldestFirst} → d'.start ≡ d.start → d'.dir ≡ d.dir → d'.given ≡ d.given ++ n ∷ []
        → d'.stack ≡ rest ++ neighbors d.dir g n → d'.bound ≡ d.bound → d'.room ≡ d.room → IsOldestFirst g d'
    oldest_goes_on {d'} same_start same_dir gave pushed same_bound same_room =
        let more = d.given ++ n ∷ [] in
        let around = neighbors d.dir g n in
        let back = oldest_back d.dir g d.given ++ begin g d.start in
        let below : without_old more (reverse rest) ≡ without_old more back =
        others_more d.given (n ∷ []) (reverse rest)
        ∙ (sym (others_old (n ∷ []) (without_old d.given (reverse rest)) n (inl refl))
        ∙ (ap (λ z. without_old (n ∷ []) z) (sym left ∙ s.left) ∙ sym (others_more d.given (n ∷ []) back))) in
        let here : without_old more (reverse d'.stack) ≡ without_old more (oldest_back d.dir g more ++ begin g d.start) =
        ap (λ z. without_old more (reverse z)) pushed
        ∙ (ap (λ z. without_old more z) (reverse-append rest around)
        ∙ (others_append more (reverse around) (reverse rest)
        ∙ (ap (λ z. without_old more (reverse around) ++ z) below
        ∙ (sym (others_append more (reverse around) back)
        ∙ ap (λ z. without_old more z) (sym (append_assoc (reverse around) (oldest_back d.dir g d.given) (begin g d.start))
        ∙ ap (λ z. z ++ begin g d.start) (sym (oldest_back_push d.dir g d.given n))))))) in
        let P : List ℕ → ℕ → Direction → Type 0 = λ given start dir.
        (without_old given (reverse d'.stack) ≡ without_old given (oldest_back dir g given ++ begin g start))
        × (are_found dir g start [] given ≡ true)
        × (length d'.stack ≤ suc (length (edges_of dir g given))) in
        let few : length d'.stack ≤ suc (length (edges_of d.dir g more)) =
        omega (
          arith,
          s.few,
          fewer,
          edges_push d.dir g d.given n,
          length-map (list_at d.dir g n) (λ e. far_or d.dir (edge_at g e)),
          ap (λ z. length z) pushed,
          length-append rest around,
        ) in
        let now : P more d.start d.dir = (here, oldest_found n next_is, few) in
        let to = subst (P d'.given d'.start) (sym same_dir) (subst (λ (a : ℕ). P d'.given a d.dir) (sym same_start)
        (subst (λ (z : List ℕ). P z d.start d.dir) (sym gave) now)) in
        let O : List ℕ → Type 0 = λ z. are_distinct z ≡ true in
        let M : List ℕ → Type 0 = λ z. (m : ℕ) → is_among z m ≡ true → HasNode g m in
        record {
          left = to.0;
          once = subst O (sym gave) (unique_distinct more (given_once n next_is));
          found = to.1;
          present = subst M (sym pushed) (λ m a. elim (mem_cases rest around m (among_mem (rest ++ around) m a)) [
            | inl old ↦ s.present m (among m (mem_among rest m old))
            | inr new ↦ far_node w d.dir n m (neighbor_leads w d.dir n m new)
          ]);
          few = to.2;
          bounded = omega (arith, s.bounded, same_bound);
          fits = fits_still same_dir same_room;
        }

-- a walk that begins
pub oldest_begins : {N E : Type 0} {end : ℕ} {g : Graph N E} → IsWellFormed end g → {d : OldestFirst} → d.given ≡ []
    → d.stack ≡ begin g d.start → node_bound g ≤ d.bound → length g.edges ≤ d.room → IsOldestFirst g d
oldest_begins {g = g} w {d} none first bounded room =
    let P : List ℕ → Type 0 = λ given. (without_old given (reverse d.stack)
    ≡ without_old given (oldest_back d.dir g given ++ begin g d.start))
    × (are_distinct given ≡ true) × (are_found d.dir g d.start [] given ≡ true)
    × (length d.stack ≤ suc (length (edges_of d.dir g given))) in
    let now : P [] = (
      ap (λ z. without_old [] (reverse z)) first ∙ ap (λ z. without_old [] z) alone,
      refl,
      refl,
      omega (arith, ap (λ z. length z) first, short),
    ) in
    let to = subst P (sym none) now in
    record {
      left = to.0;
      once = to.1;
      found = to.2;
      present = λ n m. (
          let o = begin_only g d.start n (among_mem (begin g d.start) n (subst (λ (z : List ℕ). is_among z n ≡ true) first m)) in
          let Q : ℕ → Type 0 = λ z. HasNode g z in subst Q (sym o.0) o.1);
      few = to.3;
      bounded = bounded;
      fits = λ ns once. omega (arith, edges_few w d.dir ns (distinct_unique ns once), room);
    }
  where
    alone : reverse (begin g d.start) ≡ begin g d.start
    alone = elim (node_or_not g d.start) [
      | inl exists ↦ ap reverse (begin_here g d.start exists) ∙ sym (begin_here g d.start exists)
      | inr missing ↦ ap reverse (begin_none g d.start missing) ∙ sym (begin_none g d.start missing)
    ]

    short : length (begin g d.start) ≤ 1
    short = elim (node_or_not g d.start) [
      | inl exists ↦ omega (arith, ap (λ z. length z) (begin_here g d.start exists))
      | inr missing ↦ omega (arith, ap (λ z. length z) (begin_none g d.start missing))
    ]

-- ---- taking nodes from the stack

-- some nodes were taken, each of which had been given
pub record Popping (given all : List ℕ) (bound : ℕ) (met : List Bool) (stack : List ℕ) : Type 0 where
  pub left : without_old given (reverse stack) ≡ without_old given (reverse all)
  pub among : (n : ℕ) → is_among stack n ≡ true → is_among all n ≡ true
  pub fewer : length stack ≤ length all
  pub marked : AreMarked met given
  pub sized : length met ≡ bound

pub all_popped : {given all : List ℕ} {bound : ℕ} {met : List Bool} {stack : List ℕ}
    → Popping given all bound met stack → stack ≡ [] → first_new given (reverse all) ≡ None
all_popped {given} {all} s none =
    others_first given (reverse all) ∙ ap first_in (sym s.left ∙ ap (λ z. without_old given (reverse z)) none)

-- at is taken
module _ {given all : List ℕ} {bound : ℕ} {met : List Bool} {stack : List ℕ} (s : Popping given all bound met stack)
    (rest : List ℕ) {at n : ℕ} (popped : stack ≡ rest ++ at ∷ []) (n_is : n ≡ at) where
  taken : stack ≡ rest ++ n ∷ []
  taken = popped ∙ ap (λ z. rest ++ z ∷ []) (sym n_is)

  reversed : reverse stack ≡ n ∷ reverse rest
  reversed = ap reverse taken ∙ reverse-append rest (n ∷ [])

  shorter : length stack ≡ length rest + 1
  shorter = ap (λ z. length z) taken ∙ length_push rest n

  among_rest : (m : ℕ) → is_among rest m ≡ true → is_among all m ≡ true
  among_rest m a =
      let P : List ℕ → Type 0 = λ z. Mem m z in
      s.among m (mem_among stack m (subst P (sym taken) (mem_left rest (n ∷ []) m (among_mem rest m a))))

  pub fits_set : ((m : ℕ) → is_among all m ≡ true → m < bound) → n < length met
  fits_set low =
      let P : List ℕ → Type 0 = λ z. Mem n z in
      let below = low n (s.among n (mem_among stack n (subst P (sym taken) (mem_right rest (n ∷ []) n (inl refl))))) in
      omega (arith, below, s.sized)

  module _ {answer : Bool} (says : (answer ≡ false) ↔ IsVisited met n) (met' : List Bool)
      (visited : (m : ℕ) → IsVisited met' m ↔ ((m ≡ n) ⊎ IsVisited met m)) (same_bound : length met' ≡ length met) where
    pub pops_old : answer ≡ false → Popping given all bound met' rest
    pops_old old = record {
      left =
          sym (ap (λ z. without_old given z) reversed
          ∙ others_old given (reverse rest) n (listed s.marked n (says.0 old)))
          ∙ s.left;
      among = among_rest;
      fewer = omega (arith, s.fewer, shorter);
      marked = marked_again s.marked n visited (says.0 old);
      sized = same_bound ∙ s.sized;
    }

    module _ (new : answer ≡ true) where
      pub pops_left : without_old given (reverse all) ≡ n ∷ without_old given (reverse rest)
      pops_left =
          sym s.left
          ∙ (ap (λ z. without_old given z) reversed
          ∙ others_new given (reverse rest) n (unlisted s.marked n (was_new says new)))

      pub pops_new : first_new given (reverse all) ≡ Some n
      pops_new = others_first given (reverse all) ∙ ap first_in pops_left

      pub pops_among : (m : ℕ) → is_among rest m ≡ true → is_among all m ≡ true
      pops_among = among_rest

      pub pops_fewer : length rest < length all
      pops_fewer = omega (arith, s.fewer, shorter)

      pub pops_marked : {given' : List ℕ} {y : ℕ} → given' ≡ given ++ y ∷ [] → y ≡ n → AreMarked met' given'
      pops_marked {given'} {y} gave y_is =
          marked_by refl (gave ∙ ap (λ z. given ++ z ∷ []) y_is) (marked_more s.marked n visited (was_new says new))
