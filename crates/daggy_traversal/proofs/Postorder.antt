-- Steps of a walk in postorder.
use Rattle.std.proofs.Common.{◌≡◌, ◌≢◌, ℕ, ◌≤◌, ◌⊎◌, ◌↔◌, inl, inr, Option, Some, None, List, [], ◌∷◌, ◌++◌}
use Rattle.std.proofs.Common.{refl, sym, ap, subst, ◌∙◌, arith, append_assoc, Contains}
use Rattle.std.specs.Prelude.{IsNone, IfNone, IfSome}
use Rattle.std.proofs.lemmas.Bool.{false≢true}
use Rattle.std.proofs.lemmas.List.{append-nil}
use Rattle.daggy_base.specs.declared.index.Direction.{Direction}
use Rattle.daggy_base.specs.declared.index.Direction.TheVariants.{Outgoing, Incoming}
use Rattle.daggy_base.specs.Graph.{Graph, HasNode, node_bound}
use Rattle.daggy_base.specs.Path.{end_of, IsAcyclic}
use Rattle.daggy_base.specs.WellFormed.{IsWellFormed, AreDistinct}
use Rattle.daggy_base.proofs.Lists.{Mem, Unique, mem_contains, contains_mem, mem_left, mem_cases, mem_mid}
use Rattle.daggy_base.proofs.Lists.{unique_from_distinct}
use Rattle.daggy_traversal.specs.Traversal.{LeadsTo, LeadsFar, neighbors, neighbors_left, without_old, begin}
use Rattle.daggy_traversal.specs.Traversal.{AreAllGiven}
use Rattle.daggy_traversal.specs.Postorder.{Postorder, IsPostorder, GoesDown, GivesLast, AreLeft, is_way, leads_along}
use Rattle.daggy_traversal.proofs.Begin.{begin_here, begin_none, node_or_not}
use Rattle.daggy_traversal.proofs.Edges.{neighbor_leads, leads_neighbor}
use Rattle.daggy_traversal.proofs.Members.{turned, not_before, among_mem, mem_among, and_left, and_right, and_both}
use Rattle.daggy_traversal.proofs.Members.{distinct_unique, unique_distinct}
use Rattle.daggy_base.proofs.Lists.{fewer_than, distinct_from_unique}
use Rattle.daggy_base.proofs.OutEdgesRead.{below_bound}
use Rattle.daggy_traversal.specs.Traversal.{is_among}
use Rattle.std.proofs.Common.{eqb, true, length}
use Rattle.std.proofs.lemmas.Bool.{eq-eqb, eqb-true}
use Rattle.daggy_traversal.proofs.Others.{new_is, none_new}
use Rattle.daggy_traversal.proofs.Reaching.{far_exists, near_node, far_node, leads_farther, leads_nowhere, leads_within, start_exists}

last_mem : (u : ℕ) (rest : List ℕ) → Mem (end_of u rest) (u ∷ rest)
last_mem u [] = inl refl
last_mem u (v ∷ rest) = inr (last_mem v rest)

last_there : (path : List ℕ) → path ≢ [] → Mem (end_of 0 path) path
last_there [] some = absurd (some refl)
last_there (u ∷ rest) some = last_mem u rest

-- each node of a list leads to the next
abbrev LeadsAlong : {N E : Type 0} → Direction → Graph N E → List ℕ → Type 0
LeadsAlong dir g [] = Unit {0}
LeadsAlong dir g (u ∷ []) = Unit {0}
LeadsAlong dir g (u ∷ v ∷ rest) = LeadsTo dir g u v × LeadsAlong dir g (v ∷ rest)

module _ {N E : Type 0} (dir : Direction) (g : Graph N E) (start : ℕ) where
  steps_push : (u : ℕ) (rest : List ℕ) (v : ℕ) → leads_along dir g u rest ≡ true
      → Mem v (neighbors dir g (end_of u rest)) → leads_along dir g u (rest ++ v ∷ []) ≡ true
  steps_push u [] v h m = and_both (is_among (neighbors dir g u) v) true (mem_among (neighbors dir g u) v m) refl
  steps_push u (x ∷ rest) v h m =
      and_both (is_among (neighbors dir g u) x) (leads_along dir g x (rest ++ v ∷ []))
      (and_left (is_among (neighbors dir g u) x) (leads_along dir g x rest) h)
      (steps_push x rest v (and_right (is_among (neighbors dir g u) x) (leads_along dir g x rest) h) m)

  way_push : (path : List ℕ) (v : ℕ) → path ≢ [] → is_way dir g start path ≡ true
      → Mem v (neighbors dir g (end_of 0 path)) → is_way dir g start (path ++ v ∷ []) ≡ true
  way_push [] v some h m = absurd (some refl)
  way_push (u ∷ rest) v some h m =
      and_both (eqb u start) (leads_along dir g u (rest ++ v ∷ []))
      (and_left (eqb u start) (leads_along dir g u rest) h)
      (steps_push u rest v (and_right (eqb u start) (leads_along dir g u rest) h) m)

  steps_front : (u : ℕ) (xs ys : List ℕ) → leads_along dir g u (xs ++ ys) ≡ true → leads_along dir g u xs ≡ true
  steps_front u [] ys h = refl
  steps_front u (x ∷ xs) ys h =
      and_both (is_among (neighbors dir g u) x) (leads_along dir g x xs)
      (and_left (is_among (neighbors dir g u) x) (leads_along dir g x (xs ++ ys)) h)
      (steps_front x xs ys (and_right (is_among (neighbors dir g u) x) (leads_along dir g x (xs ++ ys)) h))

  way_front : (xs ys : List ℕ) → is_way dir g start (xs ++ ys) ≡ true → is_way dir g start xs ≡ true
  way_front [] ys h = refl
  way_front (u ∷ xs) ys h =
      and_both (eqb u start) (leads_along dir g u xs) (and_left (eqb u start) (leads_along dir g u (xs ++ ys)) h)
      (steps_front u xs ys (and_right (eqb u start) (leads_along dir g u (xs ++ ys)) h))

  goes_way : (given path more : List ℕ) → path ≢ [] → is_way dir g start path ≡ true
      → GoesDown dir g given path more → is_way dir g start (path ++ more) ≡ true
  goes_way given path [] some way down =
      let P : List ℕ → Type 0 = λ z. is_way dir g start z ≡ true in subst P (sym (append-nil path)) way
  goes_way given path (v ∷ more) some way down =
      let found = new_is (given ++ path) (neighbors dir g (end_of 0 path)) v down.0 in
      let P : List ℕ → Type 0 = λ z. is_way dir g start z ≡ true in
      subst P (append_assoc path (v ∷ []) more)
      (goes_way given (path ++ v ∷ []) more (not_empty path) (way_push path v some way found.0) down.1)
    where
      not_empty : (xs : List ℕ) → xs ++ v ∷ [] ≢ []
      not_empty [] h = cc
      not_empty (x ∷ xs) h = cc

-- the last node of a path is reached from each
module _ {N E : Type 0} {end : ℕ} {g : Graph N E} (w : IsWellFormed end g) (dir : Direction) where
  far_along : (a x : ℕ) (xs : List ℕ) (n : ℕ) → LeadsFar dir g a x
      → LeadsAlong dir g (x ∷ (xs ++ n ∷ [])) → LeadsFar dir g a n
  far_along a x [] n far along = leads_farther w dir a x n far along.0
  far_along a x (y ∷ xs) n far along = far_along a y xs n (leads_farther w dir a x y far along.0) along.1

  along_far : (xs : List ℕ) (n v : ℕ)
      → LeadsAlong dir g (xs ++ n ∷ []) → HasNode g v → Mem v (xs ++ n ∷ []) → LeadsFar dir g v n
  along_far [] n v along exists m =
      elim m [
        | inl same ↦ (let P : ℕ → Type 0 = λ z. LeadsFar dir g v z in subst P same (leads_nowhere g dir v exists))
        | inr none ↦ absurd none
      ]
  along_far (x ∷ xs) n v along exists m =
      elim m [
        | inl same ↦ (
            let P : ℕ → Type 0 = λ z. LeadsFar dir g v z in
            far_along v x xs n (subst P same (leads_nowhere g dir v exists)) along
            )
        | inr there ↦ along_far xs n v (rest x xs along) exists there
      ]
    where
      rest : (y : ℕ) (ys : List ℕ) → LeadsAlong dir g (y ∷ (ys ++ n ∷ [])) → LeadsAlong dir g (ys ++ n ∷ [])
      rest y [] h = tt
      rest y (z ∷ ys) h = h.1

  steps_along : (u : ℕ) (rest : List ℕ) → leads_along dir g u rest ≡ true → LeadsAlong dir g (u ∷ rest)
  steps_along u [] h = tt
  steps_along u (v ∷ rest) h = (
    neighbor_leads w dir u v (among_mem (neighbors dir g u) v
        (and_left (is_among (neighbors dir g u) v) (leads_along dir g v rest) h)),
    steps_along v rest (and_right (is_among (neighbors dir g u) v) (leads_along dir g v rest) h),
  )

  way_along : (start : ℕ) (path : List ℕ) → is_way dir g start path ≡ true → LeadsAlong dir g path
  way_along start [] h = tt
  way_along start (u ∷ rest) h = steps_along u rest (and_right (eqb u start) (leads_along dir g u rest) h)

  steps_far : (a u : ℕ) (rest : List ℕ) → LeadsFar dir g a u → LeadsAlong dir g (u ∷ rest) → (x : ℕ)
      → Mem x (u ∷ rest) → LeadsFar dir g a x
  steps_far a u [] far along x m =
      elim m [
        | inl same ↦ (let P : ℕ → Type 0 = λ z. LeadsFar dir g a z in subst P (sym same) far)
        | inr none ↦ absurd none
      ]
  steps_far a u (v ∷ rest) far along x m =
      elim m [
        | inl same ↦ (let P : ℕ → Type 0 = λ z. LeadsFar dir g a z in subst P (sym same) far)
        | inr there ↦ steps_far a v rest (leads_farther w dir a u v far along.0) along.1 x there
      ]

  way_far : (start : ℕ) (path : List ℕ) → is_way dir g start path ≡ true → HasNode g start
      → (x : ℕ) → Mem x path → LeadsFar dir g start x
  way_far start [] h exists x m = absurd m
  way_far start (u ∷ rest) h exists x m =
      let same : u ≡ start = eqb-true u start (and_left (eqb u start) (leads_along dir g u rest) h) in
      let P : ℕ → Type 0 = λ z. LeadsFar dir g start z in
      steps_far start u rest (subst P (sym same) (leads_nowhere g dir start exists))
      (way_along start (u ∷ rest) h) x m

-- in an acyclic graph no neighbor leads back
pub no_way_back : {N E : Type 0} (g : Graph N E) (dir : Direction) → IsAcyclic g → (n v : ℕ) → HasNode g n → HasNode g v
    → LeadsTo dir g n v → LeadsFar dir g v n → ⊥
no_way_back g Outgoing acyclic n v here there leads back = acyclic n v back.0 (here, leads, back.1) back.2
no_way_back g Incoming acyclic n v here there leads back = acyclic v n back.0 (there, leads, back.1) back.2

-- What was met is given or on the path, and the neighbors of what was given were met.
pub record Winds {N E : Type 0} (g : Graph N E) (walk : Postorder) : Type 0 where
  pub left : AreLeft walk.dir g (walk.given ++ walk.path) walk.path walk.cursors
  pub way : is_way walk.dir g walk.start walk.path ≡ true
  pub once : AreDistinct (walk.given ++ walk.path)
  pub exists : walk.path ≢ [] → HasNode g walk.start
  pub present : (n : ℕ) → Contains walk.given n → HasNode g n
  pub first : HasNode g walk.start → Contains (walk.given ++ walk.path) walk.start
  pub done : (u v : ℕ) → Contains walk.given u → LeadsTo walk.dir g u v → Contains (walk.given ++ walk.path) v
  pub room : node_bound g ≤ walk.bound

-- a walk that is under way
module _ {N E : Type 0} {end : ℕ} {g : Graph N E} (w : IsWellFormed end g) {p : Postorder} (s : Winds g p) where
  pub post_over : p.path ≡ [] → AreAllGiven g p.dir p.start p.given
  post_over none n far =
      let P : ℕ → Type 0 = λ z. Mem z p.given in
      let Q : ℕ → List ℕ → Type 0 = λ x z. Mem x z in
      let is : p.given ++ p.path ≡ p.given = ap (λ z. p.given ++ z) none ∙ append-nil p.given in
      let in_given : (x : ℕ) → Contains (p.given ++ p.path) x → Mem x p.given = λ x c.
      subst (Q x) is (contains_mem (p.given ++ p.path) x c) in
      mem_contains p.given n (leads_within g p.dir P (λ u v m leads.
      in_given v (s.done u v (mem_contains p.given u m) leads)) p.start n far
      (in_given p.start (s.first (start_exists g p.dir p.start n far))))

  -- n comes next
  module _ {path' : List ℕ} {n : ℕ} (gives : GivesLast p.dir g p.given p.path path' n) where
    way_down : is_way p.dir g p.start (p.path ++ gives.more) ≡ true
    way_down = goes_way p.dir g p.start p.given p.path gives.more gives.some s.way gives.down

    pub post_far : LeadsFar p.dir g p.start n
    post_far =
        let P : List ℕ → Type 0 = λ z. Mem n z in
        way_far w p.dir p.start (p.path ++ gives.more) way_down (s.exists gives.some) n
        (subst P (sym gives.last) (mem_mid path' [] n))

    -- the neighbors of n are given or on the path
    around : (v : ℕ) → LeadsTo p.dir g n v → Mem v (p.given ++ (path' ++ n ∷ []))
    around v leads =
        let P : List ℕ → Type 0 = λ z. Mem v (p.given ++ z) in
        subst P gives.last (none_new (p.given ++ (p.path ++ gives.more)) (neighbors p.dir g n) v gives.over
        (leads_neighbor w p.dir n v leads))

    pub post_after : (v : ℕ) → LeadsTo p.dir g n v → Contains p.given v ⊎ LeadsFar p.dir g v n
    post_after v leads =
        let P : List ℕ → Type 0 = λ z. LeadsAlong p.dir g z in
        elim (mem_cases p.given (path' ++ n ∷ []) v (around v leads)) [
          | inl old ↦ inl (mem_contains p.given v old)
          | inr there ↦
              inr (along_far w p.dir path' n v (subst P gives.last (way_along w p.dir p.start (p.path ++ gives.more) way_down)) (far_node w p.dir n v leads) there)
        ]

    pub post_acyclic : IsAcyclic g → (v : ℕ) → LeadsTo p.dir g n v → Contains p.given v
    post_acyclic acyclic v leads =
        elim (post_after v leads) [
          | inl old ↦ old
          | inr back ↦
              absurd (no_way_back g p.dir acyclic n v (near_node w p.dir n v leads) (far_node w p.dir n v leads) leads back)
        ]

    -- the walk after it gave n
    module _ {given' : List ℕ} (gave : given' ≡ p.given ++ n ∷ []) (once : AreDistinct (given' ++ path')) where
      pub post_once : Contains p.given n → ⊥
      post_once c =
          let P : List ℕ → Type 0 = λ z. Unique (z ++ path') in
          not_before p.given path' n (subst P gave (unique_from_distinct (given' ++ path') once)) (contains_mem p.given n c)

      pub post_left : AreAllGiven g p.dir p.start p.given → ⊥
      post_left all = post_once (all n post_far)

      kept : (x : ℕ) → Mem x (p.given ++ (p.path ++ gives.more)) → Contains (given' ++ path') x
      kept x m =
          let P : List ℕ → Type 0 = λ z. Mem x (p.given ++ z) in
          let Q : List ℕ → Type 0 = λ z. Mem x (z ++ path') in
          mem_contains (given' ++ path') x (subst Q (sym gave) (turned p.given path' n x (subst P gives.last m)))

      kept_old : (x : ℕ) → Contains (p.given ++ p.path) x → Contains (given' ++ path') x
      kept_old x c =
          let P : List ℕ → Type 0 = λ z. Mem x z in
          kept x (subst P (append_assoc p.given p.path gives.more)
          (mem_left (p.given ++ p.path) gives.more x (contains_mem (p.given ++ p.path) x c)))

      pub post_on : {cursors' : List ℕ} {bound' : ℕ} → bound' ≡ p.bound
          → AreLeft p.dir g (given' ++ path') path' cursors' → Winds g record {
            start = p.start;
            dir = p.dir;
            given = given';
            path = path';
            cursors = cursors';
            bound = bound';
          }
      post_on same_bound left =
          let A : List ℕ → Type 0 = λ z. is_way p.dir g p.start z ≡ true in
          let G : ℕ → List ℕ → Type 0 = λ x z. Mem x z in
          record {
            left = left;
            way = way_front p.dir g p.start path' (n ∷ []) (subst A gives.last way_down);
            once = once;
            exists = λ _. s.exists gives.some;
            present = λ x c.
                elim (mem_cases p.given (n ∷ []) x (subst (G x) gave (contains_mem given' x c))) [
                  | inl old ↦ s.present x (mem_contains p.given x old)
                  | inr new ↦ elim new [
                    | inl same ↦
                        (let H : ℕ → Type 0 = λ z. HasNode g z in
                        subst H (sym same) (far_exists g p.dir p.start n post_far))
                    | inr none ↦ absurd none
                  ]
                ];
            first = λ exists. kept_old p.start (s.first exists);
            done = λ u v c leads.
                elim (mem_cases p.given (n ∷ []) u (subst (G u) gave (contains_mem given' u c))) [
                  | inl old ↦ kept_old v (s.done u v (mem_contains p.given u old) leads)
                  | inr new ↦ elim new [
                    | inl same ↦ (
                        let L : ℕ → Type 0 = λ z. LeadsTo p.dir g z v in
                        let R : List ℕ → Type 0 = λ z. Mem v (p.given ++ z) in
                        kept v (subst R (sym gives.last) (around v (subst L same leads)))
                        )
                    | inr none ↦ absurd none
                  ]
                ];
            room = omega (arith, s.room, same_bound);
          }

-- a step, which gives a node if there is one
module _ {N E : Type 0} {end : ℕ} {g : Graph N E} (w : IsWellFormed end g) {p : Postorder} (s : Winds g p)
    {A : Type 0} (number : A → ℕ) (path' given' : List ℕ) where
  pub step_far : (o : Option A) → IfSome o (λ a. GivesLast p.dir g p.given p.path path' (number a))
      → IfSome o (λ a. LeadsFar p.dir g p.start (number a))
  step_far None gives = tt
  step_far (Some a) gives = post_far w s gives

  pub step_after : (o : Option A) → IfSome o (λ a. GivesLast p.dir g p.given p.path path' (number a))
      → IfSome o (λ a. (v : ℕ) → LeadsTo p.dir g (number a) v → Contains p.given v ⊎ LeadsFar p.dir g v (number a))
  step_after None gives = tt
  step_after (Some a) gives = post_after w s gives

  pub step_acyclic : (o : Option A) → IfSome o (λ a. GivesLast p.dir g p.given p.path path' (number a)) → IsAcyclic g
      → IfSome o (λ a. (v : ℕ) → LeadsTo p.dir g (number a) v → Contains p.given v)
  step_acyclic None gives acyclic = tt
  step_acyclic (Some a) gives acyclic = post_acyclic w s gives acyclic

  pub step_once : (o : Option A) → IfSome o (λ a. GivesLast p.dir g p.given p.path path' (number a))
      → IfSome o (λ a. given' ≡ p.given ++ number a ∷ []) → AreDistinct (given' ++ path')
      → IfSome o (λ a. Contains p.given (number a) → ⊥)
  step_once None gives gave once = tt
  step_once (Some a) gives gave once = post_once w s gives gave once

  pub step_none : (o : Option A) → IfSome o (λ a. GivesLast p.dir g p.given p.path path' (number a))
      → IfNone o (p.path ≡ []) → IfSome o (λ a. given' ≡ p.given ++ number a ∷ []) → AreDistinct (given' ++ path')
      → IsNone o ↔ AreAllGiven g p.dir p.start p.given
  step_none None gives over gave once = (λ _. post_over w s over, λ _. refl)
  step_none (Some a) gives over gave once = (
    λ none. absurd (false≢true (sym none)),
    λ all. absurd (post_left w s gives gave once all),
  )

  pub step_on : (o : Option A) → IfSome o (λ a. GivesLast p.dir g p.given p.path path' (number a))
      → IfSome o (λ a. given' ≡ p.given ++ number a ∷ []) → IfNone o (given' ≡ p.given) → IfNone o (path' ≡ p.path)
      → AreDistinct (given' ++ path') → {cursors' : List ℕ} {bound' : ℕ} → bound' ≡ p.bound
      → AreLeft p.dir g (given' ++ path') path' cursors' → Winds g record {
        start = p.start;
        dir = p.dir;
        given = given';
        path = path';
        cursors = cursors';
        bound = bound';
      }
  step_on None gives gave kept path_kept once same_bound left =
      let P : List ℕ → List ℕ → Type 0 = λ a b. (is_way p.dir g p.start b ≡ true)
      × (b ≢ [] → HasNode g p.start)
      × ((x : ℕ) → Contains a x → HasNode g x)
      × (HasNode g p.start → Contains (a ++ b) p.start)
      × ((u v : ℕ) → Contains a u → LeadsTo p.dir g u v → Contains (a ++ b) v) in
      let same : P given' path' =
      subst (λ (a : List ℕ). P a path') (sym kept)
      (subst (P p.given) (sym path_kept) (s.way, s.exists, s.present, s.first, s.done)) in
      record {
        left = left;
        way = same.0;
        once = once;
        exists = same.1;
        present = same.2;
        first = same.3;
        done = same.4;
        room = omega (arith, s.room, same_bound);
      }
  step_on (Some a) gives gave kept path_kept once same_bound left = post_on w s gives gave once same_bound left

-- a walk that begins
pub post_begins : {N E : Type 0} (g : Graph N E) {p : Postorder} → p.given ≡ [] → p.path ≡ begin g p.start
    → AreLeft p.dir g (p.given ++ p.path) p.path p.cursors → AreDistinct (p.given ++ p.path) → node_bound g ≤ p.bound
    → Winds g p
post_begins g {p} none path_is left once room =
    let all : p.given ++ p.path ≡ begin g p.start = ap (λ z. z ++ p.path) none ∙ path_is in
    let M : ℕ → List ℕ → Type 0 = λ x z. Mem x z in
    let A : List ℕ → Type 0 = λ z. is_way p.dir g p.start z ≡ true in
    let D : List ℕ → Type 0 = λ z. (u v : ℕ) → Contains z u → LeadsTo p.dir g u v → Contains (p.given ++ p.path) v in
    let B : List ℕ → Type 0 = λ z. (x : ℕ) → Contains z x → HasNode g x in
    record {
      left = left;
      way = subst A (sym path_is) (elim (node_or_not g p.start) [
        | inl exists ↦ subst A (sym (begin_here g p.start exists))
            (and_both (eqb p.start p.start) true (eq-eqb p.start p.start refl) refl)
        | inr missing ↦ subst A (sym (begin_none g p.start missing)) refl
      ]);
      once = once;
      exists = λ some.
          elim (node_or_not g p.start) [
            | inl here ↦ here
            | inr missing ↦ absurd (some (path_is ∙ begin_none g p.start missing))
          ];
      present = subst B (sym none) (λ x c. absurd (contains_mem [] x c));
      first = λ exists. mem_contains (p.given ++ p.path) p.start
          (subst (M p.start) (sym (all ∙ begin_here g p.start exists)) (inl refl));
      done = subst D (sym none) (λ u v c leads. absurd (contains_mem [] u c));
      room = room;
    }

-- the cursors of a path of one node, and of none
pub left_by : {N E : Type 0} (dir : Direction) (g : Graph N E) (met : List ℕ) (n e : ℕ) {path cursors : List ℕ}
    → path ≡ n ∷ [] → cursors ≡ e ∷ [] → neighbors_left dir g e ≡ neighbors dir g n → AreLeft dir g met path cursors
left_by dir g met n e {path} {cursors} path_is cursors_are first =
    let P : List ℕ → List ℕ → Type 0 = λ a b. AreLeft dir g met a b in
    subst (P path) (sym cursors_are) (subst (λ (a : List ℕ). P a (e ∷ [])) (sym path_is)
    (ap (λ z. without_old met z ∷ []) (sym first)))

pub none_by : {N E : Type 0} (dir : Direction) (g : Graph N E) (met : List ℕ) {path cursors : List ℕ}
    → path ≡ [] → cursors ≡ [] → AreLeft dir g met path cursors
none_by dir g met {path} {cursors} path_is cursors_are =
    let P : List ℕ → List ℕ → Type 0 = λ a b. AreLeft dir g met a b in
    subst (P path) (sym cursors_are) (subst (λ (a : List ℕ). P a []) (sym path_is) refl)

-- a walk that is under way does so
pub winds : {N E : Type 0} {g : Graph N E} {p : Postorder} → IsPostorder g p → Winds g p
winds {p = p} s = record {
  left = s.left;
  way = s.way;
  once = distinct_from_unique (p.given ++ p.path) (distinct_unique (p.given ++ p.path) s.once);
  exists = s.exists;
  present = λ n c. s.present n (mem_among p.given n (contains_mem p.given n c));
  first = λ exists. mem_contains (p.given ++ p.path) p.start (among_mem (p.given ++ p.path) p.start (s.first exists));
  done = λ u v c leads. mem_contains (p.given ++ p.path) v
      (among_mem (p.given ++ p.path) v (s.done u v (mem_among p.given u (contains_mem p.given u c)) leads));
  room = s.room;
}

-- what such a walk keeps
pub post_kept : {N E : Type 0} {g : Graph N E} {p : Postorder} → Winds g p → IsPostorder g p
post_kept {p = p} s = record {
  left = s.left;
  way = s.way;
  once = unique_distinct (p.given ++ p.path) (unique_from_distinct (p.given ++ p.path) s.once);
  exists = s.exists;
  present = λ n m. s.present n (mem_contains p.given n (among_mem p.given n m));
  first = λ exists. mem_among (p.given ++ p.path) p.start (contains_mem (p.given ++ p.path) p.start (s.first exists));
  done = λ u v m leads. mem_among (p.given ++ p.path) v (contains_mem (p.given ++ p.path) v
      (s.done u v (mem_contains p.given u (among_mem p.given u m)) leads));
  room = s.room;
}

pub post_few : {N E : Type 0} {g : Graph N E} {p : Postorder} → Winds g p → length p.given ≤ node_bound g
post_few {g = g} {p = p} s =
    fewer_than p.given (node_bound g) (unique_left p.given (unique_from_distinct (p.given ++ p.path) s.once)) (λ x m.
    below_bound g.nodes x (s.present x (mem_contains p.given x m)))
  where
    unique_left : (xs : List ℕ) → Unique (xs ++ p.path) → Unique xs
    unique_left [] u = tt
    unique_left (x ∷ xs) u = (λ m. u.0 (mem_left xs p.path x m), unique_left xs u.1)
