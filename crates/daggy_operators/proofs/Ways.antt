-- Searching for simple paths: what each step along the way leaves, and why the search ends.
use Rattle.std.proofs.Common.{◌≡◌, ◌≢◌, ℕ, zero, suc, ◌+◌, ◌<◌, ◌≤◌, inl, inr, List, [], ◌∷◌, ◌++◌, map, length, Option, Some, None}
use Rattle.std.proofs.Common.{Bool, true, false, is_some, Contains, refl, sym, ap, subst, ◌∙◌, arith}
use Rattle.std.specs.List.{flat_map}
use Rattle.std.specs.Option.{option_map}
use Rattle.std.proofs.lemmas.Bool.{cases_eq}
use Rattle.std.proofs.lemmas.Bool.Decides.{nat_tests}
use Rattle.daggy_base.specs.declared.index.Direction.TheVariants.{Outgoing}
use Rattle.daggy_base.specs.Graph.{Graph, Edge, HasNode, node_weight, edge_at, out_list, pair_of}
use Rattle.daggy_base.proofs.Lists.{Contains-here, Contains-there}
use Rattle.daggy_base.specs.Cursor.{IsWalkStep, item_at}
use Rattle.daggy_base.specs.WellFormed.{IsWellFormed}
use Rattle.daggy_dag.specs.Walks.{rest_of_walk}
use Rattle.daggy_dag.proofs.WalkSteps.{step_gives}
use Rattle.daggy_operators.specs.SimplePaths.{children_by, paths_within, paths_left}

-- the first of some edges leads to that child
pub first_child : {N E : Type 0} (g : Graph N E) (e : ℕ) (es : List ℕ) (x : Edge E) → edge_at g e ≡ Some x
    → children_by g (e ∷ es) ≡ x.child ∷ children_by g es
first_child g e es x at = rw at refl

-- a step along the list of a node
module _ {N E I : Type 0} {end : ℕ} {g : Graph N E} (w : IsWellFormed end g) (number : I → ℕ) (r : Option (I × I)) (e next : ℕ)
    (s : IsWalkStep Outgoing end g e (option_map (pair_of number) r) next) where
  pub step_over : r ≡ None → rest_of_walk Outgoing g e ≡ []
  step_over is =
      let P : Option (I × I) → Type 0 = λ z. IsWalkStep Outgoing end g e (option_map (pair_of number) z) next in
      (step_gives end g w Outgoing e None next (subst P is s)).0

  pub step_on : (item : I × I) → r ≡ Some item
      → (x : Edge E) × (edge_at g e ≡ Some x) × (x.child ≡ number item.1)
      × (rest_of_walk Outgoing g e ≡ e ∷ rest_of_walk Outgoing g next)
  step_on item is = of (edge_at g e) refl
    where
      of : (o : Option (Edge E)) → edge_at g e ≡ o
          → (x : Edge E) × (edge_at g e ≡ Some x) × (x.child ≡ number item.1)
          × (rest_of_walk Outgoing g e ≡ e ∷ rest_of_walk Outgoing g next)
      of None at =
          let is : Some (pair_of number item) ≡ None =
          ap (option_map (pair_of number)) (sym is) ∙ s.item_is ∙ ap (item_at Outgoing g e) at in
          absurd cc
      of (Some x) at =
          let found : Some (pair_of number item) ≡ Some (e, x.child) =
          ap (option_map (pair_of number)) (sym is) ∙ s.item_is ∙ ap (item_at Outgoing g e) at in
          let same : pair_of number item ≡ (e, x.child) = cc in
          let P : Option (I × I) → Type 0 = λ z. IsWalkStep Outgoing end g e (option_map (pair_of number) z) next in
          let on : rest_of_walk Outgoing g e ≡ number item.0 ∷ rest_of_walk Outgoing g next =
          step_gives end g w Outgoing e (Some (pair_of number item)) next (subst P is s) in
          (x, at, sym (ap (λ z. z.1) same), on ∙ ap (λ z. z.0 ∷ rest_of_walk Outgoing g next) same)

module _ {N E : Type 0} (g : Graph N E) (b : ℕ) where
  -- ---- the paths from a node

  pub within_here : (k a : ℕ) → a ≡ b → HasNode g a → paths_within g b k a ≡ (a ∷ []) ∷ []
  unfolding paths_within
  within_here zero a here has = grind (arith, nat_tests)
  within_here (suc k) a here has = grind (arith, nat_tests)

  pub within_none : (a : ℕ) → a ≢ b → paths_within g b 0 a ≡ []
  unfolding paths_within
  within_none a other = grind (arith, nat_tests)

  pub within_more : (k a : ℕ) → a ≢ b
      → paths_within g b (suc k) a ≡ map (λ path. a ∷ path) (flat_map (paths_within g b k) (children_by g (out_list g a)))
  unfolding paths_within
  within_more k a other = grind (arith, nat_tests)

  pub within_missing : (k a : ℕ) → a ≡ b → ¬ HasNode g a → paths_within g b k a ≡ []
  unfolding paths_within
  within_missing k a here missing = of k (is_some (node_weight g a)) refl
    where
      of : (k : ℕ) (some : Bool) → is_some (node_weight g a) ≡ some → paths_within g b k a ≡ []
      of k true is = absurd (missing is)
      of zero false is = grind (arith, nat_tests)
      of (suc k) false is = grind (arith, nat_tests)

  none_of : (f : ℕ → List (List ℕ)) (xs : List ℕ) → ((v : ℕ) → Contains xs v → f v ≡ []) → flat_map f xs ≡ []
  none_of f [] none = refl
  none_of f (x ∷ xs) none =
      ap (λ z. z ++ flat_map f xs) (none x (Contains-here x xs))
      ∙ none_of f xs (λ v c. none v (Contains-there x v xs c))

  not_here : (d : ℕ → ℕ) → (HasNode g b → d b ≡ 0) → (k n : ℕ) → k < d n → n ≡ b → paths_within g b k n ≡ []
  not_here d here k n low same =
      within_missing k n same (λ has. let P : ℕ → Type 0 = λ z. HasNode g z in
      absurd (omega (arith, low, here (subst P same has), ap d same)))

  -- there is no path of fewer edges than a distance, if that of the node itself is 0, and no other is more than one more
  -- than that of a child
  pub none_within : (d : ℕ → ℕ) → (HasNode g b → d b ≡ 0)
      → ((n v : ℕ) → n ≢ b → Contains (children_by g (out_list g n)) v → d n ≤ d v + 1)
      → (k n : ℕ) → k < d n → paths_within g b k n ≡ []
  none_within d here next zero n low =
      elim (cases_eq n b) [
        | inl same ↦ not_here d here 0 n low same
        | inr other ↦ within_none n other
      ]
  none_within d here next (suc k) n low =
      elim (cases_eq n b) [
        | inl same ↦ not_here d here (suc k) n low same
        | inr other ↦
            within_more k n other
            ∙ ap (map (λ path. n ∷ path)) (none_of (paths_within g b k) (children_by g (out_list g n))
            (λ v c. let more = next n v other c in none_within d here next k v (omega (arith, low, more))))
      ]

  -- ---- what is left along the way

  pub left_none : (k : ℕ) → paths_left g b k [] ≡ []
  unfolding paths_left
  left_none zero = refl
  left_none (suc k) = refl

  left_more : (k n e : ℕ) (way : List (ℕ × ℕ)) → paths_left g b (suc k) ((n, e) ∷ way)
      ≡ map (λ path. n ∷ path) (paths_left g b k way ++ flat_map (paths_within g b k) (children_by g (rest_of_walk Outgoing g e)))
  unfolding paths_left
  left_more k n e way = refl

  -- the last node alone
  left_last : (k n e : ℕ) → paths_left g b (suc k) ((n, e) ∷ [])
      ≡ map (λ path. n ∷ path) (flat_map (paths_within g b k) (children_by g (rest_of_walk Outgoing g e)))
  left_last k n e =
      left_more k n e [] ∙ ap (λ z. map (λ path. n ∷ path) (z ++ flat_map (paths_within g b k) (children_by g (rest_of_walk Outgoing g e)))) (left_none k)

  pub left_zero : (way : List (ℕ × ℕ)) → paths_left g b 0 way ≡ []
  unfolding paths_left
  left_zero way = refl

  -- a way that begins with the list of its only node
  pub left_begun : (limit a first : ℕ) → a ≢ b → 0 < limit → rest_of_walk Outgoing g first ≡ out_list g a
      → paths_left g b limit ((a, first) ∷ []) ≡ paths_within g b limit a
  left_begun zero a first other some whole = absurd (omega (arith, some))
  left_begun (suc k) a first other some whole =
      left_last k a first
      ∙ ap (λ z. map (λ path. a ∷ path) (flat_map (paths_within g b k) (children_by g z))) whole
      ∙ sym (within_more k a other)

  pub left_back : (k n e : ℕ) → rest_of_walk Outgoing g e ≡ [] → paths_left g b (suc k) ((n, e) ∷ []) ≡ paths_left g b (suc k) []
  left_back k n e over =
      left_last k n e ∙ ap (λ z. map (λ path. n ∷ path) (flat_map (paths_within g b k) (children_by g z))) over
      ∙ sym (left_none (suc k))

  module _ (k n e next : ℕ) (x : Edge E) (at : edge_at g e ≡ Some x)
      (on : rest_of_walk Outgoing g e ≡ e ∷ rest_of_walk Outgoing g next) where
    left_split : paths_left g b (suc k) ((n, e) ∷ [])
        ≡ map (λ path. n ∷ path) (paths_within g b k x.child ++ flat_map (paths_within g b k) (children_by g (rest_of_walk Outgoing g next)))
    left_split =
        left_last k n e
        ∙ ap (λ z. map (λ path. n ∷ path) (flat_map (paths_within g b k) (children_by g z))) on
        ∙ ap (λ z. map (λ path. n ∷ path) (flat_map (paths_within g b k) z)) (first_child g e (rest_of_walk Outgoing g next) x at)

    -- the child is passed by
    pub left_past : paths_within g b k x.child ≡ [] → paths_left g b (suc k) ((n, e) ∷ []) ≡ paths_left g b (suc k) ((n, next) ∷ [])
    left_past none =
        left_split
        ∙ ap (λ z. map (λ path. n ∷ path) (z ++ flat_map (paths_within g b k) (children_by g (rest_of_walk Outgoing g next)))) none
        ∙ sym (left_last k n next)

    -- the child is the end of a path
    pub left_arrived : x.child ≡ b → HasNode g x.child
        → paths_left g b (suc k) ((n, e) ∷ []) ≡ (n ∷ x.child ∷ []) ∷ paths_left g b (suc k) ((n, next) ∷ [])
    left_arrived here has =
        left_split
        ∙ ap (λ z. map (λ path. n ∷ path) (z ++ flat_map (paths_within g b k) (children_by g (rest_of_walk Outgoing g next)))) (within_here k x.child here has)
        ∙ ap (λ z. (n ∷ x.child ∷ []) ∷ z) (sym (left_last k n next))

    -- the search goes on from the child
    pub left_down : (first : ℕ) → x.child ≢ b → 0 < k → rest_of_walk Outgoing g first ≡ out_list g x.child
        → paths_left g b (suc k) ((n, e) ∷ []) ≡ paths_left g b (suc k) ((n, next) ∷ (x.child, first) ∷ [])
    left_down first other more whole =
        left_split
        ∙ ap (λ z. map (λ path. n ∷ path) (z ++ flat_map (paths_within g b k) (children_by g (rest_of_walk Outgoing g next)))) (sym (left_begun k x.child first other more whole))
        ∙ sym (left_more k n next ((x.child, first) ∷ []))

  -- a change at the end of the way that gives nothing
  pub left_kept : (front t u : List (ℕ × ℕ)) (limit k : ℕ) → limit ≡ length front + k
      → paths_left g b k t ≡ paths_left g b k u → paths_left g b limit (front ++ t) ≡ paths_left g b limit (front ++ u)
  unfolding paths_left
  left_kept [] t u limit k is same = (let e : limit ≡ k = omega (arith, is) in rw e same)
  left_kept (at ∷ front) t u zero k is same = refl
  left_kept (at ∷ front) t u (suc limit) k is same =
      ap (λ z. map (λ path. at.0 ∷ path) (z ++ flat_map (paths_within g b limit) (children_by g (rest_of_walk Outgoing g at.1))))
      (left_kept front t u limit k (omega (arith, is)) same)

  -- one that gives a path
  pub left_given : (front t u : List (ℕ × ℕ)) (limit k : ℕ) (path : List ℕ) → limit ≡ length front + k
      → paths_left g b k t ≡ path ∷ paths_left g b k u
      → paths_left g b limit (front ++ t) ≡ (map (λ at. at.0) front ++ path) ∷ paths_left g b limit (front ++ u)
  unfolding paths_left
  left_given [] t u limit k path is same = (let e : limit ≡ k = omega (arith, is) in rw e same)
  left_given (at ∷ front) t u zero k path is same = absurd (omega (arith, is))
  left_given (at ∷ front) t u (suc limit) k path is same =
      ap (λ z. map (λ path. at.0 ∷ path) (z ++ flat_map (paths_within g b limit) (children_by g (rest_of_walk Outgoing g at.1))))
      (left_given front t u limit k path (omega (arith, is)) same)

-- ---- how many steps are left

-- the sum of the steps from each of some nodes, and one to go there
abbrev steps_to : (ℕ → ℕ) → List ℕ → ℕ
steps_to f [] = 0
steps_to f (x ∷ xs) = suc (f x) + steps_to f xs

abbrev steps_from : {N E : Type 0} → Graph N E → (limit a : ℕ) → ℕ
steps_from g zero a = 1
steps_from g (suc k) a = suc (steps_to (steps_from g k) (children_by g (out_list g a)))

abbrev pub steps_left : {N E : Type 0} → Graph N E → (limit : ℕ) → List (ℕ × ℕ) → ℕ
steps_left g zero way = 0
steps_left g (suc k) [] = 0
steps_left g (suc k) (at ∷ way) =
    suc (steps_left g k way + steps_to (steps_from g k) (children_by g (rest_of_walk Outgoing g at.1)))

module _ {N E : Type 0} (g : Graph N E) where
  none_left : (k : ℕ) → steps_left g k [] ≡ 0
  none_left zero = refl
  none_left (suc k) = refl

  pub fewer_back : (k n e : ℕ) → steps_left g (suc k) [] < steps_left g (suc k) ((n, e) ∷ [])
  fewer_back k n e = omega arith

  module _ (k n e next : ℕ) (x : Edge E) (at : edge_at g e ≡ Some x)
      (on : rest_of_walk Outgoing g e ≡ e ∷ rest_of_walk Outgoing g next) where
    split : steps_to (steps_from g k) (children_by g (rest_of_walk Outgoing g e))
        ≡ suc (steps_from g k x.child) + steps_to (steps_from g k) (children_by g (rest_of_walk Outgoing g next))
    split =
        ap (λ z. steps_to (steps_from g k) (children_by g z)) on
        ∙ ap (steps_to (steps_from g k)) (first_child g e (rest_of_walk Outgoing g next) x at)

    pub fewer_past : steps_left g (suc k) ((n, next) ∷ []) < steps_left g (suc k) ((n, e) ∷ [])
    fewer_past = omega (arith, split)

    pub fewer_down : (first : ℕ) → 0 < k → rest_of_walk Outgoing g first ≡ out_list g x.child
        → steps_left g (suc k) ((n, next) ∷ (x.child, first) ∷ []) < steps_left g (suc k) ((n, e) ∷ [])
    fewer_down first more whole = omega (arith, split, same k more, none_left k)
      where
        same : (j : ℕ) → 0 < j → steps_left g j ((x.child, first) ∷ []) ≡ steps_from g j x.child
        same zero none = absurd (omega (arith, none))
        same (suc j) some =
            ap (λ z. suc (z + steps_to (steps_from g j) (children_by g (rest_of_walk Outgoing g first)))) (none_left j)
            ∙ ap (λ z. suc (0 + steps_to (steps_from g j) (children_by g z))) whole
            ∙ omega arith

  pub fewer : (front t u : List (ℕ × ℕ)) (limit k : ℕ) → limit ≡ length front + k → steps_left g k u < steps_left g k t
      → steps_left g limit (front ++ u) < steps_left g limit (front ++ t)
  fewer [] t u limit k is low = (let e : limit ≡ k = omega (arith, is) in rw e low)
  fewer (at ∷ front) t u zero k is low = absurd (omega (arith, is))
  fewer (at ∷ front) t u (suc limit) k is low =
      let more = fewer front t u limit k (omega (arith, is)) low in
      omega (arith, more)
