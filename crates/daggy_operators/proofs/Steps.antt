-- A step of a search for simple paths, in the words of the code: what it does to the last of a list of nodes and edges.
use Rattle.std.proofs.Common.{◌≡◌, ◌≢◌, ℕ, zero, suc, ◌+◌, ◌-◌, ◌<◌, ◌≤◌, List, [], ◌∷◌, ◌++◌, map, length, get_or, set, take, Some}
use Rattle.std.proofs.Common.{inl, inr, false, eqb, refl, sym, ap, ◌∙◌, arith}
use Rattle.std.proofs.lemmas.List.{append_assoc, append-nil, length-map, length-take-le, map-append, set_at, take_more, take_all}
use Rattle.std.proofs.lemmas.Bool.{cases_lt, false≢true}
use Rattle.daggy_base.specs.declared.index.Direction.TheVariants.{Outgoing}
use Rattle.daggy_base.specs.Graph.{Graph, Edge, HasNode, edge_at, out_list, pair_of}
use Rattle.daggy_dag.specs.Walks.{rest_of_walk}
use Rattle.daggy_operators.specs.SimplePaths.{paths_within, paths_left}
use Rattle.daggy_operators.proofs.Ways.{within_none, left_back, left_past, left_arrived, left_down, left_kept, left_given}
use Rattle.daggy_operators.proofs.Ways.{steps_left, fewer_back, fewer_past, fewer_down, fewer}

-- a list up to its last element, and the element
split_last : {A : Type 0} (xs : List A) (t : ℕ) (x : A) → length xs ≡ t + 1 → x ≡ get_or xs t x → xs ≡ take t xs ++ x ∷ []
split_last xs t x long read =
    sym (take_all (t + 1) xs (omega (arith, long))) ∙ take_more xs t x (omega (arith, long))
    ∙ ap (λ z. take t xs ++ z ∷ []) (sym read)

module _ {N E I : Type 0} (g : Graph N E) (b limit : ℕ) (number : I → ℕ) (items : List (I × I)) (t : ℕ) (x : I × I)
    (long : length items ≡ t + 1) (read : x ≡ get_or items t x) (short : t + 1 ≤ limit) where
  abbrev way : List (I × I) → List (ℕ × ℕ)
  way xs = map (pair_of number) xs

  abbrev front : List (ℕ × ℕ)
  front = way (take t items)

  way_is : way items ≡ front ++ pair_of number x ∷ []
  way_is = ap way (split_last items t x long read) ∙ map-append (pair_of number) (take t items) (x ∷ [])

  long_front : length (take t items) ≡ t
  long_front = length-take-le t items (omega (arith, long))

  limit_is : limit ≡ length front + suc (limit - (t + 1))
  limit_is = omega (arith, short, long_front, length-map (take t items) (pair_of number))

  set_is : (y : I × I) → way (set items t y) ≡ front ++ pair_of number y ∷ []
  set_is y =
      ap (λ z. way (set z t y)) (split_last items t x long read)
      ∙ ap way (set_at (take t items) x [] y t long_front)
      ∙ map-append (pair_of number) (take t items) (y ∷ [])

  push_is : (y z : I × I) (items' : List (I × I)) → items' ≡ items ++ z ∷ []
      → way (set items' t y) ≡ front ++ pair_of number y ∷ pair_of number z ∷ []
  push_is y z items' is =
      ap (λ v. way (set v t y)) (is ∙ ap (λ v. v ++ z ∷ []) (split_last items t x long read) ∙ append_assoc (take t items) (x ∷ []) (z ∷ []))
      ∙ ap way (set_at (take t items) x (z ∷ []) y t long_front)
      ∙ map-append (pair_of number) (take t items) (y ∷ z ∷ [])

  -- the list of the last node is at its end
  module _ (over : rest_of_walk Outgoing g (number x.1) ≡ []) where
    pub back_left : paths_left g b limit (way (take t items)) ≡ paths_left g b limit (way items)
    back_left =
        ap (paths_left g b limit) (sym (append-nil front))
        ∙ sym (left_kept g b front (pair_of number x ∷ []) [] limit (suc (limit - (t + 1))) limit_is
        (left_back g b (limit - (t + 1)) (number x.0) (number x.1) over))
        ∙ ap (paths_left g b limit) (sym way_is)

    pub back_fewer : steps_left g limit (way (take t items)) < steps_left g limit (way items)
    back_fewer =
        let low = fewer g front (pair_of number x ∷ []) [] limit (suc (limit - (t + 1))) limit_is
        (fewer_back g (limit - (t + 1)) (number x.0) (number x.1)) in
        omega (arith, low, ap (steps_left g limit) (append-nil front), ap (steps_left g limit) way_is)

  -- its next edge leads to a child
  module _ (next : I) (y : Edge E) (at : edge_at g (number x.1) ≡ Some y)
      (on : rest_of_walk Outgoing g (number x.1) ≡ number x.1 ∷ rest_of_walk Outgoing g (number next)) where
    pub past_left : paths_within g b (limit - (t + 1)) y.child ≡ []
        → paths_left g b limit (way (set items t (x.0, next))) ≡ paths_left g b limit (way items)
    past_left none =
        ap (paths_left g b limit) (set_is (x.0, next))
        ∙ sym (left_kept g b front (pair_of number x ∷ []) (pair_of number (x.0, next) ∷ []) limit (suc (limit - (t + 1))) limit_is
        (left_past g b (limit - (t + 1)) (number x.0) (number x.1) (number next) y at on none))
        ∙ ap (paths_left g b limit) (sym way_is)

    pub past_fewer : steps_left g limit (way (set items t (x.0, next))) < steps_left g limit (way items)
    past_fewer =
        let low = fewer g front (pair_of number x ∷ []) (pair_of number (x.0, next) ∷ []) limit (suc (limit - (t + 1))) limit_is
        (fewer_past g (limit - (t + 1)) (number x.0) (number x.1) (number next) y at on) in
        omega (arith, low, ap (steps_left g limit) (set_is (x.0, next)), ap (steps_left g limit) way_is)

    pub arrived_left : y.child ≡ b → HasNode g y.child
        → paths_left g b limit (way items)
        ≡ (map (λ p. number p.0) items ++ b ∷ []) ∷ paths_left g b limit (way (set items t (x.0, next)))
    arrived_left here has =
        ap (paths_left g b limit) way_is
        ∙ left_given g b front (pair_of number x ∷ []) (pair_of number (x.0, next) ∷ []) limit (suc (limit - (t + 1)))
        (number x.0 ∷ y.child ∷ []) limit_is
        (left_arrived g b (limit - (t + 1)) (number x.0) (number x.1) (number next) y at on here has)
        ∙ ap (λ z. z ∷ paths_left g b limit (front ++ pair_of number (x.0, next) ∷ [])) nodes_are
        ∙ ap (λ z. (map (λ p. number p.0) items ++ b ∷ []) ∷ paths_left g b limit z) (sym (set_is (x.0, next)))
      where
        firsts : (xs : List (I × I)) → map (λ p. p.0) (way xs) ≡ map (λ p. number p.0) xs
        firsts [] = refl
        firsts (z ∷ xs) = ap (λ v. number z.0 ∷ v) (firsts xs)

        nodes_are : map (λ p. p.0) front ++ number x.0 ∷ y.child ∷ [] ≡ map (λ p. number p.0) items ++ b ∷ []
        nodes_are =
            ap (λ z. z ++ number x.0 ∷ y.child ∷ []) (firsts (take t items))
            ∙ ap (λ z. map (λ p. number p.0) (take t items) ++ number x.0 ∷ z ∷ []) here
            ∙ sym (append_assoc (map (λ p. number p.0) (take t items)) (number x.0 ∷ []) (b ∷ []))
            ∙ ap (λ z. z ++ b ∷ []) (sym (map-append (λ p. number p.0) (take t items) (x ∷ [])))
            ∙ ap (λ z. map (λ p. number p.0) z ++ b ∷ []) (sym (split_last items t x long read))

    module _ (c first : I) (is : number c ≡ y.child) (more : 0 < limit - (t + 1))
        (whole : rest_of_walk Outgoing g (number first) ≡ out_list g y.child) (items' : List (I × I))
        (pushed : items' ≡ items ++ (c, first) ∷ []) where
      down_is : way (set items' t (x.0, next)) ≡ front ++ (number x.0, number next) ∷ (y.child, number first) ∷ []
      down_is =
          push_is (x.0, next) (c, first) items' pushed
          ∙ ap (λ z. front ++ (number x.0, number next) ∷ (z, number first) ∷ []) is

      pub down_left : y.child ≢ b → paths_left g b limit (way (set items' t (x.0, next))) ≡ paths_left g b limit (way items)
      down_left other =
          ap (paths_left g b limit) down_is
          ∙ sym (left_kept g b front (pair_of number x ∷ []) ((number x.0, number next) ∷ (y.child, number first) ∷ []) limit
          (suc (limit - (t + 1))) limit_is
          (left_down g b (limit - (t + 1)) (number x.0) (number x.1) (number next) y at on (number first) other more whole))
          ∙ ap (paths_left g b limit) (sym way_is)

      pub down_fewer : steps_left g limit (way (set items' t (x.0, next))) < steps_left g limit (way items)
      down_fewer =
          let low = fewer g front (pair_of number x ∷ []) ((number x.0, number next) ∷ (y.child, number first) ∷ []) limit
          (suc (limit - (t + 1))) limit_is
          (fewer_down g (limit - (t + 1)) (number x.0) (number x.1) (number next) y at on (number first) more whole) in
          omega (arith, low, ap (steps_left g limit) down_is, ap (steps_left g limit) way_is)

-- a node is passed by if it is not the end of the paths and its distance allows no edge, or none as few
pub passed_by : {N E : Type 0} (g : Graph N E) (b : ℕ) (d : ℕ → ℕ) → ((k n : ℕ) → k < d n → paths_within g b k n ≡ [])
    → (k n : ℕ) → n ≢ b → ¬ ((0 < k) × (d n ≤ k)) → paths_within g b k n ≡ []
passed_by g b d none zero n other barred = within_none g b n other
passed_by g b d none (suc k) n other barred =
    elim (cases_lt (suc k) (d n)) [ inl low ↦ none (suc k) n low | inr high ↦ absurd (barred (omega arith, high)) ]

pub some_there : (n : ℕ) → eqb n 0 ≡ false → 0 < n
some_there zero e = absurd (false≢true (sym e))
some_there (suc n) e = omega arith

pub none_there : {A B : Type 0} (f : A → B) (xs : List A) → length xs ≡ 0 → map f xs ≡ []
none_there f [] e = refl
none_there f (x ∷ xs) e = absurd (omega (arith, e))
