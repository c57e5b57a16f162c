-- Two items of a list at once: the list split between them, a call with both, and a call with their weights.
use Rattle.std.proofs.Common.{◌≡◌, ◌≢◌, ℕ, zero, suc, ◌<◌, List, [], ◌∷◌, ◌++◌, take, drop, length, get_or, set}
use Rattle.std.proofs.Common.{slice_get, Option, Some, refl, sym, ap, ◌∙◌, arith}
use Rattle.std.proofs.Math.Seq.{take-append_seam}
use Rattle.std.proofs.lemmas.List.{length-set, get_or_append_left, get_or-append-add, set-append_left, set-append_right}
use Rattle.std.proofs.lemmas.Option.{same_Some, slice_get_read, get_or_from_slice_get}
use Rattle.std.specs.Borrow.{MutBor}
use Rattle.std.specs.Fn.{Once}
use Rattle.daggy_base.specs.Calls.{CalledAtTwo}
use Rattle.daggy_cells.proofs.Weights.{changed_at}

pub called_at : {F X Y R S : Type 0}
    {g : Once F (MutBor X × (MutBor Y × Unit {0})) (R × (MutBor X × (MutBor Y × Unit {0})))} {f : F} {x : Option X}
    {y : Option Y} {r : R} {put : X → Y → S} {new : S} (p : MutBor X) (q : MutBor Y) (p' : MutBor X) (q' : MutBor Y)
    → x ≡ Some p.now → y ≡ Some q.now → g.post f (p, (q, tt)) (r, (p', (q', tt))) → new ≡ put p'.now q'.now
    → CalledAtTwo g f x y r put new
called_at p q p' q' p_is q_is called leaves = record {
  first = p;
  second = q;
  first_left = p';
  second_left = q';
  shows = (p_is, q_is);
  called = called;
  leaves = leaves;
}

module _ {C : Type 0} where
  -- an item of the list, read in one of its parts
  module _ (old front back : List C) (is : old ≡ front ++ back) (i : ℕ) {x : C} where
    pub item_left : i < length old → i < length front
        → x ≡ get_or front i x → slice_get old i ≡ Some (get_or front i x)
    item_left within first reads =
        slice_get_read old (length old) i x refl within
        (reads ∙ sym (get_or_append_left front back x i first) ∙ ap (λ l. get_or l i x) (sym is))
        ∙ ap Some reads

    pub item_right : i < length old → length front ≡ i
        → x ≡ get_or back 0 x → slice_get old i ≡ Some (get_or back 0 x)
    item_right within at reads =
        slice_get_read old (length old) i x refl within
        (reads ∙ sym (get_or-append-add front back 0 x) ∙ ap (λ n. get_or (front ++ back) n x) (omega (arith, at))
        ∙ ap (λ l. get_or l i x) (sym is))
        ∙ ap Some reads

  -- two items written in the parts: the one at i in front of the cut, and the first one behind it
  module _ (old front back : List C) (is : old ≡ front ++ back) (i : ℕ) {n : ℕ} (x y : C) (at : length front ≡ n)
      (within : i < n) where
    right_set : (l : List C) → length l ≡ n → set (l ++ back) n y ≡ l ++ set back 0 y
    right_set l long = set-append_right l back n n y long (omega arith) ∙ ap (λ k. l ++ set back k y) (omega arith)

    pub left_first : set front i x ++ set back 0 y ≡ set (set old i x) n y
    left_first =
        sym (right_set (set front i x) (length-set front i x ∙ at))
        ∙ ap (λ l. set l n y) (sym (set-append_left front back i x (omega (arith, at, within))))
        ∙ ap (λ l. set (set l i x) n y) (sym is)

    pub right_first : set front i x ++ set back 0 y ≡ set (set old n y) i x
    right_first =
        sym (set-append_left front (set back 0 y) i x (omega (arith, at, within)))
        ∙ ap (λ l. set l i x) (sym (right_set front at)) ∙ ap (λ l. set (set l n y) i x) (sym is)

  pub changed_is_set : (k : C → C) (xs : List C) (i : ℕ) (x : C)
      → x ≡ get_or xs i x → changed_at k xs i ≡ set xs i (k x)
  changed_is_set k [] i x is = refl
  changed_is_set k (y ∷ ys) zero x is = ap (λ z. k z ∷ ys) (sym is)
  changed_is_set k (y ∷ ys) (suc i) x is = ap (λ l. y ∷ l) (changed_is_set k ys i x is)

  pub length-changed : (k : C → C) (xs : List C) (i : ℕ) → length (changed_at k xs i) ≡ length xs
  length-changed k [] i = refl
  length-changed k (y ∷ ys) zero = refl
  length-changed k (y ∷ ys) (suc i) = ap suc (length-changed k ys i)

  -- an item of a list that is long enough
  pub item_at : (xs : List C) (i : ℕ) → i < length xs → (x : C) × (x ≡ get_or xs i x)
  item_at [] i p = absurd (omega arith)
  item_at (x ∷ xs) zero p = (x, refl)
  item_at (x ∷ xs) (suc i) p = item_at xs i (omega arith)

  -- a whole list that was lent and comes back
  pub refilled : (n : ℕ) (xs ys : List C)
      → n ≡ length xs → length ys ≡ length xs → ys ≡ take n (ys ++ drop (length ys) xs)
  refilled n xs ys n_is same =
      sym (ap (λ k. take k (ys ++ drop (length ys) xs)) (n_is ∙ sym same) ∙ take-append_seam ys (drop (length ys) xs))

  -- a whole list that was lent, and comes back with two items changed
  pub twice_changed : (j k : C → C) {old lent new : List C} {n a b i l : ℕ}
      → i ≡ a → l ≡ b → n ≡ length old → lent ≡ old → new ≡ changed_at k (changed_at j lent i) l
      → take n (new ++ drop (length new) old) ≡ changed_at k (changed_at j old a) b
  twice_changed j k {old} {lent} {new} {n} {a} {b} {i} {l} i_is l_is n_is lent_is new_is =
      let is : new ≡ changed_at k (changed_at j old a) b = rw (← lent_is, ← i_is, ← l_is) new_is in
      sym (refilled n old new n_is
      (ap length is ∙ length-changed k (changed_at j old a) b ∙ length-changed j old a)) ∙ is

  -- items that are changed are written
  set_once : (k : C → C) (xs : List C) (i : ℕ) (x : C) → slice_get xs i ≡ Some x → set xs i (k x) ≡ changed_at k xs i
  set_once k xs i x is = sym (changed_is_set k xs i x (sym (get_or_from_slice_get xs i x x is)))

  set_twice : (j k : C → C) (xs : List C) (a b : ℕ) {x y : C}
      → a ≢ b → slice_get xs a ≡ Some x → slice_get xs b ≡ Some y
      → set (set xs a (j x)) b (k y) ≡ changed_at k (changed_at j xs a) b
  set_twice j k [] a b other x_is y_is = refl
  set_twice j k (z ∷ zs) zero zero other x_is y_is = absurd (other refl)
  set_twice j k (z ∷ zs) zero (suc b) {x} {y} other x_is y_is =
      ap (λ v. j v ∷ set zs b (k y)) (sym (same_Some z x x_is)) ∙ ap (λ l. j z ∷ l) (set_once k zs b y y_is)
  set_twice j k (z ∷ zs) (suc a) zero {x} {y} other x_is y_is =
      ap (λ v. k v ∷ set zs a (j x)) (sym (same_Some z y y_is)) ∙ ap (λ l. k z ∷ l) (set_once j zs a x x_is)
  set_twice j k (z ∷ zs) (suc a) (suc b) {x} {y} other x_is y_is =
      ap (λ l. z ∷ l) (set_twice j k zs a b (λ e. other (ap suc e)) x_is y_is)

-- A call at two items that hands their weights on. A cell c shows weight c, and put v c is c with the weight v.
module _ {C W F R : Type 0} (weight : C → Option W) (put : W → C → C)
    (g : Once F (MutBor W × (MutBor W × Unit {0})) (R × (MutBor W × (MutBor W × Unit {0})))) (f : F) (old : List C)
    {new : List C}
    {a b : ℕ} (other : a ≢ b) {r : R} where
  pub called_through : {x y x' y' : C} {v w : Option W} → slice_get old a ≡ Some x → slice_get old b ≡ Some y
      → new ≡ set (set old a x') b y' → v ≡ weight x → w ≡ weight y
      → CalledAtTwo g f (weight x) (weight y) {S = C × C} r (λ p q. (put p x, put q y)) (x', y')
      → CalledAtTwo g f v w r (λ p q. changed_at (put q) (changed_at (put p) old a) b) new
  called_through {x} {y} {x'} {y'} {v} {w} x_is y_is new_is v_is w_is call =
      called_at call.first call.second call.first_left call.second_left (v_is ∙ call.shows.0)
      (w_is ∙ call.shows.1) call.called
      (new_is ∙ ap (λ z. set (set old a z.0) b z.1) call.leaves
      ∙ set_twice (put call.first_left.now) (put call.second_left.now) old a b other x_is y_is)
