-- Calls of a closure with two weights.
use Rattle.std.specs.Prelude.{◌≡◌, Option, Some}
use Rattle.std.specs.Borrow.{MutBor}
use Rattle.std.specs.Fn.{Once}

module _ {F X Y R : Type 0} (g : Once F (MutBor X × (MutBor Y × Unit {0})) (R × (MutBor X × (MutBor Y × Unit {0}))))
    (f : F) (x : Option X) (y : Option Y) where
  -- f may be called with `&mut` references to x and y
  abbrev pub TakesAtTwo : Type 0
  TakesAtTwo = (p : MutBor X) (q : MutBor Y) → x ≡ Some p.now → y ≡ Some q.now → g.pre f (p, (q, tt))

  -- f was called with them and returned r, and new has the two weights that it left
  pub record CalledAtTwo {S : Type 0} (r : R) (put : X → Y → S) (new : S) : Type 0 where
    pub first : MutBor X
    pub second : MutBor Y
    pub first_left : MutBor X
    pub second_left : MutBor Y
    pub shows : (x ≡ Some first.now) × (y ≡ Some second.now)
    pub called : g.post f (first, (second, tt)) (r, (first_left, (second_left, tt)))
    pub leaves : new ≡ put first_left.now second_left.now
