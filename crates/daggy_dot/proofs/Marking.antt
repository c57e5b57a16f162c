-- Marks that are added to a set.
use Rattle.std.proofs.Common.{◌≡◌, ◌||◌, Bool, true, false, cond, refl}

pub or_of_cond : (b x : Bool) → cond b true x ≡ (b || x)
or_of_cond true x = refl
or_of_cond false x = refl

pub or_none : (x : Bool) → (x || false) ≡ x
or_none true = refl
or_none false = refl

-- what was added from the front of a list counts no longer there
pub or_moved : (a x y : Bool) → ((a || x) || y) ≡ (x || (a || y))
or_moved true true y = refl
or_moved true false y = refl
or_moved false true y = refl
or_moved false false y = refl
