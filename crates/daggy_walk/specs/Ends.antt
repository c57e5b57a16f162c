-- When a chain of walks ends.
use Rattle.std.specs.Prelude.{Bool, true, false, Option, Some, None}
use Rattle.std.specs.Iterator.{Count, IsFinite}
use Rattle.daggy_walk.specs.Adapters.{chain_left}
use lib.Dec.{T}
use mathlib.Core.Bool.{cond}

-- if both tests pass, `a and b` does
both_on : (a b : Bool) → T a → T b → T (cond a b false)
both_on true b h k = k
both_on false b h k = absurd h

-- the walk of a chain is bounded if both walks are
pub chain_ends : {W : Type 0} (left : W → Count) (others : Count)
    → IsFinite others → (first : Option W) → ((w : W) → IsFinite (left w))
    → IsFinite (chain_left left others first)
chain_ends left others h None k = h
chain_ends left others h (Some w) k = both_on (left w).bounded others.bounded (k w) h
