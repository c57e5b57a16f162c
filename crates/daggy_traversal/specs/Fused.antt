-- Walks are fused: after `None` they yield only `None`.
use Rattle.std.specs.Prelude.{◌≡◌, ℕ, Option, Some, None, List}
use Rattle.std.specs.Option.{option_map}
use lib.Dec.{T}
use mathlib.Core.Path.{refl, sym, subst}
use Rattle.daggy_base.specs.declared.index.Direction.{Direction}
use Rattle.daggy_base.specs.Graph.{Graph}
use Rattle.daggy_traversal.specs.Traversal.{IsStep, AreAllGiven}

-- a step after one that yielded nothing yields nothing, as long as the start and the direction are the same
pub step_rests : {N E A : Type 0} {g : Graph N E} {dir dir' : Direction} {start start' : ℕ}
    {given given' given'' : List ℕ} (number : A → ℕ) (r : Option A) → dir' ≡ dir → start' ≡ start
    → IsStep dir g start given None given' → IsStep dir' g start' given' (option_map number r) given'' → r ≡ None
step_rests number None d s a b = refl
step_rests {N} {E} {A} {g} {dir} {dir'} {start} {start'} {given} {given'} number (Some x) d s a b =
    let all : AreAllGiven g dir' start' given' = subst (λ z. AreAllGiven g z start' given') (sym d)
    (subst (λ z. AreAllGiven g dir z given') (sym s)
    (subst (λ z. AreAllGiven g dir start z) (sym a.kept) (a.none.0 refl))) in
    absurd (subst T (b.none.1 all) tt)
