-- What holds of an option or of a result, and of what is found.
use Rattle.std.proofs.Common.{◌≡◌, Option, Some, None, IsSome, Result, Ok, Err, OnOk, IfSome, IfNone, ℕ, refl, subst}
use Rattle.std.specs.Option.{IsNone}
use Rattle.daggy_base.specs.Graph.{Graph, HasNode}
use Rattle.daggy_base.specs.Finding.{find_edge}
use Rattle.daggy_base.specs.WellFormed.{IsWellFormed}
use Rattle.daggy_base.proofs.FoundEdge.{found_between, joined_between}
use Rattle.daggy_redundant.proofs.FlaggedRedundant.{joined_exist}

-- what holds of the value of an option holds of that value
pub value_holds : {A : Type 0} (P : A → Type 0) (o : Option A) (x : A) → o ≡ Some x → IfSome o P → P x
value_holds P o x is h = subst (λ z. IfSome z P) is h

-- what holds if there is no value holds
pub none_holds : {A B : Type 0} (o : Option A) → o ≡ None → IfNone o B → B
none_holds {A} {B} o is h = subst (λ (z : Option A). IfNone z B) is h

-- there is a value if it cannot be that there is none
pub some_unless : {A : Type 0} (o : Option A) → (IsNone o → ⊥) → IsSome o
some_unless (Some x) h = cc
some_unless None h = absurd (h cc)

-- what follows from what holds after a success holds after it
pub ok_holds : {A E : Type 0} {P Q : Type 0} (r : Result A E) → (P → Q) → OnOk r P → OnOk r Q
ok_holds (Ok x) f p = f p
ok_holds (Err e) f p = p

pub both_hold : {A E : Type 0} {P Q R : Type 0} (r : Result A E) → (P → Q → R) → OnOk r P → OnOk r Q → OnOk r R
both_hold (Ok x) f p q = f p q
both_hold (Err e) f p q = p

-- no edge is found if an end of it is missing
pub none_found : {N E : Type 0} {limit : ℕ} (g : Graph N E) (a b : ℕ) (P : ℕ → Type 0) → IsWellFormed limit g
    → (HasNode g a → HasNode g b → ⊥) → IfSome (find_edge g a b) P
none_found {limit = limit} g a b P w missing = go (find_edge g a b) refl
  where
    go : (o : Option ℕ) → find_edge g a b ≡ o → IfSome o P
    go None is = cc
    go (Some e) is =
        let ends = joined_exist limit g w a b (joined_between (found_between g a b e w is)) in
        absurd (missing ends.0 ends.1)
