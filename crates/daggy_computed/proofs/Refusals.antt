-- The refusal of parents, as the call tells it that tests whether they exist.
use Rattle.std.proofs.Common.{◌≡◌, Result, Ok, Err, ap, ◌∙◌}
use Rattle.daggy_base.specs.declared.error.ParentsError.{ParentsError}
use Rattle.daggy_dag.specs.declared.acyclic.trying_parents.TryParentsError.{TryParentsError}
use Rattle.daggy_dag.specs.declared.acyclic.trying_parents.TryParentsError.TheVariants.{Missing, Refused}

-- the error of a result
abbrev error_or : {A B : Type 0} → B → Result A B → B
error_or d (Ok a) = d
error_or d (Err e) = e

-- why parents were refused that exist
abbrev refusal_or : {E I : Type 0} → ParentsError E I → TryParentsError E I → ParentsError E I
refusal_or d (Missing items) = d
refusal_or d (Refused error) = error

pub refused_of : {A K E I : Type 0} {k m : K} {x y : ParentsError E I}
    → ◌≡◌ {A = Result A (K × TryParentsError E I)} (Err (k, Refused x)) (Err (m, Refused y))
    → ◌≡◌ {A = Result A (K × ParentsError E I)} (Err (k, x)) (Err (m, y))
refused_of {A} {K} {E} {I} {k} {m} {x} {y} h =
    let pairs = ap (error_or (k, Refused x)) h in
    let keys : k ≡ m = ap (λ p. p.0) pairs in
    let errors : x ≡ y = ap (λ p. refusal_or x p.1) pairs in
    ap (λ z. Err (z, x)) keys ∙ ap (λ z. Err (m, z)) errors

pub refused_as : {A K E I : Type 0} {k m : K} {x y : ParentsError E I}
    → ◌≡◌ {A = Result A (K × ParentsError E I)} (Err (k, x)) (Err (m, y))
    → ◌≡◌ {A = Result A (K × TryParentsError E I)} (Err (k, Refused x)) (Err (m, Refused y))
refused_as {A} {K} {E} {I} {k} {m} {x} {y} h =
    let pairs = ap (error_or (k, x)) h in
    let keys : k ≡ m = ap (λ p. p.0) pairs in
    let errors : x ≡ y = ap (λ p. p.1) pairs in
    ap (λ z. Err (z, Refused x)) keys ∙ ap (λ z. Err (m, Refused z)) errors
