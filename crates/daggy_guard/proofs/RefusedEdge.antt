-- Why an edge is refused after a search, in the words of the code that asks for one.
use Rattle.std.proofs.Common.{◌≡◌, ℕ, max, ◌↔◌, ◌⊎◌, inl, inr, Option, Some, None, IfSome, is_some, true, Result, Ok, Err, IfErr}
use Rattle.std.proofs.Common.{refl, sym, ap, subst, ◌∙◌}
use Rattle.std.specs.Option.{option_map}
use Rattle.std.proofs.lemmas.Bool.{false≢true}
use Rattle.daggy_base.specs.Graph.{Graph}
use Rattle.daggy_base.specs.Path.{Reaches}
use Rattle.daggy_base.specs.declared.error.EdgeError.{EdgeError}
use Rattle.daggy_base.specs.declared.error.EdgeError.TheVariants.{WouldCycle, Memory}
use Rattle.daggy_guard.specs.EdgeBatch.{HasEnds}
use Rattle.daggy_base.specs.Adding.{NewEdge}
use Rattle.daggy_guard.specs.Elements.{IsEdgeRefused}
use Rattle.daggy_guard.specs.Extension.{IsFilled, HasIndices, IsStopped}

memory_no_cycle : {R E : Type 0} (result : Result R (EdgeError E)) (w : E)
    → result ≡ Err (Memory w) → result ≡ Err (WouldCycle (record { 0 = w })) → ⊥
memory_no_cycle result w a b = cc

pub ok_not_err : {R F : Type 0} {result : Result R F} {x : R} {error : F} → result ≡ Ok x → result ≡ Err error → ⊥
ok_not_err ok err = cc

-- an edge to which no path leads back fails for want of memory alone
pub no_cycle : {R E Back : Type 0} (result : Result R (EdgeError E)) (w : E) → IfErr result (λ e. e ≡ Memory w)
    → (Back → ⊥) → (result ≡ Err (WouldCycle (record { 0 = w }))) ↔ Back
no_cycle (Ok e) w refusal apart = (λ h. absurd cc, λ back. absurd (apart back))
no_cycle (Err e) w refusal apart = (λ h. absurd cc, λ back. absurd (apart back))

-- a guard refused an edge of weight w, for want of memory, or for a cycle exactly if a path leads back
pub record IsGuardRefusal {R E : Type 0} (w : E) (Back : Type 0) (result : Result R (EdgeError E))
    (error : EdgeError E) : Type 0 where
  pub is : result ≡ Err error
  pub cycle : (result ≡ Err (WouldCycle (record { 0 = w }))) ↔ Back
  pub cause : (error ≡ WouldCycle (record { 0 = w })) ⊎ (error ≡ Memory w)

pub searched : {R E : Type 0} {result : Result R (EdgeError E)} {error : EdgeError E} (w : E) (P : EdgeError E → Type 0)
    (Back : Type 0) → IsGuardRefusal w Back result error
    → (Back → P (WouldCycle (record { 0 = w }))) → ((Back → ⊥) → P (Memory w)) → P error
searched {R} {E} {result} w P Back refused by_cycle by_memory =
    elim refused.cause [
      | inl e ↦ subst P (sym e) (by_cycle (refused.cycle.0 (refused.is ∙ ap Err e)))
      | inr m ↦ subst P (sym m) (by_memory (λ back.
          memory_no_cycle result w (refused.is ∙ ap Err m) (refused.cycle.1 back)))
    ]

pub stopped_after : {R N E : Type 0} (IsDefault : N → Type 0) {limit : ℕ} (old : Graph N E) {filled new : Graph N E}
    (x : NewEdge E) {result : Result R (EdgeError E)} {error : EdgeError E}
    → new ≡ filled
    → HasIndices IsDefault limit old x → IsFilled IsDefault (max x.0 x.1) old filled → HasEnds filled x
    → IsGuardRefusal x.2 (Reaches filled x.1 x.0) result error → IsStopped IsDefault limit old x error new
stopped_after {R} {N} {E} IsDefault {limit} old {filled} x {result} {error} same indices nodes ends refused =
    let P : Graph N E → Type 0 = λ z. IsStopped IsDefault limit old x error z in
    let Q : EdgeError E → Type 0 = λ z. IsStopped IsDefault limit old x z filled in
    subst P (sym same) (searched x.2 Q (Reaches filled x.1 x.0) refused (λ back. (
      refl,
      indices,
      nodes,
      ends,
      back,
    )) (λ apart. (refl, indices, nodes, ends, apart)))

-- where no found edge can have that property none is found
pub none_found : (found : Option ℕ) (P : ℕ → Type 0) → IfSome found P → ((e : ℕ) → P e → ⊥) → found ≡ None
none_found None P some never = refl
none_found (Some e) P some never = absurd (never e some)

pub mapped_none : {A B : Type 0} (f : A → B) (r : Option A) → option_map f r ≡ None → is_some r ≡ true → ⊥
mapped_none f None none some = false≢true some
mapped_none f (Some x) none some = cc

-- the same edge by two names of its ends
pub renamed_refusal : {N E : Type 0} (limit : ℕ) (g : Graph N E) (a b : ℕ) {source target : ℕ} (w : E)
    (error : EdgeError E)
    → a ≡ source → b ≡ target → IsEdgeRefused limit g (a, b, w) error → IsEdgeRefused limit g (source, target, w) error
renamed_refusal limit g a b {source} w error a_is b_is refused =
    let P : ℕ → Type 0 = λ z. IsEdgeRefused limit g (z, b, w) error in
    let Q : ℕ → Type 0 = λ z. IsEdgeRefused limit g (source, z, w) error in
    subst Q b_is (subst P a_is refused)
