-- What is told of an edge that is refused, and the nodes of two keys.
use Rattle.std.proofs.Common.{◌≡◌, ◌↔◌, ◌⊎◌, inl, inr, ℕ, Bool, List, Option, Some, Result, Ok, Err, IfOk, sym, ap}
use Rattle.std.proofs.Common.{subst, ◌∙◌}
use Rattle.daggy_base.specs.declared.error.EdgeError.{EdgeError}
use Rattle.daggy_base.specs.declared.error.EdgeError.TheVariants as edge
use Rattle.daggy_named.specs.Asked.{ForNode}
use Rattle.daggy_named.specs.Naming.{index_by, ForNodes}
use Rattle.daggy_named.specs.declared.error.DependError.{DependError}
use Rattle.daggy_named.specs.declared.error.DependError.TheVariants as depend

-- how an addition of an edge of weight w is told
pub data Told {I E : Type 0} (w : E) (r : Result I (EdgeError E)) (t : Result I (DependError E)) : Type 0 where
  told_ok : (e : I) → r ≡ Ok e → t ≡ Ok e → Told w r t
  told_cycle : r ≡ Err (edge.WouldCycle (record { 0 = w })) → t ≡ Err (depend.WouldCycle w) → Told w r t
  told_memory : r ≡ Err (edge.Memory w) → t ≡ Err (depend.Memory w) → Told w r t

module _ {I E : Type 0} {w : E} {r : Result I (EdgeError E)} {t : Result I (DependError E)} where
  pub told_error : (x : EdgeError E) (y : DependError E) → r ≡ Err x → t ≡ Err y
      → (x ≡ edge.WouldCycle (record { 0 = w })) ⊎ (x ≡ edge.Memory w)
      → ((v : E) → x ≡ edge.WouldCycle (record { 0 = v }) → y ≡ depend.WouldCycle v)
      → ((v : E) → x ≡ edge.Memory v → y ≡ depend.Memory v) → Told w r t
  told_error x y r_is t_is one cycle memory =
      elim one [
        | inl is ↦ told_cycle (r_is ∙ ap Err is) (t_is ∙ ap Err (cycle w is))
        | inr is ↦ told_memory (r_is ∙ ap Err is) (t_is ∙ ap Err (memory w is))
      ]

  pub cycle_told : {R : Type 0} → Told w r t → (r ≡ Err (edge.WouldCycle (record { 0 = w }))) ↔ R
      → (t ≡ Err (depend.WouldCycle w)) ↔ R
  cycle_told (told_ok e r_is t_is) decided = (
    λ is. absurd (let both = sym t_is ∙ is in cc),
    λ reached. absurd (let both = sym r_is ∙ decided.1 reached in cc),
  )
  cycle_told (told_cycle r_is t_is) decided = (λ is. decided.0 r_is, λ reached. t_is)
  cycle_told (told_memory r_is t_is) decided = (
    λ is. absurd (let both = sym t_is ∙ is in cc),
    λ reached. absurd (let both = sym r_is ∙ decided.1 reached in cc),
  )

  pub ok_told : (P Q : I → Type 0) → Told w r t → ((e : I) → P e → Q e) → IfOk r P → IfOk t Q
  ok_told P Q (told_ok e r_is t_is) follows holds =
      subst (λ z. IfOk z Q) (sym t_is) (follows e (subst (λ z. IfOk z P) r_is holds))
  ok_told P Q (told_cycle r_is t_is) follows holds = subst (λ z. IfOk z Q) (sym t_is) tt
  ok_told P Q (told_memory r_is t_is) follows holds = subst (λ z. IfOk z Q) (sym t_is) tt

module _ {K : Type 0} (a b : K → Bool) (keys : List (Option K)) (P : ℕ → ℕ → Type 0) {u v : ℕ}
    (a_is : Some u ≡ index_by a keys) (b_is : Some v ≡ index_by b keys) where
  pub for_nodes : P u v → ForNodes a b keys P
  for_nodes holds = (u, v, sym a_is, sym b_is, holds)

  pub from_nodes : ForNodes a b keys P → P u v
  from_nodes h =
      let a_same : Some h.0 ≡ Some u = sym h.2 ∙ sym a_is in
      let b_same : Some h.1 ≡ Some v = sym h.3 ∙ sym b_is in
      let u_same : h.0 ≡ u = cc in
      let v_same : h.1 ≡ v = cc in
      subst (λ z. P z v) u_same (subst (λ z. P h.0 z) v_same h.4)

module _ {K : Type 0} (test : K → Bool) (keys : List (Option K)) (P : ℕ → Type 0) {n : ℕ}
    (n_is : Some n ≡ index_by test keys) where
  pub for_node : P n → ForNode test keys P
  for_node holds = (n, sym n_is, holds)

  pub from_node : ForNode test keys P → P n
  from_node h =
      let both : Some h.0 ≡ Some n = sym h.1 ∙ sym n_is in
      let same : h.0 ≡ n = cc in subst P same h.2
