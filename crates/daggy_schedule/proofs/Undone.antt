-- How many nodes are not done, and which nodes a node that is done releases.
use Rattle.std.proofs.Common.{◌≡◌, ◌≢◌, ℕ, zero, suc, ◌+◌, ◌<◌, Bool, true, false, cond, ◌↔◌, ◌⊎◌, inl, inr, List, [], ◌∷◌}
use Rattle.std.proofs.Common.{refl, sym, ap, subst, ◌∙◌, arith}
use Rattle.std.specs.List.{filter}
use Rattle.std.proofs.lemmas.Bool.{cases_eq, cases_Bool}
use Rattle.daggy_base.specs.Graph.{Graph, edge_at, out_list}
use Rattle.daggy_base.specs.Path.{AreJoined}
use Rattle.daggy_base.specs.WellFormed.{IsWellFormed}
use Rattle.daggy_base.proofs.Lists.{Mem, contains_mem, mem_contains, Contains-from_map}
use Rattle.daggy_base.proofs.Sorted.{filter_mem}
use Rattle.daggy_schedule.specs.Work.{IsSet, is_set, is_among, child_or, children_of, each_last, released, has_done_parents}
use Rattle.daggy_schedule.proofs.Members.{among_out}

abbrev pub one_unless : Bool → ℕ
one_unless true = 0
one_unless false = 1

-- how many numbers below a bound are not done
abbrev pub undone : (bound : ℕ) → List Bool → ℕ
undone zero done = 0
undone (suc k) done = one_unless (is_set done k) + undone k done

module _ (done new : List Bool) (n : ℕ) (more : (m : ℕ) → IsSet new m ↔ (IsSet done m ⊎ (m ≡ n))) where
  same_flag : (m : ℕ) → m ≢ n → is_set new m ≡ is_set done m
  same_flag m other =
      elim (cases_Bool (is_set done m)) [
        | inl yes_done ↦ (more m).1 (inl yes_done) ∙ sym yes_done
        | inr not_done ↦ elim (cases_Bool (is_set new m)) [
          | inl yes_new ↦ elim ((more m).0 yes_new) [
            | inl was ↦ yes_new ∙ sym was
            | inr same ↦ absurd (other same)
          ]
          | inr not_new ↦ not_new ∙ sym not_done
        ]
      ]

  undone_same : (bound : ℕ) → (n < bound → ⊥) → undone bound new ≡ undone bound done
  undone_same zero past = refl
  undone_same (suc k) past =
      let here = ap one_unless (same_flag k (λ same. past (omega (arith, same)))) in
      omega (arith, here, undone_same k (λ low. past (omega (arith, low))))

  pub undone_falls : (bound : ℕ) → n < bound → (IsSet done n → ⊥) → undone bound new < undone bound done
  undone_falls zero low fresh = absurd (omega (arith, low))
  undone_falls (suc k) low fresh =
      elim (cases_eq k n) [
        | inl same ↦ (
            let P : ℕ → Type 0 = λ z. IsSet new z in
            let now : one_unless (is_set new k) ≡ 0 = ap one_unless (subst P (sym same) ((more n).1 (inr refl))) in
            let was : one_unless (is_set done k) ≡ 1 =
            elim (cases_Bool (is_set done k)) [
              | inl t ↦ absurd (fresh (let Q : ℕ → Type 0 = λ z. IsSet done z in subst Q same t))
              | inr f ↦ ap one_unless f
            ] in
            omega (arith, now, was, undone_same k (λ h. omega (arith, h, same)))
            )
        | inr other ↦ (
            let here = ap one_unless (same_flag k other) in
            omega (arith, here, undone_falls k (omega (arith, low, other)) fresh)
            )
      ]

each_last_from : (xs : List ℕ) (m : ℕ) → Mem m (each_last xs) → Mem m xs
each_last_from [] m h = h
each_last_from (x ∷ xs) m h = by (is_among xs x) (each_last_from xs m) h
  where
    by : (b : Bool) → (Mem m (each_last xs) → Mem m xs) → Mem m (cond b (each_last xs) (x ∷ each_last xs))
        → (m ≡ x) ⊎ Mem m xs
    by true rest k = inr (rest k)
    by false rest k = elim k [ inl e ↦ inl e | inr r ↦ inr (rest r) ]

pub released_joined : {N E : Type 0} {end : ℕ} {g : Graph N E} → IsWellFormed end g → (done : List Bool) (n m : ℕ)
    → is_among (released g done n) m ≡ true → AreJoined g n m
released_joined {N} {E} {end} {g} w done n m h =
    let there = each_last_from (filter (has_done_parents g done) (children_of g n)) m
    (contains_mem (released g done n) m (among_out (released g done n) m h)) in
    let child = filter_mem (has_done_parents g done) (children_of g n) m there in
    let p = Contains-from_map (λ e. child_or (edge_at g e)) (out_list g n) m (mem_contains (children_of g n) m child.0) in
    let q = (w.out_of.exact n p.0).0 p.1 in
    let is : q.0.child ≡ m = sym (ap child_or q.1) ∙ p.2 in
    let P : ℕ → Type 0 = λ z. AreJoined g n z in
    let Q : ℕ → Type 0 = λ z. AreJoined g z q.0.child in
    subst P is (subst Q q.2 (p.0, q.0.weight, q.1))
