-- Nothing can begin and nothing is out exactly if all nodes are done.
use Rattle.std.proofs.Common.{◌≡◌, ℕ, ◌<◌, Bool, ◌↔◌, inl, inr, List, [], ◌∷◌, ◌++◌}
use Rattle.std.proofs.Common.{refl, sym, ap, subst, ◌∙◌, arith, append_assoc, Contains}
use Rattle.daggy_base.specs.Graph.{Graph, edge_at, in_list}
use Rattle.daggy_base.specs.Path.{AreJoined}
use Rattle.daggy_base.specs.Ordered.{IsOrderOf, place}
use Rattle.daggy_base.specs.WellFormed.{IsWellFormed, AreDistinct}
use Rattle.daggy_base.proofs.Lists.{Mem, mem_cases, mem_mid, mem_contains, contains_mem, unique_from_distinct}
use Rattle.daggy_base.proofs.Lists.{Contains-from_map}
use Rattle.daggy_base.proofs.Sorted.{place_right, place_same, unique_cross}
use Rattle.daggy_schedule.specs.Work.{IsSet, IsIdle, AreAllDone, MayBegin, parents_of, parent_or}
use Rattle.daggy_schedule.proofs.Keeping.{by_set}

none_left : (xs : List ℕ) → ((x : ℕ) → Contains xs x → ⊥) → xs ≡ []
none_left [] none = refl
none_left (x ∷ xs) none = absurd (none x (mem_contains (x ∷ xs) x (inl refl)))

module _ {N E : Type 0} {end : ℕ} {g : Graph N E} (w : IsWellFormed end g) (order : List ℕ) (ord : IsOrderOf g order) where
  -- the parents of a node of the order stand before it
  parents_before : (ds : List ℕ) (x : ℕ) (xs : List ℕ) → order ≡ ds ++ x ∷ xs → (u : ℕ) → AreJoined g u x → Mem u ds
  parents_before ds x xs split u j =
      let D : List ℕ → Type 0 = λ z. AreDistinct z in
      let M : List ℕ → Type 0 = λ z. Mem u z in
      let P : List ℕ → Type 0 = λ z. place z u < place z x in
      let once = unique_from_distinct _ (subst D split ord.once) in
      let low : place (ds ++ x ∷ xs) u < place (ds ++ x ∷ xs) x = subst P split (ord.sorted u x j) in
      let absent : Mem x ds → ⊥ = λ k. unique_cross ds (x ∷ xs) once x k (inl refl) in
      let at = place_right ds (x ∷ xs) x absent in
      let zero_there : place (x ∷ xs) x ≡ 0 = place_same x x xs refl in
      elim (mem_cases ds (x ∷ xs) u (subst M split (contains_mem order u ((ord.exact u).1 (w.parents j.0 _ j.2))))) [
        | inl a ↦ a
        | inr b ↦
            absurd (omega (
              arith,
              low,
              at,
              zero_there,
              place_right ds (x ∷ xs) u (λ k. unique_cross ds (x ∷ xs) once u k b),
            ))
      ]

  pub joined : (x u : ℕ) → Contains (parents_of g x) u → AreJoined g u x
  joined x u c =
      let p = Contains-from_map (λ k. parent_or (edge_at g k)) (in_list g x) u c in
      let q = (w.in_of.exact x p.0).0 p.1 in
      let is : q.0.parent ≡ u = sym (ap parent_or q.1) ∙ p.2 in
      let P : ℕ → Type 0 = λ z. AreJoined g z x in
      let Q : ℕ → Type 0 = λ z. AreJoined g q.0.parent z in
      subst P is (subst Q q.2 (p.0, q.0.weight, q.1))

  module _ (waiting ready : List ℕ) (out done : List Bool)
      (begins : (n : ℕ) → Contains ready n ↔ (MayBegin g done n × (IsSet out n → ⊥)))
      (outs : (n : ℕ) → IsSet out n → MayBegin g done n) (begun : (n : ℕ) → IsSet done n → IsSet out n) where
    module _ (none : ready ≡ []) (none_out : (n : ℕ) → IsSet out n → (IsSet done n → ⊥) → ⊥) where
      done_next : (x : ℕ) → MayBegin g done x → IsSet done x
      done_next x may =
          elim (by_set done x) [
            | inl t ↦ t
            | inr undone ↦ elim (by_set out x) [
              | inl t ↦ absurd (none_out x t undone)
              | inr not_out ↦ (
                  let P : List ℕ → Type 0 = λ z. Contains z x in
                  let nothing : Mem x [] = contains_mem [] x (subst P none ((begins x).1 (may, not_out))) in
                  absurd nothing
                  )
            ]
          ]

      all_from : (ds xs : List ℕ) → order ≡ ds ++ xs → ((n : ℕ) → Mem n ds → IsSet done n)
          → (n : ℕ) → Mem n xs → IsSet done n
      all_from ds [] split before n m = absurd m
      all_from ds (x ∷ xs) split before n m =
          let M : List ℕ → Type 0 = λ z. Mem x z in
          let exists = (ord.exact x).0 (mem_contains order x (subst M (sym split) (mem_mid ds xs x))) in
          let here : IsSet done x = done_next x (exists, λ u c. before u (parents_before ds x xs split u (joined x u c))) in
          let H : ℕ → Type 0 = λ z. IsSet done z in
          elim m [
            | inl e ↦ subst H (sym e) here
            | inr b ↦
                all_from (ds ++ x ∷ []) xs (split ∙ sym (append_assoc ds (x ∷ []) xs))
                (λ k q. elim (mem_cases ds (x ∷ []) k q) [
                  | inl a ↦ before k a
                  | inr c ↦ elim c [ inl e ↦ subst H (sym e) here | inr nothing ↦ absurd nothing ]
                ]) n b
          ]

    pub idle_is_finished : IsIdle (record { waiting = waiting; ready = ready; out = out; done = done })
        ↔ AreAllDone g (record { waiting = waiting; ready = ready; out = out; done = done })
    idle_is_finished = (
      λ idle n h. all_from idle.0 (λ m o d. idle.1 m (o, d)) [] order refl (λ k q. absurd q) n
          (contains_mem order n ((ord.exact n).1 h)),
      λ all. (
        none_left ready (λ x c. let r = (begins x).0 c in r.1 (begun x (all x r.0.0))),
        λ n o. o.1 (all n (outs n o.0).0),
      ),
    )
