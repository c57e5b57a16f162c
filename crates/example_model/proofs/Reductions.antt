-- The reductions of small graphs.
use Rattle.std.proofs.Common.{◌≡◌, ◌≢◌, ℕ, zero, suc, ◌↔◌, inl, inr, List, [], ◌∷◌, Some, None, refl, sym, subst, lit<}
use Rattle.std.proofs.Common.{arith}
use Rattle.std.specs.List.{Contains}
use Rattle.std.proofs.lemmas.Bool.{false≢true}
use Rattle.daggy_base.specs.Graph.{Graph, Edge, HasNode, edge_at}
use Rattle.daggy_base.specs.Path.{Reaches}
use Rattle.daggy_base.specs.Removal.{without_edges}
use Rattle.daggy_base.specs.declared.kind.Kind.TheVariants.{Compact}
use Rattle.daggy_base.specs.Reduction.{IsBelow, ReachesIndirectly, IsRedundant, IsReduction, Covers}
use Rattle.daggy_base.proofs.Lists.{Mem, contains_mem, mem_contains}
use Rattle.example_model.specs.Examples.{line, with_lines, shortcuts, doubled_step, turned_triangle}
use Rattle.example_model.proofs.Checks.{not_redundant, not_reached}

module _ (g : Graph ℕ ℕ) (roots : List ℕ) where
  -- by members in place of places
  exactly : (es : List ℕ) → ((e : ℕ) → Mem e es → IsRedundant g roots e) → ((e : ℕ) → IsRedundant g roots e → Mem e es)
      → (e : ℕ) → Contains es e ↔ IsRedundant g roots e
  exactly es f h e = (λ c. f e (contains_mem _ _ c), λ r. mem_contains _ _ (h e r))

  redundant_at : (e u v w : ℕ)
      → edge_at g e ≡ Some (line u v w) → IsBelow g roots u → ReachesIndirectly g u v → IsRedundant g roots e
  redundant_at e u v w at below round = record { edge = line u v w; at = at; below = below; round = round }

  here : (e k : ℕ) → e ≡ k → IsRedundant g roots k → IsRedundant g roots e
  here e k h r = let P : ℕ → Type 0 = λ n. IsRedundant g roots n in subst P (sym h) r

no_edge : (x : Edge ℕ) → None ≡ Some x → ⊥
no_edge x h = cc

root_only : Contains {X = ℕ} (0 ∷ []) 0
root_only = (0, lit< tt, refl)

-- the five nodes
module _ where
  below_root : IsBelow shortcuts (0 ∷ []) 0
  below_root = (0, root_only, refl, ([], refl, refl))

  below_two : IsBelow shortcuts (0 ∷ []) 2
  below_two = (0, root_only, refl, (2 ∷ [], (refl, (1, 2, refl), refl), refl))

  second_redundant : IsRedundant shortcuts (0 ∷ []) 2
  second_redundant =
      redundant_at shortcuts (0 ∷ []) 2 0 3 3 refl below_root
      (1, 3, [], (refl, (0, 1, refl), (refl, (4, 5, refl), refl)), refl)

  third_redundant : IsRedundant shortcuts (0 ∷ []) 3
  third_redundant =
      redundant_at shortcuts (0 ∷ []) 3 0 4 4 refl below_root
      (3, 4, [], (refl, (2, 3, refl), (refl, (7, 8, refl), refl)), refl)

  sixth_redundant : IsRedundant shortcuts (0 ∷ []) 6
  sixth_redundant =
      redundant_at shortcuts (0 ∷ []) 6 2 4 7 refl below_two
      (3, 4, [], (refl, (5, 6, refl), (refl, (7, 8, refl), refl)), refl)

  those : (e : ℕ) → Mem e (6 ∷ 3 ∷ 2 ∷ []) → IsRedundant shortcuts (0 ∷ []) e
  those e m =
      elim m [
        | inl h ↦ here shortcuts (0 ∷ []) e 6 h sixth_redundant
        | inr m ↦ elim m [
          | inl h ↦ here shortcuts (0 ∷ []) e 3 h third_redundant
          | inr m ↦ elim m [
            | inl h ↦ here shortcuts (0 ∷ []) e 2 h second_redundant
            | inr m ↦ absurd m
          ]
        ]
      ]

  no_others : (e : ℕ) → IsRedundant shortcuts (0 ∷ []) e → Mem e (6 ∷ 3 ∷ 2 ∷ [])
  no_others zero r = absurd (not_redundant shortcuts (0 ∷ []) 0 0 1 1 refl refl refl r)
  no_others (suc zero) r = absurd (not_redundant shortcuts (0 ∷ []) 1 0 2 2 refl refl refl r)
  no_others (suc (suc zero)) r = inr (inr (inl refl))
  no_others (suc (suc (suc zero))) r = inr (inl refl)
  no_others (suc (suc (suc (suc zero)))) r = absurd (not_redundant shortcuts (0 ∷ []) 4 1 3 5 refl refl refl r)
  no_others (suc (suc (suc (suc (suc zero))))) r = absurd (not_redundant shortcuts (0 ∷ []) 5 2 3 6 refl refl refl r)
  no_others (suc (suc (suc (suc (suc (suc zero)))))) r = inl refl
  no_others (suc (suc (suc (suc (suc (suc (suc zero))))))) r =
      absurd (not_redundant shortcuts (0 ∷ []) 7 3 4 8 refl refl refl r)
  no_others (suc (suc (suc (suc (suc (suc (suc (suc e)))))))) r = absurd (no_edge r.edge r.at)

pub shortcuts_reduced : IsReduction Compact (0 ∷ []) shortcuts (without_edges Compact shortcuts (6 ∷ 3 ∷ 2 ∷ []))
shortcuts_reduced = record {
  redundant = 6 ∷ 3 ∷ 2 ∷ [];
  descending = (lit< tt, (lit< tt, tt));
  exact = exactly shortcuts (0 ∷ []) (6 ∷ 3 ∷ 2 ∷ []) those no_others;
  removed = refl;
}

-- the same five nodes, after one of the three edges came back
module _ where
  abbrev reduced : Graph ℕ ℕ
  reduced = without_edges Compact shortcuts (6 ∷ 3 ∷ 2 ∷ [])

  abbrev again : Graph ℕ ℕ
  again = with_lines (line 0 4 9 ∷ []) reduced

  fifth_redundant : IsRedundant again (0 ∷ []) 5
  fifth_redundant =
      redundant_at again (0 ∷ []) 5 0 4 9 refl (0, root_only, refl, ([], refl, refl))
      (1, 3, 4 ∷ [], (refl, (0, 1, refl), (refl, (4, 5, refl), (refl, (3, 8, refl), refl))), refl)

  that : (e : ℕ) → Mem e (5 ∷ []) → IsRedundant again (0 ∷ []) e
  that e m = elim m [ inl h ↦ here again (0 ∷ []) e 5 h fifth_redundant | inr m ↦ absurd m ]

  no_other : (e : ℕ) → IsRedundant again (0 ∷ []) e → Mem e (5 ∷ [])
  no_other zero r = absurd (not_redundant again (0 ∷ []) 0 0 1 1 refl refl refl r)
  no_other (suc zero) r = absurd (not_redundant again (0 ∷ []) 1 0 2 2 refl refl refl r)
  no_other (suc (suc zero)) r = absurd (not_redundant again (0 ∷ []) 2 2 3 6 refl refl refl r)
  no_other (suc (suc (suc zero))) r = absurd (not_redundant again (0 ∷ []) 3 3 4 8 refl refl refl r)
  no_other (suc (suc (suc (suc zero)))) r = absurd (not_redundant again (0 ∷ []) 4 1 3 5 refl refl refl r)
  no_other (suc (suc (suc (suc (suc zero))))) r = inl refl
  no_other (suc (suc (suc (suc (suc (suc e)))))) r = absurd (no_edge r.edge r.at)

  pub shortcuts_reduced_again : IsReduction Compact (0 ∷ []) again reduced
  shortcuts_reduced_again = record {
    redundant = 5 ∷ [];
    descending = tt;
    exact = exactly again (0 ∷ []) (5 ∷ []) that no_other;
    removed = refl;
  }

-- two edges of one pair
module _ where
  first_redundant : IsRedundant doubled_step (0 ∷ []) 1
  first_redundant =
      redundant_at doubled_step (0 ∷ []) 1 0 2 2 refl (0, root_only, refl, ([], refl, refl))
      (1, 2, [], (refl, (0, 1, refl), (refl, (2, 3, refl), refl)), refl)

  that_one : (e : ℕ) → Mem e (1 ∷ []) → IsRedundant doubled_step (0 ∷ []) e
  that_one e m = elim m [ inl h ↦ here doubled_step (0 ∷ []) e 1 h first_redundant | inr m ↦ absurd m ]

  only_that : (e : ℕ) → IsRedundant doubled_step (0 ∷ []) e → Mem e (1 ∷ [])
  only_that zero r = absurd (not_redundant doubled_step (0 ∷ []) 0 0 1 1 refl refl refl r)
  only_that (suc zero) r = inl refl
  only_that (suc (suc zero)) r = absurd (not_redundant doubled_step (0 ∷ []) 2 1 2 3 refl refl refl r)
  only_that (suc (suc (suc zero))) r = absurd (not_redundant doubled_step (0 ∷ []) 3 1 2 4 refl refl refl r)
  only_that (suc (suc (suc (suc zero)))) r = absurd (not_redundant doubled_step (0 ∷ []) 4 2 3 5 refl refl refl r)
  only_that (suc (suc (suc (suc (suc e))))) r = absurd (no_edge r.edge r.at)

  pub doubled_step_reduced : IsReduction Compact (0 ∷ []) doubled_step (without_edges Compact doubled_step (1 ∷ []))
  doubled_step_reduced = record {
    redundant = 1 ∷ [];
    descending = tt;
    exact = exactly doubled_step (0 ∷ []) (1 ∷ []) that_one only_that;
    removed = refl;
  }

-- the triangle, from several roots
module _ where
  steps_stay : (roots : List ℕ) (e : ℕ) → IsRedundant turned_triangle roots e → e ≡ 2
  steps_stay roots zero r = absurd (not_redundant turned_triangle roots 0 0 1 10 refl refl refl r)
  steps_stay roots (suc zero) r = absurd (not_redundant turned_triangle roots 1 1 2 20 refl refl refl r)
  steps_stay roots (suc (suc zero)) r = refl
  steps_stay roots (suc (suc (suc e))) r = absurd (no_edge r.edge r.at)

  top_below : (roots : List ℕ) → IsRedundant turned_triangle roots 2 → IsBelow turned_triangle roots 0
  top_below roots r =
      let there : Some (line 0 2 30) ≡ Some r.edge = r.at in
      let it : line 0 2 30 ≡ r.edge = cc in
      let P : Edge ℕ → Type 0 = λ x. IsBelow turned_triangle roots x.parent in
      subst P (sym it) r.below

  none_left : (roots : List ℕ)
      → (IsBelow turned_triangle roots 0 → ⊥) → IsReduction Compact roots turned_triangle turned_triangle
  none_left roots above = record {
    redundant = [];
    descending = tt;
    exact =
        exactly turned_triangle roots [] (λ e m. absurd m)
        (λ e r. absurd (above (top_below roots (here turned_triangle roots 2 e (sym (steps_stay roots e r)) r))));
    removed = refl;
  }

  of_one : (r x : ℕ) → Contains (x ∷ []) r → r ≡ x
  of_one r x c = elim (contains_mem (x ∷ []) r c) [ inl h ↦ h | inr m ↦ absurd m ]

  from_one : IsBelow turned_triangle (1 ∷ []) 0 → ⊥
  from_one b =
      let P : ℕ → Type 0 = λ r. Reaches turned_triangle r 0 in
      not_reached turned_triangle 0 1 0 refl refl refl (subst P (of_one b.0 1 b.1) b.3)

  from_99 : IsBelow turned_triangle (99 ∷ []) 0 → ⊥
  from_99 b =
      let P : ℕ → Type 0 = λ r. HasNode turned_triangle r in
      false≢true (subst P (of_one b.0 99 b.1) b.2)

  pub from_the_middle : IsReduction Compact (1 ∷ []) turned_triangle turned_triangle
  from_the_middle = none_left (1 ∷ []) from_one

  pub from_nowhere : IsReduction Compact (99 ∷ []) turned_triangle turned_triangle
  from_nowhere = none_left (99 ∷ []) from_99

  top_redundant : IsRedundant turned_triangle (0 ∷ []) 2
  top_redundant =
      redundant_at turned_triangle (0 ∷ []) 2 0 2 30 refl (0, root_only, refl, ([], refl, refl))
      (1, 2, [], (refl, (0, 10, refl), (refl, (1, 20, refl), refl)), refl)

  pub from_the_top : IsReduction Compact (0 ∷ []) turned_triangle (without_edges Compact turned_triangle (2 ∷ []))
  from_the_top = record {
    redundant = 2 ∷ [];
    descending = tt;
    exact = exactly turned_triangle (0 ∷ []) (2 ∷ [])
        (λ e m. elim m [ inl h ↦ here turned_triangle (0 ∷ []) e 2 h top_redundant | inr m ↦ absurd m ])
        (λ e r. inl (steps_stay (0 ∷ []) e r));
    removed = refl;
  }

  beyond_one : (w : ℕ) → w ≢ 0 → w ≢ 1 → Reaches turned_triangle 0 w → Reaches turned_triangle w 1 → ⊥
  beyond_one zero a b r s = a refl
  beyond_one (suc zero) a b r s = b refl
  beyond_one (suc (suc w)) a b r s = not_reached turned_triangle 1 (suc (suc w)) 1 refl refl refl s

  to_one : Reaches turned_triangle 0 1
  to_one = (1 ∷ [], (refl, (0, 10, refl), refl), refl)

  on_to_two : Reaches turned_triangle 1 2
  on_to_two = (2 ∷ [], (refl, (1, 20, refl), refl), refl)

  pub first_covers : Covers turned_triangle 0 1
  first_covers = record { apart = λ e. omega arith; reached = to_one; nothing_between = beyond_one }

  pub end_is_not_covered : Covers turned_triangle 0 2 → ⊥
  end_is_not_covered c = c.nothing_between 1 (λ e. omega arith) (λ e. omega arith) to_one on_to_two
