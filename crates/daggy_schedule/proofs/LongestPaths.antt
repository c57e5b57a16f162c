-- The longest paths that begin with the nodes, against an order of them.
use Rattle.std.proofs.Common.{◌≡◌, ◌≢◌, ℕ, ◌+◌, ◌<◌, ◌≤◌, ◌⊎◌, ◌^◌, inl, inr, List, [], ◌∷◌, ◌++◌, length, get_or, set}
use Rattle.std.proofs.Common.{refl, ap, subst, ◌∙◌, arith, Some}
use Rattle.std.proofs.lemmas.List.{get_or-set_same, get_or-set_other}
use Rattle.std.specs.Option.{option_map}
use Rattle.daggy_base.specs.Graph.{Graph, HasNode, edge_at, ends_of, out_list}
use Rattle.daggy_base.specs.Path.{AreJoined, IsPath}
use Rattle.daggy_base.specs.Cursor.{first_of, cursor_after}
use Rattle.daggy_base.specs.declared.index.Direction.TheVariants.{Outgoing}
use Rattle.daggy_base.specs.Ordered.{IsOrderOf}
use Rattle.daggy_base.specs.WellFormed.{IsWellFormed}
use Rattle.daggy_base.proofs.Lists.{Mem, contains_mem}
use Rattle.daggy_schedule.specs.Times.{span, IsLongestFrom, TakesTooLong}
use Rattle.daggy_schedule.specs.Passes.{IsGreatestBelow}
use Rattle.daggy_schedule.proofs.Passing.{Passing, passing_from, passing_on, passed_joined, all_passed}
use Rattle.daggy_schedule.proofs.Late.{order_exists, children_behind, not_behind}

-- ---- the children of one node

pub record Rising {N E : Type 0} (end : ℕ) (g : Graph N E) (n : ℕ) (levels : List ℕ) (e greatest : ℕ) : Type 0 where
  pub passing : Passing end g n e (λ k v. get_or levels v 0 ≤ greatest)
  pub met : (greatest ≡ 0) ⊎ ((v : ℕ) × AreJoined g n v × (get_or levels v 0 ≡ greatest))

pub rises_none : {N E : Type 0} {end : ℕ} {g : Graph N E} {n : ℕ} (levels : List ℕ) {e : ℕ}
    → e ≡ first_of end (out_list g n) → Rising end g n levels e 0
rises_none levels first =
    record { passing = passing_from (λ k v. get_or levels v 0 ≤ 0) first; met = inl refl }

module _ {N E : Type 0} {end : ℕ} {g : Graph N E} (w : IsWellFormed end g) {n : ℕ} {levels : List ℕ} {e greatest : ℕ}
    (s : Rising end g n levels e greatest) where
  pub rises_one : (e ≢ end) → {p c : ℕ} → Some (p, c) ≡ option_map ends_of (edge_at g e) → (next : ℕ)
      → next ≡ cursor_after Outgoing end g e (edge_at g e) → (more : ℕ) → greatest ≤ more → get_or levels c 0 ≤ more
      → (more ≡ greatest) ⊎ (get_or levels c 0 ≡ more) → Rising end g n levels next more
  rises_one here {p} {c} ends next is more up child one =
      record {
        passing =
            passing_on w s.passing here ends next is (λ k v. get_or levels v 0 ≤ more) (λ k v h. omega (arith, h, up)) child;
        met = elim one [
          | inl same ↦ elim s.met [ inl none ↦ inl (same ∙ none) | inr b ↦ inr (b.0, b.1, omega (arith, same, b.2)) ]
          | inr level ↦ inr (c, passed_joined w s.passing here ends, level)
        ];
      }

  pub all_risen : e ≡ end → IsGreatestBelow g levels n greatest
  all_risen ended = record { most = λ v j. all_passed w s.passing ended v j; met = s.met }

-- ---- all nodes

-- each node of `behind` has its level
abbrev pub AreLevelled : {N E : Type 0} → Graph N E → (d levels behind : List ℕ) → Type 0
AreLevelled g d levels behind = (u : ℕ) → Mem u behind → IsLongestFrom g d u (get_or levels u 0)

pub levelled_none : {N E : Type 0} (g : Graph N E) (d levels : List ℕ) {behind : List ℕ} → behind ≡ []
    → AreLevelled g d levels behind
levelled_none g d levels none u m = absurd (rw none at m)

module _ {N E : Type 0} {end : ℕ} {g : Graph N E} (w : IsWellFormed end g) {order : List ℕ} (ord : IsOrderOf g order)
    (before : List ℕ) (n : ℕ) (behind : List ℕ) (split : order ≡ before ++ n ∷ behind) (d levels : List ℕ)
    (s : AreLevelled g d levels behind) {greatest : ℕ} (below : IsGreatestBelow g levels n greatest) where
  here : HasNode g n
  here = order_exists w ord before n behind split

  child : (v : ℕ) → AreJoined g n v → IsLongestFrom g d v (get_or levels v 0)
  child v j = s v (children_behind w ord before n behind split v j)

  within : (rest : List ℕ) → IsPath g (n ∷ rest) → span d (n ∷ rest) ≤ greatest + get_or d n 0
  within [] p = omega arith
  within (v ∷ rest) p = omega (arith, (child v p.1).longest rest p.2, below.most v p.1)

  longest : IsLongestFrom g d n (greatest + get_or d n 0)
  longest =
      record {
        reached = elim below.met [
          | inl none ↦ ([], here, omega (arith, none))
          | inr p ↦ (
              let far = (child p.0 p.1).reached in
              (p.0 ∷ far.0, (here, p.1, far.1), omega (arith, far.2, p.2))
              )
        ];
        longest = within;
      }

  pub level_too_long : 2 ^ 64 ≤ greatest + get_or d n 0 → TakesTooLong g d
  level_too_long long = let far = longest.reached in (n ∷ far.0, far.1, omega (arith, far.2, long))

  pub level_one : (levels' : List ℕ) → n < length levels → levels' ≡ set levels n (greatest + get_or d n 0)
      → AreLevelled g d levels' (n ∷ behind)
  level_one levels' low is u m =
      elim m [
        | inl same ↦ (
            let now : get_or levels' n 0 ≡ greatest + get_or d n 0 =
            ap (λ z. get_or z n 0) is ∙ get_or-set_same levels n (greatest + get_or d n 0) 0 low in
            rw (same, now) longest
            )
        | inr b ↦ (
            let M : ℕ → Type 0 = λ z. Mem z behind in
            let other : u ≢ n = λ same. not_behind w ord before n behind split (subst M same b) in
            let kept : get_or levels' u 0 ≡ get_or levels u 0 =
            ap (λ z. get_or z u 0) is ∙ get_or-set_other levels n u (greatest + get_or d n 0) 0 other in
            rw kept (s u b)
            )
      ]

pub all_levelled : {N E : Type 0} {g : Graph N E} {order : List ℕ} → IsOrderOf g order → (d levels : List ℕ)
    → AreLevelled g d levels order → (n : ℕ) → HasNode g n → IsLongestFrom g d n (get_or levels n 0)
all_levelled {order = order} ord d levels s n h = s n (contains_mem order n ((ord.exact n).1 h))
