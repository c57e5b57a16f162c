-- The children of the nodes that a node reaches are those that it reaches by a longer path.
use Rattle.std.proofs.Common.{◌≡◌, ◌≢◌, ℕ, ◌↔◌, inl, inr, List, [], ◌∷◌, Contains, refl, sym, ap, subst}
use Rattle.daggy_base.specs.Graph.{Graph, HasNode}
use Rattle.daggy_base.specs.Path.{AreJoined, IsPath, Reaches, IsAcyclic, end_of}
use Rattle.daggy_base.specs.Reduction.{ReachesIndirectly}
use Rattle.daggy_base.specs.WellFormed.{AreDistinct}
use Rattle.daggy_base.proofs.Lists.{contains_mem, mem_contains}
use Rattle.daggy_base.proofs.PathsWithEdge.{reaches_itself, reaches_before, no_round}
use Rattle.daggy_redundant.specs.Closure.{behind, IsClosure, IsChildBehind}
use Rattle.daggy_redundant.proofs.Paths.{reaches_one, round_through}

pub last_step : {N E : Type 0} (g : Graph N E) (w x : ℕ) (rest : List ℕ)
    → IsPath g (w ∷ x ∷ rest) → (m : ℕ) × Reaches g w m × AreJoined g m (end_of x rest)
last_step g w x [] p = (w, reaches_itself g w p.0, p.1)
last_step g w x (y ∷ rest) p = let later = last_step g x y rest p.2 in
    (later.0, reaches_before g w x later.0 p.0 p.1 later.1, later.2)

module _ {N E : Type 0} (g : Graph N E) (acyclic : IsAcyclic g) (ends : (u v : ℕ)
    → AreJoined g u v → HasNode g u × HasNode g v) (u : ℕ) (closure : List ℕ) (c : IsClosure g (u ∷ []) closure) where
  reached : (m : ℕ) → Contains closure m → Reaches g u m
  reached m k =
      let r = (c.exact m).0 k in
      let P : ℕ → Type 0 = λ z. Reaches g z m in
      elim (contains_mem (u ∷ []) r.0 r.1) [ inl e ↦ subst P e r.2 | inr none ↦ absurd none ]

  whole : closure ≡ u ∷ c.later
  whole = c.begins

  behind_is : behind closure ≡ c.later
  behind_is = ap behind whole

  apart : (m : ℕ) → Contains c.later m → m ≢ u
  apart m k e =
      let P : ℕ → Type 0 = λ z. Contains c.later z in
      let D : List ℕ → Type 0 = λ z. AreDistinct z in
      (subst D whole c.once).0 (subst P e k)

  pub child_round : (n : ℕ) → IsChildBehind g closure n ↔ ReachesIndirectly g u n
  child_round n = (there, back)
    where
      there : IsChildBehind g closure n → ReachesIndirectly g u n
      there k =
          let P : List ℕ → Type 0 = λ z. Contains z k.0 in
          let later = subst P behind_is k.1 in
          let inside : Contains closure k.0 =
          subst P (sym whole) (mem_contains (u ∷ c.later) k.0 (inr (contains_mem c.later k.0 later))) in
          let has = ends k.0 n k.2 in
          let to : k.0 ≢ n = λ e.
          (let Q : ℕ → Type 0 = λ z. Reaches g z k.0 in
          no_round g acyclic k.0 n has.0 k.2 (subst Q e (reaches_itself g k.0 has.0))) in
          round_through g u k.0 n (reached k.0 inside) (reaches_one g k.0 n has.0 has.1 k.2) (apart k.0 later) to

      back : ReachesIndirectly g u n → IsChildBehind g closure n
      back r =
          let w = r.0 in
          let step = last_step g w r.1 r.2 r.3.2 in
          let m = step.0 in
          let Q : ℕ → Type 0 = λ z. AreJoined g m z in
          let from_u : Reaches g u m = reaches_before g u w m r.3.0 r.3.1 step.1 in
          let other : m ≢ u = λ e.
          (let P : ℕ → Type 0 = λ z. Reaches g w z in no_round g acyclic u w r.3.0 r.3.1 (subst P e step.1)) in
          let inside : Contains closure m = (c.exact m).1 (u, mem_contains (u ∷ []) u (inl refl), from_u) in
          let P : List ℕ → Type 0 = λ z. Contains z m in
          let later : Contains c.later m =
          elim (contains_mem (u ∷ c.later) m (subst P whole inside)) [
            | inl e ↦ absurd (other e)
            | inr b ↦ mem_contains c.later m b
          ] in
          (m, subst P (sym behind_is) later, subst Q r.4 step.2)
