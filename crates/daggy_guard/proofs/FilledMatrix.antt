-- A matrix of pairs as it is filled, edge by edge.
use Rattle.std.proofs.Common.{◌≡◌, ℕ, ◌+◌, ◌<◌, ◌≤◌, ◌⊎◌, Bool, List, length, Option, Some, None, refl, sym, ap, ◌∙◌}
use Rattle.std.proofs.Common.{inl, inr, arith}
use Rattle.std.proofs.lemmas.Bool.{cases_eq}
use Rattle.std.specs.Prelude.{◌↔◌, IsSome, unwrap_or}
use Rattle.daggy_base.specs.Graph.{Graph, Edge, edge_at, node_bound, edge_bound}
use Rattle.daggy_base.specs.Path.{AreJoined}
use Rattle.daggy_base.proofs.OutEdgesRead.{below_bound}
use Rattle.daggy_visit.specs.Visit.{HasPair}

-- an edge whose index is below n leads from u to v
abbrev pub AreJoinedBelow : {N E : Type 0} → Graph N E → ℕ → ℕ → ℕ → Type 0
AreJoinedBelow {N} {E} g n u v =
    (e : ℕ) × (w : E) × (e < n) × (edge_at g e ≡ Some (record { parent = u; child = v; weight = w }))

-- the matrix has the pairs that the edges below n join
pub record HasEdgesBelow {N E : Type 0} (g : Graph N E) (n : ℕ) (matrix : List (List Bool)) : Type 0 where
  pub bound : length matrix ≡ node_bound g
  pub pairs : (u v : ℕ) → HasPair matrix u v ↔ AreJoinedBelow g n u v

same_edge : {E : Type 0} (x : Edge E) (u v : ℕ)
    → u ≡ x.parent → v ≡ x.child → x ≡ record { parent = u; child = v; weight = x.weight }
same_edge x u v parent child = λ i. record { parent = sym parent i; child = sym child i; weight = x.weight }

pub is_there : {A : Type 0} (o : Option A) (x : A) → o ≡ Some x → IsSome o
is_there (Some y) x h = refl
is_there None x h = absurd (cc)

module _ {N E : Type 0} (g : Graph N E) (old : List (List Bool)) (n : ℕ) (has : HasEdgesBelow g n old) where
  -- past a slot without an edge
  pub past_vacant : edge_at g n ≡ None → HasEdgesBelow g (n + 1) old
  past_vacant none =
      record {
        bound = has.bound;
        pairs = λ u v. (
          λ h. let (e, w, low, at) = (has.pairs u v).0 h in (e, w, omega (arith, low), at),
          λ (e, w, low, at). elim (cases_eq e n) [
            | inl same ↦
                absurd (let gone : None ≡ Some (record { parent = u; child = v; weight = w }) =
                sym none ∙ ap (edge_at g) (sym same) ∙ at in
                cc)
            | inr other ↦ (has.pairs u v).1 (e, w, omega (arith, low, other), at)
          ],
        );
      }

  -- past an edge whose ends were joined
  pub past_edge : {new : List (List Bool)} (x : Edge E) {a b : ℕ}
      → edge_at g n ≡ Some x → a ≡ x.parent → b ≡ x.child → length new ≡ length old
      → ((u v : ℕ) → HasPair new u v ↔ (((u ≡ a) × (v ≡ b)) ⊎ HasPair old u v)) → HasEdgesBelow g (n + 1) new
  past_edge x at parent child bound joined =
      record {
        bound = bound ∙ has.bound;
        pairs = λ u v. (
          λ h. elim ((joined u v).0 h) [
            | inl here ↦ (n, x.weight, omega arith, at ∙ ap Some (same_edge x u v (here.0 ∙ parent) (here.1 ∙ child)))
            | inr had ↦ let (e, w, low, there) = (has.pairs u v).0 had in (e, w, omega (arith, low), there)
          ],
          λ (e, w, low, there). (joined u v).1 (elim (cases_eq e n) [
            | inl same ↦
                let is : x ≡ record { parent = u; child = v; weight = w } =
                ap (λ o. unwrap_or o x) (sym at ∙ ap (edge_at g) (sym same) ∙ there) in
                inl (sym (parent ∙ ap (λ y. y.parent) is), sym (child ∙ ap (λ y. y.child) is))
            | inr other ↦ inr ((has.pairs u v).1 (e, w, omega (arith, low, other), there))
          ]),
        );
      }

  -- past the last edge
  pub past_all : edge_bound g ≤ n → (u v : ℕ) → HasPair old u v ↔ AreJoined g u v
  past_all past u v = (
    λ h. let (e, w, low, at) = (has.pairs u v).0 h in (e, w, at),
    λ (e, w, at).
        (has.pairs u v).1 (e, w, omega (arith, past, below_bound g.edges e (is_there (edge_at g e) _ at)), at),
  )
