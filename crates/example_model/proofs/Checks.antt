-- Facts about all edges of a small graph, from tests that compute.
use Rattle.std.proofs.Common.{◌≡◌, ℕ, zero, suc, Bool, true, false, List, [], ◌∷◌, Option, Some, None, refl, sym, ap}
use Rattle.std.proofs.Common.{subst, ◌∙◌}
use Rattle.std.proofs.lemmas.Bool.{false≢true}
use Rattle.daggy_base.specs.Graph.{Graph, Edge, slot, edge_at}
use Rattle.daggy_base.specs.Path.{AreJoined, Reaches, IsAcyclic, end_of}
use Rattle.daggy_base.specs.Reduction.{ReachesIndirectly, IsRedundant}
use Rattle.daggy_search.proofs.SearchProgress.{path_stays, reaches_stays}
use Rattle.example_model.specs.Examples.{line}

abbrev pub same : ℕ → ℕ → Bool
same zero zero = true
same zero (suc n) = false
same (suc m) zero = false
same (suc m) (suc n) = same m n

-- whether m is less than n
abbrev pub before : ℕ → ℕ → Bool
before zero zero = false
before zero (suc n) = true
before (suc m) zero = false
before (suc m) (suc n) = before m n

abbrev pub both : Bool → Bool → Bool
both true b = b
both false b = false

abbrev pub if_so : Bool → Bool → Bool
if_so true b = b
if_so false b = true

-- whether each edge passes a test
abbrev pub each : (Edge ℕ → Bool) → List (Option (Edge ℕ)) → Bool
each t [] = true
each t (None ∷ xs) = each t xs
each t (Some x ∷ xs) = both (t x) (each t xs)

same_itself : (n : ℕ) → same n n ≡ true
same_itself zero = refl
same_itself (suc n) = same_itself n

before_itself : (n : ℕ) → before n n ≡ false
before_itself zero = refl
before_itself (suc n) = before_itself n

before_trans : (a b c : ℕ) → before a b ≡ true → before b c ≡ true → before a c ≡ true
before_trans a zero zero h k = absurd (false≢true k)
before_trans zero zero (suc c) h k = refl
before_trans (suc a) zero (suc c) h k = absurd (false≢true h)
before_trans a (suc b) zero h k = absurd (false≢true k)
before_trans zero (suc b) (suc c) h k = refl
before_trans (suc a) (suc b) (suc c) h k = before_trans a b c h k

both_left : (a b : Bool) → both a b ≡ true → a ≡ true
both_left true b h = refl
both_left false b h = h

both_right : (a b : Bool) → both a b ≡ true → b ≡ true
both_right true b h = h
both_right false b h = absurd (false≢true h)

so : (a b : Bool) → if_so a b ≡ true → a ≡ true → b ≡ true
so true b h e = h
so false b h e = absurd (false≢true e)

pub each_at : (t : Edge ℕ → Bool) (xs : List (Option (Edge ℕ)))
    → each t xs ≡ true → (e : ℕ) (x : Edge ℕ) → slot xs e ≡ Some x → t x ≡ true
each_at t [] h e x at = cc
each_at t (None ∷ xs) h zero x at = cc
each_at t (None ∷ xs) h (suc e) x at = each_at t xs h e x at
each_at t (Some y ∷ xs) h zero x at = let s : y ≡ x = cc in ap t (sym s) ∙ both_left (t y) (each t xs) h
each_at t (Some y ∷ xs) h (suc e) x at = each_at t xs (both_right (t y) (each t xs) h) e x at

-- whether no edge leads from beyond c to c or below
abbrev pub keeps_beyond : ℕ → Graph ℕ ℕ → Bool
keeps_beyond c g = each (λ x. if_so (before c x.parent) (before c x.child)) g.edges

-- whether each edge leads to a greater node
abbrev pub ascends : Graph ℕ ℕ → Bool
ascends g = each (λ x. before x.parent x.child) g.edges

-- whether each second step from u leads beyond c
abbrev pub passes : ℕ → ℕ → Graph ℕ ℕ → Bool
passes u c g =
    each (λ a. if_so (same a.parent u) (each (λ b. if_so (same b.parent a.child) (before c b.child)) g.edges)) g.edges

module _ (g : Graph ℕ ℕ) where
  abbrev Beyond : ℕ → ℕ → Type 0
  Beyond c n = before c n ≡ true

  beyond_on : (c : ℕ) → keeps_beyond c g ≡ true → (u v : ℕ) → Beyond c u → AreJoined g u v → Beyond c v
  beyond_on c h u v here j =
      so (before c u) (before c v)
      (each_at (λ x. if_so (before c x.parent) (before c x.child)) g.edges h j.0 (line u v j.1) j.2) here

  pub not_reached : (c u v : ℕ) → keeps_beyond c g ≡ true → before c u ≡ true → before c v ≡ false → Reaches g u v → ⊥
  not_reached c u v h here there r = false≢true (sym there ∙ reaches_stays g (Beyond c) (beyond_on c h) u v r here)

  climbs : ascends g ≡ true → (u v : ℕ) → AreJoined g u v → before u v ≡ true
  climbs h u v j = each_at (λ x. before x.parent x.child) g.edges h j.0 (line u v j.1) j.2

  pub acyclic_if_ascending : ascends g ≡ true → IsAcyclic g
  acyclic_if_ascending h u v rest p e =
      let on : (a b : ℕ) → Beyond u a → AreJoined g a b → Beyond u b = λ a b here j.
      before_trans u a b here (climbs h a b j) in
      let there : Beyond u (end_of v rest) = path_stays g (Beyond u) on v rest p.2 (climbs h u v p.1) in
      false≢true (sym (before_itself u) ∙ subst (Beyond u) e there)

  second : (u c : ℕ) → passes u c g ≡ true → (w x : ℕ) → AreJoined g u w → AreJoined g w x → Beyond c x
  second u c h w x j k =
      let first : each (λ b. if_so (same b.parent w) (before c b.child)) g.edges ≡ true =
      so (same u u) (each (λ b. if_so (same b.parent w) (before c b.child)) g.edges)
      (each_at (λ a. if_so (same a.parent u) (each (λ b. if_so (same b.parent a.child) (before c b.child)) g.edges))
      g.edges h j.0 (line u w j.1) j.2)
      (same_itself u) in
      so (same w w) (before c x)
      (each_at (λ b. if_so (same b.parent w) (before c b.child)) g.edges first k.0 (line w x k.1) k.2) (same_itself w)

  no_round : (u c : ℕ) → keeps_beyond c g ≡ true → passes u c g ≡ true → ReachesIndirectly g u c → ⊥
  no_round u c h s r =
      let there : Beyond c (end_of r.1 r.2) =
      path_stays g (Beyond c) (beyond_on c h) r.1 r.2 r.3.2.2 (second u c s r.0 r.1 r.3.1 r.3.2.1) in
      false≢true (sym (before_itself c) ∙ subst (Beyond c) r.4 there)

  pub not_redundant : (roots : List ℕ) (e u c w : ℕ)
      → edge_at g e ≡ Some (line u c w) → keeps_beyond c g ≡ true → passes u c g ≡ true → IsRedundant g roots e → ⊥
  not_redundant roots e u c w at h s r =
      let there : Some (line u c w) ≡ Some r.edge = sym at ∙ r.at in
      let it : line u c w ≡ r.edge = cc in
      let P : Edge ℕ → Type 0 = λ x. ReachesIndirectly g x.parent x.child in
      no_round u c h s (subst P (sym it) r.round)
