-- Paths taken apart and put together.
use Rattle.std.proofs.Common.{◌≡◌, ◌≢◌, ℕ, ◌<◌, ◌≤◌, inl, inr, List, [], ◌∷◌, ◌++◌, length, refl, sym, subst, arith}
use Rattle.daggy_base.specs.Graph.{Graph, HasNode}
use Rattle.daggy_base.specs.Path.{AreJoined, IsPath, Reaches, IsAcyclic, end_of}
use Rattle.daggy_base.specs.Reduction.{ReachesIndirectly}
use Rattle.daggy_base.proofs.Lists.{Mem, Unique, fewer_than}
use Rattle.daggy_base.proofs.PathsWithEdge.{reaches_on}
use Rattle.daggy_base.proofs.PathsWithNode.{bound_low}
use Rattle.daggy_base.proofs.OutEdgesRead.{below_bound}
use Rattle.daggy_base.proofs.PathEnds.{path_begins}

pub end_append : (u : ℕ) (rest more : List ℕ) → end_of u (rest ++ more) ≡ end_of (end_of u rest) more
end_append u [] more = refl
end_append u (v ∷ rest) more = end_append v rest more

module _ {N E : Type 0} (g : Graph N E) where
  -- a path on from the end of another
  pub path_append : (u : ℕ) (rest more : List ℕ)
      → IsPath g (u ∷ rest) → IsPath g (end_of u rest ∷ more) → IsPath g (u ∷ (rest ++ more))
  path_append u [] more p q = q
  path_append u (v ∷ rest) more p q = (p.0, p.1, path_append v rest more p.2 q)

  -- the part of a path up to one of its nodes
  path_to : (u : ℕ) (rest : List ℕ) (x : ℕ)
      → IsPath g (u ∷ rest) → Mem x rest → (v : ℕ) × (front : List ℕ) × IsPath g (u ∷ v ∷ front) × (end_of v front ≡ x)
  path_to u [] x p m = absurd m
  path_to u (v ∷ rest) x p m =
      elim m [
        | inl e ↦ (v, [], (p.0, p.1, path_begins g v rest p.2), sym e)
        | inr later ↦ let q = path_to v rest x p.2 later in (v, q.0 ∷ q.1, (p.0, p.1, q.2), q.3)
      ]

  -- the nodes of a path differ where there is no cycle
  unique_path : IsAcyclic g → (u : ℕ) (rest : List ℕ) → IsPath g (u ∷ rest) → Unique (u ∷ rest)
  unique_path acyclic u [] p = (λ m. m, tt)
  unique_path acyclic u (v ∷ rest) p = (
    λ m. let q = path_to u (v ∷ rest) u p m in acyclic u q.0 q.1 q.2 q.3,
    unique_path acyclic v rest p.2,
  )

  path_nodes : (u : ℕ) (rest : List ℕ) → IsPath g (u ∷ rest) → (x : ℕ) → Mem x (u ∷ rest) → HasNode g x
  path_nodes u [] p x m =
      let P : ℕ → Type 0 = λ z. HasNode g z in
      elim m [ inl e ↦ subst P (sym e) p | inr none ↦ absurd none ]
  path_nodes u (v ∷ rest) p x m =
      let P : ℕ → Type 0 = λ z. HasNode g z in
      elim m [ inl e ↦ subst P (sym e) p.0 | inr later ↦ path_nodes v rest p.2 x later ]

  -- a path has no more nodes than there are slots
  pub path_short : IsAcyclic g → (u : ℕ) (rest : List ℕ) → IsPath g (u ∷ rest) → length (u ∷ rest) ≤ length g.nodes
  path_short acyclic u rest p =
      let low : (x : ℕ) → Mem x (u ∷ rest) → x < length g.nodes = λ x m.
      omega (arith, below_bound g.nodes x (path_nodes u rest p x m), bound_low g.nodes) in
      fewer_than (u ∷ rest) (length g.nodes) (unique_path acyclic u rest p) low

  -- the first step of a path between two nodes that differ
  pub first_step : (u v : ℕ) → Reaches g u v → u ≢ v → (w : ℕ) × HasNode g u × AreJoined g u w × Reaches g w v
  first_step u v r apart = go r.0 r.1 r.2
    where
      go : (rest : List ℕ)
          → IsPath g (u ∷ rest) → end_of u rest ≡ v → (w : ℕ) × HasNode g u × AreJoined g u w × Reaches g w v
      go [] p e = absurd (apart e)
      go (w ∷ rest) p e = (w, p.0, p.1, (rest, p.2, e))

  pub reaches_one : (u v : ℕ) → HasNode g u → HasNode g v → AreJoined g u v → Reaches g u v
  reaches_one u v a b j = (v ∷ [], (a, j, b), refl)

  -- a longer way passes another node
  pub round_parts : (u v : ℕ)
      → ReachesIndirectly g u v → (w x : ℕ) × AreJoined g u w × AreJoined g w x × Reaches g w v × Reaches g x v
  round_parts u v r = (r.0, r.1, r.3.1, r.3.2.1, (r.1 ∷ r.2, r.3.2, r.4), (r.2, r.3.2.2, r.4))

  -- and a way that passes another node is longer
  pub round_through : (u w v : ℕ) → Reaches g u w → Reaches g w v → w ≢ u → w ≢ v → ReachesIndirectly g u v
  round_through u w v a b from to =
      let s = first_step u w a (λ e. from (sym e)) in
      let t = reaches_on g s.0 w v s.3 b in
      go s.0 s.1 s.2 s.3 t.0 t.1 t.2
    where
      go : (x : ℕ) → HasNode g u → AreJoined g u x → Reaches g x w → (rest : List ℕ) → IsPath g (x ∷ rest)
          → end_of x rest ≡ v → ReachesIndirectly g u v
      go x has j xw (y ∷ rest) p e = (x, y, rest, (has, j, p), e)
      go x has j xw [] p e =
          let s = first_step w v b to in
          let P : ℕ → Type 0 = λ z. Reaches g z w in
          let vw : Reaches g v w = subst P e xw in
          let t = first_step v w vw (λ k. to (sym k)) in
          let u2 = reaches_on g t.0 w v t.3 b in
          let Q : ℕ → Type 0 = λ z. AreJoined g u z in
          (v, t.0, u2.0, (has, subst Q e j, (t.1, t.2, u2.1)), u2.2)
