-- A graph keeps its reachability when it loses the pairs that longer paths connect.
use Rattle.std.proofs.Common.{◌≡◌, ℕ, zero, suc, ◌+◌, ◌<◌, ◌≤◌, ◌⊎◌, inl, inr, List, [], ◌∷◌, ◌++◌, length, sym, ap}
use Rattle.std.proofs.Common.{subst, ◌∙◌, arith}
use Rattle.std.proofs.lemmas.List.{length-append}
use Rattle.daggy_base.specs.Graph.{Graph}
use Rattle.daggy_base.specs.Path.{IsPath, Reaches, IsAcyclic, end_of}
use Rattle.daggy_base.proofs.PathsWithEdge.{reaches_itself, reaches_before}
use Rattle.daggy_redundant.specs.Comparison.{HaveSameReachability}
use Rattle.daggy_reduction.proofs.LostPairs.{LosesRoundPairs}
use Rattle.daggy_redundant.proofs.Paths.{path_append, end_append, path_short}

module _ {N E : Type 0} (roots : List ℕ) (old new : Graph N E) (acyclic : IsAcyclic old)
    (s : LosesRoundPairs roots old new) where
  pub path_before : (us : List ℕ) → IsPath new us → IsPath old us
  path_before [] p = p
  path_before (u ∷ []) p = (s.nodes u).1 p
  path_before (u ∷ v ∷ rest) p = ((s.nodes u).1 p.0, s.joined u v p.1, path_before (v ∷ rest) p.2)

  pub reached_before : (u v : ℕ) → Reaches new u v → Reaches old u v
  reached_before u v r = (r.0, path_before (u ∷ r.0) r.1, r.2)

  -- a way in the old graph is one in the new, or there is a longer one
  record Longer (u : ℕ) (rest : List ℕ) : Type 0 where
    way : List ℕ
    is : IsPath old (u ∷ way)
    ends : end_of u way ≡ end_of u rest
    more : length rest < length way

  kept_or_longer : (u : ℕ) (rest : List ℕ) → IsPath old (u ∷ rest) → Reaches new u (end_of u rest) ⊎ Longer u rest
  kept_or_longer u [] p = inl (reaches_itself new u ((s.nodes u).0 p))
  kept_or_longer u (v ∷ rest) p =
      elim (kept_or_longer v rest p.2) [
        | inr l ↦ inr (record { way = v ∷ l.way; is = (p.0, p.1, l.is); ends = l.ends; more = omega (arith, l.more) })
        | inl r ↦ elim (s.kept u v p.1) [
          | inl j ↦ inl (reaches_before new u v (end_of v rest) ((s.nodes u).0 p.0) j r)
          | inr round ↦ (
              let way = round.1 in
              let P : ℕ → Type 0 = λ z. IsPath old (z ∷ rest) in
              let on : IsPath old (end_of way.1 way.2 ∷ rest) = subst P (sym way.4) p.2 in
              let joined = path_append old way.1 way.2 rest way.3.2.2 on in
              inr (record {
                way = way.0 ∷ way.1 ∷ (way.2 ++ rest);
                is = (way.3.0, way.3.1, (way.3.2.0, way.3.2.1, joined));
                ends = end_append way.1 way.2 rest ∙ ap (λ z. end_of z rest) way.4;
                more = omega (arith, length-append way.2 rest);
              })
              )
        ]
      ]

  no_longer : (u : ℕ) (rest : List ℕ) → length old.nodes ≤ length rest → Longer u rest → ⊥
  no_longer u rest near l =
      let short = path_short old acyclic u l.way l.is in
      let more = l.more in
      omega (arith, short, more, near)

  reached_within : (k u : ℕ) (rest : List ℕ)
      → IsPath old (u ∷ rest) → length old.nodes ≤ k + length rest → Reaches new u (end_of u rest)
  reached_within zero u rest p near =
      elim (kept_or_longer u rest p) [ inl r ↦ r | inr l ↦ absurd (no_longer u rest (omega (arith, near)) l) ]
  reached_within (suc k) u rest p near =
      let P : ℕ → Type 0 = λ z. Reaches new u z in
      elim (kept_or_longer u rest p) [
        | inl r ↦ r
        | inr l ↦ let more = l.more in subst P l.ends (reached_within k u l.way l.is (omega (arith, near, more)))
      ]

  pub reached_after : (u v : ℕ) → Reaches old u v → Reaches new u v
  reached_after u v r =
      let P : ℕ → Type 0 = λ z. Reaches new u z in
      subst P r.2 (reached_within (length old.nodes) u r.0 r.1 (omega arith))

  pub same_reachability : HaveSameReachability old new
  same_reachability u v = (reached_after u v, reached_before u v)
