-- The joined pairs of a reduced graph are the covers.
use Rattle.std.proofs.Common.{◌≡◌, ◌≢◌, ℕ, inl, inr, ◌↔◌, List, [], ◌∷◌, sym, subst}
use Rattle.std.proofs.lemmas.Bool.{cases_eq}
use Rattle.daggy_base.specs.Graph.{Graph, HasNode}
use Rattle.daggy_base.specs.Path.{AreJoined, IsPath, Reaches, IsAcyclic, end_of}
use Rattle.daggy_base.specs.Reduction.{IsBelow, Covers}
use Rattle.daggy_base.proofs.PathsWithEdge.{reaches_itself, no_round}
use Rattle.daggy_redundant.specs.Comparison.{HaveSameReachability}
use Rattle.daggy_reduction.proofs.LostPairs.{LosesRoundPairs}
use Rattle.daggy_base.proofs.PathEnds.{path_begins}
use Rattle.daggy_redundant.proofs.Paths.{reaches_one, round_parts, round_through}

-- a cover is joined, in whichever graph
pub cover_joined : {N E : Type 0} (g : Graph N E) (u v : ℕ) → Covers g u v → AreJoined g u v
cover_joined g u v c = go c.reached.0 c.reached.1 c.reached.2
  where
    go : (rest : List ℕ) → IsPath g (u ∷ rest) → end_of u rest ≡ v → AreJoined g u v
    go [] p e = absurd (c.apart e)
    go (w ∷ rest) p e =
        let P : ℕ → Type 0 = λ z. AreJoined g u z in
        let Q : ℕ → Type 0 = λ z. IsPath g (z ∷ rest) in
        let R : ℕ → Type 0 = λ z. end_of z rest ≡ v in
        elim (cases_eq w v) [
          | inl here ↦ subst P here p.1
          | inr other ↦ elim (cases_eq w u) [
            | inl back ↦ go rest (subst Q back p.2) (subst R back e)
            | inr apart ↦ absurd (c.nothing_between w apart other (reaches_one g u w p.0 (path_begins g w rest p.2) p.1) (
              rest,
              p.2,
              e,
            ))
          ]
        ]

-- covers are told by reachability alone
pub cover_same : {N E M F : Type 0} (g : Graph N E) (h : Graph M F)
    → HaveSameReachability g h → (u v : ℕ) → Covers g u v → Covers h u v
cover_same g h same u v c =
    record {
      apart = c.apart;
      reached = (same u v).0 c.reached;
      nothing_between = λ w from to a b. c.nothing_between w from to ((same u w).1 a) ((same w v).1 b);
    }

module _ {N E : Type 0} (roots : List ℕ) (old new : Graph N E) (acyclic : IsAcyclic old)
    (s : LosesRoundPairs roots old new) (ends : (u v : ℕ) → AreJoined old u v → HasNode old u × HasNode old v) where
  -- what is still joined below a root is a cover
  pub joined_cover : (u v : ℕ) → IsBelow old roots u → AreJoined new u v → Covers old u v
  joined_cover u v below j =
      let before = s.joined u v j in
      let has = ends u v before in
      record {
        apart = λ e. (
            let P : ℕ → Type 0 = λ z. Reaches old z u in
            no_round old acyclic u v has.0 before (subst P e (reaches_itself old u has.0))
            );
        reached = reaches_one old u v has.0 has.1 before;
        nothing_between = λ w from to a b. s.lost u v j below (round_through old u w v a b from to);
      }

  -- and a cover is still joined
  pub cover_kept : (u v : ℕ) → Covers old u v → AreJoined new u v
  cover_kept u v c =
      elim (s.kept u v (cover_joined old u v c)) [
        | inl j ↦ j
        | inr round ↦ (
            let parts = round_parts old u v round.1 in
            let w = parts.0 in
            let hu = (ends u w parts.2).0 in
            let hw = (ends u w parts.2).1 in
            let from : w ≢ u = λ e. (
            let P : ℕ → Type 0 = λ z. Reaches old w z in
            no_round old acyclic u w hu parts.2 (subst P e (reaches_itself old w hw))
            ) in
            let to : w ≢ v = λ e. (
            let P : ℕ → Type 0 = λ z. Reaches old parts.1 z in
            no_round old acyclic w parts.1 hw parts.3 (subst P (sym e) parts.5)
            ) in
            absurd (c.nothing_between w from to (reaches_one old u w hu hw parts.2) parts.4)
            )
      ]

  pub joined_exactly : (u v : ℕ) → IsBelow old roots u → AreJoined new u v ↔ Covers old u v
  joined_exactly u v below = (joined_cover u v below, cover_kept u v)
