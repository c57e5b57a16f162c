-- A reduction is the least graph of its reachability; two reductions join the same pairs if and only if their
-- reachability is the same.
use Rattle.std.proofs.Common.{ℕ, ◌↔◌, List, [], ◌∷◌}
use Rattle.daggy_base.specs.Graph.{Graph, HasNode}
use Rattle.daggy_base.specs.Path.{AreJoined, IsPath, IsAcyclic}
use Rattle.daggy_base.specs.Reduction.{IsBelow, ReachesIndirectly}
use Rattle.daggy_redundant.specs.Comparison.{HaveSameNodes, JoinSamePairs, HaveSameReachability, ReachAll}
use Rattle.daggy_reduction.proofs.LostPairs.{LosesRoundPairs}
use Rattle.daggy_reduction.proofs.ReachabilityKept.{reached_before, reached_after}
use Rattle.daggy_reduction.proofs.CoverPairs.{cover_joined, cover_same, joined_cover, cover_kept}

-- the ends of joined pairs exist
abbrev pub Ends : {N E : Type 0} → Graph N E → Type 0
Ends g = (u v : ℕ) → AreJoined g u v → HasNode g u × HasNode g v

-- a path over the same nodes and joined pairs
path_same : {N E M F : Type 0} (g : Graph N E) (h : Graph M F) → ((n : ℕ) → HasNode g n → HasNode h n)
    → ((u v : ℕ) → AreJoined g u v → AreJoined h u v) → (us : List ℕ) → IsPath g us → IsPath h us
path_same g h nodes pairs [] p = p
path_same g h nodes pairs (u ∷ []) p = nodes u p
path_same g h nodes pairs (u ∷ v ∷ rest) p = (nodes u p.0, pairs u v p.1, path_same g h nodes pairs (v ∷ rest) p.2)

pub reach_same : {N E M F : Type 0} (g : Graph N E) (h : Graph M F)
    → HaveSameNodes g h → JoinSamePairs g h → HaveSameReachability g h
reach_same g h nodes pairs u v = (
  λ r. (r.0, path_same g h (λ n. (nodes n).0) (λ a b. (pairs a b).0) (u ∷ r.0) r.1, r.2),
  λ r. (r.0, path_same h g (λ n. (nodes n).1) (λ a b. (pairs a b).1) (u ∷ r.0) r.1, r.2),
)

module _ {N E : Type 0} (roots : List ℕ) (old new : Graph N E) (acyclic : IsAcyclic old)
    (s : LosesRoundPairs roots old new) (ends : Ends old) where
  -- each graph of the same reachability joins what is still joined below a root
  pub least : {M F : Type 0} (h : Graph M F)
      → HaveSameReachability old h → (u v : ℕ) → IsBelow old roots u → AreJoined new u v → AreJoined h u v
  least h same u v below j =
      cover_joined h u v (cover_same old h same u v (joined_cover roots old new acyclic s ends u v below j))

  below_before : (n : ℕ) → IsBelow new roots n → IsBelow old roots n
  below_before n b = (b.0, b.1, (s.nodes b.0).1 b.2, reached_before roots old new acyclic s b.0 n b.3)

  -- no joined pair is redundant any more
  pub nothing_left : (u v : ℕ) → AreJoined new u v → IsBelow new roots u → ReachesIndirectly new u v → ⊥
  nothing_left u v j below round =
      s.lost u v j (below_before u below) (
        round.0,
        round.1,
        round.2,
        path_same new old (λ n. (s.nodes n).1) s.joined (u ∷ round.0 ∷ round.1 ∷ round.2) round.3,
        round.4,
      )

-- a reduction: the nodes that it begins at, the graphs before and after it, and what is known of them
pub record Reduced (N E : Type 0) : Type 0 where
  pub roots : List ℕ
  pub old : Graph N E
  pub new : Graph N E
  pub acyclic : IsAcyclic old
  pub loses : LosesRoundPairs roots old new
  pub ends : Ends old
  pub all : ReachAll old roots

pub pairs_kept : {N E M F : Type 0} (a : Reduced N E) (b : Reduced M F)
    → HaveSameReachability a.old b.old → (u v : ℕ) → AreJoined a.new u v → AreJoined b.new u v
pairs_kept a b same u v j =
    let below = a.all u (a.ends u v (a.loses.joined u v j)).0 in
    cover_kept b.roots b.old b.new b.acyclic b.loses b.ends u v
    (cover_same a.old b.old same u v (joined_cover a.roots a.old a.new a.acyclic a.loses a.ends u v below j))

-- two reductions join the same pairs exactly if the graphs had the same reachability
pub alike_exactly : {N E M F : Type 0} (a : Reduced N E) (b : Reduced M F)
    → HaveSameNodes a.old b.old → JoinSamePairs a.new b.new ↔ HaveSameReachability a.old b.old
alike_exactly a b nodes = (
  λ pairs u v. (
      let after : HaveSameNodes a.new b.new = λ n. (
        λ h. (b.loses.nodes n).0 ((nodes n).0 ((a.loses.nodes n).1 h)),
        λ h. (a.loses.nodes n).0 ((nodes n).1 ((b.loses.nodes n).1 h)),
      ) in
      let alike = reach_same a.new b.new after pairs u v in
      let before_a = reached_before a.roots a.old a.new a.acyclic a.loses u v in
      let before_b = reached_before b.roots b.old b.new b.acyclic b.loses u v in (
        λ r. before_b (alike.0 (reached_after a.roots a.old a.new a.acyclic a.loses u v r)),
        λ r. before_a (alike.1 (reached_after b.roots b.old b.new b.acyclic b.loses u v r)),
      )
      ),
  λ same u v. (
      let back : HaveSameReachability b.old a.old = λ m n. ((same m n).1, (same m n).0) in
      (pairs_kept a b same u v, pairs_kept b a back u v)
      ),
)
