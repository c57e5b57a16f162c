-- Comparing dags by the reductions of copies.
use Rattle.std.proofs.Common.{◌≡◌, ℕ, zero, suc, ◌<◌, ◌↔◌, List, [], ◌∷◌, length, Option, Some, None, IsSome, refl}
use Rattle.std.proofs.Common.{arith, Contains}
use Rattle.daggy_base.specs.Graph.{Graph, HasNode, slot, node_count}
use Rattle.daggy_base.specs.WellFormed.{IsDag}
use Rattle.daggy_base.specs.Graph.{IsCompact}
use Rattle.daggy_base.proofs.PathsWithEdge.{reaches_itself}
use Rattle.daggy_base.proofs.FullSlots.{IsFull, full_from, node_count_full}
use Rattle.daggy_base.proofs.PathsWithNode.{bound_low}
use Rattle.daggy_base.proofs.OutEdgesRead.{below_bound}
use Rattle.daggy_redundant.specs.Comparison.{HaveSameNodes, JoinSamePairs, HaveSameReachability, ReachAll}
use Rattle.daggy_redundant.specs.Comparison.{IsReducedShape}
use Rattle.daggy_reduction.proofs.RemainingEdges.{reduction_loses}
use Rattle.daggy_reduction.proofs.Canonical.{alike_exactly}
use Rattle.daggy_redundant.proofs.FlaggedRedundant.{joined_exist}

full_there : {A : Type 0} (xs : List (Option A)) → IsFull xs → (i : ℕ) → i < length xs → IsSome (slot xs i)
full_there [] full i low = absurd (omega (arith, low))
full_there (None ∷ xs) full i low = absurd (full 0 refl)
full_there (Some x ∷ xs) full zero low = cc
full_there (Some x ∷ xs) full (suc i) low = full_there xs (λ j p. full (suc j) p) i (omega (arith, low))

-- the nodes of a compact graph are those below their count
module _ {N E : Type 0} {limit : ℕ} {g : Graph N E} (d : IsDag limit g) (c : IsCompact g) where
  pub node_below : (n : ℕ) → HasNode g n → n < node_count g
  node_below n has =
      let low = below_bound g.nodes n has in
      let all = bound_low g.nodes in
      let full = node_count_full limit g d.well_formed c.nodes in
      omega (arith, low, all, full)

  pub below_node : (n : ℕ) → n < node_count g → HasNode g n
  below_node n low =
      let full = node_count_full limit g d.well_formed c.nodes in
      full_there g.nodes (full_from g.nodes g.vacant_nodes d.well_formed.node_slots c.nodes) n
      (omega (arith, low, full))

  pub all_reached : (roots : List ℕ) → ((n : ℕ) → n < node_count g → Contains roots n) → ReachAll g roots
  all_reached roots all n has = (n, all n (node_below n has), has, reaches_itself g n has)

pub same_count : {N E M F : Type 0} {limit : ℕ} {g : Graph N E} {h : Graph M F}
    → IsDag limit g → IsCompact g → IsDag limit h → IsCompact h → node_count g ≡ node_count h → HaveSameNodes g h
same_count d c d' c' same n = (
  λ has. (let low = node_below d c n has in below_node d' c' n (omega (arith, low, same))),
  λ has. (let low = node_below d' c' n has in below_node d c n (omega (arith, low, same))),
)

pub shapes_alike : {N E M F : Type 0} {limit : ℕ} {g : Graph N E} {h : Graph M F} {s t : Graph (Unit {0}) (Unit {0})}
    → IsReducedShape limit g s → IsReducedShape limit h t → HaveSameNodes g h
    → JoinSamePairs s t ↔ HaveSameReachability g h
shapes_alike {limit = limit} {g = g} {h = h} {s = s} {t = t} a b same =
    let nodes : HaveSameNodes a.whole b.whole = λ n. (
      λ has. (b.nodes n).0 ((same n).0 ((a.nodes n).1 has)),
      λ has. (a.nodes n).0 ((same n).1 ((b.nodes n).1 has)),
    ) in
    let alike =
    alike_exactly record {
      roots = a.roots;
      old = a.whole;
      new = s;
      acyclic = a.dag.acyclic;
      loses = reduction_loses a.kind a.roots a.whole s a.reduced;
      ends = joined_exist limit a.whole a.dag.well_formed;
      all = a.all;
    } record {
      roots = b.roots;
      old = b.whole;
      new = t;
      acyclic = b.dag.acyclic;
      loses = reduction_loses b.kind b.roots b.whole t b.reduced;
      ends = joined_exist limit b.whole b.dag.well_formed;
      all = b.all;
    } nodes in (
      λ both u v. (
          let whole = alike.0 both u v in (
            λ r. (b.reachability u v).1 (whole.0 ((a.reachability u v).0 r)),
            λ r. (a.reachability u v).1 (whole.1 ((b.reachability u v).0 r)),
          )
          ),
      λ reach. alike.1 (λ u v. (
        λ r. (b.reachability u v).0 ((reach u v).0 ((a.reachability u v).1 r)),
        λ r. (a.reachability u v).0 ((reach u v).1 ((b.reachability u v).1 r)),
      )),
    )
