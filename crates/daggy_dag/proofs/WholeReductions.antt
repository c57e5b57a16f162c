-- The reduction from roots that reach all nodes.
use Rattle.std.proofs.Common.{ℕ, ◌<◌, ◌↔◌, List, Contains}
use Rattle.daggy_base.specs.Graph.{Graph, HasNode, node_bound}
use Rattle.daggy_base.specs.Path.{AreJoined}
use Rattle.daggy_base.proofs.PathsWithEdge.{reaches_itself}
use Rattle.daggy_base.proofs.PathEnds.{path_begins}
use Rattle.daggy_base.proofs.OutEdgesRead.{below_bound}
use Rattle.daggy_base.specs.WellFormed.{IsWellFormed}
use Rattle.daggy_redundant.proofs.FlaggedRedundant.{joined_exist}
use Rattle.daggy_redundant.specs.Comparison.{ReachAll, HaveSameReachability, JoinsCovers}
use Rattle.daggy_dag.specs.WholeReduction.{JoinsCoversOnly}

-- all nodes are below a list of all numbers up to the bound
pub numbers_reach_all : {N E : Type 0} (g : Graph N E) (roots : List ℕ)
    → ((n : ℕ) → n < node_bound g → Contains roots n) → ReachAll g roots
numbers_reach_all g roots all n has = (n, all n (below_bound g.nodes n has), has, reaches_itself g n has)

-- so the reduction from them joins covers alone
pub covers_only : {N E : Type 0} {limit : ℕ} (old new : Graph N E) (roots : List ℕ) → IsWellFormed limit new
    → ReachAll old roots → HaveSameReachability old new → JoinsCovers roots old new → JoinsCoversOnly old new
covers_only old new roots w all same joins u v = (
  λ j.
      let has : HasNode new u = (joined_exist _ new w u v j).0 in
      let reached = (same u u).1 (reaches_itself new u has) in
      (joins u v (all u (path_begins old u reached.0 reached.1))).0 j,
  λ c. (joins u v (all u (path_begins old u c.reached.0 c.reached.1))).1 c,
)
