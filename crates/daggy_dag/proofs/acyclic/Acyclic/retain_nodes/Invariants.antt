use Rattle.std.proofs.Common.{◌≡◌}
use Rattle.daggy_base.specs.Path.{IsAcyclic}
use Rattle.daggy_base.specs.Removal.{without_node, KeepsIndices}
use Rattle.daggy_base.specs.declared.kind.Kind.TheVariants.{Stable}
use Rattle.daggy_dag.proofs.Retained.{IsAsking}
use Rattle.daggy_dag.proofs.acyclic.Acyclic.retain_nodes.Given as goal

abbrev pub invariant-nodes : goal.invariant-nodes
invariant-nodes g l =
    record {
      asking :
          IsAsking g.Ix.IndexType.of (goal.F-pre g) (goal.F-step g) (λ w. w) (λ z. z.nodes)
          (without_node g.S.ReadStore.KIND) l.initial.keep l.initial.self.graph l.keep l.self.graph l.slot;
      looks : l.self.looks ≡ l.initial.self.looks;
      acyclic : IsAcyclic l.self.graph;
      keeps : g.S.ReadStore.KIND ≡ Stable → KeepsIndices l.initial.self.graph l.self.graph;
    }

abbrev pub decreases-nodes : goal.decreases-nodes
decreases-nodes g l = l.slot
