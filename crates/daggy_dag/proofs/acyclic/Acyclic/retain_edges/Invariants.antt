use Rattle.std.proofs.Common.{◌≡◌}
use Rattle.daggy_base.specs.Path.{IsAcyclic}
use Rattle.daggy_base.specs.Mapping.{weight_in}
use Rattle.daggy_base.specs.Removal.{without_edge, KeepsIndices}
use Rattle.daggy_base.specs.declared.kind.Kind.TheVariants.{Stable}
use Rattle.daggy_dag.proofs.Retained.{IsAsking}
use Rattle.daggy_dag.proofs.acyclic.Acyclic.retain_edges.Given as goal

abbrev pub invariant-edges : goal.invariant-edges
invariant-edges g l =
    record {
      asking :
          IsAsking g.Ix.IndexType.of (goal.F-pre g) (goal.F-step g) weight_in (λ z. z.edges)
          (without_edge g.S.ReadStore.KIND) l.initial.keep l.initial.self.graph l.keep l.self.graph l.slot;
      looks : l.self.looks ≡ l.initial.self.looks;
      acyclic : IsAcyclic l.self.graph;
      keeps : g.S.ReadStore.KIND ≡ Stable → KeepsIndices l.initial.self.graph l.self.graph;
      nodes : l.self.graph.nodes ≡ l.initial.self.graph.nodes;
    }

abbrev pub decreases-edges : goal.decreases-edges
decreases-edges g l = l.slot
