use Rattle.std.proofs.Common.{◌≡◌, ap, ◌∙◌}
use Rattle.daggy_base.specs.declared.index.Direction.TheVariants.{Incoming}
use Rattle.daggy_dag.proofs.WalkSteps.{steps, falls}
use Rattle.daggy_dag.proofs.acyclic.walkers.ParentsWalkerAcyclic.walk_next.Goals as goal

pub returns : goal.returns
returns g c =
    let number = g.Ix.IndexType.number in
    let store = g.S.EdgeSource.graph c.dag-inside.inside.0.0.store in
    let graph : store ≡ c.args.dag.now.graph =
    ap (λ s. s.graph) (ap (λ i. i.guarded) c.dag-inside.view_is ∙ c.dag.view_is) in
    let cursor : number c.self.inside.edge ≡ number c.args.self.now = cc in
    let stepped =
    steps number Incoming _ c.step.result _ c.invariant.ensures.well_formed graph cursor c.step.ensures in
    record {
      steps = stepped;
      goes = record {
        stays = tt;
        falls = λ h. (
          tt,
          falls number Incoming c.args.dag.now.graph (number c.args.self.now) c.step.result
              (number c.step.new.cursor) stepped.1,
        );
      };
    }
