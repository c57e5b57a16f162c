use Rattle.std.proofs.Common.{◌∙◌, ap, length, arith}
use Rattle.daggy_dag.specs.Connecting.{edges_connecting}
use Rattle.daggy_dag.proofs.ConnectingEdges.{all_connecting, few_connecting}
use Rattle.daggy_dag.proofs.acyclic.Acyclic.edges_connecting.Goals as goal

pub returns-clause-rest : goal.returns-clause-rest
returns-clause-rest g c =
    let number = g.Ix.IndexType.number in
    all_connecting g.Ix.IndexType.greatest _ c.invariant.ensures.well_formed (number c.args.b) (number c.args.a) _
    c.first_edge.ensures
    ∙ ap (λ s. edges_connecting s.graph (number c.args.a) (number c.args.b))
    (ap (λ i. i.guarded) c.self-inside.view_is ∙ c.self.view_is)

pub returns-clause-fits : goal.returns-clause-fits
returns-clause-fits g c =
    let number = g.Ix.IndexType.number in
    let end = g.Ix.IndexType.greatest in
    let w = c.invariant.ensures.well_formed in
    omega (
      arith,
      ap length (all_connecting end _ w (number c.args.b) (number c.args.a) _ c.first_edge.ensures),
      few_connecting end _ w (number c.args.b) (number c.args.a),
      g.met.Ix.IndexType.fits,
    )
