use Rattle.std.proofs.Common.{◌≡◌, length, subst, ap, ◌∙◌, arith}
use Rattle.daggy_base.specs.declared.index.Direction.TheVariants.{Incoming}
use Rattle.daggy_base.specs.Graph.{list_at}
use Rattle.daggy_base.specs.WellFormed.{IsWellFormed}
use Rattle.daggy_base.specs.Cursor.{first_of}
use Rattle.daggy_dag.specs.Walks.{rest_of_walk}
use Rattle.daggy_dag.proofs.WalkSteps.{whole_walk, few_in}
use Rattle.daggy_dag.proofs.acyclic.Acyclic.parents.Goals as goal

pub returns : goal.returns
returns g c =
    let number = g.Ix.IndexType.number in
    let now = c.args.self.now.graph in
    let end = g.Ix.IndexType.greatest in
    let graph : g.S.EdgeSource.graph c.self-inside.inside.0.0.store ≡ now =
    ap (λ s. s.graph) (ap (λ i. i.guarded) c.self-inside.view_is ∙ c.self.view_is) in
    let well_formed = subst (IsWellFormed end) graph c.invariant.ensures.well_formed in
    let first = c.first_edge.ensures ∙ ap (λ k. first_of end (list_at Incoming k (number c.args.n))) graph in
    let whole = ap (rest_of_walk Incoming now) first ∙ whole_walk end now well_formed Incoming (number c.args.n) in
    record {
      first = first;
      whole = whole;
      fits = omega (
        arith,
        ap length whole,
        few_in end now well_formed Incoming (number c.args.n),
        g.met.Ix.IndexType.fits,
      );
    }
