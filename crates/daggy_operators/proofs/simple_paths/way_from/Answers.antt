use Rattle.std.proofs.Common.{◌∙◌, ℕ, ◌++◌, ◌∷◌, [], List, inl, inr, map, sym, ap, arith}
use Rattle.std.proofs.lemmas.Bool.{eqb-true}
use Rattle.daggy_base.specs.declared.index.Direction.TheVariants.{Outgoing}
use Rattle.daggy_base.specs.Graph.{pair_of}
use Rattle.daggy_dag.specs.Walks.{rest_of_walk}
use Rattle.daggy_operators.specs.SimplePaths.{paths_left, paths_within}
use Rattle.daggy_dag.proofs.WalkSteps.{whole_walk}
use Rattle.daggy_operators.proofs.Ways.{left_zero, left_begun, within_none}
use Rattle.daggy_operators.proofs.simple_paths.way_from.Goals as goal

pub returns-then-eq-clause-begun : goal.returns-then-eq-clause-begun
returns-then-eq-clause-begun g c other =
    let graph = g.S.EdgeSource.graph c.args.store.now in
    let from = g.Ix.IndexType.number c.args.from in
    let to = g.Ix.IndexType.number c.args.to in
    elim c.then-eq.either [
      | inl same ↦ absurd (other (eqb-true from to (sym c.eq.ensures ∙ same)))
      | inr none ↦
          ap (λ z. paths_left graph to z (map (pair_of g.Ix.IndexType.number) c.new-way.result.items)) none.1
          ∙ left_zero graph to (map (pair_of g.Ix.IndexType.number) c.new-way.result.items)
          ∙ sym (within_none graph to from other)
          ∙ ap (λ z. paths_within graph to z from) (sym none.1)
    ]

pub returns-clause-begun : goal.returns-clause-begun
returns-clause-begun g c other =
    let graph = g.S.EdgeSource.graph c.args.store.now in
    let from = g.Ix.IndexType.number c.args.from in
    let to = g.Ix.IndexType.number c.args.to in
    let left : List _ → List (List ℕ) = λ z. paths_left graph to c.args.limit (map (pair_of g.Ix.IndexType.number) z) in
    ap left (c.in_ok-push.ensures.items ∙ ap (λ z. z ++ (c.args.from, c.first_edge.result) ∷ []) c.new-way.ensures.items)
    ∙ left_begun graph to c.args.limit from (g.Ix.IndexType.number c.first_edge.result) other
    (omega (arith, c.if-limit-eq0.false))
    (ap (rest_of_walk Outgoing graph) c.first_edge.ensures
    ∙ whole_walk g.Ix.IndexType.greatest graph c.invariant.ensures.well_formed Outgoing from)
