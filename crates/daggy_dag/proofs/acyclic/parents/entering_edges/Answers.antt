use Rattle.std.proofs.Common.{◌∷◌, ◌++◌, [], map, sym, ap, ◌∙◌, append_assoc, arith, length}
use Rattle.std.proofs.lemmas.List.{map-append}
use Rattle.daggy_base.specs.declared.index.Direction.TheVariants.{Incoming}
use Rattle.daggy_dag.specs.Walks.{rest_of_walk}
use Rattle.daggy_dag.proofs.WalkSteps.{whole_walk}
use Rattle.daggy_dag.proofs.EdgesSorted.{steps_to}
use Rattle.daggy_dag.proofs.acyclic.parents.entering_edges.Goals as goal

pub edges-init : goal.edges-init
edges-init g c =
    let number = g.Ix.IndexType.number in
    let graph = g.S.EdgeSource.graph c.args.store.now in
    ap (λ z. map number z ++ rest_of_walk Incoming graph (number c.first_edge-cursor.result)) c.new-edges.ensures.items
    ∙ (ap (rest_of_walk Incoming graph) c.first_edge-cursor.ensures
    ∙ whole_walk g.Ix.IndexType.greatest graph c.invariant.ensures.well_formed Incoming (number c.args.n))

pub edges-smaller : goal.edges-smaller
edges-smaller g c =
    let graph = g.S.EdgeSource.graph c.args.store.now in
    let step = steps_to g.Ix.IndexType.number g.Ix.IndexType.greatest graph c.invariant.ensures.well_formed _ _
    c.in-Some.item c.in-Some.ensures in
    omega (arith, ap length step)

pub edges-preserved : goal.edges-preserved
edges-preserved g c =
    let number = g.Ix.IndexType.number in
    let graph = g.S.EdgeSource.graph c.args.store.now in
    let rest = rest_of_walk Incoming graph (number c.step.new.cursor) in
    let e = number c.in-Some.item.0 in
    let step = steps_to number g.Ix.IndexType.greatest graph c.invariant.ensures.well_formed _ _
    c.in-Some.item c.in-Some.ensures in
    ap (λ z. map number z ++ rest) c.in_ok-push.ensures.items
    ∙ (ap (λ z. z ++ rest) (map-append number c.edges.edges.items (c.in-Some.item.0 ∷ []))
    ∙ (append_assoc (map number c.edges.edges.items) (e ∷ []) rest
    ∙ (ap (λ z. map number c.edges.edges.items ++ z) (sym step) ∙ c.edges.invariant)))
