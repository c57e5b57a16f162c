use Rattle.std.proofs.Common.{◌∷◌, ◌++◌, [], map, Some, None, sym, ap, ◌∙◌, append_assoc, arith, length}
use Rattle.std.proofs.lemmas.List.{append-nil, map-append}
use Rattle.daggy_base.specs.Graph.{pair_of}
use Rattle.daggy_dag.specs.Walks.{rest_of_walk}
use Rattle.daggy_dag.proofs.WalkSteps.{whole_walk, step_gives}
use Rattle.daggy_operators.proofs.children.listed_edges.Goals as goal

pub edges-init : goal.edges-init
edges-init g c =
    let number = g.Ix.IndexType.number in
    let graph = g.S.EdgeSource.graph c.args.store.now in
    ap (λ z. map number z ++ rest_of_walk c.args.dir graph (number c.first_edge-cursor.result)) c.new-edges.ensures.items
    ∙ (ap (rest_of_walk c.args.dir graph) c.first_edge-cursor.ensures
    ∙ whole_walk g.Ix.IndexType.greatest graph c.invariant.ensures.well_formed c.args.dir (number c.args.n))

pub edges-smaller : goal.edges-smaller
edges-smaller g c =
    let number = g.Ix.IndexType.number in
    let graph = g.S.EdgeSource.graph c.args.store.now in
    let step = step_gives g.Ix.IndexType.greatest graph c.invariant.ensures.well_formed c.args.dir _
    (Some (pair_of number c.in-Some.item)) _ c.in-Some.ensures in
    omega (arith, ap length step)

pub edges-preserved : goal.edges-preserved
edges-preserved g c =
    let number = g.Ix.IndexType.number in
    let graph = g.S.EdgeSource.graph c.args.store.now in
    let rest = rest_of_walk c.args.dir graph (number c.step.new.cursor) in
    let step = step_gives g.Ix.IndexType.greatest graph c.invariant.ensures.well_formed c.args.dir _
    (Some (pair_of number c.in-Some.item)) _ c.in-Some.ensures in
    ap (λ z. map number z ++ rest) c.in_ok-push.ensures.items
    ∙ (ap (λ z. z ++ rest) (map-append number c.edges.edges.items (c.in-Some.item.0 ∷ []))
    ∙ (append_assoc (map number c.edges.edges.items) (number c.in-Some.item.0 ∷ []) rest
    ∙ (ap (λ z. map number c.edges.edges.items ++ z) (sym step) ∙ c.edges.invariant)))

pub returns : goal.returns
returns g c =
    let number = g.Ix.IndexType.number in
    let graph = g.S.EdgeSource.graph c.args.store.now in
    let over = step_gives g.Ix.IndexType.greatest graph c.invariant.ensures.well_formed c.args.dir _ None _
    c.in_default.ensures in
    sym (append-nil (map number c.edges.edges.items))
    ∙ (ap (λ z. map number c.edges.edges.items ++ z) (sym over.0) ∙ c.edges.invariant)
