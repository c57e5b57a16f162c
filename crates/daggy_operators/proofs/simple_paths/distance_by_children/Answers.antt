use Rattle.std.proofs.Common.{◌≡◌, ◌<◌, ◌∙◌, ◌∷◌, length, get_or, Some, sym, ap, arith}
use Rattle.std.proofs.lemmas.List.{get_or_read}
use Rattle.daggy_base.specs.declared.index.Direction.TheVariants.{Outgoing}
use Rattle.daggy_base.specs.Graph.{Edge, edge_at}
use Rattle.daggy_dag.specs.Walks.{rest_of_walk}
use Rattle.daggy_operators.proofs.Wholes.{exists_low}
use Rattle.daggy_operators.proofs.Ways.{step_on, step_over}
use Rattle.daggy_operators.proofs.Distances.{nearest_none, nearest_more, nearest_all}
use Rattle.daggy_operators.proofs.simple_paths.distance_by_children.Given.{Over}
use Rattle.daggy_operators.proofs.simple_paths.distance_by_children.Goals.{In-Some}
use Rattle.daggy_operators.proofs.simple_paths.distance_by_children.Goals as goal

module _ (g : Over) (c : In-Some g) where
  stepped : (x : Edge g.row.S-EdgeWeight.Denot) × (edge_at (g.S.EdgeSource.graph c.args.store.now) (g.Ix.IndexType.number c.edges.e) ≡ Some x)
      × (x.child ≡ g.Ix.IndexType.number c.in-Some.step.1)
      × (rest_of_walk Outgoing (g.S.EdgeSource.graph c.args.store.now) (g.Ix.IndexType.number c.edges.e)
      ≡ g.Ix.IndexType.number c.edges.e ∷ rest_of_walk Outgoing (g.S.EdgeSource.graph c.args.store.now) (g.Ix.IndexType.number c.step.new.cursor))
  stepped =
      step_on c.invariant.ensures.well_formed g.Ix.IndexType.number c.step.result (g.Ix.IndexType.number c.edges.e)
      (g.Ix.IndexType.number c.step.new.cursor) c.step.ensures c.in-Some.step c.in-Some.is

  child_low : g.Ix.IndexType.number c.in-Some.step.1 < length c.args.distances.now.items
  child_low =
      let x = stepped in
      let low = exists_low (g.S.EdgeSource.graph c.args.store.now) x.0.child (c.invariant.ensures.well_formed.children _ x.0 x.1) in
      omega (arith, low, x.2, c.requires, c.args.distances.now.ok.0)

pub edges-init : goal.edges-init
edges-init g c =
    nearest_none c.invariant.ensures.well_formed (g.Ix.IndexType.number c.args.n) c.args.distances.now.items
    (g.Ix.IndexType.number c.first_edge-e.result) _ c.first_edge-e.ensures

pub index-distance-requires : goal.index-distance-requires
index-distance-requires g c =
    let low = child_low g (goal.at.index-distance-requires g c).In-Some in
    omega (arith, low, c.index.ensures.value, c.args.distances.now.ok.0)

pub edges-smaller : goal.edges-smaller
edges-smaller g c =
    let x = stepped g (goal.at.edges-smaller g c).In-Some in
    omega (arith, ap length x.3)

pub edges-preserved : goal.edges-preserved
edges-preserved g c =
    let at = (goal.at.edges-preserved g c).In-Some in
    let x = stepped g at in
    let distances = c.args.distances.now.items in
    let low = child_low g at in
    let read : c.index-distance.result.now ≡ get_or distances x.0.child 0 =
    get_or_read distances _ _ (omega (arith, low, c.index.ensures.value)) c.index-distance.ensures 0
    ∙ ap (λ z. get_or distances z 0) (c.index.ensures.value ∙ sym x.2) in
    nearest_more c.invariant.ensures.well_formed (g.Ix.IndexType.number c.args.n) distances (g.Ix.IndexType.number c.edges.e)
    c.edges.least c.edges.invariant (g.Ix.IndexType.number c.step.new.cursor) x.0 x.1 x.3 c.min-least.result
    (omega (arith, c.min-least.ensures)) (omega (arith, c.min-least.ensures, c.saturating_add.ensures, read))

pub returns : goal.returns
returns g c =
    nearest_all c.invariant.ensures.well_formed (g.Ix.IndexType.number c.args.n) c.args.distances.now.items
    (g.Ix.IndexType.number c.edges.e) c.edges.least c.edges.invariant
    (step_over c.invariant.ensures.well_formed g.Ix.IndexType.number c.step.result (g.Ix.IndexType.number c.edges.e)
    (g.Ix.IndexType.number c.step.new.cursor) c.step.ensures c.in_default.is)
