use Rattle.std.proofs.Common.{◌≡◌, ◌≢◌, ℕ, ◌<◌, map, length, get_or, set, sym, ap, ◌∙◌, arith}
use Rattle.daggy_components.proofs.MetChildren.{meeting_none, meets_all, meets_edge, meets_low, looked_few, meets_again, meets_new}
use Rattle.daggy_components.proofs.MetChildren.{read_place, map_last}
use Rattle.daggy_components.proofs.weakly_connected.meet_children.Given.{Over}
use Rattle.daggy_components.proofs.weakly_connected.meet_children.Goals.{After-look-v, After-index-in-edges-3, After-node_bound-bound}
use Rattle.daggy_components.proofs.weakly_connected.meet_children.Goals as goal

-- e is an edge, and its child is within the places
here : (g : Over) (c : After-look-v g) → g.Ix.IndexType.number c.edges.e ≢ g.Ix.IndexType.greatest
here g c = λ h. c.edges-test.true cc

v_low : (g : Over) (c : After-look-v g) → g.Ix.IndexType.number c.look-v.result.0 < length c.edges.places.items
v_low g c =
    meets_low c.node_bound-bound.ensures.well_formed (omega (arith, c.requires.sized, c.args.places.now.ok.0))
    c.edges.invariant (here g c) c.look-v.ensures.gives

-- its place
read : (g : Over) (c : After-index-in-edges-3 g)
    → get_or c.edges.places.items (g.Ix.IndexType.number c.look-v.result.0) g.Ix.IndexType.greatest
    ≡ c.index-in-edges-3.result
read g c =
    read_place c.edges.places.items g.Ix.IndexType.greatest c.index-in-edges-2.ensures c.index-in-edges-3.ensures.value
    c.index-in-edges.ensures.value (meets_low c.node_bound-bound.ensures.well_formed
    (omega (arith, c.requires.sized, c.args.places.now.ok.0)) c.edges.invariant (λ h. c.edges-test.true cc) c.look-v.ensures.gives)

pub edges-init : goal.edges-init
edges-init g c = meeting_none (g.S.EdgeSource.graph c.args.source.now) c.first-e.ensures

pub look-v-requires : goal.look-v-requires
look-v-requires g c =
    meets_edge c.node_bound-bound.ensures.well_formed (omega (arith, c.requires.sized, c.args.places.now.ok.0))
    c.edges.invariant (λ h. c.edges-test.true cc)

pub index-requires-in-edges-2 : goal.index-requires-in-edges-2
index-requires-in-edges-2 g c =
    let low = v_low g (goal.at.index-requires-in-edges-2 g c).After-look-v in
    omega (arith, low, c.index-in-edges.ensures.value, c.edges.places.ok.0)

pub index_mut-requires : goal.index_mut-requires
index_mut-requires g c =
    let low = v_low g (goal.at.index_mut-requires g c).After-look-v in
    omega (arith, low, c.index-then-index-end.ensures.value, c.edges.places.ok.0)

pub returns-in_err-push-clause-same : goal.returns-in_err-push-clause-same
returns-in_err-push-clause-same g c = c.look-v.ensures.same ∙ c.edges.invariant.same

pub edges-smaller-in_ok-push : goal.edges-smaller-in_ok-push
edges-smaller-in_ok-push g c =
    let at = goal.at.edges-smaller-in_ok-push g c in
    omega (
      arith,
      looked_few c.node_bound-bound.ensures.well_formed (omega (arith, c.requires.sized, c.args.places.now.ok.0))
          c.edges.invariant (here g at.After-look-v) c.look-v.ensures.counted,
      c.look-v.ensures.counted,
    )

pub edges-preserved-in_ok-push : goal.edges-preserved-in_ok-push
edges-preserved-in_ok-push g c =
    let at = goal.at.edges-preserved-in_ok-push g c in
    let none : get_or c.edges.places.items (g.Ix.IndexType.number c.look-v.result.0) g.Ix.IndexType.greatest
    ≡ g.Ix.IndexType.greatest =
    read g at.After-index-in-edges-3 ∙ (let e : c.index-in-edges-3.result ≡ g.Ix.IndexType.greatest = cc in e) in
    let writes : set c.edges.places.items c.index-then-index-end.result c.args.place
    ≡ set c.edges.places.items (g.Ix.IndexType.number c.look-v.result.0) c.args.place =
    ap (λ (z : ℕ). set c.edges.places.items z c.args.place) c.index-then-index-end.ensures.value in
    let pushes =
    ap (λ z. map g.Ix.IndexType.number z) c.in_ok-push.ensures.items
    ∙ map_last g.Ix.IndexType.number c.edges.nodes.items c.look-v.result.0 in
    meets_new c.node_bound-bound.ensures.well_formed (omega (arith, c.requires.sized, c.args.places.now.ok.0))
    c.edges.invariant (here g at.After-look-v) c.look-v.ensures.gives c.look-v.ensures.same c.look-v.ensures.counted
    c.requires.some none writes pushes

pub edges-smaller : goal.edges-smaller
edges-smaller g c =
    let at = goal.at.edges-smaller g c in
    omega (
      arith,
      looked_few c.node_bound-bound.ensures.well_formed (omega (arith, c.requires.sized, c.args.places.now.ok.0))
          c.edges.invariant (here g at.After-look-v) c.look-v.ensures.counted,
      c.look-v.ensures.counted,
    )

pub edges-preserved : goal.edges-preserved
edges-preserved g c =
    let at = goal.at.edges-preserved g c in
    let has : get_or c.edges.places.items (g.Ix.IndexType.number c.look-v.result.0) g.Ix.IndexType.greatest
    ≢ g.Ix.IndexType.greatest =
    λ h. let e : c.index-in-edges-3.result ≡ g.Ix.IndexType.greatest = sym (read g at.After-index-in-edges-3) ∙ h in
    c.if-index-end.false cc in
    meets_again c.node_bound-bound.ensures.well_formed (omega (arith, c.requires.sized, c.args.places.now.ok.0))
    c.edges.invariant (here g at.After-look-v) c.look-v.ensures.gives c.look-v.ensures.same c.look-v.ensures.counted has

pub returns-clause-met : goal.returns-clause-met
returns-clause-met g c =
    let at_end : g.Ix.IndexType.number c.edges.e ≡ g.Ix.IndexType.greatest = cc in
    meets_all c.node_bound-bound.ensures.well_formed (omega (arith, c.requires.sized, c.args.places.now.ok.0))
    c.edges.invariant at_end

pub returns-clause-same : goal.returns-clause-same
returns-clause-same g c = c.edges.invariant.same
