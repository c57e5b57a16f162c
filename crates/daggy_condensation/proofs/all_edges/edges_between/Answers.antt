use Rattle.std.proofs.Common.{◌≡◌, ◌<◌, ℕ, Some, List, length, inl, inr, refl, sym, ap, subst, ◌∙◌, arith, is_some}
use Rattle.std.specs.Prelude.{option_copied}
use Rattle.std.specs.Option.{option_map}
use Rattle.daggy_base.specs.Graph.{Edge, edge_at}
use Rattle.daggy_base.specs.FromSlots.{edges_by}
use Rattle.daggy_base.specs.Mapping.{CalledAt, weight_in}
use Rattle.daggy_base.proofs.CallsInTurn.{turn_asks, turn_taken, turn_passed}
use Rattle.daggy_base.proofs.OutEdgesRead.{below_bound, slot_get_or}
use Rattle.daggy_components.proofs.Condensing.{count_low}
use Rattle.daggy_condensation.proofs.KeptEdges.{KeptBelow, kept_none, kept_passed, kept_called, kept_all, is_shown}
use Rattle.daggy_condensation.proofs.KeptEdges.{shows_weight, component_low}
use Rattle.daggy_condensation.proofs.FoldedEdges.{push_by}
use Rattle.daggy_condensation.proofs.all_edges.edges_between.Given.{Over}
use Rattle.daggy_condensation.proofs.all_edges.edges_between.Goals.{In-Some, After-unwrap}
use Rattle.daggy_condensation.proofs.all_edges.edges_between.Goals as goal

-- the edge that the index names
the_edge : (g : Over) (c : In-Some g) → Edge g.row.S-EdgeWeight.Denot
the_edge g c = c.in-Some.ensures.some.0

at_i : (g : Over) (c : In-Some g)
    → edge_at (g.S.EdgeSource.graph c.args.store.now) c.edges.i ≡ Some c.in-Some.ensures.some.0
at_i g c =
    ap (λ (z : ℕ). edge_at (g.S.EdgeSource.graph c.args.store.now) z) (sym c.new-e.ensures.number)
    ∙ c.in-Some.ensures.some.1

within : (g : Over) (c : In-Some g) → c.edges.i < length (g.S.EdgeSource.graph c.args.store.now).edges
within g c = omega (arith, c.edges-test.true, c.edge_slots-i-end.ensures)

-- its weight is shown
shows : (g : Over) (c : After-unwrap g) → c.unwrap.result.now ≡ c.in-Some.ensures.some.0.weight
shows g c =
    shows_weight c.unwrap.result c.in-Some.ensures.some.0.weight
    (ap (λ z. option_copied z) (sym c.unwrap.ensures)
    ∙ (c.edge_weight.ensures ∙ ap (λ z. option_map weight_in z) c.in-Some.ensures.some.1))

pub edges-init : goal.edges-init
edges-init g c =
    let edges = (g.S.EdgeSource.graph c.args.store.now).edges in
    let P : List _ → Type 0 = λ z.
    KeptBelow (goal.F-step g) g.Ix.IndexType.of c.args.components.now c.args.f edges c.args.f
    (edges_by g.Ix.IndexType.number z) 0 in
    record {
      can = c.requires.callable;
      kept = subst P (sym c.in_ok-slots.ensures.items)
          (kept_none (goal.F-step g) g.Ix.IndexType.of c.args.components.now c.args.f edges);
    }

pub unwrap-requires : goal.unwrap-requires
unwrap-requires g c =
    is_shown c.edge_weight.result c.in-Some.ensures.some.0.weight
    (c.edge_weight.ensures ∙ ap (λ z. option_map weight_in z) c.in-Some.ensures.some.1)

pub f-weight-requires : goal.f-weight-requires
f-weight-requires g c =
    let edges = (g.S.EdgeSource.graph c.args.store.now).edges in
    let at = goal.at.f-weight-requires g c in
    let there = at_i g at.In-Some in
    let low = within g at.In-Some in
    let takes =
    turn_asks _ _ edges low (slot_get_or edges c.edges.i c.in-Some.ensures.some.0 there) c.edges.invariant.can in
    rw c.new-e.ensures.value
    (takes there (below_bound edges c.edges.i (ap is_some there)) low c.unwrap.result (shows g at.After-unwrap))

pub edges-preserved-in_default : goal.edges-preserved-in_default
edges-preserved-in_default g c =
    let graph = g.S.EdgeSource.graph c.args.store.now in
    let low : c.edges.i < length graph.edges = omega (arith, c.edges-test.true, c.edge_slots-i-end.ensures) in
    record {
      can = turn_passed _ _ graph.edges low (λ x. inl refl) c.edges.invariant.can;
      kept = kept_passed (goal.F-step g) g.Ix.IndexType.of c.args.components.now c.edges.invariant.kept low
          (λ x is. c.in_default.ensures.none x (ap (λ (z : ℕ). edge_at graph z) c.new-e.ensures.number ∙ is));
    }

pub new-requires : goal.new-requires
new-requires g c =
    let low = component_low c.args.components.now c.in-Some.j _ c.in-Some.ensures.some.2.1 in
    omega (arith, low, count_low c.invariant.ensures.well_formed c.requires.components)

pub new-requires-in-edges : goal.new-requires-in-edges
new-requires-in-edges g c =
    let low = component_low c.args.components.now c.in-Some.k _ c.in-Some.ensures.some.2.2 in
    omega (arith, low, count_low c.invariant.ensures.well_formed c.requires.components)

pub edges-preserved : goal.edges-preserved
edges-preserved g c =
    let at = goal.at.edges-preserved g c in
    let edges = (g.S.EdgeSource.graph c.args.store.now).edges in
    let x = c.in-Some.ensures.some.0 in
    let there = at_i g at.In-Some in
    let low = within g at.In-Some in
    let called : CalledAt (goal.F-step g) g.Ix.IndexType.of c.edges.f c.edges.i x.weight c.f-weight.result
    c.f-weight.new.self =
    record {
      shown = c.unwrap.result;
      shows = shows g at.After-unwrap;
      called = rw c.new-e.ensures.value at c.f-weight.ensures;
    } in
    record {
      can = turn_taken _ _ edges low (slot_get_or edges c.edges.i x there) (inr (c.f-weight.result, called))
          c.edges.invariant.can;
      kept = kept_called (goal.F-step g) g.Ix.IndexType.of c.args.components.now c.edges.invariant.kept low there
          c.in-Some.ensures.some.2 called
          (ap (λ z. edges_by g.Ix.IndexType.number z) c.in_ok-push.ensures.items
          ∙ push_by g.Ix.IndexType.number c.edges.slots.items c.new.result c.new-in-edges.result c.f-weight.result
          c.new.ensures.number c.new-in-edges.ensures.number);
    }

pub returns : goal.returns
returns g c =
    kept_all (goal.F-step g) g.Ix.IndexType.of c.args.components.now c.edges.invariant.kept
    (omega (arith, c.edges-test.false, c.edge_slots-i-end.ensures))
