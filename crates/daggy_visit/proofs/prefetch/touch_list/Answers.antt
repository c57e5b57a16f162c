use Rattle.std.proofs.Common.{◌≢◌, is_some, sym, ap, ◌∙◌, arith, ◌+◌}
use Rattle.std.proofs.lemmas.Bool.{false≢true}
use Rattle.daggy_visit.proofs.ListCursors.{at_edge, at_next}
use Rattle.daggy_visit.proofs.prefetch.touch_list.Goals as goal

pub edges-init : goal.edges-init
edges-init g c = (0, record { within = omega arith; cursor = c.first_edge-e.ensures })

pub next_edge-e-requires : goal.next_edge-e-requires
next_edge-e-requires g c =
    let here : g.Ix.IndexType.number c.edges.e ≢ g.Ix.IndexType.greatest = λ h. c.if-index-end.false cc in
    ap is_some (at_edge c.invariant.ensures.well_formed _ _ c.edges.invariant.1 here).1

pub edges-preserved : goal.edges-preserved
edges-preserved g c =
    let here : g.Ix.IndexType.number c.edges.e ≢ g.Ix.IndexType.greatest = λ h. c.if-index-end.false cc in
    let i = c.edges.invariant in
    (i.0 + 1, at_next c.invariant.ensures.well_formed _ _ i.1 here c.next_edge-e.ensures)

pub returns-then-not-contains_edge_index : goal.returns-then-not-contains_edge_index
returns-then-not-contains_edge_index g c =
    let here : g.Ix.IndexType.number c.edges.e ≢ g.Ix.IndexType.greatest = λ h. c.if-index-end.false cc in
    let exists = ap is_some (at_edge c.invariant.ensures.well_formed _ _ c.edges.invariant.1 here).1 in
    absurd (false≢true (sym c.if-not-contains_edge_index.true ∙ c.contains_edge_index.ensures.1 exists))

pub returns-else-index-end-2 : goal.returns-else-index-end-2
returns-else-index-end-2 g c =
    let here : g.Ix.IndexType.number c.edges.e ≢ g.Ix.IndexType.greatest = λ h. c.if-index-end-2.false cc in
    c.contains_edge_index-else-index-end-2.ensures.1
    (ap is_some (at_edge c.invariant.ensures.well_formed _ _ c.edges.invariant.1 here).1)
