use Rattle.std.proofs.Common.{◌≡◌, ◌≢◌, get_or, set, ap, ◌∙◌, arith}
use Rattle.daggy_reduction.proofs.ListedArcs.{row_start, row_edge, row_less, row_counted, row_has_room, row_whole}
use Rattle.daggy_reduction.proofs.ListedArcs.{row_low, row_on}
use Rattle.daggy_reduction.proofs.arcs.list_row.Goals as goal

pub edges-init : goal.edges-init
edges-init g c = row_start g.Ix.IndexType.number _ c.requires.places_fit c.requires.room c.first-e.ensures

pub look-v-requires : goal.look-v-requires
look-v-requires g c = row_edge c.requires.well_formed c.edges.invariant (λ h. c.edges-test.true cc)

pub edges-smaller : goal.edges-smaller
edges-smaller g c =
    let s = c.edges.invariant in
    omega (
      arith,
      row_less c.requires.well_formed s (λ h. c.edges-test.true cc),
      s.counted,
      c.look-v.ensures.counted,
    )

pub cursor-place-requires : goal.cursor-place-requires
cursor-place-requires g c =
    omega (
      arith,
      row_low c.requires.well_formed c.edges.invariant (λ h. c.edges-test.true cc) c.look-v.ensures.gives,
      c.index-in-edges.ensures.value,
    )

pub write_arc-requires : goal.write_arc-requires
write_arc-requires g c =
    omega (arith, row_has_room c.requires.well_formed c.edges.invariant (λ h. c.edges-test.true cc))

pub edges-preserved : goal.edges-preserved
edges-preserved g c =
    let here : g.Ix.IndexType.number c.edges.e ≢ g.Ix.IndexType.greatest = λ h. c.edges-test.true cc in
    let places = c.args.work.now.cursors in
    let at : c.cursor-place.result ≡ get_or places (g.Ix.IndexType.number c.look-v.result.0) 0 =
    c.cursor-place.ensures 0 ∙ ap (λ z. get_or places z 0) c.index-in-edges.ensures.value in
    row_on c.requires.well_formed c.edges.invariant here c.look-v.ensures.gives
    (record { place = c.cursor-place.result; edge = c.edges.e }) (cc) at c.look-v.ensures.same c.look-v.ensures.counted _
    (c.write_arc.ensures ∙ ap (λ z. set c.edges.arcs c.edges.end z) c.new.ensures)

pub returns-clause-listed : goal.returns-clause-listed
returns-clause-listed g c = row_whole c.requires.well_formed c.edges.invariant (cc)

pub returns-clause-end : goal.returns-clause-end
returns-clause-end g c =
    omega (arith, c.edges.invariant.stop_is, row_counted c.requires.well_formed c.edges.invariant (cc))

pub returns-clause-counted : goal.returns-clause-counted
returns-clause-counted g c =
    omega (arith, c.edges.invariant.counted, row_counted c.requires.well_formed c.edges.invariant (cc))
