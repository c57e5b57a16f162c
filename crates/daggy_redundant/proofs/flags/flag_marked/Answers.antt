use Rattle.std.proofs.Common.{◌≡◌, ◌≢◌, arith}
use Rattle.std.proofs.lemmas.List.{length-map}
use Rattle.daggy_redundant.proofs.FlaggedChildren.{flags_start, edge_here, looked_whole, passed_less, child_low}
use Rattle.daggy_redundant.proofs.FlaggedChildren.{edge_low, flags_on, flags_marked}
use Rattle.daggy_redundant.proofs.flags.flag_marked.Goals as goal

pub edges-init : goal.edges-init
edges-init g c =
    flags_start _ (g.Ix.IndexType.number c.first-e.result)
    (omega (arith, c.requires.flags_fit, length-map c.args.flags.now g.Ix.IndexType.number)) c.requires.marks_fit
    c.first-e.ensures

pub look-v-requires : goal.look-v-requires
look-v-requires g c =
    let here : g.Ix.IndexType.number c.edges.e ≢ g.Ix.IndexType.greatest = λ h. c.edges-test.true cc in
    edge_here c.requires.well_formed c.edges.invariant here

pub flag_if_marked-requires-clause-edge : goal.flag_if_marked-requires-clause-edge
flag_if_marked-requires-clause-edge g c =
    let here : g.Ix.IndexType.number c.edges.e ≢ g.Ix.IndexType.greatest = λ h. c.edges-test.true cc in
    omega (
      arith,
      edge_low c.requires.well_formed c.edges.invariant here c.look-v.ensures.gives,
      length-map c.edges.flags g.Ix.IndexType.number,
    )

pub flag_if_marked-requires-clause-child : goal.flag_if_marked-requires-clause-child
flag_if_marked-requires-clause-child g c =
    let here : g.Ix.IndexType.number c.edges.e ≢ g.Ix.IndexType.greatest = λ h. c.edges-test.true cc in
    child_low c.requires.well_formed c.edges.invariant here c.look-v.ensures.gives

pub edges-smaller : goal.edges-smaller
edges-smaller g c =
    let here : g.Ix.IndexType.number c.edges.e ≢ g.Ix.IndexType.greatest = λ h. c.edges-test.true cc in
    let s = c.edges.invariant in
    omega (arith, passed_less c.requires.well_formed s here, s.counted, c.look-v.ensures.counted)

pub edges-preserved : goal.edges-preserved
edges-preserved g c =
    let here : g.Ix.IndexType.number c.edges.e ≢ g.Ix.IndexType.greatest = λ h. c.edges-test.true cc in
    flags_on c.requires.well_formed c.edges.invariant here c.look-v.ensures.gives c.look-v.ensures.same
    c.look-v.ensures.counted c.flag_if_marked.ensures.flagged c.flag_if_marked.ensures.passed

pub returns-clause-flagged : goal.returns-clause-flagged
returns-clause-flagged g c =
    let at_end : g.Ix.IndexType.number c.edges.e ≡ g.Ix.IndexType.greatest = cc in
    flags_marked c.requires.well_formed c.edges.invariant at_end

pub returns-clause-counted : goal.returns-clause-counted
returns-clause-counted g c =
    let at_end : g.Ix.IndexType.number c.edges.e ≡ g.Ix.IndexType.greatest = cc in
    looked_whole c.requires.well_formed c.edges.invariant at_end

pub returns-clause-kept : goal.returns-clause-kept
returns-clause-kept g c =
    omega (
      arith,
      c.edges.invariant.sized,
      length-map c.edges.flags g.Ix.IndexType.number,
      length-map c.args.flags.now g.Ix.IndexType.number,
    )
