use Rattle.std.proofs.Common.{◌≢◌, ◌∙◌, arith}
use Rattle.daggy_reduction.proofs.Closing.{joining_start, joining_edge, joining_less, joining_counted, joining_whole}
use Rattle.daggy_reduction.proofs.Closing.{joining_child, joining_on}
use Rattle.daggy_reduction.proofs.transitive_closure.join_reached.Goals as goal

pub edges-init : goal.edges-init
edges-init g c = joining_start _ c.first-e.ensures

pub look-child-requires : goal.look-child-requires
look-child-requires g c = joining_edge c.requires.well_formed c.edges.invariant (λ h. c.edges-test.true cc)

pub join-requires-clause-source : goal.join-requires-clause-source
join-requires-clause-source g c = omega (arith, c.requires.node, c.edges.invariant.bound)

pub join-requires-clause-target : goal.join-requires-clause-target
join-requires-clause-target g c =
    joining_child c.requires.well_formed c.edges.invariant (λ h. c.edges-test.true cc) c.look-child.ensures.gives
    c.requires.bound

pub join_row-requires-clause-source : goal.join_row-requires-clause-source
join_row-requires-clause-source g c =
    omega (arith, c.requires.node, c.edges.invariant.bound, c.join.ensures.bound)

pub join_row-requires-clause-target : goal.join_row-requires-clause-target
join_row-requires-clause-target g c =
    omega (
      arith,
      joining_child c.requires.well_formed c.edges.invariant (λ h. c.edges-test.true cc)
          c.look-child.ensures.gives c.requires.bound,
      c.join.ensures.bound,
    )

pub edges-smaller : goal.edges-smaller
edges-smaller g c =
    let s = c.edges.invariant in
    omega (
      arith,
      joining_less c.requires.well_formed s (λ h. c.edges-test.true cc),
      s.counted,
      c.look-child.ensures.counted,
    )

pub edges-preserved : goal.edges-preserved
edges-preserved g c =
    let here : g.Ix.IndexType.number c.edges.e ≢ g.Ix.IndexType.greatest = λ h. c.edges-test.true cc in
    joining_on c.requires.well_formed c.edges.invariant here c.look-child.ensures.gives c.requires.apart
    c.look-child.ensures.same c.look-child.ensures.counted c.join.new.self c.join_row.new.self c.join.ensures.joined
    c.join_row.ensures.joined (c.join_row.ensures.bound ∙ c.join.ensures.bound)

pub returns-clause-joined : goal.returns-clause-joined
returns-clause-joined g c = joining_whole c.requires.well_formed c.edges.invariant (cc)

pub returns-clause-counted : goal.returns-clause-counted
returns-clause-counted g c = joining_counted c.requires.well_formed c.edges.invariant (cc)
