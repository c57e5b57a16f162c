use Rattle.std.proofs.Common.{rules, arith, subst, sym}
use Rattle.daggy_base.proofs.Lists.{unique_from_distinct}
use Rattle.daggy_search.specs.Work.{IsSized}
use Rattle.daggy_reduction.proofs.PlacedNodes.{next_listed, next_few, list_whole, list_few}
use Rattle.daggy_reduction.proofs.PlacedNodes.{listed_or_passed, list_elsewhere}
use Rattle.daggy_reduction.proofs.placed.list_entered.Goals as goal

pub list_if_entered-len-requires-clause-low : goal.list_if_entered-len-requires-clause-low
list_if_entered-len-requires-clause-low g c =
    let n = g.Ix.IndexType.number c.in-Some.n in
    omega (
      arith,
      c.requires.low n (next_listed c.nodes.invariant.listing n c.next.new.self c.in-Some.ensures.steps),
      c.nodes.invariant.sized.size_is,
    )

pub list_if_entered-len-requires-clause-room : goal.list_if_entered-len-requires-clause-room
list_if_entered-len-requires-clause-room g c =
    omega (
      arith,
      next_few c.nodes.invariant.listing (g.Ix.IndexType.number c.in-Some.n) c.next.new.self c.in-Some.ensures.steps,
      c.requires.fits,
      c.nodes.invariant.sized.size_is,
    )

pub list_if_entered-len-requires-clause-real : goal.list_if_entered-len-requires-clause-real
list_if_entered-len-requires-clause-real g c =
    omega (
      arith,
      next_few c.nodes.invariant.listing (g.Ix.IndexType.number c.in-Some.n) c.next.new.self c.in-Some.ensures.steps,
      c.requires.real,
    )

pub list_if_entered-len-requires-clause-sized : goal.list_if_entered-len-requires-clause-sized
list_if_entered-len-requires-clause-sized g c =
    subst (λ z. IsSized z c.nodes.work) (sym c.nodes.invariant.sized.size_is) c.nodes.invariant.sized

pub nodes-preserved : goal.nodes-preserved
nodes-preserved g c =
    let n = g.Ix.IndexType.number c.in-Some.n in
    let s = c.nodes.invariant in
    let on =
    listed_or_passed s.sized s.entered (unique_from_distinct c.args.order.now c.requires.distinct)
    (c.requires.low n (next_listed s.listing n c.next.new.self c.in-Some.ensures.steps)) c.requires.fits s.listing
    c.next.new.self c.in-Some.ensures.steps c.list_if_entered-len.ensures.passed c.list_if_entered-len.ensures.put in
    record { can = search rules; ends = search rules; sized = on.0; entered = on.1; listing = on.2 }

pub returns-clause-listed : goal.returns-clause-listed
returns-clause-listed g c = list_whole c.nodes.invariant.listing c.in-None.ensures.steps.0

pub returns-clause-placed : goal.returns-clause-placed
returns-clause-placed g c = c.nodes.invariant.listing.placed

pub returns-clause-elsewhere : goal.returns-clause-elsewhere
returns-clause-elsewhere g c =
    list_elsewhere c.nodes.invariant.listing c.in-None.ensures.steps.0
    (omega (arith, list_few c.nodes.invariant.listing, c.requires.real))

pub returns-clause-within : goal.returns-clause-within
returns-clause-within g c = omega (arith, list_few c.nodes.invariant.listing)
