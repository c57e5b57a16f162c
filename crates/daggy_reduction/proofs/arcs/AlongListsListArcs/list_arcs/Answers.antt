use Rattle.std.proofs.Common.{◌≡◌, ◌<◌, length, get_or, take, refl, sym, ◌∙◌, arith}
use Rattle.std.proofs.lemmas.List.{length-take-le, get_or-take}
use Rattle.daggy_reduction.proofs.ListedArcs.{side_start, side_room, side_on, side_whole, side_counted}
use Rattle.daggy_reduction.proofs.arcs.AlongListsListArcs.list_arcs.Given.{Over}
use Rattle.daggy_reduction.proofs.arcs.AlongListsListArcs.list_arcs.Goals.{After-node-in-nodes}
use Rattle.daggy_reduction.proofs.arcs.AlongListsListArcs.list_arcs.Goals as goal

-- the node is that of its place
node_is : (g : Over) (c : After-node-in-nodes g)
    → g.Ix.IndexType.number c.node-in-nodes.result ≡ get_or (take c.args.count c.args.work.now.nodes) c.nodes.k 0
node_is g c =
    c.node-in-nodes.ensures.value ∙ c.node.ensures 0
    ∙ sym (get_or-take c.args.count c.args.work.now.nodes c.nodes.k 0 c.nodes-test.true)

more : (g : Over) (c : After-node-in-nodes g) → c.nodes.k < length (take c.args.count c.args.work.now.nodes)
more g c =
    omega (arith, c.nodes-test.true, length-take-le c.args.count c.args.work.now.nodes c.requires.within)

pub nodes-init : goal.nodes-init
nodes-init g c =
    side_start g.Ix.IndexType.number _ c.args.arcs.now c.args.segments.now refl refl

pub list_row-end-requires-clause-room : goal.list_row-end-requires-clause-room
list_row-end-requires-clause-room g c =
    let b = (goal.at.list_row-end-requires-clause-room g c).After-node-in-nodes in
    side_room c.requires.well_formed c.requires.placed c.requires.arcs_fit c.nodes.invariant (more g b)
    (g.Ix.IndexType.number c.node-in-nodes.result) (node_is g b)

pub nodes-preserved : goal.nodes-preserved
nodes-preserved g c =
    let b = (goal.at.nodes-preserved g c).After-node-in-nodes in
    let row = c.list_row-end.ensures in
    side_on c.requires.well_formed c.requires.placed c.requires.arcs_fit c.nodes.invariant (more g b)
    (g.Ix.IndexType.number c.node-in-nodes.result) (node_is g b) row.same row.counted row.listed row.before row.end
    row.arcs_kept refl (omega (arith, c.nodes-test.true, c.requires.segments_fit, c.nodes.invariant.segments_kept))

pub returns-clause-listed : goal.returns-clause-listed
returns-clause-listed g c =
    side_whole c.requires.well_formed c.requires.placed c.requires.arcs_fit c.nodes.invariant
    (omega (
      arith,
      c.nodes-test.false,
      c.nodes.auto.k-end,
      length-take-le c.args.count c.args.work.now.nodes c.requires.within,
    ))

pub returns-clause-counted : goal.returns-clause-counted
returns-clause-counted g c =
    omega (
      arith,
      side_counted c.requires.well_formed c.requires.placed c.requires.arcs_fit c.nodes.invariant
          (omega (arith, c.nodes.auto.k-end, length-take-le c.args.count c.args.work.now.nodes c.requires.within)),
    )
