use Rattle.std.proofs.Common.{◌≡◌, ◌<◌, None, map, length, refl, sym, ◌∙◌, arith}
use Rattle.std.proofs.lemmas.List.{length-map}
use Rattle.daggy_base.specs.Graph.{Edge as PlainEdge}
use Rattle.daggy_graph.specs.Stored.{stored_graph}
use Rattle.daggy_cells.specs.Fields.{plain_edge}
use Rattle.daggy_base.specs.Filtering.{new_ends}
use Rattle.daggy_graph.proofs.StoredLemmas.{stored_is, Stores-itself}
use Rattle.daggy_cells.proofs.MappingLemmas.{CalledAt-from_step}
use Rattle.daggy_graph.proofs.FilterLemmas.{EdgesBelow-passed, EdgesBelow-called, EdgesBelow-done, both_are}
use Rattle.daggy_graph.proofs.FilterLemmas.{named_within, Holds-read}
use Rattle.daggy_base.proofs.CallsInTurn.{may_call_some, called_some_on, passed_on}
use Rattle.daggy_base.specs.Mapping.{weight_in}
use Rattle.daggy_graph.proofs.graph.filter.filter_edges.Goals as goal

pub each-preserved-in-None : goal.each-preserved-in-None
each-preserved-in-None g c =
    let edges = c.args.edges.now in
    let x = c.index-edges-i.result in
    let p : PlainEdge g.row.E.Denot = record { parent = x.parent; child = x.child; weight = x.weight } in
    let within : c.each.i < length edges = omega arith in
    let held = Holds-read plain_edge edges p within c.index-edges-i.is refl in
    let lost : new_ends c.args.names.now.items p ≡ None = sym c.in-None.ensures in (
      passed_on g.Ix.IndexType.of (goal.G-pre g) (goal.G-step g) weight_in plain_edge c.args.edges.now within
          c.index-edges-i.is
          c.each.invariant.0,
      c.each.invariant.1,
      omega (arith, c.each.invariant.2),
      c.each.invariant.3,
      c.each.invariant.4,
      EdgesBelow-passed (goal.G-step g) g.Ix.IndexType.of c.args.names.now.items c.args.g (map plain_edge edges) _
          c.each.g _ held lost c.each.invariant.5,
    )

pub g-answer-requires : goal.g-answer-requires
g-answer-requires g c =
    rw c.new.ensures.value (may_call_some g.Ix.IndexType.of (goal.G-pre g) (goal.G-step g) weight_in plain_edge
    c.args.edges.now (omega arith)
    c.index-edges-i.is refl c.each.invariant.0 _ refl)

pub keep_edge-requires-clause-parent : goal.keep_edge-requires-clause-parent
keep_edge-requires-clause-parent g c =
    let are = both_are _ _ c.in-Some.ends.0 c.in-Some.ends.1 c.in-Some.ensures in
    let there = named_within _ c.args.names.now.items _ _ c.requires.below are.0 in
    omega (arith, there, c.each.invariant.3)

pub keep_edge-requires-clause-child : goal.keep_edge-requires-clause-child
keep_edge-requires-clause-child g c =
    let are = both_are _ _ c.in-Some.ends.0 c.in-Some.ends.1 c.in-Some.ensures in
    let there = named_within _ c.args.names.now.items _ _ c.requires.below are.1 in
    omega (arith, there, c.each.invariant.3)

pub each-preserved : goal.each-preserved
each-preserved g c =
    let edges = c.args.edges.now in
    let x = c.index-edges-i.result in
    let p : PlainEdge g.row.E.Denot = record { parent = x.parent; child = x.child; weight = x.weight } in
    let h = stored_graph c.each.nodes.items c.each.new.items in
    let start = stored_graph c.args.nodes.now.items c.args.new.now.items in
    let within : c.each.i < length edges = omega arith in
    let held = Holds-read plain_edge edges p within c.index-edges-i.is refl in
    let called =
    CalledAt-from_step (goal.G-step g) g.Ix.IndexType.of c.each.g c.each.i _ c.g-answer.result c.g-answer.new.self
    (rw c.new.ensures.value at c.g-answer.ensures) in
    let next =
    EdgesBelow-called (goal.G-step g) g.Ix.IndexType.of c.args.names.now.items c.args.g (map plain_edge edges) start
    h held (sym c.in-Some.ensures) called c.each.invariant.5 in
    let shown = stored_is _ _ _ _ c.keep_edge.ensures.stored in (
      called_some_on g.Ix.IndexType.of (goal.G-pre g) (goal.G-step g) weight_in plain_edge c.args.edges.now within
          c.index-edges-i.is refl
          called c.each.invariant.0,
      omega (arith, c.keep_edge.ensures.capacity, c.each.invariant.1),
      omega (arith, c.keep_edge.ensures.len, c.each.invariant.2),
      c.keep_edge.ensures.nodes ∙ c.each.invariant.3,
      Stores-itself _ _ _ _ c.keep_edge.ensures.stored,
      rw shown next,
    )

pub returns-clause-filtered : goal.returns-clause-filtered
returns-clause-filtered g c =
    EdgesBelow-done (goal.G-step g) g.Ix.IndexType.of c.args.names.now.items _ _ _ _ _ c.each.i
    (omega (arith, length-map c.args.edges.now plain_edge)) c.each.invariant.5
