use Rattle.std.proofs.Common.{[], ◌∷◌, ◌++◌, Some, map, length, sym, ap, ◌∙◌, arith}
use Rattle.std.proofs.lemmas.List.{length-map}
use Rattle.std.specs.Option.{option_map}
use Rattle.daggy_base.specs.Graph.{slot}
use Rattle.daggy_base.specs.FromSlots.{edge_of}
use Rattle.daggy_base.proofs.SlotLists.{slot_between}
use Rattle.daggy_stable.specs.Stored.{plain_edge}
use Rattle.daggy_stable.specs.Building.{between}
use Rattle.daggy_base.proofs.ItemsInTurn.{one_left, one_more}
use Rattle.daggy_stable.proofs.stable_graph.from_slots.make_edges.Goals as goal

pub leave_edge-requires-clause-index_left : goal.leave_edge-requires-clause-index_left
leave_edge-requires-clause-index_left g c =
    let is = rw c.in-Some.ensures.steps.0 at c.each.invariant.5 in
    omega (arith, one_left _ _ _ _ is, length-map c.each.edges.cells.items plain_edge, c.requires.makes_graph.few_edges)

pub leave_edge-requires-clause-capacity : goal.leave_edge-requires-clause-capacity
leave_edge-requires-clause-capacity g c =
    let read = option_map (edge_of {E = g.row.E.Denot} g.Ix.IndexType.number) in
    let is = rw c.in-Some.ensures.steps.0 at c.each.invariant.5 in
    omega (
      arith,
      one_left _ _ _ _ is,
      length-map c.each.edges.cells.items plain_edge,
      length-map c.args.given.items read,
      c.each.invariant.2,
    )

pub each-preserved-in-None-x : goal.each-preserved-in-None-x
each-preserved-in-None-x g c =
    let is = rw c.in-None-x.is at (rw c.in-Some.ensures.steps.0 at c.each.invariant.5) in (
      tt,
      tt,
      omega (arith, c.leave_edge.ensures.capacity, c.each.invariant.2),
      c.leave_edge.ensures.stored,
      c.each.invariant.4,
      one_more _ _ _ _ is _ c.leave_edge.ensures.edges,
    )

pub keep_edge-requires-clause-parent : goal.keep_edge-requires-clause-parent
keep_edge-requires-clause-parent g c =
    let is = rw c.in-Some-x.is at (rw c.in-Some.ensures.steps.0 at c.each.invariant.5) in
    let made = map plain_edge c.each.edges.cells.items in
    let here = ap (λ l. slot l (length made)) (sym is) ∙ slot_between made _ _ in
    rw c.of_node-parent.ensures (rw c.each.invariant.4 (c.requires.makes_graph.parents _ _ here))

pub keep_edge-requires-clause-child : goal.keep_edge-requires-clause-child
keep_edge-requires-clause-child g c =
    let is = rw c.in-Some-x.is at (rw c.in-Some.ensures.steps.0 at c.each.invariant.5) in
    let made = map plain_edge c.each.edges.cells.items in
    let here = ap (λ l. slot l (length made)) (sym is) ∙ slot_between made _ _ in
    rw c.of_node-child.ensures (rw c.each.invariant.4 (c.requires.makes_graph.children _ _ here))

pub keep_edge-requires-clause-index_left : goal.keep_edge-requires-clause-index_left
keep_edge-requires-clause-index_left g c =
    let is = rw c.in-Some.ensures.steps.0 at c.each.invariant.5 in
    omega (arith, one_left _ _ _ _ is, length-map c.each.edges.cells.items plain_edge, c.requires.makes_graph.few_edges)

pub keep_edge-requires-clause-capacity : goal.keep_edge-requires-clause-capacity
keep_edge-requires-clause-capacity g c =
    let read = option_map (edge_of {E = g.row.E.Denot} g.Ix.IndexType.number) in
    let is = rw c.in-Some.ensures.steps.0 at c.each.invariant.5 in
    omega (
      arith,
      one_left _ _ _ _ is,
      length-map c.each.edges.cells.items plain_edge,
      length-map c.args.given.items read,
      c.each.invariant.2,
    )

pub each-preserved : goal.each-preserved
each-preserved g c =
    let w = c.in-Some-x.edge.2 in
    let made = map plain_edge c.each.edges.cells.items in
    let is = rw c.in-Some-x.is at (rw c.in-Some.ensures.steps.0 at c.each.invariant.5) in
    let pushed =
    ap (λ a. made ++ Some (between a c.of_node-child.result w) ∷ []) c.of_node-parent.ensures
    ∙ ap (λ b. made ++ Some (between (g.Ix.IndexType.number c.in-Some-x.edge.0) b w) ∷ []) c.of_node-child.ensures in (
      tt,
      tt,
      omega (arith, c.keep_edge.ensures.capacity, c.each.invariant.2),
      c.keep_edge.ensures.stored,
      c.keep_edge.ensures.nodes ∙ c.each.invariant.4,
      one_more _ _ _ _ is _ (c.keep_edge.ensures.edges ∙ pushed),
    )
